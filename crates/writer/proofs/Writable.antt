-- When the writer finds no fault in a system: its tests one by one, and that a system within the limits, so every one that was read, passes them all and is its own cleared one.
-- With 0 and nothing given past k the writer judges what `keeps_card` judges.
use Prim.Native.Nat.{ℕ, ◌≤◌}
use mathlib.Core.Path.{◌≡◌, refl, ap, ◌∙◌}
use mathlib.Core.List.{List}
use mathlib.Core.Bool.{Bool, true, false, cond}
use native.Mathlib.Omega.{arith}
use borrow.Author.Tests.{ltb-false, le-ltb, le-leb, eqb-true, eqb-false, ne_eqb}
use lib.ListN.{get_or}
use lib.Dec.{ltb, eqb}
use Rattle.system.specs.declared.TaskType.{TaskType}
use Rattle.system.specs.declared.System.{System}
use Rattle.system.specs.Values.{no_task, cleared}
use Rattle.system.specs.Limits.{engine_limit, type_limit, column_limit, platform_fault, second_fault, type_fault, most_fault, paces_fault, costs_fault, kinds_fault, columns_fault, columns, keeps_card, keeps_limits}
use Rattle.system.specs.Layout.{read_card, opened}
use Rattle.system.proofs.Laws.{CardLimits, Sized, card-of, limits_of, limits-card, read-card-limits, sizes-keep, sized-test, each-paces}
use Rattle.writer.specs.Writing.{count_fault, task_fault, types_fault, mosts_fault, engines_fault, types_limits, system_fault}
use Rattle.writer.proofs.Cleared.{cleared-same}
use Rattle.writer.proofs.Faults.{or-none, none_or, engines-none, none-engines, types-first, replica_fault, mosts-first, first-each, first-none}

-- intermediate: the tests one by one

-- k

count_kept : (k : ℕ) → count_fault k ≡ 0 → (1 ≤ k) × (k ≤ type_limit)
count_kept k e = most (ltb type_limit k) refl e
  where
    some-type : (b : Bool) → eqb k 0 ≡ b → ◌≡◌ {A = ℕ} (cond b 9 0) 0 → k ≤ type_limit → (1 ≤ k) × (k ≤ type_limit)
    some-type true q e h = absurd (omega arith)
    some-type false q e h = (omega (arith, eqb-false k 0 q), h)

    most : (b : Bool) → ltb type_limit k ≡ b → ◌≡◌ {A = ℕ} (cond b 7 (cond (eqb k 0) 9 0)) 0 → (1 ≤ k) × (k ≤ type_limit)
    most true q e = absurd (omega arith)
    most false q e = some-type (eqb k 0) refl e (ltb-false type_limit k q)

count-keeps : (k : ℕ) → 1 ≤ k → k ≤ type_limit → count_fault k ≡ 0
count-keeps k low high = rw (le-ltb type_limit k high, ne_eqb k 0 (λ e. omega arith))

-- u, s and d of some types, and u and s on the second kind; and their q

pub types-each : (ts : List TaskType) → types_fault ts ≡ 0 → (i : ℕ) → (type_fault (get_or ts i no_task) ≡ 0) × (costs_fault (get_or ts i no_task).there ≡ 0)
types-each ts e i = or-none (type_fault (get_or ts i no_task)) (costs_fault (get_or ts i no_task).there) (first-each task_fault refl ts (rw (types-first ts) at e) i)

pub mosts-each : (ts : List TaskType) → mosts_fault ts ≡ 0 → (i : ℕ) → most_fault (get_or ts i no_task).most ≡ 0
mosts-each ts e = first-each replica_fault refl ts (rw (mosts-first ts) at e)

types-sized : (ts : List TaskType) → ((i : ℕ) → Sized (get_or ts i no_task)) → ((i : ℕ) → costs_fault (get_or ts i no_task).there ≡ 0) → types_fault ts ≡ 0
types-sized ts h costs =
    types-first ts
    ∙ first-none task_fault ts
    (λ i. none_or (type_fault (get_or ts i no_task)) (costs_fault (get_or ts i no_task).there) (eqb-true (type_fault (get_or ts i no_task)) 0 (sized-test (get_or ts i no_task) (h i))) (costs i))

mosts-sound : (ts : List TaskType) → ((i : ℕ) → most_fault (get_or ts i no_task).most ≡ 0) → mosts_fault ts ≡ 0
mosts-sound ts h = mosts-first ts ∙ first-none replica_fault ts h

-- main: no fault is found where every test passes

pub record Faultless (y : System) : Type 0 where
  pub count : (1 ≤ y.typecount) × (y.typecount ≤ type_limit)
  pub kinds : kinds_fault y ≡ 0
  pub platform : platform_fault y.engines y.rule y.timecap y.memorycap ≡ 0
  pub second : second_fault y.engines y.second ≡ 0
  pub types : types_fault (cleared y).types ≡ 0
  pub replicas : mosts_fault (cleared y).types ≡ 0
  pub paces : paces_fault y.timecap type_limit (cleared y).types ≡ 0
  pub columns : columns_fault (cleared y).types ≡ 0

pub faultless-of : (y : System) → system_fault y ≡ 0 → Faultless y
unfolding system_fault
faultless-of y e =
    let a = or-none (count_fault y.typecount) _ e in
    let k = or-none (kinds_fault y) _ a.1 in
    let platform = platform_fault y.engines y.rule y.timecap y.memorycap in
    let b = or-none (engines_fault platform (second_fault y.engines y.second)) (types_limits y.timecap (cleared y).types) k.1 in
    let both = engines-none platform (second_fault y.engines y.second) b.0 in
    let c = or-none (types_fault (cleared y).types) _ b.1 in
    let d = or-none (mosts_fault (cleared y).types) _ c.1 in
    let r = or-none (paces_fault y.timecap type_limit (cleared y).types) (columns_fault (cleared y).types) d.1 in
    record { count = count_kept y.typecount a.0; kinds = k.0; platform = both.0; second = both.1; types = c.0; replicas = d.0; paces = r.0; columns = r.1 }

pub faultless-none : (y : System) → Faultless y → system_fault y ≡ 0
unfolding system_fault
faultless-none y f =
    none_or (count_fault y.typecount) _ (count-keeps y.typecount f.count.0 f.count.1)
    (none_or (kinds_fault y) _ f.kinds
    (none_or (engines_fault (platform_fault y.engines y.rule y.timecap y.memorycap) (second_fault y.engines y.second)) _ (none-engines _ _ f.platform f.second)
    (none_or (types_fault (cleared y).types) _ f.types
    (none_or (mosts_fault (cleared y).types) _ f.replicas
    (none_or (paces_fault y.timecap type_limit (cleared y).types) (columns_fault (cleared y).types) f.paces f.columns)))))

-- main: a card within the limits

pub limits-writable : (y : System) → CardLimits y → (system_fault y ≡ 0) × (cleared y ≡ y)
limits-writable y l =
    let same : cleared y ≡ y = cleared-same y l.six l.typecount l.past in
    let all : types_fault (cleared y).types ≡ 0 = ap (λ (z : System). types_fault z.types) same ∙ types-sized y.types l.sized l.costs in
    let apart : mosts_fault (cleared y).types ≡ 0 = ap (λ (z : System). mosts_fault z.types) same ∙ mosts-sound y.types l.replicas in
    let run : paces_fault y.timecap type_limit (cleared y).types ≡ 0 =
    ap (λ (z : System). paces_fault y.timecap type_limit z.types) same ∙ each-paces y.timecap type_limit y.types (λ i h. l.paces i) in
    let few : columns_fault y.types ≡ 0 = rw (le-leb (columns y) column_limit l.columns) in
    let platform : platform_fault y.engines y.rule y.timecap y.memorycap ≡ 0 =
    rw (
      le-leb 1 y.engines l.some-engine,
      le-leb y.engines engine_limit l.engines,
      le-leb y.rule 1 l.rule,
    )
    (sizes-keep y.timecap y.memorycap l.time l.memory) in (
      faultless-none y
          (record {
            count = (l.some-type, l.typecount);
            kinds = rw l.kinds;
            platform = platform;
            second = l.second;
            types = all;
            replicas = apart;
            paces = run;
            columns = ap (λ (z : System). columns_fault z.types) same ∙ few;
          }),
      same,
    )

pub kept-writable : (y : System) → keeps_limits y ≡ true → (system_fault y ≡ 0) × (cleared y ≡ y)
kept-writable y k = limits-writable y (limits-card y (limits_of y k))

pub card-writable : (y : System) → keeps_card y ≡ true → (system_fault y ≡ 0) × (cleared y ≡ y)
card-writable y k = limits-writable y (card-of y k)

pub read-writable : (file : List ℕ) (y : System) → read_card file ≡ opened y → (system_fault y ≡ 0) × (cleared y ≡ y)
read-writable file y e = limits-writable y (read-card-limits file y e)

-- The plain words of the demands mean what the theory proves: the columns, the limits, partitions as good assignments, the used engines, and the records on the fewest of them.
use Rattle.std.proofs.Common.{Some, None, Option}
use Prim.Native.Nat.{ℕ, zero, suc, ◌+◌, ◌-◌, ◌*◌, ◌≤◌, ◌<◌}
use mathlib.Core.Path.{◌≡◌, refl, sym, ap, subst, ◌∙◌}
use mathlib.Core.List.{List, [], ◌∷◌, ◌++◌, map}
use mathlib.Core.Bool.{Bool, true, false, cond, not, ◌&&◌, ◌||◌}
use mathlib.Core.Logic.{◌↔◌}
use native.Mathlib.Nat.{mul-one, suc-add, suc_inj}
use native.Mathlib.Omega.{arith}
use borrow.Author.Tests.{ltb-true, ltb-false}
use lib.ListN.{length, get_or, length-map, get_or-map}
use lib.Dec.{eqb, ltb}
use Rattle.system.specs.declared.Cycle.{Cycle}
use Rattle.system.specs.declared.Costs.{Costs}
use Rattle.system.specs.declared.Kind.{Kind}
use Rattle.system.specs.declared.TaskType.{TaskType}
use Rattle.system.specs.declared.System.{System}
use Rattle.system.specs.Values.{no_task, ceilings_of}
use Rattle.system.specs.Limits.{type_limit, most_fault, pace_fault, costs_fault, given, is_one_kind, kinds_agree, columns_of, columns, keeps_card, keeps_limits}
use Rattle.system.proofs.Laws.{KindLimits, CardLimits, Limits, Sized, CycleLimits, some-replica, replicas-keep, cycle-limits, cycle-keep, costs-sized, costs-keep, second-limits, second-keep, given-takes}
use Rattle.system.proofs.Laws.{kinds-absent, kinds-given, absent-kinds, given-kinds, card-of, card-keep, card-limits, limits-card, limits_of, limits-keep}
use Rattle.loads.specs.declared.EngineLoad.{EngineLoad}
use Rattle.loads.specs.Load.{fits_engine, holds_none, engine_with, idle_engine, memory_of}
use Rattle.loads.proofs.Order.{cons-path}
use Rattle.partition.specs.Assignment.{Assignment, count_on, load_on, assigned, among, every, any_of, used_of, numbers_from, engines_to}
use Rattle.partition.specs.Shares.{distinct}
use Rattle.partition.specs.ForSystem.{good_on, FeasibleOn, Placed, OnFewest}
use Rattle.partition.specs.Plain.{type_no, ceiling_no, columns_out, PaceWithin, LimitsOut, CardOut, Partition, Impossible, hosts, used_to, RecordIs, record_no, Stands, StandsOnFewest}
use Rattle.partition.proofs.Lists.{among-counted, distinct-engines_to, engines_to-last, get_or-inside}
use Rattle.partition.proofs.Shares.{good-parts}
use Rattle.partition.proofs.Engines.{used_of-wider}
use Rattle.partition.proofs.OwnWords.{counted-on, time_on-time_of, memory_on-memory_of, shared_memory_on-memory_of, good-is-definition1}

-- main: the columns

six-columns : (ts : List TaskType) → length ts ≡ 6
    → ((get_or ts 0 no_task).ceiling + 1) * (((get_or ts 1 no_task).ceiling + 1) * (((get_or ts 2 no_task).ceiling + 1) * (((get_or ts 3 no_task).ceiling + 1) * (((get_or ts 4 no_task).ceiling + 1) * ((get_or ts 5 no_task).ceiling + 1)))))
    ≡ columns_of (map (λ (t : TaskType). t.ceiling) ts)
unfolding columns_of
six-columns [] l = absurd (omega arith)
six-columns (a ∷ []) l = absurd (omega arith)
six-columns (a ∷ b ∷ []) l = absurd (omega arith)
six-columns (a ∷ b ∷ c ∷ []) l = absurd (omega arith)
six-columns (a ∷ b ∷ c ∷ d ∷ []) l = absurd (omega arith)
six-columns (a ∷ b ∷ c ∷ d ∷ e ∷ []) l = absurd (omega arith)
six-columns (a ∷ b ∷ c ∷ d ∷ e ∷ f ∷ []) l = rw (mul-one (f.ceiling + 1))
six-columns (a ∷ b ∷ c ∷ d ∷ e ∷ f ∷ g ∷ ts) l = absurd (omega arith)

pub columns-out : (y : System) → length y.types ≡ type_limit → columns_out y ≡ columns y
columns-out y l = six-columns y.types l

-- main: the limits, number by number

pub ceiling-out : (y : System) (t : ℕ) → get_or (ceilings_of y) (t - 1) 0 ≡ ceiling_no y t
ceiling-out y t = get_or-map (λ (task : TaskType). task.ceiling) y.types (t - 1) no_task

-- C and T: that C is at most 65,535 and T at least 1 follows from C at most T
module _ (whole u : ℕ) (c : Cycle) where
  pace-told : CycleLimits whole u c → PaceWithin whole u c
  pace-told l =
      let some = l.some-run in
      let runs = l.runs in
      let period = l.period in
      record { run = (some, omega arith); period = (omega arith, period); runs = runs; some = l.some-time; share = l.share }

  pace-back : PaceWithin whole u c → CycleLimits whole u c
  pace-back l = record { some-run = l.run.0; runs = l.runs; period = l.period.1; some-time = l.some; share = l.share }

module _ (y : System) where
  card-told : CardLimits y → CardOut y
  card-told l = record {
    engines = (l.some-engine, l.engines);
    rule = l.rule;
    capacities = (l.time, l.memory);
    known = (l.some-type, l.typecount);
    six = l.six;
    costs = λ t low high. ((l.sized (t - 1)).time, (l.sized (t - 1)).memory, (l.sized (t - 1)).data);
    replicas = λ t q low high given. some-replica (type_no y t).most q (l.replicas (t - 1)) given;
    paces = λ t c low high is. pace-told y.timecap (type_no y t).time c (cycle-limits y.timecap (type_no y t).time (type_no y t).pace c (l.paces (t - 1)) is);
    past = λ t h. l.past (t - 1) (omega arith);
    columns = rw (columns-out y l.six) l.columns;
    second = λ k is. let w = within k is in (w.some-engine, w.engines);
    second_sizes = record {
      capacities = λ k is. let w = within k is in (w.time, w.memory);
      costs = λ t c low high is. costs-sized (type_no y t).there c (l.costs (t - 1)) is;
    };
    kinds = record {
      none = λ is t low high. kinds-absent y.typecount y.types (agree None is) (t - 1) (omega arith);
      all = λ k is t low high.
          given-takes (type_no y t).there
          (kinds-given y.typecount y.types (agree (Some k) is) (t - 1) (omega arith) (omega (arith, l.six, l.typecount)));
    };
  }
    where
      within : (k : Kind) → y.second ≡ Some k → KindLimits y.engines k
      within k is = second-limits y.engines y.second k l.second is

      agree : (s : Option Kind) → y.second ≡ s → kinds_agree (is_one_kind s) y.typecount y.types ≡ true
      agree s is = ap (λ (x : Option Kind). kinds_agree (is_one_kind x) y.typecount y.types) (sym is) ∙ l.kinds

  card-back : CardOut y → CardLimits y
  card-back l = record {
    some-engine = l.engines.0;
    engines = l.engines.1;
    rule = l.rule;
    time = l.capacities.0;
    memory = l.capacities.1;
    some-type = l.known.0;
    typecount = l.known.1;
    six = l.six;
    columns = rw (columns-out y l.six) at l.columns;
    past = none;
    sized = each Sized (record { time = omega arith; memory = omega arith; «data» = omega arith }) sizes;
    replicas = each (λ (task : TaskType). most_fault task.most ≡ 0) refl (λ t low high. replicas-keep (type_no y t).most (λ q. l.replicas t q low high));
    paces = each (λ (task : TaskType). pace_fault y.timecap task.time task.pace ≡ 0) refl paced;
    costs = each (λ (task : TaskType). costs_fault task.there ≡ 0) refl (λ t low high. costs-keep (type_no y t).there (λ c. l.second_sizes.costs t c low high));
    second = second-keep y.engines y.second within;
    kinds = agree y.second refl;
  }
    where
      none : (i : ℕ) → y.typecount ≤ i → get_or y.types i no_task ≡ no_task
      none i h =
          let same : suc i - 1 ≡ i = omega arith in
          subst (λ (j : ℕ). get_or y.types j no_task ≡ no_task) same (l.past (suc i) (omega arith))

      -- what holds of types 1 to k, counted from 1, and of nothing, holds of every entry
      first : (P : TaskType → Type 0) → ((t : ℕ) → 1 ≤ t → t ≤ y.typecount → P (type_no y t)) → (i : ℕ) → i < y.typecount → P (get_or y.types i no_task)
      first P types i h =
          let same : suc i - 1 ≡ i = omega arith in
          subst (λ (j : ℕ). P (get_or y.types j no_task)) same (types (suc i) (omega arith) (omega arith))

      each : (P : TaskType → Type 0) → P no_task → ((t : ℕ) → 1 ≤ t → t ≤ y.typecount → P (type_no y t)) → (i : ℕ) → P (get_or y.types i no_task)
      each P nothing types i = go (ltb i y.typecount) refl
        where
          go : (b : Bool) → ltb i y.typecount ≡ b → P (get_or y.types i no_task)
          go true e = first P types i (ltb-true i y.typecount e)
          go false e = subst P (sym (none i (ltb-false i y.typecount e))) nothing

      sizes : (t : ℕ) → 1 ≤ t → t ≤ y.typecount → Sized (type_no y t)
      sizes t low high = let c = l.costs t low high in record { time = c.0; memory = c.1; «data» = c.2 }

      paced : (t : ℕ) → 1 ≤ t → t ≤ y.typecount → pace_fault y.timecap (type_no y t).time (type_no y t).pace ≡ 0
      paced t low high =
          cycle-keep y.timecap (type_no y t).time (type_no y t).pace (λ c is. pace-back y.timecap (type_no y t).time c (l.paces t c low high is))

      within : (k : Kind) → y.second ≡ Some k → KindLimits y.engines k
      within k is =
          let n = l.second k is in
          let c = l.second_sizes.capacities k is in
          record { some-engine = n.0; engines = n.1; time = c.0; memory = c.1 }

      takes-given : (t : ℕ) → (c : Costs) × ((type_no y t).there ≡ Some c) → given (type_no y t).there ≡ true
      takes-given t (c, is) = ap given is

      agree : (s : Option Kind) → y.second ≡ s → kinds_agree (is_one_kind s) y.typecount y.types ≡ true
      agree None is = absent-kinds y.typecount y.types (each (λ (task : TaskType). task.there ≡ None) refl (l.kinds.none is))
      agree (Some k) is =
          given-kinds y.typecount y.types
          (first (λ (task : TaskType). given task.there ≡ true) (λ t low high. takes-given t (l.kinds.all k is t low high)))

  -- the code's test of a card's limits is this
  pub card-out : (keeps_card y ≡ true) ↔ CardOut y
  card-out = ((λ k. card-told (card-of y k)), (λ l. card-keep y (card-back l)))

  limits-told : Limits y → LimitsOut y
  limits-told l =
      let c = card-told (limits-card y l) in
      record {
        engines = c.engines;
        rule = c.rule;
        capacities = c.capacities;
        known = c.known;
        six = c.six;
        costs = c.costs;
        replicas = c.replicas;
        paces = c.paces;
        past = λ t h.
            let none = c.past t h in (
              ap (λ (task : TaskType). task.time) none,
              ap (λ (task : TaskType). task.memory) none,
              ap (λ (task : TaskType). task.ceiling) none,
              ap (λ (task : TaskType). task.data) none,
              ap (λ (task : TaskType). task.most) none,
              ap (λ (task : TaskType). task.pace) none,
            );
        columns = c.columns;
        one_kind = l.one_kind;
        absent = λ t. l.absent (t - 1);
      }

  limits-back : LimitsOut y → Limits y
  limits-back l = card-limits y (card-back whole) l.one_kind
    where
      never : (k : Kind) → y.second ≡ Some k → ⊥
      never k is = let z : ◌≡◌ {A = ℕ} 0 1 = cc l.one_kind in omega arith

      never-takes : (t : ℕ) (c : Costs) → (type_no y t).there ≡ Some c → ⊥
      never-takes t c is = let z : ◌≡◌ {A = ℕ} 0 1 = cc (l.absent t) in omega arith

      whole : CardOut y
      whole = record {
        engines = l.engines;
        rule = l.rule;
        capacities = l.capacities;
        known = l.known;
        six = l.six;
        costs = l.costs;
        replicas = l.replicas;
        paces = l.paces;
        past = λ t h.
            let p = l.past t h in
            let a = l.absent t in
            λ z. record { time = p.0 z; memory = p.1 z; ceiling = p.2 z; «data» = p.3 z; most = p.4 z; pace = p.5 z; there = a z };
        columns = l.columns;
        second = λ k is. absurd (never k is);
        second_sizes = record {
          capacities = λ k is. absurd (never k is);
          costs = λ t c low high is. absurd (never-takes t c is);
        };
        kinds = record { none = λ is t low high. l.absent t; all = λ k is. absurd (never k is) };
      }

  -- and of those of a system of one kind this
  pub limits-out : (keeps_limits y ≡ true) ↔ LimitsOut y
  limits-out = ((λ k. limits-told (limits_of y k)), (λ l. limits-keep y (limits-back l)))

-- intermediate: the used engines

not-and : (a b : Bool) → (not a || not b) ≡ not (a && b)
not-and true b = refl
not-and false b = refl

pub hosts-some : (χ : Assignment) (e : ℕ) → hosts χ e ≡ not (holds_none (load_on e χ))
unfolding any_of holds_none
hosts-some [] e = refl
hosts-some (places ∷ χ) e = rw (among-counted places e, hosts-some χ e) (not-and (eqb (count_on e places) 0) (holds_none (load_on e χ)))

pub used_of-last : (es : List ℕ) (e : ℕ) (χ : Assignment) → used_of (es ++ (e ∷ [])) χ ≡ used_of es χ + cond (holds_none (load_on e χ)) 0 1
unfolding used_of
used_of-last [] e χ = go (holds_none (load_on e χ))
  where
    go : (b : Bool) → cond b 0 1 ≡ 0 + cond b 0 1
    go true = refl
    go false = refl
used_of-last (d ∷ es) e χ = go (holds_none (load_on d χ)) (used_of-last es e χ)
  where
    more : ℕ
    more = cond (holds_none (load_on e χ)) 0 1

    go : (b : Bool) → used_of (es ++ (e ∷ [])) χ ≡ used_of es χ + more → cond b (used_of (es ++ (e ∷ [])) χ) (suc (used_of (es ++ (e ∷ [])) χ)) ≡ cond b (used_of es χ) (suc (used_of es χ)) + more
    go true rest = rest
    go false rest = ap suc rest ∙ sym (suc-add (used_of es χ) more)

pub cond-not : (b : Bool) → ◌≡◌ {A = ℕ} (cond (not b) 1 0) (cond b 0 1)
cond-not true = refl
cond-not false = refl

-- main: the used engines of 1 to m

pub used_to-used_of : (m : ℕ) (χ : Assignment) → used_to m χ ≡ used_of (engines_to m) χ
unfolding used_to
used_to-used_of zero χ = unfold used_of numbers_from in refl
used_to-used_of (suc m) χ =
    rw (used_to-used_of m χ, hosts-some χ (suc m), cond-not (holds_none (load_on (suc m) χ)), engines_to-last m) (sym (used_of-last (engines_to m) (suc m) χ))

-- main: partitions are good assignments, for engines es of 1 to m; `E` says which they are

pub lists-same : (l k : List ℕ) → length l ≡ length k → ((i : ℕ) → get_or l i 0 ≡ get_or k i 0) → l ≡ k
lists-same [] [] l h = refl
lists-same [] (b ∷ k) l h = absurd (omega arith)
lists-same (a ∷ l) [] n h = absurd (omega arith)
lists-same (a ∷ l) (b ∷ k) n h = cons-path (h 0) (lists-same l k (suc_inj n) (λ i. h (suc i)))

module _ (y : System) (rule : y.rule ≤ 1) (es : List ℕ) (apart : distinct es ≡ true) (known : every (among (engines_to y.engines)) es ≡ true)
    (E : ℕ → Type 0) (says : (e : ℕ) → (among es e ≡ true) ↔ E e) (x : List ℕ) (six : length x ≡ type_limit) (count : ℕ → ℕ) (counts : (t : ℕ) → 1 ≤ t → get_or x (t - 1) 0 ≡ count t) where
  pub partition-of : (χ : Assignment) → assigned χ ≡ x → good_on y es χ ≡ true → Partition y E count χ
  partition-of χ a g = record {
    six = sym (length-map χ length) ∙ ap length a ∙ six;
    all = λ t low. sym (get_or-map length χ (t - 1) []) ∙ ap (λ (l : List ℕ). get_or l (t - 1) 0) a ∙ counts t low;
    keeps = (good-is-definition1 y χ es E says rule).0 g;
  }

  pub partition-assigns : (χ : Assignment) → Partition y E count χ → assigned χ ≡ x
  partition-assigns χ p =
      lists-same (assigned χ) x (length-map χ length ∙ p.six ∙ sym six)
      (λ i. subst (λ (j : ℕ). get_or (assigned χ) j 0 ≡ get_or x j 0) (back i) (get_or-map length χ (suc i - 1) [] ∙ p.all (suc i) (omega arith) ∙ sym (counts (suc i) (omega arith))))
    where
      back : (i : ℕ) → suc i - 1 ≡ i
      back i = omega arith

  pub partition-good : (χ : Assignment) → Partition y E count χ → good_on y es χ ≡ true
  partition-good χ p = (good-is-definition1 y χ es E says rule).1 p.keeps

  -- main: no partition exists exactly when the load is not feasible
  pub impossible-out : (FeasibleOn y es x → ⊥) ↔ Impossible y E count
  impossible-out =
      ((λ n χ p. n (record { mapping = χ; assigns = partition-assigns χ p; is_good = partition-good χ p })), (λ n f. n f.mapping (partition-of f.mapping f.assigns f.is_good)))

  pub feasible-out : FeasibleOn y es x ↔ ((χ : Assignment) × Partition y E count χ)
  feasible-out =
      ((λ f. (f.mapping, partition-of f.mapping f.assigns f.is_good)), (λ (χ, p). record { mapping = χ; assigns = partition-assigns χ p; is_good = partition-good χ p }))

  pub used-out : (χ : Assignment) → good_on y es χ ≡ true → used_to y.engines χ ≡ used_of es χ
  used-out χ g =
      used_to-used_of y.engines χ
      ∙ used_of-wider es (engines_to y.engines) χ apart (distinct-engines_to y.engines) known (good-parts (λ (e : ℕ). fits_engine y) es χ g).0

  -- main: the records

  record-out : (χ : Assignment) (e : ℕ) (l : EngineLoad) → l ≡ engine_with y (load_on e χ) → RecordIs y χ e l
  record-out χ e l is = record {
    counts = λ t low. ap (λ (r : EngineLoad). get_or r.counts (t - 1) 0) is ∙ sym (counted-on e χ (t - 1));
    time = ap (λ (r : EngineLoad). r.time) is ∙ sym (time_on-time_of e y.types χ);
    own_copies = λ q. ap (λ (r : EngineLoad). r.memory) is ∙ ap (λ (z : ℕ). memory_of z y.types (load_on e χ)) q ∙ sym (memory_on-memory_of e y.types χ);
    shared_code = λ q. ap (λ (r : EngineLoad). r.memory) is ∙ ap (λ (z : ℕ). memory_of z y.types (load_on e χ)) q ∙ sym (shared_memory_on-memory_of e y.types χ);
  }

  pub stands-out : (loads : List EngineLoad) → Placed y es x loads → Stands y E count loads
  stands-out loads p = record {
    mapping = p.mapping;
    partition = partition-of p.mapping p.assigns p.is_good;
    records = λ e low high. record-out p.mapping e (record_no loads e) (at e low high);
  }
    where
      at : (e : ℕ) → 1 ≤ e → e ≤ length loads → record_no loads e ≡ engine_with y (load_on e p.mapping)
      at e low high =
          let up : (e - 1) + 1 ≡ e = omega arith in
          get_or-inside loads (e - 1) (record { time = 0; memory = 0; counts = [] }) idle_engine (omega arith)
          ∙ p.holds (e - 1) (omega arith)
          ∙ ap (λ (d : ℕ). engine_with y (load_on d p.mapping)) up

  -- main: on the fewest engines
  pub fewest-out : (loads : List EngineLoad) (used : ℕ) → OnFewest y es x loads used → StandsOnFewest y E count loads used
  unfolding stands-out
  fewest-out loads used f = record {
    stands = stands-out loads f.placed;
    uses = used-out f.placed.mapping f.placed.is_good ∙ f.uses;
    fewest = λ χ p. rw (used-out χ (partition-good χ p)) (f.fewest χ (partition-assigns χ p) (partition-good χ p));
  }

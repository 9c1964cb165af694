-- The writer's tests, one by one: each says its number exactly where what it asks, in plain words, does not hold; and what tests say one after another.
-- The platform's fault and the second kind's are taken apart into the number of engines of both kinds, the rule, and the sizes of both.
use Rattle.std.proofs.Common.{Option, None, Some}
use Prim.Native.Nat.{ℕ, zero, suc, ◌+◌, ◌-◌, ◌*◌, ◌≤◌, ◌<◌}
use mathlib.Core.Path.{◌≡◌, refl, sym, ap, subst, ◌∙◌}
use mathlib.Core.List.{List, [], ◌∷◌, ◌++◌, map, map-append}
use mathlib.Core.Bool.{Bool, true, false, not, cond, ◌&&◌, false≢true, or-true}
use mathlib.Core.Logic.{◌↔◌}
use native.Mathlib.Nat.{one-mul, mul-one, mul_assoc}
use native.Mathlib.Omega.{arith}
use borrow.Author.Tests.{ltb-true, ltb-false, leb-true, eqb-true, eqb-false, le-leb, eq-eqb, ne_eqb, not-true, not-false}
use lib.ListN.{length, get_or, take, replicate, length-append, length-take, length-replicate}
use lib.Seq.{take-suc}
use lib.Dec.{leb, ltb, eqb}
use Rattle.system.specs.declared.Cycle.{Cycle}
use Rattle.system.specs.declared.Costs.{Costs}
use Rattle.system.specs.declared.Kind.{Kind}
use Rattle.system.specs.declared.TaskType.{TaskType}
use Rattle.system.specs.declared.System.{System}
use Rattle.system.specs.Values.{no_task, cleared}
use Rattle.system.specs.Limits.{engine_limit, type_limit, size_limit, column_limit, size_fault, kind_counted, second_fault, type_fault, most_fault, cycle_keeps, pace_fault, paces_fault, costs_fault, columns_of, columns_fault, given, is_one_kind, kinds_agree, kinds_fault}
use Rattle.system.proofs.Laws.{and_parts, and_both, sized-task, CycleLimits, cycle-limits, cycle-keep, one-kind, two-kinds, given-takes, kinds-absent, kinds-given, given-kinds}
use Rattle.partition.specs.Assignment.{among}
use Rattle.partition.specs.Plain.{type_no, PaceWithin, PacesWithin, AllOrNone}
use Rattle.writer.specs.File.{file_of}
use Rattle.writer.specs.Writing.{or_else, task_fault, types_fault, mosts_fault, room_fault}
use Rattle.writer.specs.Meaning.{EnginesWithin, SizesWithin, ReplicasWithin, columns_to}
use Rattle.writer.proofs.Faults.{none_or, first_of, types-first, replica_fault, mosts-first, cycle_fault, paces-first}

-- one test: what it asks holds and it finds nothing, or it does not hold and the test says its number
pub data Test (P : Type 0) (n : ℕ) : ℕ → Type 0 where
  passed : P → Test P n 0
  failed : (P → ⊥) → Test P n n

test_of : {P : Type 0} {n : ℕ} (b : Bool) → (b ≡ true → P → ⊥) → (b ≡ false → P) → Test P n (cond b n 0)
test_of true none holds = failed (none refl)
test_of false none holds = passed (holds refl)

asked : {P Q : Type 0} {n f : ℕ} → P ↔ Q → Test P n f → Test Q n f
asked same (passed p) = passed (same.0 p)
asked same (failed none) = failed (λ q. none (same.1 q))

pub finds-nothing : {P : Type 0} {n f : ℕ} → Test P n f → P → f ≡ 0
finds-nothing (passed p) h = refl
finds-nothing (failed none) h = absurd (none h)

pub holds : {P : Type 0} {n f : ℕ} → 0 < n → Test P n f → f ≡ 0 → P
holds some (passed p) e = p
holds some (failed none) e = absurd (omega arith)

pub fails : {P : Type 0} {n f : ℕ} → 0 < n → Test P n f → (f ≡ n) ↔ (P → ⊥)
fails some (passed p) = ((λ e. absurd (omega arith)), (λ none. absurd (none p)))
fails some (failed none) = ((λ e. none), (λ q. refl))

-- one test after another

first_says : (n later : ℕ) → 0 < n → or_else n later ≡ n
first_says n later some = rw (ne_eqb n 0 (λ e. omega arith))

-- two tests that say the same number are one that asks both
both : {P Q : Type 0} {n f g : ℕ} → 0 < n → Test P n f → Test Q n g → Test (P × Q) n (or_else f g)
both some (passed p) (passed q) = passed (p, q)
both some (passed p) (failed none) = failed (λ h. none h.1)
both {P = P} {Q = Q} {n = n} {g = g} some (failed none) later = subst (Test (P × Q) n) (sym (first_says n g some)) (failed (λ h. none h.0))

-- a test and those after it say one of their numbers, or 0
pub says : {P : Type 0} {n f : ℕ} (ns : List ℕ) (later : ℕ) → 0 < n → Test P n f → among ns later ≡ true → among (n ∷ ns) (or_else f later) ≡ true
unfolding among
says {n = n} ns later some (passed p) h = rw h (or-true (eqb n later))
says {n = n} ns later some (failed none) h = rw (first_says n later some, eq-eqb n n refl)

pub says-alone : {P : Type 0} {n f : ℕ} → Test P n f → among (n ∷ 0 ∷ []) f ≡ true
unfolding among
says-alone {n = n} (passed p) = or-true (eqb n 0)
says-alone {n = n} (failed none) = rw (eq-eqb n n refl)

-- so its own number, which none of the later ones says, tells that it failed
pub row : {P : Type 0} {n f : ℕ} (ns : List ℕ) (later : ℕ) → 0 < n → Test P n f → among ns later ≡ true → among ns n ≡ false → (or_else f later ≡ n) ↔ (P → ⊥)
row ns later some (passed p) h other = ((λ e. absurd (false≢true (sym other ∙ ap (among ns) (sym e) ∙ h))), (λ none. absurd (none p)))
row {n = n} ns later some (failed none) h other = ((λ e. none), (λ q. first_says n later some))

pub skips : {P : Type 0} {n f : ℕ} (later : ℕ) → Test P n f → P → or_else f later ≡ later
skips later test h = rw (finds-nothing test h)

-- what the tests find in a system, a name for each number

abbrev pub many_fault : System → ℕ
many_fault y = cond (ltb type_limit y.typecount) 7 0

abbrev pub none_fault : System → ℕ
none_fault y = cond (eqb y.typecount 0) 9 0

abbrev pub first_fault : System → ℕ
first_fault y = cond (not (leb 1 y.engines && leb y.engines engine_limit)) 5 0

-- the number of a second kind's engines is out of its bounds
abbrev pub kind_over : ℕ → Option Kind → Bool
kind_over m None = false
kind_over m (Some k) = not (kind_counted m k.number)

abbrev pub numbers_fault : System → ℕ
numbers_fault y = or_else (first_fault y) (cond (kind_over y.engines y.second) 5 0)

abbrev pub rule_fault : System → ℕ
rule_fault y = cond (not (leb y.rule 1)) 6 0

-- U and S of a second kind
abbrev pub kind_sizes : Option Kind → ℕ
kind_sizes None = 0
kind_sizes (Some k) = size_fault k.timecap k.memorycap

abbrev pub sizes_fault : System → ℕ
sizes_fault y = or_else (or_else (size_fault y.timecap y.memorycap) (kind_sizes y.second)) (types_fault (cleared y).types)

abbrev pub replicas_fault : System → ℕ
replicas_fault y = mosts_fault (cleared y).types

abbrev pub cycles_fault : System → ℕ
cycles_fault y = paces_fault y.timecap type_limit (cleared y).types

abbrev pub product_fault : System → ℕ
product_fault y = columns_fault (cleared y).types

abbrev pub short_fault : System → ℕ → ℕ
short_fault y room = room_fault (length (file_of y)) room

-- what the test of a second kind finds: 5 by its number, else 8 by its sizes, which is no 5

pub second-apart : (m : ℕ) (s : Option Kind) → second_fault m s ≡ cond (kind_over m s) 5 (kind_sizes s)
second-apart m None = refl
second-apart m (Some k) = refl

pub sizes-no-five : (s : Option Kind) → eqb (kind_sizes s) 5 ≡ false
sizes-no-five None = refl
sizes-no-five (Some k) = at (not (leb k.timecap size_limit && leb k.memorycap size_limit))
  where
    at : (b : Bool) → eqb (cond b 8 0) 5 ≡ false
    at true = refl
    at false = refl

-- 7, 9

pub many-test : (y : System) → Test (y.typecount ≤ 6) 7 (many_fault y)
many-test y = test_of (ltb type_limit y.typecount) (λ q few. omega (arith, ltb-true type_limit y.typecount q)) (λ q. ltb-false type_limit y.typecount q)

pub none-test : (y : System) → Test (1 ≤ y.typecount) 9 (none_fault y)
none-test y = test_of (eqb y.typecount 0) (λ q some. omega (arith, eqb-true y.typecount 0 q)) (λ q. omega (arith, eqb-false y.typecount 0 q))

both-test : {n : ℕ} (a b c d : ℕ) → Test ((a ≤ b) × (c ≤ d)) n (cond (not (leb a b && leb c d)) n 0)
both-test a b c d =
    test_of (not (leb a b && leb c d))
    (λ q h. false≢true (sym (not-true _ q) ∙ and_both (leb a b) (leb c d) (le-leb a b h.0) (le-leb c d h.1)))
    (λ q. let p = and_parts (leb a b) (leb c d) (not-false _ q) in (leb-true a b p.0, leb-true c d p.1))

one-test : {n : ℕ} (a b : ℕ) → Test (a ≤ b) n (cond (not (leb a b)) n 0)
one-test a b = test_of (not (leb a b)) (λ q h. false≢true (sym (not-true _ q) ∙ le-leb a b h)) (λ q. leb-true a b (not-false _ q))

-- 41: of each of types 1 to k u and s on the second kind are given exactly where there is one

absent-agree : (k : ℕ) (ts : List TaskType) → ((i : ℕ) → i < k → (get_or ts i no_task).there ≡ None) → kinds_agree true k ts ≡ true
unfolding kinds_agree
absent-agree k [] none = refl
absent-agree zero (t ∷ ts) none = refl
absent-agree (suc k) (t ∷ ts) none =
    and_both (not (given t.there)) (kinds_agree true k ts) (ap (λ (x : Option Costs). not (given x)) (none zero (omega arith))) (absent-agree k ts (λ i h. none (suc i) (omega arith)))

module _ (y : System) (inside : y.typecount ≤ length y.types) where
  abbrev agree : Option Kind → Type 0
  agree s = kinds_agree (is_one_kind s) y.typecount y.types ≡ true

  kinds-told : agree y.second → AllOrNone y
  kinds-told e = record {
    none = λ one t low high. kinds-absent y.typecount y.types (subst agree one e) (t - 1) (omega arith);
    all = λ k two t low high. given-takes (type_no y t).there (kinds-given y.typecount y.types (subst agree two e) (t - 1) (omega arith) (omega arith));
  }

  kinds-back : AllOrNone y → agree y.second
  kinds-back w = at (is_one_kind y.second) refl
    where
      at : (b : Bool) → is_one_kind y.second ≡ b → kinds_agree b y.typecount y.types ≡ true
      at true q =
          absent-agree y.typecount y.types
          (λ i h.
          let same : suc i - 1 ≡ i = omega arith in
          subst (λ (j : ℕ). (get_or y.types j no_task).there ≡ None) same (w.none (one-kind y.second q) (suc i) (omega arith) (omega arith)))
      at false q =
          let k = two-kinds y.second q in
          given-kinds y.typecount y.types
          (λ i h.
          let same : suc i - 1 ≡ i = omega arith in
          let takes = w.all k.0 k.1 (suc i) (omega arith) (omega arith) in
          subst (λ (j : ℕ). given (get_or y.types j no_task).there ≡ true) same (ap given takes.1))

  pub kinds-test : Test (AllOrNone y) 41 (kinds_fault y)
  kinds-test =
      test_of (not (kinds_agree (is_one_kind y.second) y.typecount y.types)) (λ q w. false≢true (sym (not-true _ q) ∙ kinds-back w)) (λ q. kinds-told (not-false _ q))

-- 5, 6

-- a test of a second kind passes where there is none
module _ (Asks : Kind → Type 0) {n : ℕ} (test : Option Kind → ℕ) (free : test None ≡ 0) (one : (k : Kind) → Test (Asks k) n (test (Some k))) where
  kind-test : (s : Option Kind) → Test ((k : Kind) → s ≡ Some k → Asks k) n (test s)
  kind-test None = rw free (passed (λ k is. let z : ◌≡◌ {A = ℕ} 0 1 = cc in absurd (omega arith)))
  kind-test (Some j) = asked ((λ p k is. let same : j ≡ k = cc in subst Asks same p), (λ all. all j refl)) (one j)

pub engines-test : (y : System) → Test (EnginesWithin y) 5 (numbers_fault y)
engines-test y =
    asked ((λ h. (h.0.0, h.0.1, h.1)), (λ w. ((w.0, w.1), w.2)))
    (both (omega arith) (both-test 1 y.engines y.engines engine_limit)
    (kind-test (λ (k : Kind). (1 ≤ k.number) × (y.engines + k.number ≤ 16)) (λ (s : Option Kind). cond (kind_over y.engines s) 5 0) refl
    (λ k. both-test 1 k.number (y.engines + k.number) engine_limit) y.second))

pub rule-test : (y : System) → Test (y.rule ≤ 1) 6 (rule_fault y)
rule-test y = one-test y.rule 1

-- a test of types 1 to k, where those past k are cleared and pass

module _ (test : TaskType → ℕ) (Asks : TaskType → Type 0) {n : ℕ} (some : 0 < n) (one : (t : TaskType) → Test (Asks t) n (test t)) (free : test no_task ≡ 0) where
  none-faulty : (m : ℕ) → first_of test (replicate m no_task) ≡ 0
  unfolding first_of
  none-faulty zero = refl
  none-faulty (suc m) = none_or (test no_task) (first_of test (replicate m no_task)) free (none-faulty m)

  first-test : (k m : ℕ) (ts : List TaskType) → Test ((i : ℕ) → i < k → Asks (get_or ts i no_task)) n (first_of test (take k ts ++ replicate m no_task))
  unfolding first_of
  first-test zero m ts = rw (none-faulty m) (passed (λ i h. absurd (omega arith)))
  first-test (suc k) m [] = rw (none-faulty m) (passed (λ i h. holds some (one no_task) free))
  first-test (suc k) m (t ∷ ts) = asked (each, λ all. (all zero (omega arith), λ i h. all (suc i) (omega arith))) (both some (one t) (first-test k m ts))
    where
      each : (Asks t × ((i : ℕ) → i < k → Asks (get_or ts i no_task))) → (i : ℕ) → i < suc k → Asks (get_or (t ∷ ts) i no_task)
      each h zero less = h.0
      each h (suc i) less = h.1 i (omega arith)

-- 8: u, s and d of types 1 to k, and their u and s on the second kind

abbrev pub Within : TaskType → Type 0
Within t = (t.time ≤ 1000000) × (t.memory ≤ 1000000) × (t.data ≤ 1000000)

abbrev pub CostsWithin : Option Costs → Type 0
CostsWithin x = (c : Costs) → x ≡ Some c → (c.time ≤ 1000000) × (c.memory ≤ 1000000)

abbrev TaskWithin : TaskType → Type 0
TaskWithin t = Within t × CostsWithin t.there

size-test : (u s : ℕ) → Test ((u ≤ 1000000) × (s ≤ 1000000)) 8 (size_fault u s)
size-test u s = both-test u size_limit s size_limit

pub type-test : (t : TaskType) → Test (Within t) 8 (type_fault t)
type-test t =
    let u = leb t.time size_limit in
    let s = leb t.memory size_limit in
    let d = leb t.data size_limit in
    test_of (not (u && s && d))
    (λ q h. let two = and_both u s (le-leb t.time size_limit h.0) (le-leb t.memory size_limit h.1) in false≢true (sym (not-true _ q) ∙ and_both (u && s) d two (le-leb t.data size_limit h.2)))
    (λ q. let h = sized-task t (rw q) in (h.time, h.memory, h.data))

pub costs-test : (x : Option Costs) → Test (CostsWithin x) 8 (costs_fault x)
costs-test None = passed (λ c is. let z : ◌≡◌ {A = ℕ} 0 1 = cc in absurd (omega arith))
costs-test (Some d) =
    asked ((λ p c is. let same : d ≡ c = cc in subst (λ (e : Costs). (e.time ≤ 1000000) × (e.memory ≤ 1000000)) same p), (λ all. all d refl)) (size-test d.time d.memory)

types-test : (k m : ℕ) (ts : List TaskType) → Test ((i : ℕ) → i < k → TaskWithin (get_or ts i no_task)) 8 (types_fault (take k ts ++ replicate m no_task))
types-test k m ts =
    rw (types-first (take k ts ++ replicate m no_task))
    (first-test task_fault TaskWithin (omega arith) (λ t. both (omega arith) (type-test t) (costs-test t.there)) refl k m ts)

-- U and S of a second kind
abbrev KindWithin : System → Type 0
KindWithin y = (k : Kind) → y.second ≡ Some k → (k.timecap ≤ 1000000) × (k.memorycap ≤ 1000000)

abbrev AllWithin : System → Type 0
AllWithin y = (((y.timecap ≤ 1000000) × (y.memorycap ≤ 1000000)) × KindWithin y) × ((i : ℕ) → i < y.typecount → TaskWithin (get_or y.types i no_task))

kind-sizes-test : (y : System) → Test (KindWithin y) 8 (kind_sizes y.second)
kind-sizes-test y =
    kind-test (λ (k : Kind). (k.timecap ≤ 1000000) × (k.memorycap ≤ 1000000)) kind_sizes refl (λ k. size-test k.timecap k.memorycap) y.second

pub sizes-test : (y : System) → Test (SizesWithin y) 8 (sizes_fault y)
sizes-test y =
    asked (told, back)
    (both (omega arith) (both (omega arith) (size-test y.timecap y.memorycap) (kind-sizes-test y)) (types-test y.typecount (type_limit - y.typecount) y.types))
  where
    told : AllWithin y → SizesWithin y
    told h = record {
      capacities = h.0.0;
      costs = λ t low high. (h.1 (t - 1) (omega arith)).0;
      second = record { capacities = h.0.1; costs = λ t c low high is. (h.1 (t - 1) (omega arith)).1 c is };
    }

    back : SizesWithin y → AllWithin y
    back w = (
      (w.capacities, w.second.capacities),
      λ i less.
          let same : suc i - 1 ≡ i = omega arith in
          subst (λ (j : ℕ). TaskWithin (get_or y.types j no_task)) same
          (w.costs (suc i) (omega arith) (omega arith), λ c is. w.second.costs (suc i) c (omega arith) (omega arith) is),
    )

-- 31: q of types 1 to k

abbrev pub Apart : Option ℕ → Type 0
Apart m = (q : ℕ) → m ≡ Some q → 1 ≤ q

pub most-test : (m : Option ℕ) → Test (Apart m) 31 (most_fault m)
most-test None = passed (λ q e. let z : ◌≡◌ {A = ℕ} 0 1 = cc in absurd (omega arith))
most-test (Some p) =
    test_of (eqb p 0) (λ e all. omega (arith, eqb-true p 0 e, all p refl)) (λ e q is. let same : p ≡ q = cc in omega (arith, eqb-false p 0 e))

mosts-test : (k m : ℕ) (ts : List TaskType) → Test ((i : ℕ) → i < k → Apart (get_or ts i no_task).most) 31 (mosts_fault (take k ts ++ replicate m no_task))
mosts-test k m ts =
    rw (mosts-first (take k ts ++ replicate m no_task)) (first-test replica_fault (λ (t : TaskType). Apart t.most) (omega arith) (λ t. most-test t.most) refl k m ts)

pub replicas-test : (y : System) → Test (ReplicasWithin y) 31 (replicas_fault y)
replicas-test y = asked (told, back) (mosts-test y.typecount (type_limit - y.typecount) y.types)
  where
    told : ((i : ℕ) → i < y.typecount → Apart (get_or y.types i no_task).most) → ReplicasWithin y
    told h t q low high is = h (t - 1) (omega arith) q is

    back : ReplicasWithin y → (i : ℕ) → i < y.typecount → Apart (get_or y.types i no_task).most
    back w i less =
        let same : suc i - 1 ≡ i = omega arith in
        subst (λ (j : ℕ). Apart (get_or y.types j no_task).most) same (λ q is. w (suc i) q (omega arith) (omega arith) is)

-- 43: C and T of types 1 to k, with their u and the platform's U

abbrev Runs : ℕ → TaskType → Type 0
Runs whole t = (c : Cycle) → t.pace ≡ Some c → PaceWithin whole t.time c

within-limits : (whole u : ℕ) (c : Cycle) → CycleLimits whole u c → PaceWithin whole u c
within-limits whole u c l = record {
  run = (l.some-run, omega (arith, l.runs, l.period));
  period = (omega (arith, l.some-run, l.runs), l.period);
  runs = l.runs;
  some = l.some-time;
  share = l.share;
}

limits-within : (whole u : ℕ) (c : Cycle) → PaceWithin whole u c → CycleLimits whole u c
limits-within whole u c w = record { some-run = w.run.0; runs = w.runs; period = w.period.1; some-time = w.some; share = w.share }

pub pace-test : (whole u : ℕ) (x : Option Cycle) → Test ((c : Cycle) → x ≡ Some c → PaceWithin whole u c) 43 (pace_fault whole u x)
pace-test whole u None = passed (λ c is. let z : ◌≡◌ {A = ℕ} 0 1 = cc in absurd (omega arith))
pace-test whole u (Some d) =
    test_of (not (cycle_keeps whole u d))
    (λ q all.
    let none : ◌≡◌ {A = ℕ} (cond (not (cycle_keeps whole u d)) 43 0) 0 = cycle-keep whole u (Some d) (λ c is. limits-within whole u c (all c is)) in
    let z : ◌≡◌ {A = ℕ} 43 0 = rw q at none in
    omega arith)
    (λ q c is. within-limits whole u c (cycle-limits whole u (Some d) c (rw q) is))

paces-test : (whole k m : ℕ) (ts : List TaskType) → Test ((i : ℕ) → i < k → Runs whole (get_or ts i no_task)) 43 (paces_fault whole (k + m) (take k ts ++ replicate m no_task))
paces-test whole k m ts =
    let all = take k ts ++ replicate m no_task in
    let few : length all ≤ k + m = omega (arith, length-append (take k ts) (replicate m no_task), length-take k ts, length-replicate m no_task) in
    rw (paces-first whole (k + m) all few) (first-test (cycle_fault whole) (Runs whole) (omega arith) (λ t. pace-test whole t.time t.pace) refl k m ts)

pub cycles-test : (y : System) → y.typecount ≤ 6 → Test (PacesWithin y) 43 (cycles_fault y)
cycles-test y few =
    let six : y.typecount + (type_limit - y.typecount) ≡ type_limit = omega arith in
    let cleared-test = paces-test y.timecap y.typecount (type_limit - y.typecount) y.types in
    subst (λ (n : ℕ). Test (PacesWithin y) 43 (paces_fault y.timecap n (cleared y).types)) six (asked (told, back) cleared-test)
  where
    told : ((i : ℕ) → i < y.typecount → Runs y.timecap (get_or y.types i no_task)) → PacesWithin y
    told h t c low high is = h (t - 1) (omega arith) c is

    back : PacesWithin y → (i : ℕ) → i < y.typecount → Runs y.timecap (get_or y.types i no_task)
    back w i less =
        let same : suc i - 1 ≡ i = omega arith in
        subst (λ (j : ℕ). Runs y.timecap (get_or y.types j no_task)) same (λ c is. w (suc i) c (omega arith) (omega arith) is)

-- 10: the columns of types 1 to k, where those past k are cleared

abbrev ceilings : List TaskType → List ℕ
ceilings ts = map (λ (t : TaskType). t.ceiling) ts

columns-append : (a b : List ℕ) → columns_of (a ++ b) ≡ columns_of a * columns_of b
unfolding columns_of
columns-append [] b = sym (one-mul (columns_of b))
columns-append (n ∷ a) b = ap (λ (c : ℕ). (n + 1) * c) (columns-append a b) ∙ sym (mul_assoc (n + 1) (columns_of a) (columns_of b))

columns-none : (n : ℕ) → columns_of (ceilings (replicate n no_task)) ≡ 1
unfolding columns_of
columns-none zero = refl
columns-none (suc n) = one-mul (columns_of (ceilings (replicate n no_task))) ∙ columns-none n

columns-to : (y : System) (n : ℕ) → n ≤ length y.types → columns_to y n ≡ columns_of (ceilings (take n y.types))
unfolding columns_to columns_of
columns-to y zero h = refl
columns-to y (suc n) h =
    let same : suc n - 1 ≡ n = omega arith in
    rw (columns-to y n (omega arith), take-suc y.types n no_task h, map-append, columns-append, mul-one)
    (ap (λ (j : ℕ). columns_of (ceilings (take n y.types)) * ((get_or y.types j no_task).ceiling + 1)) same)

columns-cleared : (y : System) → y.typecount ≤ length y.types → columns_of (ceilings (cleared y).types) ≡ columns_to y y.typecount
columns-cleared y h = rw (map-append, columns-append, columns-none (type_limit - y.typecount), mul-one) (sym (columns-to y y.typecount h))

pub columns-test : (y : System) → y.typecount ≤ length y.types → Test (columns_to y y.typecount ≤ 4096) 10 (product_fault y)
columns-test y h = rw (columns-cleared y h) (one-test (columns_to y y.typecount) column_limit)

-- 30

pub room-test : (y : System) (room : ℕ) → Test (length (file_of y) ≤ room) 30 (short_fault y room)
room-test y room =
    test_of (ltb room (length (file_of y))) (λ q h. omega (arith, ltb-true room (length (file_of y)) q)) (λ q. ltb-false room (length (file_of y)) q)

-- The five theorems: each of the causes 1 to 5 leaves no good assignment, of any system and load and whatever the engines are, so long as there are r of them.
-- The argument: every instance is on one of the r engines, so that all engines together hold no less than the whole load, and each of them no more than it may.
use Rattle.std.proofs.Common.{Some}
use Prim.Native.Nat.{ℕ, zero, suc, ◌+◌, ◌-◌, ◌*◌, ◌≤◌, ◌<◌, zero-le, suc-le-suc}
use mathlib.Core.Path.{◌≡◌, refl, sym, ap, subst, ◌∙◌}
use mathlib.Core.List.{List, [], ◌∷◌}
use mathlib.Core.Bool.{Bool, true, false, cond, ◌||◌}
use mathlib.Core.Logic.{⊎_elim}
use native.Mathlib.Nat.{zero-mul, mul-zero, mul-one, suc-mul, mul_comm, eq-or-lt_of_le, lt_of_not-le}
use native.Mathlib.Omega.{arith}
use borrow.Author.Tests.{eqb-true, eq-eqb}
use lib.ListN.{length, get_or, get_or-eq_default}
use lib.Dec.{eqb, eqb-suc-zero}
use Rattle.system.specs.declared.TaskType.{TaskType}
use Rattle.system.specs.declared.System.{System}
use Rattle.partition.specs.Assignment.{Assignment, among}
use Rattle.partition.specs.OwnWords.{over_instances, sum_on, shared_memory_on, no_type, place_of}
use Rattle.partition.specs.Plain.{type_no, places_no, Partition, Impossible}
use Rattle.partition.proofs.Lists.{or_left, or_right_lem}
use Rattle.table.specs.Meaning.{sum_below}
use Rattle.table.proofs.Sums.{sum-le, sum-constant, sum_first}
use Rattle.board.specs.Words.{plus_one, sum_six, time_out, own_out, shared_out, FitsOut}
use Rattle.board.proofs.Plain.{time-same, own_same, shared_same}
use Rattle.causes.specs.Meaning.{Numbered, NoneInService, nothing, MemoryExceeds, EachImplies}

-- intermediate: sums over the engines

sum_both : (n : ℕ) (f g : ℕ → ℕ) → sum_below n (λ (i : ℕ). f i + g i) ≡ sum_below n f + sum_below n g
unfolding sum_below
sum_both zero f g = refl
sum_both (suc n) f g = omega (arith, sum_both n f g)

sum-term : (n : ℕ) (f : ℕ → ℕ) (i : ℕ) → i < n → f i ≤ sum_below n f
unfolding sum_below
sum-term zero f i h = absurd (omega arith)
sum-term (suc n) f i h =
    ⊎_elim
    (λ (e : i ≡ n). rw e (omega arith))
    (λ (l : i < n). omega (arith, sum-term n f i l))
    (eq-or-lt_of_le {n = i} {m = n} (omega arith))

-- intermediate: one type

-- the places of a type's instances are all among the r engines
abbrev OnEngines : (ℕ → ℕ) → ℕ → List ℕ → Type 0
OnEngines engine r places = (j : ℕ) → j < length places → (i : ℕ) × (i < r) × (engine i ≡ get_or places j 0)

-- without engines there are no instances
none-there : (engine : ℕ → ℕ) (places : List ℕ) → OnEngines engine 0 places → length places ≡ 0
none-there engine [] on = refl
none-there engine (p ∷ ps) on = let (i, h, e) = on 0 (omega arith) in absurd (omega arith)

module _ (engine : ℕ → ℕ) (r : ℕ) where
  -- one instance counts on its engine
  one_place : (each p i : ℕ) → i < r → engine i ≡ p → each ≤ sum_below r (λ (k : ℕ). cond (eqb p (engine k)) each 0)
  one_place each p i h e = rw (eq-eqb p (engine i) (sym e)) at (sum-term r (λ (k : ℕ). cond (eqb p (engine k)) each 0) i h)

  -- all instances of a type, over all engines
  spread : (each : ℕ) (places : List ℕ) → OnEngines engine r places → length places * each ≤ sum_below r (λ (k : ℕ). over_instances (engine k) each places)
  unfolding over_instances
  spread each [] on = rw (zero-mul each) zero-le
  spread each (p ∷ ps) on =
      let (i, h, e) = on 0 (omega arith) in
      omega (
        arith,
        suc-mul (length ps) each,
        one_place each p i h e,
        spread each ps (λ j l. on (suc j) (suc-le-suc l)),
        sum_both r (λ (k : ℕ). cond (eqb p (engine k)) each 0) (λ (k : ℕ). over_instances (engine k) each ps),
      )

  -- one copy of its code, where there is an instance
  one_code : (code : ℕ) (places : List ℕ) → OnEngines engine r places → cond (eqb (length places) 0) 0 code ≤ sum_below r (λ (k : ℕ). cond (among places (engine k)) code 0)
  unfolding among
  one_code code [] on = zero-le
  one_code code (p ∷ ps) on =
      let (i, h, e) = on 0 (omega arith) in
      rw (eqb-suc-zero (length ps))
      (rw (or_left (eqb p (engine i)) (among ps (engine i)) (eq-eqb p (engine i) (sym e))) at (sum-term r (λ (k : ℕ). cond (eqb p (engine k) || among ps (engine k)) code 0) i h))

  -- intermediate: all types

  over-types : (share : ℕ → TaskType → List ℕ → ℕ) (whole : TaskType → List ℕ → ℕ)
      → ((t : TaskType) (places : List ℕ) → OnEngines engine r places → whole t places ≤ sum_below r (λ (k : ℕ). share (engine k) t places))
      → (types : List TaskType) (χ : Assignment) → ((t : ℕ) → OnEngines engine r (get_or χ t [])) → sum_on whole types χ ≤ sum_below r (λ (k : ℕ). sum_on (share (engine k)) types χ)
  unfolding sum_on
  over-types share whole h [] χ on = zero-le
  over-types share whole h (t ∷ types) [] on = zero-le
  over-types share whole h (t ∷ types) (places ∷ χ) on =
      omega (
        arith,
        h t places (on 0),
        over-types share whole h types χ (λ k. on (suc k)),
        sum_both r (λ (k : ℕ). share (engine k) t places) (λ (k : ℕ). sum_on (share (engine k)) types χ),
      )

sum_on-both : (f g : TaskType → List ℕ → ℕ) (types : List TaskType) (χ : Assignment) → sum_on f types χ + sum_on g types χ ≡ sum_on (λ t places. f t places + g t places) types χ
unfolding sum_on
sum_on-both f g [] χ = refl
sum_on-both f g (t ∷ types) [] = refl
sum_on-both f g (t ∷ types) (places ∷ χ) = omega (arith, sum_on-both f g types χ)

-- the sum over the types, type by type; past the last type nothing is taken
sum_on-entries : (f : TaskType → List ℕ → ℕ) → ((places : List ℕ) → f no_type places ≡ 0) → (types : List TaskType) (χ : Assignment)
    → sum_on f types χ ≡ sum_below (length χ) (λ (i : ℕ). f (get_or types i no_type) (get_or χ i []))
unfolding sum_on
sum_on-entries f h [] [] = unfold sum_below in refl
sum_on-entries f h [] (p ∷ χ) =
    sum_on-entries f h [] χ ∙ omega (arith, h p, sum_first (length χ) (λ (i : ℕ). f (get_or [] i no_type) (get_or (p ∷ χ) i [])))
sum_on-entries f h (t ∷ types) [] = unfold sum_below in refl
sum_on-entries f h (t ∷ types) (p ∷ χ) =
    omega (arith, sum_on-entries f h types χ, sum_first (length χ) (λ (i : ℕ). f (get_or (t ∷ types) i no_type) (get_or (p ∷ χ) i [])))

six-below : (g : ℕ → ℕ) → sum_below 6 g ≡ sum_six (λ (t : ℕ). g (t - 1))
unfolding sum_below
six-below g = omega arith

sum_on-six : (f : TaskType → List ℕ → ℕ) → ((places : List ℕ) → f no_type places ≡ 0) → (y : System) (χ : Assignment) → length χ ≡ 6
    → sum_on f y.types χ ≡ sum_six (λ (t : ℕ). f (type_no y t) (places_no χ t))
sum_on-six f h y χ six =
    sum_on-entries f h y.types χ
    ∙ ap (λ (n : ℕ). sum_below n (λ (i : ℕ). f (get_or y.types i no_type) (get_or χ i []))) six
    ∙ six-below (λ (i : ℕ). f (get_or y.types i no_type) (get_or χ i []))

sum_six-le : (f g : ℕ → ℕ) → ((t : ℕ) → 1 ≤ t → f t ≤ g t) → sum_six f ≤ sum_six g
sum_six-le f g h =
    omega (arith, h 1 (omega arith), h 2 (omega arith), h 3 (omega arith), h 4 (omega arith), h 5 (omega arith), h 6 (omega arith))

-- intermediate: what each instance of a type takes, over all of them and on one engine

whole_each : (TaskType → ℕ) → TaskType → List ℕ → ℕ
whole_each each t places = length places * each t

share_each : (TaskType → ℕ) → ℕ → TaskType → List ℕ → ℕ
share_each each e t places = over_instances e (each t) places

abbrev own : TaskType → ℕ
own t = t.memory + t.data

whole_shared : TaskType → List ℕ → ℕ
whole_shared t places = cond (eqb (length places) 0) 0 (t.memory + length places * t.data)

share_shared : ℕ → TaskType → List ℕ → ℕ
share_shared e t places = cond (among places e) t.memory 0 + over_instances e t.data places

none_each : (e : ℕ) (places : List ℕ) → over_instances e 0 places ≡ 0
unfolding over_instances
none_each e [] = refl
none_each e (p ∷ ps) = go (eqb p e) (none_each e ps)
  where
    go : (b : Bool) → over_instances e 0 ps ≡ 0 → cond b 0 0 + over_instances e 0 ps ≡ 0
    go true h = omega arith
    go false h = omega arith

cond-none : (b : Bool) → ◌≡◌ {A = ℕ} (cond b 0 0) 0
cond-none true = refl
cond-none false = refl

-- an instance that is there takes its share
one_in : (e each : ℕ) (places : List ℕ) (j : ℕ) → j < length places → get_or places j 0 ≡ e → each ≤ over_instances e each places
unfolding over_instances
one_in e each [] j h q = absurd (omega arith)
one_in e each (p ∷ ps) zero h q = rw (eq-eqb p e q) (omega arith)
one_in e each (p ∷ ps) (suc j) h q = omega (arith, one_in e each ps j (omega arith) q)

is_among : (e : ℕ) (places : List ℕ) (j : ℕ) → j < length places → get_or places j 0 ≡ e → among places e ≡ true
unfolding among
is_among e [] j h q = absurd (omega arith)
is_among e (p ∷ ps) zero h q = rw (eq-eqb p e q)
is_among e (p ∷ ps) (suc j) h q = or_right_lem (eqb p e) (among ps e) (is_among e ps j (omega arith) q)

-- main: what a good assignment keeps, as a whole

module _ (y : System) (E : ℕ → Type 0) (r : ℕ) (count : ℕ → ℕ) (n : Numbered E r) (χ : Assignment) (p : Partition y E count χ) where
  abbrev all_of : ℕ → ℕ
  all_of t = length (places_no χ t)

  counted : (t : ℕ) → 1 ≤ t → count t ≡ all_of t
  counted t low = sym (p.all t low)

  type-in : (t j : ℕ) → j < length (get_or χ t []) → t < length χ
  type-in t j h = lt_of_not-le (λ (past : length χ ≤ t). omega (arith, ap length (get_or-eq_default χ [] past)))

  placed-in : (t : ℕ) → OnEngines n.engine r (get_or χ t [])
  placed-in t j h = n.all (place_of χ t j) (p.keeps.placed t j (type-in t j h) h)

  within_cap : (cap : ℕ) (f : ℕ → ℕ) → ((e : ℕ) → E e → f e ≤ cap) → sum_below r (λ (i : ℕ). f (n.engine i)) ≤ r * cap
  within_cap cap f h =
      omega (arith, sum-constant r cap, sum-le r (λ (i : ℕ). f (n.engine i)) (λ (i : ℕ). cap) (λ i l. h (n.engine i) (n.is_one i l)))

  -- what each instance takes: the whole load takes no more than all engines have
  each_within : (each : TaskType → ℕ) → each no_type ≡ 0 → (cap : ℕ) → ((e : ℕ) → E e → sum_on (share_each each e) y.types χ ≤ cap)
      → sum_six (λ (t : ℕ). all_of t * each (type_no y t)) ≤ r * cap
  unfolding whole_each share_each
  each_within each none cap h =
      omega (
        arith,
        sum_on-six (whole_each each) (λ places. rw none (mul-zero (length places))) y χ p.six,
        over-types n.engine r (share_each each) (whole_each each) (λ t places on. spread n.engine r (each t) places on) y.types χ placed-in,
        within_cap cap (λ (e : ℕ). sum_on (share_each each e) y.types χ) h,
      )

  time-within : time_out y count ≤ r * y.timecap
  unfolding share_each
  time-within =
      omega (arith, time-same y count all_of counted, each_within (λ (t : TaskType). t.time) refl y.timecap p.keeps.time)

  own-within : y.rule ≡ 0 → own_out y count ≤ r * y.memorycap
  unfolding share_each
  own-within rule = omega (arith, own_same y count all_of counted, each_within own refl y.memorycap (p.keeps.own_copies rule))

  shared-sum : (e : ℕ) → sum_on (share_shared e) y.types χ ≡ shared_memory_on e y.types χ
  unfolding share_shared
  shared-sum e = sym (sum_on-both (λ (t : TaskType) (places : List ℕ). cond (among places e) t.memory 0) (λ (t : TaskType) (places : List ℕ). over_instances e t.data places) y.types χ)

  shared-type : (t : TaskType) (places : List ℕ) → OnEngines n.engine r places → whole_shared t places ≤ sum_below r (λ (k : ℕ). share_shared (n.engine k) t places)
  unfolding whole_shared share_shared
  shared-type t places on =
      omega (
        arith,
        go (eqb (length places) 0),
        one_code n.engine r t.memory places on,
        spread n.engine r t.data places on,
        sum_both r (λ (k : ℕ). cond (among places (n.engine k)) t.memory 0) (λ (k : ℕ). over_instances (n.engine k) t.data places),
      )
    where
      go : (b : Bool) → cond b 0 (t.memory + length places * t.data) ≤ cond b 0 t.memory + length places * t.data
      go true = zero-le
      go false = omega arith

  shared-within : y.rule ≡ 1 → shared_out y count ≤ r * y.memorycap
  unfolding whole_shared
  shared-within rule =
      omega (
        arith,
        shared_same y count all_of counted,
        sum_on-six whole_shared (λ places. go (eqb (length places) 0) (length places)) y χ p.six,
        over-types n.engine r share_shared whole_shared shared-type y.types χ placed-in,
        within_cap y.memorycap (λ (e : ℕ). sum_on (share_shared e) y.types χ) (λ e at. rw (shared-sum e) (p.keeps.shared_code rule e at)),
      )
    where
      go : (b : Bool) (m : ℕ) → cond b 0 (0 + m * 0) ≡ 0
      go true m = refl
      go false m = omega (arith, mul-zero m)

  count-within : (t q : ℕ) → 1 ≤ t → (type_no y t).most ≡ Some q → count t ≤ q * r
  count-within t q low given =
      omega (
        arith,
        counted t low,
        mul-one (all_of t),
        mul_comm q r,
        spread n.engine r 1 (places_no χ t) (placed-in (t - 1)),
        within_cap q (λ (e : ℕ). over_instances e 1 (places_no χ t)) (λ e at. p.keeps.separate (t - 1) q given e at),
      )

  -- each instance fits an empty engine, as it fits its own

  module _ (t : ℕ) (low : 1 ≤ t) (some : 1 ≤ count t) where
    first : 0 < length (places_no χ t)
    first = omega (arith, counted t low)

    e : ℕ
    e = place_of χ (t - 1) 0

    is-engine : E e
    unfolding e
    is-engine = p.keeps.placed (t - 1) 0 (type-in (t - 1) 0 first) first

    alone-each : (v each : ℕ) → plus_one t nothing v * each ≤ over_instances e each (places_no χ v)
    unfolding e
    alone-each v each = go (eqb v t) refl
      where
        go : (b : Bool) → eqb v t ≡ b → (0 + cond b 1 0) * each ≤ over_instances (place_of χ (t - 1) 0) each (places_no χ v)
        go true q =
            rw (eqb-true v t q) (omega (arith, one_in (place_of χ (t - 1) 0) each (places_no χ t) 0 first refl))
        go false q = omega arith

    alone-shared : (v : ℕ) → cond (eqb (plus_one t nothing v) 0) 0 ((type_no y v).memory + plus_one t nothing v * (type_no y v).data) ≤ share_shared e (type_no y v) (places_no χ v)
    unfolding e share_shared
    alone-shared v = go (eqb v t) refl
      where
        go : (b : Bool) → eqb v t ≡ b →
            cond (eqb (0 + cond b 1 0) 0) 0 ((type_no y v).memory + (0 + cond b 1 0) * (type_no y v).data)
            ≤ cond (among (places_no χ v) (place_of χ (t - 1) 0)) (type_no y v).memory 0 + over_instances (place_of χ (t - 1) 0) (type_no y v).data (places_no χ v)
        go true q =
            rw (eqb-true v t q, is_among (place_of χ (t - 1) 0) (places_no χ t) 0 first refl)
            (omega (arith, one_in (place_of χ (t - 1) 0) (type_no y t).data (places_no χ t) 0 first refl))
        go false q = zero-le

    alone-fits : FitsOut y (plus_one t nothing)
    unfolding share_each share_shared
    alone-fits = record {
      time =
          omega (
            arith,
            sum_six-le (λ (v : ℕ). plus_one t nothing v * (type_no y v).time) (λ (v : ℕ). over_instances e (type_no y v).time (places_no χ v)) (λ v k. alone-each v (type_no y v).time),
            sum_on-six (share_each (λ (task : TaskType). task.time) e) (none_each e) y χ p.six,
            p.keeps.time e is-engine,
          );
      own_copies = λ rule.
          omega (
            arith,
            sum_six-le (λ (v : ℕ). plus_one t nothing v * own (type_no y v)) (λ (v : ℕ). over_instances e (own (type_no y v)) (places_no χ v)) (λ v k. alone-each v (own (type_no y v))),
            sum_on-six (share_each own e) (none_each e) y χ p.six,
            p.keeps.own_copies rule e is-engine,
          );
      shared_code = λ rule.
          omega (
            arith,
            sum_six-le (λ (v : ℕ). cond (eqb (plus_one t nothing v) 0) 0 ((type_no y v).memory + plus_one t nothing v * (type_no y v).data)) (λ (v : ℕ). share_shared e (type_no y v) (places_no χ v)) (λ v k. alone-shared v),
            sum_on-six (share_shared e) (λ places. omega (arith, cond-none (among places e), none_each e places)) y χ p.six,
            shared-sum e,
            p.keeps.shared_code rule e is-engine,
          );
      separate = λ v q k given. omega (arith, alone-each v 1, mul-one (plus_one t nothing v), p.keeps.separate (v - 1) q given e is-engine);
    }

-- main: "Causes 1 to 5 each imply refusal"

pub each-implies : (y : System) (E : ℕ → Type 0) (r : ℕ) (count : ℕ → ℕ) → Numbered E r → EachImplies y E r count
each-implies y E r count n = record {
  one = λ h χ p. empty h χ p;
  two = λ t h χ p. h.large (alone-fits y E r count n χ p t h.is_type.0 h.in_load);
  three = λ h χ p. omega (arith, time-within y E r count n χ p);
  four = memory;
  five = λ h χ p. omega (arith, h.exceeds, count-within y E r count n χ p h.type h.most h.is_type h.given);
}
  where
    empty : NoneInService r count → Impossible y E count
    empty h χ p =
        let none : (t : ℕ) → 1 ≤ t → count t ≡ 0 = λ t low. sym (p.all t low) ∙ none-there n.engine (places_no χ t) (subst (λ (k : ℕ). OnEngines n.engine k (places_no χ t)) h.none (placed-in y E r count n χ p (t - 1))) in
        omega (arith, h.some, none 1 (omega arith), none 2 (omega arith), none 3 (omega arith), none 4 (omega arith), none 5 (omega arith), none 6 (omega arith))

    memory : MemoryExceeds y r count → Impossible y E count
    memory (MemoryExceeds.own_copies rule h) χ p = omega (arith, own-within y E r count n χ p rule)
    memory (MemoryExceeds.shared_code rule h) χ p = omega (arith, shared-within y E r count n χ p rule)

-- A good assignment is one that keeps source 001, Definition 1 in its own words: the sums over the single instances are the time and the memory of the loads, and their counts.
use Prim.Native.Nat.{ℕ, suc, ◌+◌, ◌*◌, ◌≤◌, ◌<◌}
use mathlib.Core.Path.{◌≡◌, refl, sym, ap₂, ◌∙◌}
use mathlib.Core.List.{List, [], ◌∷◌}
use mathlib.Core.Bool.{Bool, true, false, cond, ◌||◌}
use mathlib.Core.Logic.{◌↔◌}
use native.Mathlib.Nat.{zero-mul, mul-one, suc-mul, zero-add, add_comm}
use native.Mathlib.Omega.{arith}
use borrow.Author.Tests.{eqb-true, eqb-false}
use lib.ListN.{length, get_or, get_or-map}
use lib.Dec.{eqb, eqb-suc-zero}
use Rattle.system.specs.declared.TaskType.{TaskType}
use Rattle.system.specs.declared.System.{System}
use Rattle.loads.specs.Load.{sum_over, time_at, time_of, memory_at, memory_of, fits_engine}
use Rattle.loads.proofs.Order.{and_both}
use Rattle.loads.proofs.Laws.{own-all, apart-entries, fits-of, fits-time, fits-memory, fits-apart}
use Rattle.partition.specs.Assignment.{Assignment, count_on, load_on, among, every, good}
use Rattle.partition.specs.OwnWords.{over_instances, sum_on, time_on, memory_on, shared_memory_on, place_of, Definition1, KeepsOn}
use Rattle.partition.proofs.Shares.{good-parts}
use Rattle.partition.proofs.Lists.{every-get_or, every-of-get_or, among-tested, tested-among}

-- intermediate: one type on one engine

pub over_instances-count : (e each : ℕ) (places : List ℕ) → over_instances e each places ≡ count_on e places * each
unfolding over_instances count_on
over_instances-count e each [] = sym (zero-mul each)
over_instances-count e each (place ∷ places) = rw (over_instances-count e each places) (go (eqb place e))
  where
    go : (b : Bool) → cond b each 0 + count_on e places * each ≡ cond b (suc (count_on e places)) (count_on e places) * each
    go true = add_comm each (count_on e places * each) ∙ sym (suc-mul (count_on e places) each)
    go false = zero-add (count_on e places * each)

shared-count : (e each : ℕ) (places : List ℕ) → cond (among places e) each 0 ≡ cond (eqb (count_on e places) 0) 0 each
unfolding among count_on
shared-count e each [] = refl
shared-count e each (place ∷ places) = go (eqb place e) (shared-count e each places)
  where
    go : (b : Bool) → cond (among places e) each 0 ≡ cond (eqb (count_on e places) 0) 0 each →
        cond (b || among places e) each 0 ≡ cond (eqb (cond b (suc (count_on e places)) (count_on e places)) 0) 0 each
    go true h = rw (eqb-suc-zero (count_on e places))
    go false h = h

-- one copy of the code where an instance is there, and the data of each
shared-places : (e : ℕ) (t : TaskType) (places : List ℕ) → cond (among places e) t.memory 0 + over_instances e t.data places ≡ memory_at 1 t (count_on e places)
shared-places e t places = rw (shared-count e t.memory places, over_instances-count e t.data places) (go (eqb (count_on e places) 0) refl)
  where
    go : (b : Bool) → eqb (count_on e places) 0 ≡ b →
        cond b 0 t.memory + count_on e places * t.data ≡ cond b 0 (t.memory + count_on e places * t.data)
    go true q = rw (eqb-true (count_on e places) 0 q) (omega (arith, zero-mul t.data))
    go false q = refl

-- main: the sums over instances are time and memory of the load

-- two sums over the types are the sum of both
sum_on-both : (f g : TaskType → List ℕ → ℕ) (types : List TaskType) (χ : Assignment) → sum_on f types χ + sum_on g types χ ≡ sum_on (λ t places. f t places + g t places) types χ
unfolding sum_on
sum_on-both f g [] χ = refl
sum_on-both f g (t ∷ types) [] = refl
sum_on-both f g (t ∷ types) (places ∷ χ) = omega (arith, sum_on-both f g types χ)

-- the two sums agree where they agree on each type
module _ (e : ℕ) (on : TaskType → List ℕ → ℕ) (each : TaskType → ℕ → ℕ) (same : (t : TaskType) (places : List ℕ) → on t places ≡ each t (count_on e places)) where
  sum_on-sum_over : (types : List TaskType) (χ : Assignment) → sum_on on types χ ≡ sum_over each types (load_on e χ)
  unfolding sum_on sum_over
  sum_on-sum_over [] χ = refl
  sum_on-sum_over (t ∷ types) [] = refl
  sum_on-sum_over (t ∷ types) (places ∷ χ) = ap₂ ◌+◌ (same t places) (sum_on-sum_over types χ)

pub time_on-time_of : (e : ℕ) (types : List TaskType) (χ : Assignment) → time_on e types χ ≡ time_of types (load_on e χ)
time_on-time_of e = sum_on-sum_over e (λ t places. over_instances e t.time places) time_at (λ t. over_instances-count e t.time)

pub memory_on-memory_of : (e : ℕ) (types : List TaskType) (χ : Assignment) → memory_on e types χ ≡ memory_of 0 types (load_on e χ)
memory_on-memory_of e =
    sum_on-sum_over e (λ t places. over_instances e (t.memory + t.data) places) (memory_at 0)
    (λ t places. over_instances-count e (t.memory + t.data) places ∙ sym (own-all t (count_on e places)))

pub shared_memory_on-memory_of : (e : ℕ) (types : List TaskType) (χ : Assignment) → shared_memory_on e types χ ≡ memory_of 1 types (load_on e χ)
shared_memory_on-memory_of e types χ =
    sum_on-both (λ t places. cond (among places e) t.memory 0) (λ t places. over_instances e t.data places) types χ
    ∙ sum_on-sum_over e (λ t places. cond (among places e) t.memory 0 + over_instances e t.data places) (memory_at 1) (shared-places e) types χ

-- one for each instance of a type on engine e is the load's count of that type
pub counted-on : (e : ℕ) (χ : Assignment) (t : ℕ) → over_instances e 1 (get_or χ t []) ≡ get_or (load_on e χ) t 0
unfolding count_on
counted-on e χ t = over_instances-count e 1 (get_or χ t []) ∙ mul-one (count_on e (get_or χ t [])) ∙ sym (get_or-map (count_on e) χ t [])

-- main: the test of a load says what an engine must keep

-- a load that fits an engine is one that keeps Definition 1 there
pub fits-keeps : (y : System) (e : ℕ) (χ : Assignment) → y.rule ≤ 1 → (fits_engine y (load_on e χ) ≡ true) ↔ KeepsOn y e χ
fits-keeps y e χ r = (there, back)
  where
    there : fits_engine y (load_on e χ) ≡ true → KeepsOn y e χ
    there h = record {
      time = rw (time_on-time_of e y.types χ) (fits-time y (load_on e χ) h);
      own_copies = λ q. rw (memory_on-memory_of e y.types χ, ← q) (fits-memory y (load_on e χ) h);
      shared_code = λ q. rw (shared_memory_on-memory_of e y.types χ, ← q) (fits-memory y (load_on e χ) h);
      separate = λ t q given. rw (counted-on e χ t) ((apart-entries y.types (load_on e χ)).0 (fits-apart y (load_on e χ) h) t q given);
    }

    memory : (b : Bool) → eqb y.rule 0 ≡ b → KeepsOn y e χ → memory_of y.rule y.types (load_on e χ) ≤ y.memorycap
    memory true q k =
        let zero' = eqb-true y.rule 0 q in
        rw (zero', ← (memory_on-memory_of e y.types χ)) (k.own_copies zero')
    memory false q k =
        let one' : y.rule ≡ 1 = omega (arith, eqb-false y.rule 0 q) in
        rw (one', ← (shared_memory_on-memory_of e y.types χ)) (k.shared_code one')

    back : KeepsOn y e χ → fits_engine y (load_on e χ) ≡ true
    back k =
        fits-of y (load_on e χ) (rw (← (time_on-time_of e y.types χ)) k.time) (memory (eqb y.rule 0) refl k)
        ((apart-entries y.types (load_on e χ)).1 (λ t q given. rw (← (counted-on e χ t)) (k.separate t q given)))

-- main: good says Definition 1

-- where `E` says which engines the list es has
module _ (χ : Assignment) (es : List ℕ) (E : ℕ → Type 0) (says : (e : ℕ) → (among es e ≡ true) ↔ E e) where
  -- every instance is on one of them
  pub every-placed : (every (every (among es)) χ ≡ true) ↔ ((t j : ℕ) → t < length χ → j < length (get_or χ t []) → E (place_of χ t j))
  every-placed = (
    (λ h t j i k. (says (place_of χ t j)).0 (every-get_or (among es) (get_or χ t []) 0 j (every-get_or (every (among es)) χ [] t h i) k)),
    (λ d.
        every-of-get_or (every (among es)) χ []
        (λ t i. every-of-get_or (among es) (get_or χ t []) 0 (λ j k. (says (place_of χ t j)).1 (d t j i k)))),
  )

  module _ (y : System) (rule : y.rule ≤ 1) where
    fine : ℕ → Bool
    fine e = fits_engine y (load_on e χ)

    good-keeps : good (λ (e : ℕ). fits_engine y) es χ ≡ true → Definition1 y E χ
    unfolding fine
    good-keeps h = record {
      placed = every-placed.0 b.0;
      time = λ e at. (keeps e at).time;
      own_copies = λ q e at. (keeps e at).own_copies q;
      shared_code = λ q e at. (keeps e at).shared_code q;
      separate = λ t q given e at. (keeps e at).separate t q given;
    }
      where
        b : (every (every (among es)) χ ≡ true) × (every fine es ≡ true)
        b = good-parts (λ (e : ℕ). fits_engine y) es χ h

        keeps : (e : ℕ) → E e → KeepsOn y e χ
        keeps e at = (fits-keeps y e χ rule).0 (among-tested fine es e b.1 ((says e).1 at))

    keeps-good : Definition1 y E χ → good (λ (e : ℕ). fits_engine y) es χ ≡ true
    unfolding good fine
    keeps-good d =
        and_both (every (every (among es)) χ) (every fine es) (every-placed.1 d.placed)
        (tested-among fine es (λ e k. (fits-keeps y e χ rule).1 (keeps e ((says e).0 k))))
      where
        keeps : (e : ℕ) → E e → KeepsOn y e χ
        keeps e at = record {
          time = d.time e at;
          own_copies = λ q. d.own_copies q e at;
          shared_code = λ q. d.shared_code q e at;
          separate = λ t q given. d.separate t q given e at;
        }

pub good-is-definition1 : (y : System) (χ : Assignment) (es : List ℕ) (E : ℕ → Type 0) → ((e : ℕ) → (among es e ≡ true) ↔ E e) → y.rule ≤ 1 → (good (λ (e : ℕ). fits_engine y) es χ ≡ true) ↔ Definition1 y E χ
good-is-definition1 y χ es E says rule = (good-keeps χ es E says y rule, keeps-good χ es E says y rule)

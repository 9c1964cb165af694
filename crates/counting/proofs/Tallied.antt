-- The tally is the number of good assignments in their listing, and it is at most the number of all.
use Prim.Native.Nat.{ℕ, zero, suc, ◌*◌, ◌^◌, ◌≤◌, ◌<◌}
use mathlib.Core.Path.{◌≡◌, refl, ap, subst, ◌∙◌}
use mathlib.Core.List.{List, [], ◌∷◌}
use mathlib.Core.Bool.{Bool, true, false, false≢true}
use native.Mathlib.Nat.{le_trans, add-zero, add-le-add, pow-le-pow_left, pow-le-pow_right}
use native.Mathlib.Omega.{arith}
use borrow.Author.Tests.{leb-true}
use lib.ListN.{length}
use lib.Dec.{leb, eqb-suc-zero}
use Rattle.system.specs.declared.System.{System}
use Rattle.system.specs.Values.{ceilings_of}
use Rattle.loads.specs.Load.{holds_none, within, less, fits_engine}
use Rattle.loads.proofs.Order.{and_parts}
use Rattle.partition.specs.Assignment.{Assignment, every, good, engines_to, each_before, places_of, assignments_of}
use Rattle.partition.specs.Shares.{distinct}
use Rattle.partition.specs.Listing.{instances}
use Rattle.partition.proofs.Lists.{distinct-parts, distinct-engines_to, length-engines_to}
use Rattle.partition.proofs.Brute.{length-assignments_of}
use Rattle.counting.specs.Counts.{count_of, good_count, total_count}
use Rattle.counting.specs.Tally.{bit, tally}
use Rattle.counting.proofs.Totals.{total, total-each_before, count_of-total, count_of-le, over_parts-equal}
use Rattle.counting.proofs.Split.{count-split}

-- intermediate: no engine

-- with no engine the one good assignment is that of no instance
total-no-engine : (test : ℕ → List ℕ → Bool) (ν : List ℕ) → total (λ (χ : Assignment). bit (good test [] χ)) (assignments_of [] ν) ≡ bit (holds_none ν)
unfolding assignments_of holds_none good every total places_of each_before
total-no-engine test [] = refl
total-no-engine test (zero ∷ ν) =
    total-each_before (λ (χ : Assignment). bit (good test [] χ)) ([] ∷ []) (assignments_of [] ν)
    ∙ add-zero (total (λ (χ : Assignment). bit (good test [] χ)) (assignments_of [] ν))
    ∙ total-no-engine test ν
total-no-engine test (suc n ∷ ν) = rw (eqb-suc-zero n)

-- main: the tally is the count

pub counted-is-tally : (f : List ℕ → Bool) (es ν : List ℕ) → distinct es ≡ true → count_of (good (λ (e : ℕ). f) es) (assignments_of es ν) ≡ tally f (length es) ν
unfolding tally
counted-is-tally f [] ν d = count_of-total (good (λ (e : ℕ). f) []) (assignments_of [] ν) ∙ total-no-engine (λ (e : ℕ). f) ν
counted-is-tally f (e ∷ es) ν d =
    count-split (λ (b : ℕ). f) e es ν d
    ∙ over_parts-equal ν (λ (z : List ℕ). bit (f z) * count_of (good (λ (b : ℕ). f) es) (assignments_of es (less ν z))) (λ (z : List ℕ). bit (f z) * tally f (length es) (less ν z))
    (λ z b. ap (λ (a : ℕ). bit (f z) * a) (counted-is-tally f es (less ν z) (distinct-parts e es d).1))

-- to the engines 1 to i
pub counted-to : (f : List ℕ → Bool) (i : ℕ) (ν : List ℕ) → count_of (good (λ (e : ℕ). f) (engines_to i)) (assignments_of (engines_to i) ν) ≡ tally f i ν
counted-to f i ν = counted-is-tally f (engines_to i) ν (distinct-engines_to i) ∙ ap (λ (a : ℕ). tally f a ν) (length-engines_to i)

-- of a system
pub good_count-tally : (y : System) → good_count y ≡ tally (fits_engine y) y.engines (ceilings_of y)
good_count-tally y = counted-to (fits_engine y) y.engines (ceilings_of y)

-- main: bounds

pub tally-bound : (f : List ℕ → Bool) (i : ℕ) (x : List ℕ) → tally f i x ≤ i ^ instances x
tally-bound f i x =
    rw (← (counted-to f i x))
    (subst (λ (a : ℕ). count_of (good (λ (e : ℕ). f) (engines_to i)) (assignments_of (engines_to i) x) ≤ a)
    (length-assignments_of (engines_to i) x ∙ ap (λ (a : ℕ). a ^ instances x) (length-engines_to i))
    (count_of-le (good (λ (e : ℕ). f) (engines_to i)) (assignments_of (engines_to i) x)))

pub instances-within : (x ns : List ℕ) → within x ns ≡ true → instances x ≤ instances ns
unfolding within instances
instances-within [] ns h = omega arith
instances-within (a ∷ x) [] h = absurd (false≢true h)
instances-within (a ∷ x) (n ∷ ns) h =
    let b = and_parts (leb a n) (within x ns) h in
    add-le-add (leb-true a n b.0) (instances-within x ns b.1)

-- of a load within the ceilings, on some of m engines
pub tally-within : (f : List ℕ → Bool) (i m : ℕ) (x ns : List ℕ) → 0 < m → i ≤ m → within x ns ≡ true → tally f i x ≤ m ^ instances ns
tally-within f i m x ns pos h w =
    le_trans (tally-bound f i x) (le_trans (pow-le-pow_left h (instances x)) (pow-le-pow_right pos (instances-within x ns w)))

pub good_count-le : (y : System) → good_count y ≤ total_count y
good_count-le y = rw (good_count-tally y) (tally-bound (fits_engine y) y.engines (ceilings_of y))

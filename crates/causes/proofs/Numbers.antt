-- A list of engines that names each once numbers them, by their places in the list.
use Prim.Native.Nat.{ℕ, zero, suc, ◌<◌, suc-le-suc}
use mathlib.Core.Path.{◌≡◌, refl, sym, ap, subst}
use mathlib.Core.List.{List, [], ◌∷◌}
use mathlib.Core.Bool.{true, false≢true}
use mathlib.Core.Logic.{◌↔◌, ⊎_elim}
use native.Mathlib.Nat.{le_of_suc-le-suc}
use native.Mathlib.Omega.{arith}
use borrow.Author.Tests.{eqb-true}
use lib.ListN.{length, get_or}
use lib.Dec.{eqb}
use Rattle.partition.specs.Assignment.{among}
use Rattle.partition.specs.Shares.{distinct}
use Rattle.partition.proofs.Lists.{not-both, or_cases, every-get_or, every-among, distinct-parts}
use Rattle.causes.specs.Meaning.{Numbered}

-- intermediate: places in a list

entry-among : (es : List ℕ) (i : ℕ) → i < length es → among es (get_or es i 0) ≡ true
entry-among es i h = every-get_or (among es) es 0 i (every-among es) h

place_in : (es : List ℕ) (e : ℕ) → among es e ≡ true → (i : ℕ) × (i < length es) × (get_or es i 0 ≡ e)
unfolding among
place_in [] e h = absurd (false≢true h)
place_in (d ∷ es) e h =
    ⊎_elim
    (λ q. (0, omega arith, eqb-true d e q))
    (λ q. let (i, l, s) = place_in es e q in (suc i, suc-le-suc l, s))
    (or_cases (eqb d e) (among es e) h)

only-place : (es : List ℕ) → distinct es ≡ true → (i j : ℕ) → i < length es → j < length es → get_or es i 0 ≡ get_or es j 0 → i ≡ j
only-place [] d i j h k s = absurd (omega arith)
only-place (e ∷ es) d zero zero h k s = refl
only-place (e ∷ es) d zero (suc j) h k s =
    absurd (not-both (subst (λ (a : ℕ). among es a ≡ true) (sym s) (entry-among es j (le_of_suc-le-suc k))) (distinct-parts e es d).0)
only-place (e ∷ es) d (suc i) zero h k s =
    absurd (not-both (subst (λ (a : ℕ). among es a ≡ true) s (entry-among es i (le_of_suc-le-suc h))) (distinct-parts e es d).0)
only-place (e ∷ es) d (suc i) (suc j) h k s =
    ap suc (only-place es (distinct-parts e es d).1 i j (le_of_suc-le-suc h) (le_of_suc-le-suc k) s)

-- main

pub numbered-by : (es : List ℕ) → distinct es ≡ true → (E : ℕ → Type 0) → ((e : ℕ) → (among es e ≡ true) ↔ E e) → Numbered E (length es)
numbered-by es d E says = record {
  engine = λ i. get_or es i 0;
  is_one = λ i h. (says (get_or es i 0)).0 (entry-among es i h);
  once = λ i j h k s. only-place es d i j h k s;
  all = λ e h. place_in es e ((says e).1 h);
}

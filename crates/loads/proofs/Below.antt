-- Loads as lists of counts, one below another. `Below x y` is the order `within` with equal lengths as data: an argument by cases on it has half the clauses.
use Prim.Native.Nat.{ℕ, suc, ◌≤◌}
use mathlib.Core.Path.{◌≡◌, refl, ap}
use mathlib.Core.List.{List, [], ◌∷◌}
use mathlib.Core.Bool.{true}
use native.Mathlib.Nat.{le_refl, le_trans, suc_inj, sub-le, le-add_right}
use native.Mathlib.Omega.{arith}
use borrow.Author.Tests.{leb-true, le-leb}
use lib.ListN.{length}
use lib.Dec.{leb}
use Rattle.system.proofs.Laws.{and_parts, and_both}
use Rattle.loads.specs.Load.{within, plus, less}

pub cons-path : {A : Type 0} {x y : A} {xs ys : List A} → x ≡ y → xs ≡ ys → ◌≡◌ {A = List A} (x ∷ xs) (y ∷ ys)
cons-path p q = λ i. p i ∷ q i

-- two loads of as many types, no count of the first above that of the second
pub data Below : List ℕ → List ℕ → Type 0 where
  none : Below [] []
  more : {x y : ℕ} {xs ys : List ℕ} → x ≤ y → Below xs ys → Below (x ∷ xs) (y ∷ ys)

pub within→below : (x y : List ℕ) → length x ≡ length y → within x y ≡ true → Below x y
unfolding within
within→below [] [] l h = none
within→below [] (y ∷ ys) l h = absurd (omega arith)
within→below (x ∷ xs) [] l h = absurd (omega arith)
within→below (x ∷ xs) (y ∷ ys) l h =
    let b = and_parts (leb x y) (within xs ys) h in
    more (leb-true x y b.0) (within→below xs ys (suc_inj l) b.1)

pub below→within : {x y : List ℕ} → Below x y → within x y ≡ true
unfolding within
below→within none = refl
below→within (more {x = a} {y = b} h r) = and_both (leb a b) _ (le-leb a b h) (below→within r)

pub below_length : {x y : List ℕ} → Below x y → length x ≡ length y
below_length none = refl
below_length (more h r) = ap suc (below_length r)

pub below-refl : (x : List ℕ) → Below x x
below-refl [] = none
below-refl (a ∷ x) = more (le_refl a) (below-refl x)

pub below-trans : {x y z : List ℕ} → Below x y → Below y z → Below x z
below-trans none none = none
below-trans (more h r) (more k s) = more (le_trans h k) (below-trans r s)

pub below-plus : (y x : List ℕ) → length y ≡ length x → Below y (plus y x)
unfolding plus
below-plus [] [] l = none
below-plus [] (x ∷ xs) l = absurd (omega arith)
below-plus (y ∷ ys) [] l = absurd (omega arith)
below-plus (y ∷ ys) (x ∷ xs) l = more (le-add_right y x) (below-plus ys xs (suc_inj l))

pub below_less : {x y : List ℕ} → Below x y → Below (less y x) y
unfolding less
below_less none = none
below_less (more {x = a} {y = b} h r) = more (sub-le b a) (below_less r)

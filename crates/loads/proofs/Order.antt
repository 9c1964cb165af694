-- Laws of loads as lists of counts: the order `within`, the sum `plus`, the difference `less`, and `holds_none`.
use Prim.Native.Nat.{ℕ, zero, suc}
use mathlib.Core.Path.{◌≡◌, refl, sym, ap, ◌∙◌}
use mathlib.Core.List.{List, [], ◌∷◌}
use mathlib.Core.Bool.{true}
use native.Mathlib.Nat.{le_trans, suc_inj, add_comm, add_assoc, add-zero, sub-zero}
use native.Mathlib.Omega.{arith}
use borrow.Author.Tests.{leb-true, le-leb, eqb-true}
use lib.ListN.{length, replicate}
use lib.Dec.{leb, eqb}
pub use Rattle.system.proofs.Laws.{and_parts, and_both}
use Rattle.loads.specs.Load.{holds_none, within, plus, less}
pub use Rattle.loads.proofs.Below.{none, more, cons-path, Below, within→below, below→within, below_length, below-refl, below-trans, below-plus, below_less}

pub plus-less-below : {x y : List ℕ} → Below x y → plus x (less y x) ≡ y
unfolding plus less
plus-less-below none = refl
plus-less-below (more h r) = cons-path (omega arith) (plus-less-below r)

-- main: the order

pub within-refl : (x : List ℕ) → within x x ≡ true
within-refl x = below→within (below-refl x)

pub within-trans : (x y z : List ℕ) → within x y ≡ true → within y z ≡ true → within x z ≡ true
unfolding within
within-trans [] y z h k = refl
within-trans (a ∷ x) [] z h k = absurd (mathlib.Core.Bool.false≢true h)
within-trans (a ∷ x) (b ∷ y) [] h k = absurd (mathlib.Core.Bool.false≢true k)
within-trans (a ∷ x) (b ∷ y) (c ∷ z) h k =
    let p = and_parts (leb a b) (within x y) h in
    let q = and_parts (leb b c) (within y z) k in
    and_both (leb a c) (within x z) (le-leb a c (le_trans (leb-true a b p.0) (leb-true b c q.0))) (within-trans x y z p.1 q.1)

-- main: sums

pub length-plus : (x y : List ℕ) → length x ≡ length y → length (plus x y) ≡ length x
length-plus x y l = sym (below_length (below-plus x y l))

pub plus_comm : (x y : List ℕ) → plus x y ≡ plus y x
unfolding plus
plus_comm [] [] = refl
plus_comm [] (y ∷ ys) = refl
plus_comm (x ∷ xs) [] = refl
plus_comm (x ∷ xs) (y ∷ ys) = cons-path (add_comm x y) (plus_comm xs ys)

pub plus_assoc : (x y z : List ℕ) → plus (plus x y) z ≡ plus x (plus y z)
unfolding plus
plus_assoc [] y z = refl
plus_assoc (x ∷ xs) [] z = refl
plus_assoc (x ∷ xs) (y ∷ ys) [] = refl
plus_assoc (x ∷ xs) (y ∷ ys) (z ∷ zs) = cons-path (add_assoc x y z) (plus_assoc xs ys zs)

pub plus-zero : (x : List ℕ) → plus x (replicate (length x) 0) ≡ x
unfolding plus
plus-zero [] = refl
plus-zero (x ∷ xs) = cons-path (add-zero x) (plus-zero xs)

pub zero-plus : (x : List ℕ) → plus (replicate (length x) 0) x ≡ x
zero-plus x = plus_comm (replicate (length x) 0) x ∙ plus-zero x

-- main: differences

pub length-less : (x y : List ℕ) → length x ≡ length y → length (less x y) ≡ length x
unfolding less
length-less [] y l = refl
length-less (x ∷ xs) [] l = absurd (omega arith)
length-less (x ∷ xs) (y ∷ ys) l = ap suc (length-less xs ys (suc_inj l))

pub plus-less : (x y : List ℕ) → length x ≡ length y → within x y ≡ true → plus x (less y x) ≡ y
plus-less x y l h = plus-less-below (within→below x y l h)

pub less-plus : (x y : List ℕ) → length x ≡ length y → less (plus x y) x ≡ y
unfolding less plus
less-plus [] [] l = refl
less-plus [] (y ∷ ys) l = absurd (omega arith)
less-plus (x ∷ xs) [] l = absurd (omega arith)
less-plus (x ∷ xs) (y ∷ ys) l = cons-path (omega arith) (less-plus xs ys (suc_inj l))

pub less_zero : (x : List ℕ) → less x (replicate (length x) 0) ≡ x
unfolding less
less_zero [] = refl
less_zero (x ∷ xs) = cons-path (sub-zero x) (less_zero xs)

-- main: the load without any instance

pub holds_none-zero : (n : ℕ) → holds_none (replicate n 0) ≡ true
unfolding holds_none
holds_none-zero zero = refl
holds_none-zero (suc n) = holds_none-zero n

pub holds_none-is-zero : (x : List ℕ) → holds_none x ≡ true → x ≡ replicate (length x) 0
unfolding holds_none
holds_none-is-zero [] h = refl
holds_none-is-zero (x ∷ xs) h =
    let b = and_parts (eqb x 0) (holds_none xs) h in
    cons-path (eqb-true x 0 b.0) (holds_none-is-zero xs b.1)

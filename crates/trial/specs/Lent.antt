-- What a call answers that two slices are lent to.
use Rattle.std.specs.Prelude.{◌≡◌, ℕ, List}
use Rattle.std.specs.Fn.{Once}
use Rattle.std.specs.Borrow.{MutBor}

-- a call of f at a `&mut` to xs and one to ys may give r
pub record ReturnsOnTwo {F R : Type 0} (g : Once F (MutBor (List ℕ) × (MutBor (List ℕ) × Unit {0})) (R × (MutBor (List ℕ) × (MutBor (List ℕ) × Unit {0}))))
    (f : F) (xs ys : List ℕ) (r : R) : Type 0 where
  pub first : MutBor (List ℕ)
  pub second : MutBor (List ℕ)
  pub shows : (first.now ≡ xs) × (second.now ≡ ys)
  pub left : MutBor (List ℕ) × (MutBor (List ℕ) × Unit {0})
  pub met : g.post f (first, (second, tt)) (r, left)

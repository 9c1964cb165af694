-- Columns in Horner's form.
use Prim.Native.Nat.{ℕ, ◌+◌, ◌*◌, ◌<◌}
use mathlib.Core.Path.{◌≡◌}
use mathlib.Core.List.{List, [], ◌∷◌}
use native.Mathlib.Nat.{mul-one, one-mul, mul-add, mul_assoc, mul_comm}
use native.Mathlib.Omega.{arith}
use Rattle.loads.specs.Column.{column_from, column_of}

-- intermediate

pub positive : (n : ℕ) → 0 < n + 1
positive n = omega arith

-- the stride of the first type may be taken out
column_from-stride : (s : ℕ) (ns xs : List ℕ) → column_from s ns xs ≡ s * column_of ns xs
unfolding column_from
column_from-stride s [] xs = omega arith
column_from-stride s (n ∷ ns) [] = omega arith
column_from-stride s (n ∷ ns) (x ∷ xs) =
    rw (column_from-stride (s * (n + 1)) ns xs, column_from-stride (1 * (n + 1)) ns xs)
    (simp (mul-one, one-mul) (rw (mul-add s x ((n + 1) * column_of ns xs), mul_comm x s, mul_assoc s (n + 1) (column_of ns xs))))

-- main: columns in Horner's form

pub column_of-horner : (n x : ℕ) (ns xs : List ℕ) → column_of (n ∷ ns) (x ∷ xs) ≡ x + (n + 1) * column_of ns xs
unfolding column_from
column_of-horner n x ns xs = rw (column_from-stride (1 * (n + 1)) ns xs) (simp (mul-one, one-mul))

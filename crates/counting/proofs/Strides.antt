-- Laws of strides, and of how far the columns go that a sum over columns visits.
use Prim.Native.Nat.{ℕ, zero, suc, ◌+◌, ◌*◌, ◌≤◌, ◌<◌}
use mathlib.Core.Path.{◌≡◌, refl, sym, ap, ◌∙◌}
use mathlib.Core.List.{List, [], ◌∷◌}
use native.Mathlib.Nat.{mul-one, one-mul, mul-zero, zero-mul, mul-add, mul_assoc, mul_left_comm, add-zero, zero-add, le-add_right, mul-le-mul_left, mul-le-mul_right, mul-pos}
use native.Mathlib.Omega.{arith}
use lib.ListN.{length, get_or}
use Rattle.system.specs.Limits.{columns_of}
use Rattle.system.proofs.Laws.{columns_of-pos}
use Rattle.loads.specs.Column.{column_from, column_of}
use Rattle.loads.proofs.Column.{column_of-horner}
use Rattle.counting.specs.Tally.{stride_at}
use Rattle.counting.specs.Reach.{reach_of}

-- main: strides

pub stride_at-zero : (ns : List ℕ) → stride_at ns 0 ≡ 1
unfolding stride_at
stride_at-zero ns = refl

-- "stride(t+1) = stride(t) × (n(t)+1)"
pub stride_at-suc : (ns : List ℕ) (t : ℕ) → stride_at ns (suc t) ≡ stride_at ns t * (get_or ns t 0 + 1)
unfolding stride_at
stride_at-suc [] zero = refl
stride_at-suc [] (suc t) = refl
stride_at-suc (n ∷ ns) zero = mul-one (n + 1) ∙ sym (one-mul (n + 1))
stride_at-suc (n ∷ ns) (suc t) = ap (λ (a : ℕ). (n + 1) * a) (stride_at-suc ns t) ∙ sym (mul_assoc (n + 1) (stride_at ns t) (get_or ns t 0 + 1))

pub stride_at-pos : (ns : List ℕ) (t : ℕ) → 0 < stride_at ns t
unfolding stride_at
stride_at-pos ns zero = omega arith
stride_at-pos [] (suc t) = omega arith
stride_at-pos (n ∷ ns) (suc t) = mul-pos (omega arith) (stride_at-pos ns t)

-- past the last type the stride is the number of columns, and no stride is above
pub stride_at-length : (ns : List ℕ) → stride_at ns (length ns) ≡ columns_of ns
unfolding stride_at columns_of
stride_at-length [] = refl
stride_at-length (n ∷ ns) = ap (λ (a : ℕ). (n + 1) * a) (stride_at-length ns)

pub stride_at-le : (ns : List ℕ) (t : ℕ) → stride_at ns t ≤ columns_of ns
unfolding stride_at columns_of
stride_at-le ns zero = columns_of-pos ns
stride_at-le [] (suc t) = omega arith
stride_at-le (n ∷ ns) (suc t) = mul-le-mul_left (n + 1) (stride_at-le ns t)

-- main: the column as a sum over the types

reach_of-none : (ns : List ℕ) (t : ℕ) → reach_of ns [] t ≡ 0
unfolding reach_of
reach_of-none ns zero = refl
reach_of-none ns (suc t) = rw (reach_of-none ns t) (zero-add (0 * stride_at ns t) ∙ zero-mul (stride_at ns t))

reach_of-horner : (n a : ℕ) (ns x : List ℕ) (t : ℕ) → reach_of (n ∷ ns) (a ∷ x) (suc t) ≡ a + (n + 1) * reach_of ns x t
unfolding reach_of stride_at
reach_of-horner n a ns x zero = rw (mul-one a, mul-zero (n + 1)) (omega arith)
reach_of-horner n a ns x (suc t) =
    rw (reach_of-horner n a ns x t, mul_left_comm (get_or x t 0) (n + 1) (stride_at ns t), mul-add (n + 1) (reach_of ns x t) (get_or x t 0 * stride_at ns t))
    (omega arith)

-- document 01's column is the sum of count(t) × stride(t): all of the load
pub reach_of-column : (ns x : List ℕ) → reach_of ns x (length ns) ≡ column_of ns x
unfolding column_from
reach_of-column [] x = unfold reach_of in refl
reach_of-column (n ∷ ns) [] = reach_of-none (n ∷ ns) (suc (length ns))
reach_of-column (n ∷ ns) (a ∷ x) =
    reach_of-horner n a ns x (length ns)
    ∙ ap (λ (c : ℕ). a + (n + 1) * c) (reach_of-column ns x)
    ∙ sym (column_of-horner n a ns x)

-- main: one type chosen leaves every column in reach

pub reach_step : (ns x : List ℕ) (t p j : ℕ) → j ≤ get_or x t 0 → (p + j * stride_at ns t) + reach_of ns x t ≤ p + reach_of ns x (suc t)
unfolding reach_of
reach_step ns x t p j h = omega (arith, mul-le-mul_right (stride_at ns t) h)

-- with all types chosen, the column itself
pub reach-none : (ns x : List ℕ) (p : ℕ) → p + reach_of ns x 0 ≡ p
unfolding reach_of
reach-none ns x p = add-zero p

pub reach-rises : (ns x : List ℕ) (t : ℕ) → reach_of ns x t ≤ reach_of ns x (suc t)
unfolding reach_of
reach-rises ns x t = le-add_right (reach_of ns x t) (get_or x t 0 * stride_at ns t)

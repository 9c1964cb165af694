-- Laws of the sum f 0 + f 1 + ..: term by term, its first term, its last ones where they are 0, a factor taken out, and the sum in blocks.
use Prim.Native.Nat.{ℕ, zero, suc, ◌+◌, ◌*◌, ◌≤◌, ◌<◌}
use mathlib.Core.Path.{◌≡◌, refl, sym, ap}
use mathlib.Core.Logic.{⊎_elim}
use native.Mathlib.Nat.{add-zero, add-suc, add_comm, mul-zero, zero-mul, mul-suc, suc-mul, mul-add, eq-or-lt_of_le}
use native.Mathlib.Omega.{arith}
use Rattle.table.specs.Meaning.{sum_below}

-- main: term by term

pub sum_same : (n : ℕ) (f g : ℕ → ℕ) → ((i : ℕ) → i < n → f i ≡ g i) → sum_below n f ≡ sum_below n g
unfolding sum_below
sum_same zero f g h = refl
sum_same (suc n) f g h = omega (arith, sum_same n f g (λ i l. h i (omega arith)), h n (omega arith))

pub sum-le : (n : ℕ) (f g : ℕ → ℕ) → ((i : ℕ) → i < n → f i ≤ g i) → sum_below n f ≤ sum_below n g
unfolding sum_below
sum-le zero f g h = omega arith
sum-le (suc n) f g h = omega (arith, sum-le n f g (λ i l. h i (omega arith)), h n (omega arith))

pub sum-constant : (n a : ℕ) → sum_below n (λ (i : ℕ). a) ≡ n * a
unfolding sum_below
sum-constant zero a = sym (zero-mul a)
sum-constant (suc n) a = omega (arith, sum-constant n a, suc-mul n a)

-- main: a factor

pub sum-times : (n a : ℕ) (f : ℕ → ℕ) → sum_below n (λ (i : ℕ). a * f i) ≡ a * sum_below n f
unfolding sum_below
sum-times zero a f = sym (mul-zero a)
sum-times (suc n) a f = omega (arith, sum-times n a f, mul-add a (sum_below n f) (f n))

-- main: more terms

pub sum_more : (m n : ℕ) (f : ℕ → ℕ) → m ≤ n → sum_below m f ≤ sum_below n f
unfolding sum_below
sum_more zero n f h = omega arith
sum_more (suc m) zero f h = absurd (omega arith)
sum_more (suc m) (suc n) f h =
    ⊎_elim
    (λ (e : m ≡ n). rw e (omega arith))
    (λ (l : m < n). omega (arith, sum_more (suc m) n f l))
    (eq-or-lt_of_le {n = m} {m = n} (omega arith))

-- terms that are 0 may be left out at the end
pub sum-cut : (m n : ℕ) (f : ℕ → ℕ) → m ≤ n → ((i : ℕ) → m ≤ i → i < n → f i ≡ 0) → sum_below n f ≡ sum_below m f
unfolding sum_below
sum-cut zero zero f h z = refl
sum-cut (suc m) zero f h z = absurd (omega arith)
sum-cut m (suc n) f h z =
    ⊎_elim
    (λ (e : m ≡ suc n). rw e)
    (λ (l : m < suc n). omega (arith, sum-cut m n f (omega arith) (λ i from to. z i from (omega arith)), z n (omega arith) (omega arith)))
    (eq-or-lt_of_le h)

pub sum_first : (n : ℕ) (f : ℕ → ℕ) → sum_below (suc n) f ≡ f 0 + sum_below n (λ (i : ℕ). f (suc i))
unfolding sum_below
sum_first zero f = omega arith
sum_first (suc n) f = omega (arith, sum_first n f)

pub sum-add : (m n : ℕ) (f : ℕ → ℕ) → sum_below (m + n) f ≡ sum_below m f + sum_below n (λ (i : ℕ). f (m + i))
unfolding sum_below
sum-add m zero f = rw (add-zero m) (omega arith)
sum-add m (suc n) f = rw (add-suc m n) (omega (arith, sum-add m n f))

-- main: m blocks of k terms

pub sum-blocks : (k m : ℕ) (f : ℕ → ℕ) → sum_below (k * m) f ≡ sum_below m (λ (r : ℕ). sum_below k (λ (j : ℕ). f (j + k * r)))
unfolding sum_below
sum-blocks k zero f = rw (mul-zero k)
sum-blocks k (suc m) f =
    rw (mul-suc k m)
    (omega (
      arith,
      sum-add (k * m) k f,
      sum-blocks k m f,
      sum_same k (λ (j : ℕ). f (k * m + j)) (λ (j : ℕ). f (j + k * m)) (λ j l. ap f (add_comm (k * m) j)),
    ))

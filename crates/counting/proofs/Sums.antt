-- Laws of sums over 0 to n.
use Prim.Native.Nat.{ℕ, zero, suc, ◌+◌, ◌*◌, ◌≤◌}
use mathlib.Core.Path.{◌≡◌, refl, sym, ap, subst, ◌∙◌}
use mathlib.Core.Logic.{⊎_elim}
use native.Mathlib.Nat.{zero-add, add-zero, add_assoc, mul-add, mul_left_comm}
use native.Mathlib.Nat.{le_refl, le_trans, le_step, le-add_right, le-add_left, add-le-add, le-suc_iff}
use native.Mathlib.Omega.{arith}
use Rattle.counting.specs.Tally.{sum_to}

-- main: equal terms, sums of sums, and a factor

pub sum_to-equal : (n : ℕ) (f g : ℕ → ℕ) → ((j : ℕ) → j ≤ n → f j ≡ g j) → sum_to n f ≡ sum_to n g
unfolding sum_to
sum_to-equal zero f g e = e 0 (le_refl 0)
sum_to-equal (suc n) f g e = rw (sum_to-equal n f g (λ j h. e j (le_step h)), e (suc n) (le_refl (suc n)))

pub sum_to-zero : (n : ℕ) → sum_to n (λ (j : ℕ). 0) ≡ 0
unfolding sum_to
sum_to-zero zero = refl
sum_to-zero (suc n) = rw (sum_to-zero n)

pub sum_to-add : (n : ℕ) (f g : ℕ → ℕ) → sum_to n (λ (j : ℕ). f j + g j) ≡ sum_to n f + sum_to n g
unfolding sum_to
sum_to-add zero f g = refl
sum_to-add (suc n) f g = rw (sum_to-add n f g) (omega arith)

pub sum_to-times : (n k : ℕ) (f : ℕ → ℕ) → sum_to n (λ (j : ℕ). k * f j) ≡ k * sum_to n f
unfolding sum_to
sum_to-times zero k f = refl
sum_to-times (suc n) k f = rw (sum_to-times n k f) (sym (mul-add k (sum_to n f) (f (suc n))))

pub sum_to-swap : (n m : ℕ) (g : ℕ → ℕ → ℕ) → sum_to n (λ (i : ℕ). sum_to m (λ (j : ℕ). g i j)) ≡ sum_to m (λ (j : ℕ). sum_to n (λ (i : ℕ). g i j))
unfolding sum_to
sum_to-swap zero m g = refl
sum_to-swap (suc n) m g =
    ap (λ (a : ℕ). a + sum_to m (g (suc n))) (sum_to-swap n m g)
    ∙ sym (sum_to-add m (λ (j : ℕ). sum_to n (λ (i : ℕ). g i j)) (g (suc n)))

-- the same where every term has a factor for each of the two
pub sum_to-swap-times : (n m : ℕ) (u v : ℕ → ℕ) (g : ℕ → ℕ → ℕ) → sum_to n (λ (i : ℕ). u i * sum_to m (λ (j : ℕ). v j * g i j)) ≡ sum_to m (λ (j : ℕ). v j * sum_to n (λ (i : ℕ). u i * g i j))
sum_to-swap-times n m u v g =
    sum_to-equal n (λ (i : ℕ). u i * sum_to m (λ (j : ℕ). v j * g i j)) (λ (i : ℕ). sum_to m (λ (j : ℕ). u i * (v j * g i j)))
    (λ i h. sym (sum_to-times m (u i) (λ (j : ℕ). v j * g i j)))
    ∙ sum_to-swap n m (λ (i j : ℕ). u i * (v j * g i j))
    ∙ sum_to-equal m (λ (j : ℕ). sum_to n (λ (i : ℕ). u i * (v j * g i j))) (λ (j : ℕ). v j * sum_to n (λ (i : ℕ). u i * g i j))
    (λ j h.
    sum_to-equal n (λ (i : ℕ). u i * (v j * g i j)) (λ (i : ℕ). v j * (u i * g i j)) (λ i k. mul_left_comm (u i) (v j) (g i j))
    ∙ sum_to-times n (v j) (λ (i : ℕ). u i * g i j))

-- the first term apart
pub sum_to-front : (n : ℕ) (f : ℕ → ℕ) → sum_to (suc n) f ≡ f 0 + sum_to n (λ (j : ℕ). f (suc j))
unfolding sum_to
sum_to-front zero f = refl
sum_to-front (suc n) f =
    ap (λ (a : ℕ). a + f (suc (suc n))) (sum_to-front n f)
    ∙ add_assoc (f 0) (sum_to n (λ (j : ℕ). f (suc j))) (f (suc (suc n)))

-- a last term that is 0
pub sum_to-last : (n : ℕ) (f : ℕ → ℕ) → f (suc n) ≡ 0 → sum_to (suc n) f ≡ sum_to n f
unfolding sum_to
sum_to-last n f e = rw e (add-zero (sum_to n f))

-- main: order

pub sum_to-rises : (k n : ℕ) (f : ℕ → ℕ) → k ≤ n → sum_to k f ≤ sum_to n f
unfolding sum_to
sum_to-rises k zero f h = let e : k ≡ 0 = omega arith in rw e (le_refl (f 0))
sum_to-rises k (suc n) f h =
    ⊎_elim (λ l. le_trans (sum_to-rises k n f l) (le-add_right (sum_to n f) (f (suc n)))) (λ e. rw e (le_refl (sum_to (suc n) f))) (le-suc_iff.0 h)

pub term-le-sum_to : (j n : ℕ) (f : ℕ → ℕ) → j ≤ n → f j ≤ sum_to n f
unfolding sum_to
term-le-sum_to zero n f h = sum_to-rises 0 n f h
term-le-sum_to (suc j) n f h = le_trans (le-add_left (f (suc j)) (sum_to j f)) (sum_to-rises (suc j) n f h)

pub sum_to-monotone : (n : ℕ) (f g : ℕ → ℕ) → ((j : ℕ) → j ≤ n → f j ≤ g j) → sum_to n f ≤ sum_to n g
unfolding sum_to
sum_to-monotone zero f g h = h 0 (le_refl 0)
sum_to-monotone (suc n) f g h = add-le-add (sum_to-monotone n f g (λ j l. h j (le_step l))) (h (suc n) (le_refl (suc n)))

-- main: as a loop adds up

-- the sum of the first k terms
unfoldable pub first_terms : ℕ → (ℕ → ℕ) → ℕ
first_terms zero f = 0
first_terms (suc k) f = first_terms k f + f k

pub first_terms-all : (n : ℕ) (f : ℕ → ℕ) → first_terms (suc n) f ≡ sum_to n f
unfolding first_terms sum_to
first_terms-all zero f = zero-add (f 0)
first_terms-all (suc n) f = ap (λ (a : ℕ). a + f (suc n)) (first_terms-all n f)

-- one term more is at most the whole
pub first_terms-more : (k n : ℕ) (f : ℕ → ℕ) → k ≤ n → first_terms k f + f k ≤ sum_to n f
unfolding first_terms
first_terms-more k n f h = subst (λ (a : ℕ). a ≤ sum_to n f) (sym (first_terms-all k f)) (sum_to-rises k n f h)

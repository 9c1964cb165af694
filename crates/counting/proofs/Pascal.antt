-- Laws of the ways to choose x of n: Pascal's rule, bounds, the triangle as a list of rows of 64, and the sum over what is chosen of n + 1.
use Prim.Native.Nat.{ℕ, zero, suc, ◌+◌, ◌-◌, ◌*◌, ◌^◌, ◌/◌, ◌%◌, ◌≤◌, ◌<◌}
use mathlib.Core.Path.{◌≡◌, refl, sym, ap, ◌∙◌}
use native.Mathlib.Nat.{zero-add, add-mul, one-mul, zero-mul, sub-zero, suc-sub-suc, le_refl, le_of_suc-le-suc, add-le-add, one-le-pow, two-pow-succ}
use native.Mathlib.Nat.{mod-lt, mod-eq_of_lt, div-eq_of_lt, mod-add-div, add-mul-mod_self_left, add-mul-div_left, div-lt_iff_lt-mul}
use native.Mathlib.Omega.{arith}
use Rattle.counting.specs.Tally.{sum_to, choose}
use Rattle.counting.proofs.Sums.{sum_to-equal, sum_to-add, sum_to-front, sum_to-last}

-- main: ways to choose

pub choose-none : (n : ℕ) → choose n 0 ≡ 1
unfolding choose
choose-none zero = refl
choose-none (suc n) = refl

-- Pascal's rule
pub choose-suc : (n x : ℕ) → choose (suc n) (suc x) ≡ choose n (suc x) + choose n x
unfolding choose
choose-suc n x = refl

pub choose-past : (n x : ℕ) → n < x → choose n x ≡ 0
unfolding choose
choose-past zero zero h = absurd (omega arith)
choose-past zero (suc x) h = refl
choose-past (suc n) zero h = absurd (omega arith)
choose-past (suc n) (suc x) h = rw (choose-past n (suc x) (omega arith), choose-past n x (le_of_suc-le-suc h))

pub choose-all : (n : ℕ) → choose n n ≡ 1
unfolding choose
choose-all zero = refl
choose-all (suc n) = rw (choose-past n (suc n) (le_refl (suc n)), choose-all n)

pub choose-pos : (n x : ℕ) → x ≤ n → 1 ≤ choose n x
unfolding choose
choose-pos zero zero h = le_refl 1
choose-pos zero (suc x) h = absurd (omega arith)
choose-pos (suc n) zero h = le_refl 1
choose-pos (suc n) (suc x) h = omega (arith, choose-pos n x (le_of_suc-le-suc h))

-- a number of 64 bits, for n below 64
pub choose-le-pow : (n x : ℕ) → choose n x ≤ 2 ^ n
unfolding choose
choose-le-pow zero zero = le_refl 1
choose-le-pow zero (suc x) = omega arith
choose-le-pow (suc n) zero = one-le-pow (suc n) 2 (omega arith)
choose-le-pow (suc n) (suc x) = rw (two-pow-succ n) (add-le-add (choose-le-pow n (suc x)) (choose-le-pow n x))

-- main: the triangle in rows of 64, entry 64 × n + x

pub entry-digits : (n x : ℕ) → x < 64 → choose ((x + 64 * n) / 64) ((x + 64 * n) % 64) ≡ choose n x
entry-digits n x h = rw (add-mul-mod_self_left x 64 n, add-mul-div_left x n {y = 64} (omega arith), mod-eq_of_lt h, div-eq_of_lt h, zero-add n)

entry_of : (i n x : ℕ) → i ≡ x + 64 * n → x < 64 → choose (i / 64) (i % 64) ≡ choose n x
entry_of i n x e h = rw e (entry-digits n x h)

entry-step : (i n x : ℕ) → i ≡ x + 64 * n → x < 64 → n < 64 → 65 ≤ i → choose n x ≡ choose ((i - 64) / 64) ((i - 64) % 64) + choose ((i - 65) / 64) ((i - 65) % 64)
entry-step i zero x e h k l = absurd (omega arith)
entry-step i (suc zero) zero e h k l = absurd (omega arith)
entry-step i (suc (suc n)) zero e h k l =
    rw (entry_of (i - 64) (suc n) 0 (omega arith) (omega arith), entry_of (i - 65) n 63 (omega arith) (omega arith))
    (rw (choose-none (suc (suc n)), choose-none (suc n), choose-past n 63 (omega arith)))
entry-step i (suc n) (suc x) e h k l =
    rw (entry_of (i - 64) n (suc x) (omega arith) (omega arith), entry_of (i - 65) n x (omega arith) (omega arith)) (choose-suc n x)

-- each entry from the second of row 1 on is the sum of the one above it and the one before that
pub entry-sum : (i : ℕ) → 65 ≤ i → i < 4096 → choose (i / 64) (i % 64) ≡ choose ((i - 64) / 64) ((i - 64) % 64) + choose ((i - 65) / 64) ((i - 65) % 64)
entry-sum i h k = entry-step i (i / 64) (i % 64) (sym (mod-add-div i 64)) (mod-lt i (omega arith)) ((div-lt_iff_lt-mul {k = 64} (omega arith)).1 k) h

-- main: the sum over what is chosen of n + 1, by one of them: it is chosen or not

module _ (n : ℕ) (s : ℕ → ℕ → ℕ) where
  -- one is chosen and j others; j + 1 others and not that one; j without that one
  with_it : ℕ → ℕ
  with_it j = choose n j * s (suc j) (n - j)

  later : ℕ → ℕ
  later j = choose n (suc j) * s (suc j) (n - j)

  not-it : ℕ → ℕ
  not-it j = choose n j * s j (suc n - j)

  chosen-first : sum_to (suc n) (λ (j : ℕ). choose (suc n) j * s j (suc n - j)) ≡ s 0 (suc n) + (sum_to n later + sum_to n with_it)
  unfolding later with_it
  chosen-first =
      sum_to-front n (λ (j : ℕ). choose (suc n) j * s j (suc n - j))
      ∙ rw (choose-none (suc n), sub-zero (suc n), one-mul (s 0 (suc n)), ← (sum_to-add n later with_it))
      (ap (λ (a : ℕ). s 0 (suc n) + a) (sum_to-equal n (λ (j : ℕ). choose (suc n) (suc j) * s (suc j) (suc n - suc j)) (λ (j : ℕ). later j + with_it j) term))
    where
      term : (j : ℕ) → j ≤ n → choose (suc n) (suc j) * s (suc j) (suc n - suc j) ≡ choose n (suc j) * s (suc j) (n - j) + choose n j * s (suc j) (n - j)
      term j h = rw (suc-sub-suc n j, choose-suc n j) (add-mul (choose n (suc j)) (choose n j) (s (suc j) (n - j)))

  chosen-without : s 0 (suc n) + sum_to n later ≡ sum_to n not-it
  unfolding later not-it
  chosen-without = sym front ∙ last
    where
      front : sum_to (suc n) not-it ≡ s 0 (suc n) + sum_to n later
      front =
          sum_to-front n not-it
          ∙ rw (choose-none n, sub-zero (suc n), one-mul (s 0 (suc n)))
          (ap (λ (a : ℕ). s 0 (suc n) + a) (sum_to-equal n (λ (j : ℕ). not-it (suc j)) later (λ j h. rw (suc-sub-suc n j))))

      last : sum_to (suc n) not-it ≡ sum_to n not-it
      last = sum_to-last n not-it (rw (choose-past n (suc n) (le_refl (suc n))) (zero-mul (s (suc n) (suc n - suc n))))

  pub chosen-of-suc : sum_to (suc n) (λ (j : ℕ). choose (suc n) j * s j (suc n - j)) ≡ sum_to n (λ (j : ℕ). choose n j * s (suc j) (n - j)) + sum_to n (λ (j : ℕ). choose n j * s j (suc (n - j)))
  unfolding with_it not-it
  chosen-of-suc =
      chosen-first
      ∙ regroup (s 0 (suc n)) (sum_to n later) (sum_to n with_it)
      ∙ ap (λ (a : ℕ). sum_to n with_it + a) (chosen-without ∙ sum_to-equal n not-it (λ (j : ℕ). choose n j * s j (suc (n - j))) less_one)
    where
      regroup : (a b c : ℕ) → a + (b + c) ≡ c + (a + b)
      regroup a b c = omega arith

      less_one : (j : ℕ) → j ≤ n → choose n j * s j (suc n - j) ≡ choose n j * s j (suc (n - j))
      less_one j h = let e : suc n - j ≡ suc (n - j) = omega arith in rw e

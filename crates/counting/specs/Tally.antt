-- The number of good assignments engine by engine, as the code finds it: those of the load x to one engine more are the sum, over what that engine holds,
-- of the ways to choose it times those of the rest. Inner contracts cite this; that the tally is the number of good assignments in their listing is a law
-- (proofs/Tallied).
use Rattle.std.specs.Prelude.{ℕ, zero, suc, ◌+◌, ◌*◌, List, [], ◌∷◌, Bool, cond, get_or}
use Rattle.loads.specs.Load.{holds_none, less}

-- f 0 + f 1 + .. + f n
unfoldable pub sum_to : ℕ → (ℕ → ℕ) → ℕ
sum_to zero f = f 0
sum_to (suc n) f = sum_to n f + f (suc n)

-- how many ways there are to choose x of n
unfoldable pub choose : ℕ → ℕ → ℕ
choose zero zero = 1
choose zero (suc x) = 0
choose (suc n) zero = 1
choose (suc n) (suc x) = choose n (suc x) + choose n x

-- 1 where the test is passed, else 0
abbrev pub bit : Bool → ℕ
bit b = cond b 1 0

-- the sum over all ways to choose, among the instances of x, those that one engine holds: for each load z with no count above x, as often as there are ways
-- to choose it
unfoldable pub over_parts : List ℕ → (List ℕ → ℕ) → ℕ
over_parts [] s = s []
over_parts (n ∷ ν) s = sum_to n (λ (j : ℕ). choose n j * over_parts ν (λ (z : List ℕ). s (j ∷ z)))

-- the number of assignments of the load x to i engines in which what each engine holds passes the test
unfoldable pub tally : (List ℕ → Bool) → ℕ → List ℕ → ℕ
tally f zero x = bit (holds_none x)
tally f (suc i) x = over_parts x (λ (z : List ℕ). bit (f z) * tally f i (less x z))

-- the stride of the type at index t: the product of n + 1 over the types before it
unfoldable pub stride_at : List ℕ → ℕ → ℕ
stride_at ns zero = 1
stride_at [] (suc t) = 1
stride_at (n ∷ ns) (suc t) = (n + 1) * stride_at ns t

-- the same sum over columns, as the code goes: the counts of the types at index t and above are chosen and make up column p; those below it are still to be
-- chosen
unfoldable pub over_columns : List ℕ → List ℕ → ℕ → ℕ → (ℕ → ℕ) → ℕ
over_columns ns x zero p s = s p
over_columns ns x (suc t) p s = sum_to (get_or x t 0) (λ (j : ℕ). choose (get_or x t 0) j * over_columns ns x t (p + j * stride_at ns t) s)

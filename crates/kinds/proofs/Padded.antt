-- Laws of lists in arrays of the code: copying one list behind another, where the places past both hold the same as before.
use Prim.Native.Nat.{ℕ, zero, suc, ◌+◌, ◌-◌, ◌≤◌, ◌<◌}
use mathlib.Core.Path.{◌≡◌, refl, sym, ap, ◌∙◌}
use mathlib.Core.List.{List, [], ◌++◌}
use native.Mathlib.Nat.{add-zero, le_of_suc-le-suc}
use native.Mathlib.Numerals.{add-one}
use native.Mathlib.Omega.{arith}
use lib.ListN.{length, get_or, set, take, drop, replicate, length-append}
use lib.Seq.{paste, paste-suc, take_at, take_all, length-take-le, drop-append-add}
use Rattle.system.specs.Limits.{engine_limit}
use Rattle.partition.specs.Assignment.{numbers_from, engines_to}
use Rattle.partition.specs.Kinds.{engines_after}
use Rattle.partition.proofs.Lists.{length-numbers_from}
use Rattle.kinds.specs.Mixing.{padded}

-- intermediate

same_count : {A : Type 0} (a : A) (m n : ℕ) → m ≡ n → replicate m a ≡ replicate n a
same_count a m n e = ap (λ (k : ℕ). replicate k a) e

pub drop-replicate : {A : Type 0} (n k : ℕ) (a : A) → drop k (replicate n a) ≡ replicate (n - k) a
drop-replicate n zero a = same_count a n (n - 0) (omega arith)
drop-replicate zero (suc k) a = same_count a 0 (0 - suc k) (omega arith)
drop-replicate (suc n) (suc k) a = drop-replicate n k a ∙ same_count a (n - k) (suc n - suc k) (omega arith)

pub get_or-numbers_from : (a n j : ℕ) → j < n → get_or (numbers_from a n) j 0 ≡ a + j
unfolding numbers_from
get_or-numbers_from a zero j h = absurd (omega arith)
get_or-numbers_from a (suc n) zero h = sym (add-zero a)
get_or-numbers_from a (suc n) (suc j) h = get_or-numbers_from (suc a) n j (le_of_suc-le-suc h) ∙ omega arith

-- main: a turn of a loop that copies, as the code counts

pub paste_more : {A : Type 0} (d : List A) (at : ℕ) (s : List A) (i : ℕ) (z : A) → at + i < length d → i < length s → set (paste d at s i) (at + i) (get_or s i z) ≡ paste d at s (i + 1)
paste_more d at s i z inside some = rw (add-one i) (paste-suc d at s i z inside some)

-- main: what is copied right behind a list stands behind it, and the places past both are as they were

pub paste-padded : {A : Type 0} (d : A) (xs s : List A) (at n : ℕ) → length xs ≡ at → at + n ≤ engine_limit → n ≤ length s → paste (padded d xs) at s n ≡ padded d (xs ++ take n s)
paste-padded {A = A} d xs s at n size room enough = rw (take_at xs rest at size, tail)
  where
    rest : List A
    rest = replicate (engine_limit - length xs) d

    tail : drop (at + n) (xs ++ rest) ≡ replicate (engine_limit - length (xs ++ take n s)) d
    tail =
        ap (λ (k : ℕ). drop (k + n) (xs ++ rest)) (sym size)
        ∙ drop-append-add xs rest n
        ∙ drop-replicate (engine_limit - length xs) n d
        ∙ same_count d (engine_limit - length xs - n) (engine_limit - length (xs ++ take n s)) (omega (arith, length-append xs (take n s), length-take-le n s enough))

-- main: the numbers of both kinds, as the code puts them into its array

pub both-numbers : (a b m : ℕ) (front numbers : List ℕ) → a + b ≤ engine_limit → front ≡ paste (replicate engine_limit 0) 0 (numbers_from 1 a) a → numbers ≡ paste front a (numbers_from (m + 1) b) b
    → numbers ≡ padded 0 (engines_to a ++ engines_after m b)
both-numbers a b m front numbers few is_front is_numbers =
    is_numbers ∙ rw (add-one m, front-is) (paste-padded 0 (engines_to a) (numbers_from (suc m) b) a b (length-numbers_from 1 a) few (omega (arith, length-numbers_from (suc m) b)) ∙ rw (whole (suc m) b))
  where
    whole : (k n : ℕ) → take n (numbers_from k n) ≡ numbers_from k n
    whole k n = take_all n (numbers_from k n) (omega (arith, length-numbers_from k n))

    front-is : front ≡ padded 0 (engines_to a)
    front-is = is_front ∙ paste-padded 0 [] (numbers_from 1 a) 0 a refl (omega arith) (omega (arith, length-numbers_from 1 a)) ∙ rw (whole 1 a)

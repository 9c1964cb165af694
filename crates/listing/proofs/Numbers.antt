-- The definition's decimal is a number in decimal: digits that read as it, with no `0` in front.
use Prim.Native.Nat.{ℕ, zero, suc, ◌+◌, ◌-◌, ◌*◌, ◌/◌, ◌%◌, ◌≤◌, ◌<◌}
use mathlib.Core.Path.{◌≡◌, refl, ap, ◌∙◌}
use mathlib.Core.Bool.{Bool, true, false}
use mathlib.Core.List.{List, [], ◌∷◌, ◌++◌, append_assoc, append-nil}
use native.Mathlib.Nat.{le_refl, div-add-mod'}
use native.Mathlib.Omega.{arith}
use lib.Dec.{leb, ltb}
use lib.ListN.{length, get_or, length-append}
use borrow.Author.Tests.{le-leb, ltb-true, ltb-false}
use Rattle.listing.specs.Listing.{digit, decimal_from, decimal}
use Rattle.listing.specs.Demands.{only_digits, value_from, InDecimal}
use Rattle.listing.proofs.Laws.{one-digit, more-digits}

-- a digit in front
digit_value : (n d : ℕ) (text : List ℕ) → value_from n (digit d ∷ text) ≡ value_from (n * 10 + d) text
unfolding value_from
digit_value n d text =
    let value : 48 + d - 48 ≡ d = omega arith in
    rw value

digit-only : (d : ℕ) (text : List ℕ) → d < 10 → only_digits text ≡ true → only_digits (digit d ∷ text) ≡ true
unfolding only_digits
digit-only d text h rest =
    let low : leb 48 (48 + d) ≡ true = le-leb 48 (48 + d) (omega arith) in
    let high : leb (48 + d) 57 ≡ true = le-leb (48 + d) 57 (omega arith) in
    rw (low, high, rest)

-- what is shown of the digits of n, with any text after them
record Spelt (n : ℕ) (digits text : List ℕ) : Type 0 where
  some : 1 ≤ length digits
  only : only_digits text ≡ true → only_digits (digits ++ text) ≡ true
  value : value_from 0 (digits ++ text) ≡ value_from n text
  no_zero : 1 ≤ n → 48 < get_or (digits ++ text) 0 0

spelt-one : (n : ℕ) (text : List ℕ) → n < 10 → Spelt n (digit n ∷ []) text
spelt-one n text h = record {
  some = omega arith;
  only = digit-only n text h;
  value = digit_value 0 n text ∙ ap (λ (v : ℕ). value_from v text) (omega arith);
  no_zero = λ l. omega arith;
}

spelt-from : (f n : ℕ) (text : List ℕ) → n ≤ f → Spelt n (decimal_from f n) text
spelt-from zero n text h =
    let small : n < 10 = omega arith in
    rw (one-digit zero n small) (spelt-one n text small)
spelt-from (suc f) n text h = go (ltb n 10) refl (spelt-from f (n / 10) (digit (n % 10) ∷ text))
  where
    go : (b : Bool) → ltb n 10 ≡ b → (n / 10 ≤ f → Spelt (n / 10) (decimal_from f (n / 10)) (digit (n % 10) ∷ text)) → Spelt n (decimal_from (suc f) n) text
    go true e before =
        let small : n < 10 = ltb-true n 10 e in
        rw (one-digit (suc f) n small) (spelt-one n text small)
    go false e before =
        let large : 10 ≤ n = ltb-false n 10 e in
        let b = before (omega arith) in
        let same : (decimal_from f (n / 10) ++ (digit (n % 10) ∷ [])) ++ text ≡ decimal_from f (n / 10) ++ (digit (n % 10) ∷ text) = append_assoc (decimal_from f (n / 10)) (digit (n % 10) ∷ []) text in
        rw (more-digits f n large) (record {
          some = rw length-append (omega (arith, b.some));
          only = λ rest. rw same (b.only (digit-only (n % 10) text (omega arith) rest));
          value = rw same (b.value ∙ digit_value (n / 10) (n % 10) text ∙ ap (λ (v : ℕ). value_from v text) (div-add-mod' n 10));
          no_zero = λ l. rw same (b.no_zero (omega arith));
        })

-- one digit alone where the number is below 10
pub in-decimal : (n : ℕ) → InDecimal n (decimal n)
in-decimal n =
    let all = spelt-from n n [] (le_refl n) in
    record {
      some = all.some;
      only = rw (append-nil (decimal n)) at (all.only (unfold only_digits in refl));
      value = rw (append-nil (decimal n)) at all.value ∙ unfold value_from in refl;
      no_zero = go (ltb n 10) refl (rw (append-nil (decimal n)) at all.no_zero);
    }
  where
    go : (b : Bool) → ltb n 10 ≡ b → (1 ≤ n → 48 < get_or (decimal n) 0 0) → 1 < length (decimal n) → 48 < get_or (decimal n) 0 0
    go true e first more =
        let one : length (decimal n) ≡ 1 = ap length (one-digit n n (ltb-true n 10 e)) in
        absurd (omega arith)
    go false e first more = first (omega (arith, ltb-false n 10 e))

-- What `io::decimal` spells is the decimal of a listing.
use Prim.Native.Nat.{ℕ, zero, suc, ◌-◌, ◌/◌, ◌%◌, ◌^◌, ◌≤◌, ◌<◌}
use mathlib.Core.Path.{◌≡◌, refl, ap}
use mathlib.Core.Bool.{Bool, true, false}
use mathlib.Core.List.{[], ◌∷◌, ◌++◌}
use native.Mathlib.Nat.{le_refl, mod-eq_of_lt, pow-suc, pow-le-pow_right, one-le-pow}
use native.Mathlib.Omega.{arith}
use native.Mathlib.Numerals.{sub-one}
use lib.Dec.{leb, lit<}
use borrow.Author.Tests.{lt-ltb, leb-true, leb-false}
use Rattle.listing.specs.Listing.{digit, decimal_from, decimal}
use Rattle.listing.specs.Room.{number_room}
use Rattle.io.specs.Digits.{hex_digit_ascii, last_digits, IsDigitCount}
use Rattle.listing.proofs.Laws.{one-digit, more-digits}

glyph-digit : (d : ℕ) → d < 10 → hex_digit_ascii d ≡ digit d
glyph-digit d h = rw (lt-ltb d 10 h)

-- the fewest digits that hold a number are its decimal
decimal_from-digits : (r f n : ℕ) → IsDigitCount 10 1 n r → n ≤ f → last_digits 10 r n ≡ decimal_from f n
decimal_from-digits zero f n (some, below, above) h = absurd (omega arith)
decimal_from-digits (suc zero) f n (some, below, above) h =
    let small : n < 10 = below in
    rw (one-digit f n small, mod-eq_of_lt small) (ap (λ (b : ℕ). b ∷ []) (glyph-digit n small))
decimal_from-digits (suc (suc k)) zero n (some, below, above) h =
    let large : 10 ^ suc k ≤ n = rw (sub-one (suc (suc k))) at above (omega arith) in
    absurd (omega (arith, one-le-pow (suc k) 10 (lit< tt)))
decimal_from-digits (suc (suc k)) (suc f) n (some, below, above) h =
    let large : 10 ^ suc k ≤ n = rw (sub-one (suc (suc k))) at above (omega arith) in
    let fewer : IsDigitCount 10 1 (n / 10) (suc k) = (omega arith, omega (arith, pow-suc 10 (suc k)), λ (more : 1 < suc k). rw (sub-one (suc k)) (omega (arith, pow-suc 10 k))) in
    rw (more-digits f n (omega (arith, pow-suc 10 k, one-le-pow k 10 (lit< tt))), ← decimal_from-digits (suc k) f (n / 10) fewer (omega arith)) (ap (λ (b : ℕ). last_digits 10 (suc k) (n / 10) ++ (b ∷ [])) (glyph-digit (n % 10) (omega arith)))

pub decimal-digits : (r n : ℕ) → IsDigitCount 10 1 n r → last_digits 10 r n ≡ decimal n
decimal-digits r n h = decimal_from-digits r n n h (le_refl n)

-- a number of 64 bits has at most 20 digits
pub decimal-short : (r n : ℕ) → IsDigitCount 10 1 n r → n < 2 ^ 64 → r ≤ number_room
decimal-short r n (some, below, above) h = go (leb r number_room) refl
  where
    go : (b : Bool) → leb r number_room ≡ b → r ≤ number_room
    go true e = leb-true r number_room e
    go false e =
        let long : number_room < r = leb-false r number_room e in
        let more : 10 ^ number_room ≤ 10 ^ (r - 1) = pow-le-pow_right (lit< tt) {i = number_room} {j = r - 1} (omega arith) in
        let large : 10 ^ (r - 1) ≤ n = above (omega arith) in
        absurd (omega arith)

-- Words of a case: how a line is cut into them, the number that one spells, and the value of a hexadecimal digit.
use Rattle.std.specs.Prelude.{◌≡◌, ℕ, ◌-◌, ◌+◌, ◌^◌, ◌<◌, List, ◌&&◌, nat_le, if◌then◌else◌, IsUtf8}
use Rattle.std.specs.List.{before_first, after_first}
use Rattle.std.specs.Str.Parse.{IsNumeral, digits_value, without_leading_plus}

-- the bytes up to the first that is not above a space
abbrev pub first_word : List ℕ → List ℕ
first_word line = before_first (λ b. nat_le b 32) line

-- the bytes after that one, none where there is none
abbrev pub after_word : List ℕ → List ℕ
after_word line = after_first (λ b. nat_le b 32) line

-- n is the number that a word spells in decimal digits, which a plus may stand before, and 0 where it spells none below 2 ^ 64
pub record IsNumberOf (word : List ℕ) (n : ℕ) : Type 0 where
  pub spelled : IsUtf8 word → IsNumeral 10 (without_leading_plus word) → digits_value 10 (without_leading_plus word) < 2 ^ 64 →
      n ≡ digits_value 10 (without_leading_plus word)
  pub other : ¬ (IsNumeral 10 (without_leading_plus word) × (digits_value 10 (without_leading_plus word) < 2 ^ 64)) → n ≡ 0

-- the value of a byte as a hexadecimal digit, of 0 to 9 and a to f; 0 for any other byte
abbrev pub digit_of : ℕ → ℕ
digit_of b =
    if nat_le 48 b && nat_le b 57 then b - 48
    else if nat_le 97 b && nat_le b 102 then b - 97 + 10
    else 0

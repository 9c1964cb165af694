-- What a reader finds in the line that program `tight` writes: its bytes, and the facts that they tell, in the words of counting/specs/Meaning.
-- The bytes stand here a second time, apart from those by which the code is described.
use Rattle.std.specs.Prelude.{ℕ, ◌^◌, ◌≤◌, ◌<◌, List, [], ◌∷◌, ◌++◌, ◌≡◌, ◌↔◌, ◌⊎◌, length, take}
use Rattle.buffer.specs.Written.{Counts, Written}
use Rattle.system.specs.declared.System.{System}
use Rattle.system.specs.Layout.{read_file, opened, unread}
use Rattle.listing.specs.Demands.{InDecimal, TellsRefusal}
use Rattle.listing.specs.Text.{file_text}
use Rattle.counting.specs.Meaning.{instances_out, CountMeans}
use Rattle.tightness.specs.Line.{tight_text}

-- The bytes

-- `good`, a space, a number, ` of `, a number and 0A: both numbers stand in it in decimal
pub record TellsCounts (good total : ℕ) (text : List ℕ) : Type 0 where
  pub good_digits : List ℕ
  pub good_in_decimal : InDecimal good good_digits
  pub total_digits : List ℕ
  pub total_in_decimal : InDecimal total total_digits
  pub bytes : text ≡ 103 ∷ 111 ∷ 111 ∷ 100 ∷ 32 ∷ (good_digits ++ (32 ∷ 111 ∷ 102 ∷ 32 ∷ (total_digits ++ (10 ∷ []))))

-- What they tell

-- of a system: where m to the power N passes 2^64 - 1, and only there, the line is `refused 37`, and no other refusal is told of it.
-- Else the line has two numbers, and it has good and total exactly where these are the numbers of good assignments and of all
pub record TellsAnswer (y : System) (text : List ℕ) : Type 0 where
  pub passes : TellsRefusal 37 text ↔ (18446744073709551615 < y.engines ^ instances_out y)
  pub no_other : (n : ℕ) → TellsRefusal n text → n ≡ 37
  pub else : y.engines ^ instances_out y ≤ 18446744073709551615 → (good total : ℕ) × TellsCounts good total text
  pub counts : (good total : ℕ) → TellsCounts good total text ↔ ((y.engines ^ instances_out y ≤ 18446744073709551615) × CountMeans y good total)

-- of a file: why it does not read, or such a line; a refusal has one of the numbers 1 to 10, 31, 37 and 41 to 43, so never 38;
-- and the file's listing, which program `plan` writes, is `refused 12` exactly where the first number is 0
pub record TellsTight (file text : List ℕ) : Type 0 where
  pub unreadable : (n : ℕ) → read_file file ≡ unread n → TellsRefusal n text
  pub answer : (y : System) → read_file file ≡ opened y → TellsAnswer y text
  pub numbers : (n : ℕ) → TellsRefusal n text → ((1 ≤ n) × (n ≤ 10)) ⊎ ((n ≡ 31) ⊎ ((n ≡ 37) ⊎ ((n ≡ 41) ⊎ ((n ≡ 42) ⊎ (n ≡ 43)))))
  pub refused12 : (y : System) (good total : ℕ) → read_file file ≡ opened y → TellsCounts good total text → TellsRefusal 12 (file_text file) ↔ (good ≡ 0)

-- what the call `tight_of` promises of its result and the buffer
pub record TightPromises (file old new : List ℕ) (r : ℕ) : Type 0 where
  pub written : Written (tight_text file) old new r
  pub tells : TellsTight file (tight_text file)

-- what the call `tight_read` promises: the same of every file, whatever its length, of whose first bytes, as many as `front` has room for, just these were
-- read;
-- request 2026-14: there is room for 384
pub record ReadPromises (front : List ℕ) (read : ℕ) (old new : List ℕ) (r : ℕ) : Type 0 where
  pub size : length front ≡ 384
  pub within : Counts r new
  pub of_file : (file : List ℕ) → take (length front) file ≡ take read front → TightPromises file old new r

-- What a reader finds in what program `make` writes for a text, in the words of making/specs/Meaning. Every number here is a natural number of any size.
-- Which bytes are seven numbers stands here a second time, apart from the definition by which the code is described.
use Rattle.std.specs.Prelude.{ℕ, ◌+◌, ◌^◌, ◌≤◌, ◌<◌, List, [], ◌∷◌, ◌++◌, true, ◌≡◌, ◌↔◌, ◌⊎◌, length, take}
use Rattle.buffer.specs.Written.{Counts, Written}
use Rattle.system.specs.declared.System.{System}
use Rattle.system.specs.Layout.{read_file, opened}
use Rattle.partition.specs.Plain.{LimitsOut}
use Rattle.writer.specs.Meaning.{file_out}
use Rattle.making.specs.declared.Recipe.{Recipe}
use Rattle.making.specs.Meaning.{Made, NumbersWithin, PowerWithin, size_out}
use Rattle.listing.specs.Demands.{only_digits, value_from, TellsRefusal}
use Rattle.recipes.specs.Output.{make_text}

-- The text

-- a number in digits: one or more, and nothing else. Zeros may stand in front
pub record InDigits (n : ℕ) (digits : List ℕ) : Type 0 where
  pub some : 1 ≤ length digits
  pub only : only_digits digits ≡ true
  pub value : value_from 0 digits ≡ n

-- numbers in digits, one space between two, and 0A after the last
pub data Spelt : List ℕ → List ℕ → Type 0 where
  last_one : {n : ℕ} {text : List ℕ} (digits : List ℕ) → InDigits n digits → text ≡ digits ++ (10 ∷ []) → Spelt (n ∷ []) text
  one_more : {n : ℕ} {ns text : List ℕ} (digits rest : List ℕ) → InDigits n digits → Spelt ns rest → text ≡ digits ++ (32 ∷ rest) → Spelt (n ∷ ns) text

-- the order of the seven: seed, m, rule, U, S, k, g
abbrev pub SevenNumbers : Recipe → List ℕ → Type 0
SevenNumbers w text = Spelt (w.seed ∷ w.engines ∷ w.rule ∷ w.timecap ∷ w.memorycap ∷ w.typecount ∷ w.top ∷ []) text

-- What is written for it

-- the bytes of the file of the system that the numbers make, and of no other; and it reads back
pub record FileMade (w : Recipe) (out : List ℕ) : Type 0 where
  pub system : System
  pub made : Made w system
  pub once : (z : System) → Made w z → z ≡ system
  pub limits : LimitsOut system
  pub bytes : out ≡ file_out system
  pub size : length out ≡ size_out w
  pub reads : read_file out ≡ opened system

-- of seven numbers: `refused 39` exactly where one but g breaks its limit, a seed that passes 64 bits too; else `refused 40` exactly where g + 1 to the power
-- k is over 4,096;
-- else the file. No other refusal is told, so never 30
pub record TellsMade (w : Recipe) (out : List ℕ) : Type 0 where
  pub numbers_first : TellsRefusal 39 out ↔ ((NumbersWithin w) × (w.seed < 2 ^ 64) → ⊥)
  pub then_power : NumbersWithin w → w.seed < 2 ^ 64 → TellsRefusal 40 out ↔ (4096 < (w.top + 1) ^ w.typecount)
  pub no_other : (n : ℕ) → TellsRefusal n out → (n ≡ 39) ⊎ (n ≡ 40)
  pub file : NumbersWithin w → w.seed < 2 ^ 64 → PowerWithin w → FileMade w out

-- `not seven numbers` and 0A
abbrev pub says_not_seven : List ℕ
says_not_seven = 110 ∷ 111 ∷ 116 ∷ 32 ∷ 115 ∷ 101 ∷ 118 ∷ 101 ∷ 110 ∷ 32 ∷ 110 ∷ 117 ∷ 109 ∷ 98 ∷ 101 ∷ 114 ∷ 115 ∷ 10 ∷ []

-- of every text: what its seven numbers come to; and `not seven numbers` exactly where it is not seven numbers so written
pub record TellsText (text out : List ℕ) : Type 0 where
  pub seven : (w : Recipe) → SevenNumbers w text → TellsMade w out
  pub not_seven : (out ≡ says_not_seven) ↔ ((w : Recipe) → SevenNumbers w text → ⊥)

-- what the call `make_of` promises of its result and the buffer
pub record RecipePromises (text old new : List ℕ) (r : ℕ) : Type 0 where
  pub written : Written (make_text text) old new r
  pub tells : TellsText text (make_text text)

-- what the call `make_read` promises: the same of every text that is shorter than what there is room for, 384 bytes, and of which just these were read;
-- a text of 384 bytes or more, of whose first 384 just these were read, is told to be not seven numbers, whatever it has. 7 numbers of 20 digits are 147 bytes
pub record ReadPromises (front : List ℕ) (read : ℕ) (old new : List ℕ) (r : ℕ) : Type 0 where
  pub size : length front ≡ 384
  pub within : Counts r new
  pub of_text : (text : List ℕ) → length text < 384 → take (length front) text ≡ take read front → RecipePromises text old new r
  pub too_long : (text : List ℕ) → 384 ≤ length text → take (length front) text ≡ take read front → Written says_not_seven old new r

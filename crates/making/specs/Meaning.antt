-- What the call that makes a file promises, in plain words: the generator bit by bit, the draws of each type, and which numbers are refused.
-- None of these words stands in the definitions by which the code is described, so that code and statement cannot be wrong together.
use Rattle.std.specs.Prelude.{ℕ, suc, ◌+◌, ◌-◌, ◌*◌, ◌/◌, ◌%◌, ◌^◌, ◌≤◌, ◌<◌, List, [], ◌∷◌, ◌++◌, ◌≡◌, ◌↔◌, length, take, drop, None}
use Rattle.system.specs.declared.System.{System}
use Rattle.system.specs.Outcome.{Answer, Source, accepted, refused, from_input, outcome_of}
use Rattle.system.specs.Layout.{read_file, opened}
use Rattle.partition.specs.OwnWords.{no_type}
use Rattle.partition.specs.Plain.{type_no, LimitsOut}
use Rattle.writer.specs.Meaning.{file_out}
use Rattle.making.specs.declared.Recipe.{Recipe}
use Rattle.making.specs.Making.{make_outcome, made_in}

-- The generator

-- bit i of a number, bit 0 being the lowest
abbrev pub bit_of : ℕ → ℕ → ℕ
bit_of x i = x / 2 ^ i % 2

-- z is "x xor (x shifted left n)", "bits past 64 dropped": a bit of x is turned where the one n places below it is 1; where there is none, it stays
pub record XorLeft (n x z : ℕ) : Type 0 where
  pub short : z < 2 ^ 64
  pub low : (i : ℕ) → i < n → bit_of z i ≡ bit_of x i
  pub high : (i : ℕ) → n + i < 64 → bit_of z (n + i) ≡ (bit_of x (n + i) + bit_of x i) % 2

-- z is x "xor its right shift by n": a bit of x is turned where the one n places above it is 1. Past 64 every bit of x is 0
pub record XorRight (n x z : ℕ) : Type 0 where
  pub short : z < 2 ^ 64
  pub bits : (i : ℕ) → i < 64 → bit_of z i ≡ (bit_of x i + bit_of x (n + i)) % 2

-- "x becomes x xor (x shifted left 13), then xor its right shift by 7, then xor its left shift by 17"
pub record Steps (x z : ℕ) : Type 0 where
  pub one : ℕ
  pub two : ℕ
  pub left13 : XorLeft 13 x one
  pub right7 : XorRight 7 one two
  pub left17 : XorLeft 17 two z

-- The system

-- the platform is the recipe's, and each of the types 1 to k has u, s and n by the three values after those of the types before it: "stepping before each draw"
pub record Made (w : Recipe) (y : System) : Type 0 where
  pub value : ℕ → ℕ
  pub starts : value 0 ≡ w.seed
  pub steps : (i : ℕ) → Steps (value i) (value (suc i))
  pub engines : y.engines ≡ w.engines
  pub rule : y.rule ≡ w.rule
  pub timecap : y.timecap ≡ w.timecap
  pub memorycap : y.memorycap ≡ w.memorycap
  pub typecount : y.typecount ≡ w.typecount
  pub times : (t : ℕ) → 1 ≤ t → t ≤ w.typecount → (type_no y t).time ≡ 1 + value (3 * t - 2) % w.timecap
  pub memories : (t : ℕ) → 1 ≤ t → t ≤ w.typecount → (type_no y t).memory ≡ 1 + value (3 * t - 1) % w.memorycap
  pub ceilings : (t : ℕ) → 1 ≤ t → t ≤ w.typecount → (type_no y t).ceiling ≡ value (3 * t) % (w.top + 1)
  -- no d, no q, no C and T, and nothing on a second kind of engine, which there is not
  pub bare : (t : ℕ) → 1 ≤ t → t ≤ w.typecount → ((type_no y t).data ≡ 0) × ((type_no y t).most ≡ None) × ((type_no y t).pace ≡ None) × ((type_no y t).there ≡ None)
  pub second : y.second ≡ None
  pub six : length y.types ≡ 6
  pub past : (t : ℕ) → w.typecount < t → type_no y t ≡ no_type

-- The call

-- 39: the seed is not 0, m is 1 to 16, the rule 0 or 1, U and S are 1 to 1,000,000, and k is 1 to 6
pub record NumbersWithin (w : Recipe) : Type 0 where
  pub seed : 1 ≤ w.seed
  pub engines : (1 ≤ w.engines) × (w.engines ≤ 16)
  pub rule : w.rule ≤ 1
  pub timecap : (1 ≤ w.timecap) × (w.timecap ≤ 1000000)
  pub memorycap : (1 ≤ w.memorycap) × (w.memorycap ≤ 1000000)
  pub typecount : (1 ≤ w.typecount) × (w.typecount ≤ 6)

-- 40
abbrev pub PowerWithin : Recipe → Type 0
PowerWithin w = (w.top + 1) ^ w.typecount ≤ 4096

-- the bytes of the file: 13 for the platform, and 13 for each type
abbrev pub size_out : Recipe → ℕ
size_out w = 13 + 13 * w.typecount

-- an accepted call leaves the file of the system that the recipe makes, which reads back, and then what was there: n is how many bytes it has
pub record Leaves (w : Recipe) (n : ℕ) (old new : List ℕ) : Type 0 where
  pub system : System
  pub made : Made w system
  -- and the recipe makes no other
  pub once : (z : System) → Made w z → z ≡ system
  pub limits : LimitsOut system
  pub size : n ≡ size_out w
  pub reads : read_file (take n new) ≡ opened system
  pub bytes : new ≡ file_out system ++ drop n old

-- what the call promises of its answer and of the buffer that it was lent: "39, when the seed, U or S is 0 or any parameter but g breaks a limit; 40, when
-- (g+1) to the power k exceeds 4,096; in this order, before 30"
pub record MakePromises (w : Recipe) (old new : List ℕ) (r : Answer) : Type 0 where
  pub answers : outcome_of r ≡ make_outcome w (length old)
  pub leaves : new ≡ made_in w old
  pub numbers_first : (outcome_of r ≡ refused from_input 39) ↔ (NumbersWithin w → ⊥)
  pub then_power : NumbersWithin w → (outcome_of r ≡ refused from_input 40) ↔ (4096 < (w.top + 1) ^ w.typecount)
  pub then_room : NumbersWithin w → PowerWithin w → (outcome_of r ≡ refused from_input 30) ↔ (length old < size_out w)
  pub else : NumbersWithin w → PowerWithin w → size_out w ≤ length old → outcome_of r ≡ accepted (size_out w ∷ [])
  -- "The written file always reads back"
  pub writes : (n : ℕ) → outcome_of r ≡ accepted (n ∷ []) → Leaves w n old new
  pub as_lent : (s : Source) (n : ℕ) → outcome_of r ≡ refused s n → new ≡ old

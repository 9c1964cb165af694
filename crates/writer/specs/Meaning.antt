-- What a written system means, in plain words: document 01's layout byte by byte, the limits number by number, and what reads back.
-- None of these words stands in the definitions by which the writer's code is described, so that code and statement cannot be wrong together.
use Rattle.std.specs.Prelude.{ℕ, zero, suc, ◌+◌, ◌*◌, ◌/◌, ◌%◌, ◌≤◌, ◌<◌, List, [], ◌∷◌, ◌++◌, Bool, false, not, cond, ◌&&◌, ◌≡◌, ◌↔◌, length, get_or, take, drop, eqb, Option, None, Some}
use Rattle.system.specs.declared.Kind.{Kind}
use Rattle.system.specs.declared.Costs.{Costs}
use Rattle.system.specs.declared.Cycle.{Cycle}
use Rattle.system.specs.declared.TaskType.{TaskType}
use Rattle.system.specs.declared.System.{System}
use Rattle.system.specs.Outcome.{Answer, Outcome, Source, accepted, refused, from_input, outcome_of}
use Rattle.system.specs.Layout.{read_card, read_file, opened}
use Rattle.partition.specs.OwnWords.{no_type}
use Rattle.partition.specs.Plain.{type_no, ceiling_no, PacesWithin, LimitsOut, SecondWithin, SecondSizes, AllOrNone, CardOut}
use Rattle.writer.specs.Writing.{write_outcome, written_to}

-- The layout

-- "unsigned, most significant byte first": of a number below 65,536, and of one below 4,294,967,296
abbrev pub two_out : ℕ → List ℕ
two_out n = (n / 256) ∷ (n % 256) ∷ []

abbrev pub four_out : ℕ → List ℕ
four_out n = (n / 16777216) ∷ (n / 65536 % 256) ∷ (n / 256 % 256) ∷ (n % 256) ∷ []

-- a platform: tag 1, length 10, m, rule, U, S
abbrev pub platform_out : System → List ℕ
platform_out y = 1 ∷ 0 ∷ 10 ∷ y.engines ∷ y.rule ∷ (four_out y.timecap ++ four_out y.memorycap)

-- d: tag 3, length 4, d. A d of 0 may be left out, and it may be given, as `told` says
abbrev pub data_out : Bool → ℕ → List ℕ
data_out told d = cond (eqb d 0 && not told) [] (3 ∷ 0 ∷ 4 ∷ four_out d)

-- q: tag 4, length 2, q; nothing where it is not given
abbrev pub most_out : Option ℕ → List ℕ
most_out None = []
most_out (Some q) = 4 ∷ 0 ∷ 2 ∷ two_out q

-- request 2026-14: tag 5, length 8, C and T; nothing where they are not given
abbrev pub pace_out : Option Cycle → List ℕ
pace_out None = []
pace_out (Some c) = 5 ∷ 0 ∷ 8 ∷ (four_out c.run ++ four_out c.period)

-- request 2026-13: tag 6, length 9, the second kind's number, U and S; and tag 7, length 8, u and s there; nothing where they are not given
abbrev pub second_out : Option Kind → List ℕ
second_out None = []
second_out (Some k) = 6 ∷ 0 ∷ 9 ∷ k.number ∷ (four_out k.timecap ++ four_out k.memorycap)

abbrev pub costs_out : Option Costs → List ℕ
costs_out None = []
costs_out (Some c) = 7 ∷ 0 ∷ 8 ∷ (four_out c.time ++ four_out c.memory)

-- type t, counted from 1: tag 2, length 10, u, s, n; then its d, its q, its C and T, and last its u and s on the second kind
abbrev pub type_out : Bool → TaskType → List ℕ
type_out told t =
    2 ∷ 0 ∷ 10 ∷ (four_out t.time ++ (four_out t.memory ++ (two_out t.ceiling ++ (data_out told t.data ++ (most_out t.most ++ (pace_out t.pace ++ costs_out t.there))))))

-- types 1 to n, in order of their number; `told t` says whether type t has a tag 3 where its d is 0
unfoldable pub types_out : (ℕ → Bool) → System → ℕ → List ℕ
types_out told y zero = []
types_out told y (suc n) = types_out told y n ++ type_out (told (suc n)) (type_no y (suc n))

-- the files of a system: they differ in the zero tags 3 alone
abbrev pub file_with : (ℕ → Bool) → System → List ℕ
file_with told y = platform_out y ++ (second_out y.second ++ types_out told y y.typecount)

-- its file without a zero tag 3, which is the one that is written
abbrev pub file_out : System → List ℕ
file_out y = file_with (λ (t : ℕ). false) y

-- no zero tag 3 stands in the file that `told` tells
abbrev pub NoZero : (ℕ → Bool) → System → Type 0
NoZero told y = (t : ℕ) → 1 ≤ t → t ≤ y.typecount → (type_no y t).data ≡ 0 → told t ≡ false

-- a list of bytes
abbrev pub IsBytes : List ℕ → Type 0
IsBytes file = (i : ℕ) → get_or file i 0 < 256

-- Both round trips in one: a file is read as y exactly where it is, byte by byte, a file of y, and y keeps the limits, with 0 past k
abbrev pub ReadsExactly : List ℕ → System → Type 0
ReadsExactly file y = (read_file file ≡ opened y) ↔ (((told : ℕ → Bool) × (file ≡ file_with told y)) × LimitsOut y)

-- the same of cards of one kind of engine or two (request 2026-13)
abbrev pub CardExactly : List ℕ → System → Type 0
CardExactly file y = (read_card file ≡ opened y) ↔ (((told : ℕ → Bool) × (file ≡ file_with told y)) × CardOut y)

-- "byte equality holds for files without a zero tag 3", and for no others
abbrev pub ComesBackExactly : (ℕ → Bool) → System → Type 0
ComesBackExactly told y = (file_out y ≡ file_with told y) ↔ NoZero told y

-- some file gives the system
pub record Given (y : System) : Type 0 where
  pub file : List ℕ
  pub bytes : IsBytes file
  pub reads : read_card file ≡ opened y

-- and some file gives it where one kind of engine is wanted, as of a board (refusal 20: "a board whose system no file gives")
pub record GivenOneKind (y : System) : Type 0 where
  pub file : List ℕ
  pub bytes : IsBytes file
  pub reads : read_file file ≡ opened y

-- each q of types 1 to k fits the two bytes of its field, as every q of the code does, which has 16 bits
abbrev pub ReplicasFit : System → Type 0
ReplicasFit y = (t q : ℕ) → 1 ≤ t → t ≤ y.typecount → (type_no y t).most ≡ Some q → q < 65536

-- "reads as itself, types past k, which are not judged, as 0": z is y, but 0 past k
pub record SameToK (y z : System) : Type 0 where
  pub engines : z.engines ≡ y.engines
  pub rule : z.rule ≡ y.rule
  pub timecap : z.timecap ≡ y.timecap
  pub memorycap : z.memorycap ≡ y.memorycap
  pub typecount : z.typecount ≡ y.typecount
  pub six : length z.types ≡ 6
  pub types : (t : ℕ) → 1 ≤ t → t ≤ y.typecount → type_no z t ≡ type_no y t
  pub past : (t : ℕ) → y.typecount < t → type_no z t ≡ no_type
  pub second : z.second ≡ y.second

-- The order of the refusals: each number is said exactly where its row says so and all that stand before it pass

-- 7 and 9: k is 1 to 6. 41: all of a second kind or none. 5: m is 1 to 16, and a second kind has at least 1 engine, both together at most 16.
-- 8: U, S, and u, s and d of types 1 to k are at most 1,000,000, those of a second kind too
abbrev pub CountWithin : System → Type 0
CountWithin y = (1 ≤ y.typecount) × (y.typecount ≤ 6)

abbrev pub EnginesWithin : System → Type 0
EnginesWithin y = (1 ≤ y.engines) × (y.engines ≤ 16) × SecondWithin y

pub record SizesWithin (y : System) : Type 0 where
  pub capacities : (y.timecap ≤ 1000000) × (y.memorycap ≤ 1000000)
  pub costs : (t : ℕ) → 1 ≤ t → t ≤ y.typecount → ((type_no y t).time ≤ 1000000) × ((type_no y t).memory ≤ 1000000) × ((type_no y t).data ≤ 1000000)
  pub second : SecondSizes y

-- 31: no q of types 1 to k is 0
abbrev pub ReplicasWithin : System → Type 0
ReplicasWithin y = (t q : ℕ) → 1 ≤ t → t ≤ y.typecount → (type_no y t).most ≡ Some q → 1 ≤ q

-- 10: the columns of types 1 to n
unfoldable pub columns_to : System → ℕ → ℕ
columns_to y zero = 1
columns_to y (suc n) = columns_to y n * (ceiling_no y (suc n) + 1)

-- every limit that the writer asks: nothing is said of what stands past k
pub record MayBeWritten (y : System) : Type 0 where
  pub count : CountWithin y
  pub kinds : AllOrNone y
  pub engines : EnginesWithin y
  pub rule : y.rule ≤ 1
  pub sizes : SizesWithin y
  pub replicas : ReplicasWithin y
  pub paces : PacesWithin y
  pub columns : columns_to y y.typecount ≤ 4096

pub record WritesInOrder (y : System) (room : ℕ) (o : Outcome) : Type 0 where
  pub seven_first : (o ≡ refused from_input 7) ↔ (6 < y.typecount)
  pub then_nine : y.typecount ≤ 6 → (o ≡ refused from_input 9) ↔ (y.typecount ≡ 0)
  pub then_forty_one : CountWithin y → (o ≡ refused from_input 41) ↔ (AllOrNone y → ⊥)
  pub then_five : CountWithin y → AllOrNone y → (o ≡ refused from_input 5) ↔ (EnginesWithin y → ⊥)
  pub then_six : CountWithin y → AllOrNone y → EnginesWithin y → (o ≡ refused from_input 6) ↔ (1 < y.rule)
  pub then_eight : CountWithin y → AllOrNone y → EnginesWithin y → y.rule ≤ 1 → (o ≡ refused from_input 8) ↔ (SizesWithin y → ⊥)
  pub then_thirty_one : CountWithin y → AllOrNone y → EnginesWithin y → y.rule ≤ 1 → SizesWithin y → (o ≡ refused from_input 31) ↔ (ReplicasWithin y → ⊥)
  pub then_forty_three : CountWithin y → AllOrNone y → EnginesWithin y → y.rule ≤ 1 → SizesWithin y → ReplicasWithin y
      → (o ≡ refused from_input 43) ↔ (PacesWithin y → ⊥)
  pub then_ten : CountWithin y → AllOrNone y → EnginesWithin y → y.rule ≤ 1 → SizesWithin y → ReplicasWithin y → PacesWithin y
      → (o ≡ refused from_input 10) ↔ (4096 < columns_to y y.typecount)
  pub then_thirty : MayBeWritten y → (o ≡ refused from_input 30) ↔ (room < length (file_out y))
  pub or_written : MayBeWritten y → length (file_out y) ≤ room → o ≡ accepted (length (file_out y) ∷ [])

-- What the call `write_system` promises: its answer and the buffer, whole; the order of its refusals; demand 1; the bytes of an accepted system; and both
-- round trips of the buffer
pub record WritePromises (y : System) (old new : List ℕ) (r : Answer) : Type 0 where
  pub answers : outcome_of r ≡ write_outcome y (length old)
  pub leaves : new ≡ written_to y old
  pub order : WritesInOrder y (length old) (outcome_of r)
  pub as_lent : (s : Source) (n : ℕ) → outcome_of r ≡ refused s n → new ≡ old
  pub writes : (n : ℕ) → outcome_of r ≡ accepted (n ∷ []) → (MayBeWritten y) × (n ≡ length (file_out y)) × (new ≡ file_out y ++ drop n old)
  pub reads_back : (n : ℕ) → outcome_of r ≡ accepted (n ∷ []) → (z : System) × (read_card (take n new) ≡ opened z) × SameToK y z × (y.second ≡ None → read_file (take n new) ≡ opened z)
  pub comes_back : (file : List ℕ) (told : ℕ → Bool) → IsBytes file → read_card file ≡ opened y → file ≡ file_with told y → NoZero told y
      → length file ≤ length old
      → (outcome_of r ≡ accepted (length file ∷ [])) × (new ≡ file ++ drop (length file) old)

-- What program `sheet_check` says of a file and a sheet, whatever their lengths: `right`, `right, fewer would do`, or a refusal.
use Rattle.std.specs.Prelude.{ℕ, ◌+◌, ◌*◌, ◌<◌, List, [], ◌∷◌, ◌++◌, Bool, true, cond, ◌≡◌, ◌↔◌, length, get_or, take, drop}
use Rattle.buffer.specs.Written.{Counts, Written}
use Rattle.system.specs.declared.System.{System}
use Rattle.system.specs.Layout.{Reading, read_file, opened, unread}
use Rattle.system.specs.Outcome.{from_input}
use Rattle.partition.specs.Assignment.{Assignment}
use Rattle.partition.specs.Plain.{used_to}
use Rattle.writer.specs.Meaning.{two_out}
use Rattle.planner.specs.declared.EngineRecord.{EngineRecord}
use Rattle.sheets.specs.Checking.{SheetOutcome, right, wrong, judged_sheet, records_check, stated_loads, fewer_do}
use Rattle.sheets.specs.Meaning.{sheet_out, GoodForAll, Stated, Each, SumsAndFit, AddUp}
use Rattle.listing.specs.Listing.{refusal_line}
use Rattle.listing.specs.Demands.{TellsRefusal}

-- the bytes of `right`, or of `right, fewer would do`, and 0A
abbrev pub right_text : Bool → List ℕ
right_text fewer =
    cond fewer
    (114 ∷ 105 ∷ 103 ∷ 104 ∷ 116 ∷ 44 ∷ 32 ∷ 102 ∷ 101 ∷ 119 ∷ 101 ∷ 114 ∷ 32 ∷ 119 ∷ 111 ∷ 117 ∷ 108 ∷ 100 ∷ 32 ∷ 100 ∷ 111 ∷ 10 ∷ [])
    (114 ∷ 105 ∷ 103 ∷ 104 ∷ 116 ∷ 10 ∷ [])

-- the line of what a check answers
abbrev pub line_of : SheetOutcome → List ℕ
line_of (right fewer) = right_text fewer
line_of (wrong s n) = refusal_line n

-- the table is the function's own and long enough, so 11 does not arise: 1 to 10, 31 and 41 to 43, then 32, 33, 34, or right
unfoldable pub reading_check : Reading → List ℕ → SheetOutcome
reading_check (unread n) sheet = wrong from_input n
reading_check (opened y) sheet = judged_sheet (records_check y sheet (stated_loads y sheet)) (fewer_do y sheet)

abbrev pub check_text : List ℕ → List ℕ → List ℕ
check_text file sheet = line_of (reading_check (read_file file) sheet)

-- what a reader finds in it: why the file does not read; `refused 32`, `refused 33`, `refused 34`, each exactly where its check fails and those before it pass;
-- one of the two other lines exactly where the sheet's bytes are those of a good assignment of all instances, and `fewer` exactly where some good assignment
-- uses fewer engines
pub record TellsCheck (file sheet text : List ℕ) : Type 0 where
  pub unreadable : (n : ℕ) → read_file file ≡ unread n → TellsRefusal n text
  pub layout : (y : System) → read_file file ≡ opened y → TellsRefusal 32 text ↔ ((rs : List EngineRecord) → Stated y sheet rs → ⊥)
  pub sums : (y : System) → read_file file ≡ opened y → (rs : List EngineRecord) → Stated y sheet rs → TellsRefusal 33 text ↔ (Each (SumsAndFit y) rs → ⊥)
  pub totals : (y : System) → read_file file ≡ opened y → (rs : List EngineRecord) → Stated y sheet rs → Each (SumsAndFit y) rs
      → TellsRefusal 34 text ↔ (AddUp y rs → ⊥)
  pub exactly : (y : System) → read_file file ≡ opened y → ((fewer : Bool) × (text ≡ right_text fewer)) ↔ ((χ : Assignment) × GoodForAll y χ × (sheet ≡ sheet_out y χ))
  pub fewer : (y : System) (told : Bool) → read_file file ≡ opened y → text ≡ right_text told
      → (told ≡ true) ↔ ((χ : Assignment) × GoodForAll y χ × (used_to y.engines χ < get_or sheet 3 0))

-- what the call `check_of` promises of its result and the buffer
pub record CheckPromises (file sheet old new : List ℕ) (r : ℕ) : Type 0 where
  pub written : Written (check_text file sheet) old new r
  pub tells : TellsCheck file sheet (check_text file sheet)

-- how much of a file, and of a sheet, is handed on
abbrev pub part_bytes : ℕ
part_bytes = 4096

-- a file and a sheet as one input: two bytes with the file's length, the file, the sheet
abbrev pub joined : List ℕ → List ℕ → List ℕ
joined file sheet = two_out (length file) ++ (file ++ sheet)

-- any input taken apart: its first two bytes say how long the file is, a byte that is missing counts as 0; the file is as many of the bytes behind those two,
-- all of them where there are
-- fewer; the sheet is all that is behind the file, to the end, and empty where there is nothing
abbrev pub file_length : List ℕ → ℕ
file_length input = 256 * get_or input 0 0 + get_or input 1 0

abbrev pub file_part : List ℕ → List ℕ
file_part input = take (file_length input) (drop 2 input)

abbrev pub sheet_part : List ℕ → List ℕ
sheet_part input = drop (file_length input) (drop 2 input)

-- what the call `check_joined` promises: of every input, the same of the file and the sheet that it comes apart into, each to its last byte; and the same of
-- every file and every sheet,
-- whatever their lengths, of each of which just the first 4,096 bytes were joined
pub record JoinedPromises (read old new : List ℕ) (r : ℕ) : Type 0 where
  pub within : Counts r new
  pub of_read : CheckPromises (file_part read) (sheet_part read) old new r
  pub of_both : (file sheet : List ℕ) → read ≡ joined (take part_bytes file) (take part_bytes sheet) → CheckPromises file sheet old new r

-- what the call `check_read` promises: the same of what was read; there is room for all that can be joined, two bytes and twice 4,096, so that nothing of it
-- is cut off; and the same of
-- every input, whatever its length, of whose first bytes, as many as `front` has room for, just these were read
pub record ReadBothPromises (front : List ℕ) (read : ℕ) (old new : List ℕ) (r : ℕ) : Type 0 where
  pub size : length front ≡ 8194
  pub joins : JoinedPromises (take read front) old new r
  pub of_input : (input : List ℕ) → take (length front) input ≡ take read front → CheckPromises (file_part input) (sheet_part input) old new r

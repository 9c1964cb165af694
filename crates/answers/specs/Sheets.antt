-- What program `sheet` writes for a file, whatever its length: the sheet of its plan, or the line of a refusal. The two differ in their first byte, 16 or 114.
use Rattle.std.specs.Prelude.{ℕ, List, false, ◌≡◌, ◌↔◌, length, take}
use Rattle.buffer.specs.Written.{Counts, Written}
use Rattle.system.specs.declared.System.{System}
use Rattle.system.specs.Layout.{read_file, opened, unread}
use Rattle.partition.specs.Assignment.{Assignment}
use Rattle.partition.specs.Plain.{ceiling_no, EngineOf, Impossible}
use Rattle.planner.specs.Plan.{Verdict, planned, unplanned}
use Rattle.sheets.specs.Writing.{plan_sheet}
use Rattle.sheets.specs.Meaning.{sheet_out, GoodForAll, GoodOnFewest, OfPlan}
use Rattle.listing.specs.Listing.{refusal_line}
use Rattle.listing.specs.Demands.{TellsRefusal}
use Rattle.listing.specs.Text.{reading_verdict}
use Rattle.answers.specs.Checks.{right_text, check_text}

abbrev pub verdict_sheet : Verdict → List ℕ
verdict_sheet (planned y) = plan_sheet (planned y)
verdict_sheet (unplanned s n) = refusal_line n

-- the table is the function's own and long enough, and so is the buffer: 11 and 30 do not arise. The plan is the one that the file's listing is of
abbrev pub sheet_text : List ℕ → List ℕ
sheet_text file = verdict_sheet (reading_verdict (read_file file))

-- the bytes of the sheet of a good assignment of all instances on the fewest engines
pub record TellsSheet (y : System) (text : List ℕ) : Type 0 where
  pub mapping : Assignment
  pub on_fewest : GoodOnFewest y mapping
  pub bytes : text ≡ sheet_out y mapping

-- what a reader finds: why the file does not read, `refused 12` exactly where there is no good assignment, else such a sheet
pub record TellsPlanned (file text : List ℕ) : Type 0 where
  pub unreadable : (n : ℕ) → read_file file ≡ unread n → TellsRefusal n text
  pub impossible : (y : System) → read_file file ≡ opened y → TellsRefusal 12 text ↔ Impossible y (EngineOf y) (ceiling_no y)
  pub given : (y : System) → read_file file ≡ opened y → (χ : Assignment) → GoodForAll y χ → TellsSheet y text

-- what the call `sheet_of` promises of its result and the buffer; where it is a sheet, the check says `right` of it and no more,
-- and it is that of the plan that `plan_of` gives, as `./plan` lists it (listing/specs/Text, `same_plan`)
pub record SheetPromises (file old new : List ℕ) (r : ℕ) : Type 0 where
  pub written : Written (sheet_text file) old new r
  pub tells : TellsPlanned file (sheet_text file)
  pub is_right : (y : System) → read_file file ≡ opened y → (χ : Assignment) → GoodForAll y χ → check_text file (sheet_text file) ≡ right_text false
  pub same_plan : OfPlan (read_file file) (sheet_text file)

-- what the call `sheet_read` promises: the same of every file, whatever its length, of whose first bytes, as many as `front` has room for, just these were
-- read;
-- request 2026-14: there is room for 384
pub record ReadPromises (front : List ℕ) (read : ℕ) (old new : List ℕ) (r : ℕ) : Type 0 where
  pub size : length front ≡ 384
  pub within : Counts r new
  pub of_file : (file : List ℕ) → take (length front) file ≡ take read front → SheetPromises file old new r

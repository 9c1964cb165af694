-- When a sheet is right: request 2026-06's checks 32, 33 and 34, "in this order, after 11", and what the answer adds.
use Rattle.std.specs.Prelude.{ℕ, List, Bool, ltb, eqb, Result, Ok, Err}
use Rattle.system.specs.declared.System.{System}
use Rattle.system.specs.declared.Refusal.{Refusal}
use Rattle.system.specs.declared.Refusal.TheVariants.{Input, State}
use Rattle.system.specs.Values.{ceilings_of}
use Rattle.system.specs.Layout.{Reading, opened, unread}
use Rattle.system.specs.Outcome.{Source, from_input, from_state, Checked, passes, fails, check, and_then}
use Rattle.loads.specs.declared.EngineLoad.{EngineLoad}
use Rattle.partition.specs.Listing.{same_list}
use Rattle.partition.specs.ForSystem.{row_for}
use Rattle.partition.specs.Lent.{Lent}
use Rattle.table.specs.Table.{table_check, filled}
use Rattle.planner.specs.Plan.{plan_engines, table_left}
use Rattle.board.specs.Boards.{standing_of}
use Rattle.board.specs.Truth.{true_loads}
use Rattle.sheets.specs.Sheet.{used_in, sheet_bytes, loads_in}

-- what a check answers: right, with whether fewer engines would do, or the list that the refusal is from and its number there
pub data SheetOutcome : Type 0 where
  right : Bool → SheetOutcome
  wrong : Source → ℕ → SheetOutcome

abbrev pub wrong_for : Refusal → SheetOutcome
wrong_for (Input n) = wrong from_input n
wrong_for (State n) = wrong from_state n

abbrev pub sheet_outcome_of : Result Bool Refusal → SheetOutcome
sheet_outcome_of (Ok fewer) = right fewer
sheet_outcome_of (Err r) = wrong_for r

-- 32: the sheet is that of the loads, byte for byte
abbrev pub laid_out : ℕ → List ℕ → List EngineLoad → Bool
laid_out k sheet loads = same_list eqb sheet (sheet_bytes k loads)

abbrev pub layout_check : ℕ → List ℕ → List EngineLoad → Checked
layout_check k sheet loads = check (laid_out k sheet loads) from_input 32

-- 33: the stated sums are those of the counts, which fit
abbrev pub summed_up : System → List EngineLoad → Bool
summed_up y loads = true_loads y y.engines loads

abbrev pub sums_check : System → List EngineLoad → Checked
sums_check y loads = check (summed_up y loads) from_input 33

-- 34: the counts of each type add up to n
abbrev pub added_up : System → List EngineLoad → Bool
added_up y loads = same_list eqb (standing_of loads) (ceilings_of y)

abbrev pub totals_check : System → List EngineLoad → Checked
totals_check y loads = check (added_up y loads) from_input 34

unfoldable pub records_check : System → List ℕ → List EngineLoad → Checked
records_check y sheet loads = and_then (layout_check y.typecount sheet loads) (and_then (sums_check y loads) (totals_check y loads))

-- what the sheet states of the engines of a system
abbrev pub stated_loads : System → List ℕ → List EngineLoad
stated_loads y sheet = loads_in y.engines y.typecount sheet

-- 11, 32, 33, 34, of a file that opens
unfoldable pub sheet_check : System → List ℕ → Lent → Checked
sheet_check y sheet table = and_then (table_check y table) (records_check y sheet (stated_loads y sheet))

-- by the cells, all instances can be placed on fewer engines
abbrev pub fewer_do : System → List ℕ → Bool
fewer_do y sheet = ltb (row_for y (plan_engines y) (ceilings_of y)) (used_in (stated_loads y sheet))

abbrev pub judged_sheet : Checked → Bool → SheetOutcome
judged_sheet (fails s n) fewer = wrong s n
judged_sheet passes fewer = right fewer

-- 1 to 10, 31 and 41 to 43 as the file is read, then the checks
abbrev pub check_outcome : Reading → List ℕ → Lent → SheetOutcome
check_outcome (unread n) sheet table = wrong from_input n
check_outcome (opened y) sheet table = judged_sheet (sheet_check y sheet table) (fewer_do y sheet)

-- "filling the table only for one accepted"
abbrev pub check_table : Reading → List ℕ → Lent → Lent
check_table (unread n) sheet table = table
check_table (opened y) sheet table = table_left (sheet_check y sheet table) table (filled y (plan_engines y) table)

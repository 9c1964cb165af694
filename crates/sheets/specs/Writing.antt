-- When a plan is written as a sheet, and what is then lent: "We write our plans so (no list lent; 30 for a short buffer, after 12, the table left filled)".
use Rattle.std.specs.Prelude.{ℕ, List, [], ◌∷◌, ◌++◌, cond, length, drop, ltb}
use Rattle.system.specs.Limits.{engine_limit}
use Rattle.system.specs.Layout.{Reading}
use Rattle.system.specs.Outcome.{Outcome, accepted, refused, from_input}
use Rattle.partition.specs.Lent.{Lent}
use Rattle.planner.specs.Plan.{Verdict, planned, unplanned, verdict_of, planned_types, plan_loads, plan_table}
use Rattle.sheets.specs.Sheet.{sheet_bytes}

-- a plan by value, of one kind of engine: 1 to 10, 31 and 41 to 43, then 11, 12. Its list has room for every engine, so that 15 does not arise
abbrev pub sheet_verdict : Reading → Lent → Verdict
sheet_verdict x table = verdict_of x table engine_limit

-- the sheet of a plan
abbrev pub plan_sheet : Verdict → List ℕ
plan_sheet v = sheet_bytes (planned_types v) (plan_loads v)

-- 30, for a buffer of `room` bytes; "The answer is the number of bytes written"
unfoldable pub write_outcome : Verdict → ℕ → Outcome
write_outcome (unplanned s n) room = refused s n
write_outcome (planned y) room =
    cond (ltb room (length (plan_sheet (planned y)))) (refused from_input 30) (accepted (length (plan_sheet (planned y)) ∷ []))

-- the buffer: the sheet, then what it held; as lent where the call is refused
unfoldable pub written_to : Verdict → List ℕ → List ℕ
written_to (unplanned s n) buffer = buffer
written_to (planned y) buffer =
    cond (ltb (length buffer) (length (plan_sheet (planned y)))) buffer (plan_sheet (planned y) ++ drop (length (plan_sheet (planned y))) buffer)

-- the table: filled by a plan, by 12 and by 30, else as lent
abbrev pub write_table : Reading → Lent → Lent
write_table x table = plan_table x table engine_limit

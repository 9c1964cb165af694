-- Document 01's "Plan": the recovery of n(t) instances of each type, with refusals 1 to 10, 31 and 41 to 43, then 11, 15, 12 in this order.
-- `room` is the length of the lent list; a plan by value has room for every engine that a system can have. Here a file has one kind of engine; `Mixed` has
-- the plan of two.
use Rattle.std.specs.Prelude.{ℕ, suc, List, [], ◌∷◌, ◌++◌, map, take, drop, replicate, leb}
use Rattle.system.specs.declared.System.{System}
use Rattle.system.specs.Values.{ceilings_of}
use Rattle.system.specs.Limits.{engine_limit}
use Rattle.system.specs.Layout.{Reading, opened, unread}
use Rattle.system.specs.Outcome.{Outcome, Source, accepted, refused, from_input, Checked, passes, fails, check, and_then}
use Rattle.loads.specs.declared.EngineLoad.{EngineLoad}
use Rattle.loads.specs.Load.{engine_with, idle_engine}
use Rattle.partition.specs.Assignment.{engines_to}
use Rattle.partition.specs.ForSystem.{row_for, placeable, recovered_for}
use Rattle.partition.specs.Lent.{Lent}
use Rattle.table.specs.Table.{table_check, filled}
use Rattle.planner.specs.declared.EngineRecord.{EngineRecord}

-- the engines that a plan may use: all of the system's
abbrev pub plan_engines : System → List ℕ
plan_engines y = engines_to y.engines

-- 15, for a list of `room` records
abbrev pub list_check : System → ℕ → Checked
list_check y room = check (leb y.engines room) from_input 15

-- 12: by the cells, all instances cannot be placed
abbrev pub place_check : System → Checked
place_check y = check (placeable y (plan_engines y) (ceilings_of y)) from_input 12

-- what is lent is judged before any work: 11, then 15
abbrev pub lent_check : System → Lent → ℕ → Checked
lent_check y table room = and_then (table_check y table) (list_check y room)

-- a system that is planned, or the refusal
pub data Verdict : Type 0 where
  planned : System → Verdict
  unplanned : Source → ℕ → Verdict

-- by the checks of a file that opens
abbrev pub judged : System → Checked → Verdict
judged y passes = planned y
judged y (fails s n) = unplanned s n

-- 1 to 10, 31 and 41 to 43 as the file is read, then 11, 15, 12
unfoldable pub verdict_of : Reading → Lent → ℕ → Verdict
verdict_of (unread n) table room = unplanned from_input n
verdict_of (opened y) table room = judged y (and_then (lent_check y table room) (place_check y))

-- the number of used engines: the lowest yes row
abbrev pub used_engines : Verdict → ℕ
used_engines (planned y) = row_for y (plan_engines y) (ceilings_of y)
used_engines (unplanned s n) = 0

-- "The answer is the number of used engines"
abbrev pub plan_outcome : Verdict → Outcome
plan_outcome (planned y) = accepted (used_engines (planned y) ∷ [])
plan_outcome (unplanned s n) = refused s n

-- the number of types, for the listing
abbrev pub planned_types : Verdict → ℕ
planned_types (planned y) = y.typecount
planned_types (unplanned s n) = 0

-- every engine's load; no engine holds anything where the plan is refused
abbrev pub plan_loads : Verdict → List EngineLoad
plan_loads (planned y) = map (engine_with y) (recovered_for engine_limit y (plan_engines y) (ceilings_of y))
plan_loads (unplanned s n) = replicate engine_limit idle_engine

-- the table where the checks of what is lent refuse, and where they pass
abbrev pub table_left : Checked → Lent → Lent → Lent
table_left (fails s n) lent done = lent
table_left passes lent done = done

-- "The table is left filled": after a plan and after 12; 1 to 10, 31, 41 to 43, 11 and 15 leave it as lent
abbrev pub plan_table : Reading → Lent → ℕ → Lent
plan_table (unread n) table room = table
plan_table (opened y) table room = table_left (lent_check y table room) table (filled y (plan_engines y) table)

-- the record of one engine
abbrev pub record_of : ℕ → EngineLoad → EngineRecord
record_of number load = record { number = number; load = load }

-- the records of engines a, a + 1, ..
unfoldable pub records_from : ℕ → List EngineLoad → List EngineRecord
records_from a [] = []
records_from a (l ∷ ls) = record_of a l ∷ records_from (suc a) ls

-- the records of all engines, which are numbered from 1
abbrev pub records_of : List EngineLoad → List EngineRecord
records_of loads = records_from 1 loads

-- the records of engines with these numbers
unfoldable pub records_with : List ℕ → List EngineLoad → List EngineRecord
records_with [] ls = []
records_with (n ∷ ns) [] = []
records_with (n ∷ ns) (l ∷ ls) = record_of n l ∷ records_with ns ls

-- the lent list: the records of the used engines, then what it held; as lent where the plan is refused
abbrev pub plan_list : Verdict → List EngineRecord → List EngineRecord
plan_list (planned y) list =
    take (used_engines (planned y)) (records_of (plan_loads (planned y))) ++ drop (used_engines (planned y)) list
plan_list (unplanned s n) list = list

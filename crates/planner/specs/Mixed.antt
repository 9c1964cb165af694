-- Request 2026-13, "Cards with two kinds of engine": the plan of such a card, with refusals 11, 15, 12 in this order, and the plan of any card, of one kind
-- or two.
use Rattle.std.specs.Prelude.{ℕ, ◌+◌, List, [], ◌∷◌, ◌++◌, take, drop, replicate, leb}
use Rattle.system.specs.declared.Kind.{Kind}
use Rattle.system.specs.declared.System.{System}
use Rattle.system.specs.Limits.{engine_limit}
use Rattle.system.specs.Card.{Card, plain, mixed, first_of, second_of}
use Rattle.system.specs.Outcome.{Outcome, accepted, refused, from_input, Checked, passes, fails, check, and_then}
use Rattle.loads.specs.declared.EngineLoad.{EngineLoad}
use Rattle.loads.specs.Load.{idle_engine}
use Rattle.partition.specs.Assignment.{engines_to}
use Rattle.partition.specs.Kinds.{mixed_placeable}
use Rattle.partition.specs.Lent.{Lent}
use Rattle.table.specs.Table.{table_check, filled_to}
use Rattle.kinds.specs.declared.Mixed.{Mixed}
use Rattle.kinds.specs.Mixing.{mixed_given}
use Rattle.planner.specs.declared.EngineRecord.{EngineRecord}
use Rattle.planner.specs.Plan.{verdict_of, used_engines, plan_outcome, planned_types, plan_loads, table_left, plan_table, records_with}

-- "15 a list shorter than their number", that of the engines of both kinds
abbrev pub mixed_list_check : System → Kind → ℕ → Checked
mixed_list_check y k room = check (leb (y.engines + k.number) room) from_input 15

-- what is lent is judged before any work: 11, then 15
abbrev pub mixed_lent_check : System → Kind → Lent → ℕ → Checked
mixed_lent_check y k table room = and_then (table_check y table) (mixed_list_check y k room)

-- "12 means no good assignment to the mixed engines"
abbrev pub mixed_place_check : System → Kind → Checked
mixed_place_check y k = check (mixed_placeable (first_of y) (second_of y k)) from_input 12

abbrev pub mixed_checks : System → Kind → Lent → ℕ → Checked
mixed_checks y k table room = and_then (mixed_lent_check y k table room) (mixed_place_check y k)

-- all instances placed on the engines of both kinds, where they can be
abbrev pub mixed_plan : System → Kind → Mixed
mixed_plan y k = mixed_given (first_of y) (second_of y k)

-- the answer, the used engines, the number of types, the used engines' numbers and loads, where the checks say so: a refused plan has what one of one kind has
abbrev pub mixed_outcome : System → Kind → Checked → Outcome
mixed_outcome y k passes = accepted ((mixed_plan y k).used ∷ [])
mixed_outcome y k (fails s n) = refused s n

abbrev pub mixed_used : System → Kind → Checked → ℕ
mixed_used y k passes = (mixed_plan y k).used
mixed_used y k (fails s n) = 0

abbrev pub mixed_types : System → Checked → ℕ
mixed_types y passes = y.typecount
mixed_types y (fails s n) = 0

abbrev pub numbers_mixed : System → Kind → Checked → List ℕ
numbers_mixed y k passes = (mixed_plan y k).numbers
numbers_mixed y k (fails s n) = engines_to engine_limit

abbrev pub loads_mixed : System → Kind → Checked → List EngineLoad
loads_mixed y k passes = (mixed_plan y k).loads
loads_mixed y k (fails s n) = replicate engine_limit idle_engine

-- the table: "free .. the table's first entries, one for each column in each part, after 12 too"; they are left as a fill for the first kind leaves them
abbrev pub mixed_table : System → Kind → Lent → ℕ → Lent
mixed_table y k table room = table_left (mixed_lent_check y k table room) table (filled_to (first_of y) y.engines table)

-- The plan of any card

abbrev pub card_outcome : Card → Lent → ℕ → Outcome
card_outcome (plain x) table room = plan_outcome (verdict_of x table room)
card_outcome (mixed y k) table room = mixed_outcome y k (mixed_checks y k table room)

abbrev pub card_used : Card → Lent → ℕ → ℕ
card_used (plain x) table room = used_engines (verdict_of x table room)
card_used (mixed y k) table room = mixed_used y k (mixed_checks y k table room)

abbrev pub card_types : Card → Lent → ℕ → ℕ
card_types (plain x) table room = planned_types (verdict_of x table room)
card_types (mixed y k) table room = mixed_types y (mixed_checks y k table room)

abbrev pub card_numbers : Card → Lent → ℕ → List ℕ
card_numbers (plain x) table room = engines_to engine_limit
card_numbers (mixed y k) table room = numbers_mixed y k (mixed_checks y k table room)

abbrev pub card_loads : Card → Lent → ℕ → List EngineLoad
card_loads (plain x) table room = plan_loads (verdict_of x table room)
card_loads (mixed y k) table room = loads_mixed y k (mixed_checks y k table room)

abbrev pub card_table : Card → Lent → ℕ → Lent
card_table (plain x) table room = plan_table x table room
card_table (mixed y k) table room = mixed_table y k table room

-- the records of its used engines come first
abbrev pub card_records : Card → Lent → ℕ → List EngineRecord
card_records c table room = records_with (card_numbers c table room) (card_loads c table room)

-- the lent list: these, then what it held. A refused plan has no used engine
abbrev pub card_list : Card → Lent → List EngineRecord → ℕ → List EngineRecord
card_list c table list room = take (card_used c table room) (card_records c table room) ++ drop (card_used c table room) list

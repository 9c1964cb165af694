-- Demands 1 and 2 of the plan, as the contracts of both plan calls cite them. What they say of files that open is in plain arithmetic and in assignments of
-- single instances
-- (partition/specs/Plain; table/specs/Meaning for a filled table), so that no word of a contract can make them true.
use Rattle.std.specs.Prelude.{ℕ, ◌-◌, ◌≤◌, ◌<◌, List, [], ◌∷◌, ◌≡◌, ◌↔◌, length, get_or}
use Rattle.system.specs.declared.System.{System}
use Rattle.system.specs.Outcome.{Answer, Outcome, Source, accepted, refused, from_input, outcome_of}
use Rattle.system.specs.Layout.{Reading, opened, unread}
use Rattle.loads.specs.declared.EngineLoad.{EngineLoad}
use Rattle.partition.specs.Assignment.{Assignment, engines_to}
use Rattle.partition.specs.Lent.{Lent}
use Rattle.partition.specs.OwnWords.{over_instances}
use Rattle.partition.specs.Plain.{ceiling_no, LongEnough, TooShort, EngineOf, places_no, Partition, Impossible, used_to, RecordIs, record_no, HoldsNothing, StandsOnFewest}
use Rattle.table.specs.Meaning.{FilledMeans, RecoveredBy}
use Rattle.planner.specs.declared.Plan.{Plan}
use Rattle.planner.specs.declared.EngineRecord.{EngineRecord}
use Rattle.planner.specs.Plan.{verdict_of, used_engines, plan_outcome, planned_types, plan_loads, plan_table, plan_list}

-- "Plan continues 11, 15, 12": 1 to 10, 31 and 41 to 43 are judged before 11, which is for a part of the table shorter than the columns, and 11 before 15,
-- which is for a list shorter than m.
-- Demand 2 says when it is 12
pub record InOrder (x : Reading) (table : Lent) (room : ℕ) (outcome : Outcome) : Type 0 where
  pub file_first : (n : ℕ) → x ≡ unread n → outcome ≡ refused from_input n
  pub then_table : (y : System) → x ≡ opened y → (outcome ≡ refused from_input 11) ↔ TooShort y table
  pub then_list : (y : System) → x ≡ opened y → LongEnough y table → (outcome ≡ refused from_input 15) ↔ (room < y.engines)

-- Demand 1: a refused plan leaves the table as it was lent, except that 12 leaves it filled; a plan that is given leaves it filled
pub record Demand1 (x : Reading) (table : Lent) (outcome : Outcome) (after : Lent) : Type 0 where
  pub as_lent : (s : Source) (n : ℕ) → outcome ≡ refused s n → (n ≡ 12 → ⊥) → after ≡ table
  pub unread_lent : (n : ℕ) → x ≡ unread n → after ≡ table
  pub filled_on12 : (y : System) (s : Source) → x ≡ opened y → outcome ≡ refused s 12 → FilledMeans y y.engines table after
  pub filled_on_plan : (y : System) (ns : List ℕ) → x ≡ opened y → outcome ≡ accepted ns → FilledMeans y y.engines table after

-- Demand 2, of the answer alone: where the file reads and 11 and 15 pass, a plan is refused 12 exactly when the n(t) instances of each type
-- cannot be partitioned among the engines 1 to m, and where they can it is given
pub record Decides (x : Reading) (table : Lent) (room : ℕ) (outcome : Outcome) : Type 0 where
  pub impossible : (y : System) → x ≡ opened y → LongEnough y table → y.engines ≤ room
      → (outcome ≡ refused from_input 12) ↔ Impossible y (EngineOf y) (ceiling_no y)
  pub answered : (y : System) → x ≡ opened y → LongEnough y table → y.engines ≤ room
      → (χ : Assignment) → Partition y (EngineOf y) (ceiling_no y) χ → (used : ℕ) × (outcome ≡ accepted (used ∷ []))

-- Demand 2: that of the answer (`impossible`, `answered`); and a plan that is given is such a partition on the fewest engines, one load of six counts for each
-- engine that a system can have, and the engines past the answer hold nothing
pub record Demand2 (x : Reading) (table : Lent) (room : ℕ) (outcome : Outcome) (loads : List EngineLoad) : Type 0 where
  pub impossible : (y : System) → x ≡ opened y → LongEnough y table → y.engines ≤ room
      → (outcome ≡ refused from_input 12) ↔ Impossible y (EngineOf y) (ceiling_no y)
  pub answered : (y : System) → x ≡ opened y → LongEnough y table → y.engines ≤ room
      → (χ : Assignment) → Partition y (EngineOf y) (ceiling_no y) χ → (used : ℕ) × (outcome ≡ accepted (used ∷ []))
  pub given : (y : System) (used : ℕ) → x ≡ opened y → outcome ≡ accepted (used ∷ []) → StandsOnFewest y (EngineOf y) (ceiling_no y) loads used
  pub sixteen : length loads ≡ 16
  pub six_counts : (y : System) (used e : ℕ) → x ≡ opened y → outcome ≡ accepted (used ∷ []) → 1 ≤ e → e ≤ 16 → length (record_no loads e).counts ≡ 6
  pub idle_past : (used e : ℕ) → outcome ≡ accepted (used ∷ []) → used < e → HoldsNothing (record_no loads e)

-- "the recovery of n(t) instances of each type", read in the table that the plan leaves: engine e has row e of it
abbrev pub Recovers : Reading → Outcome → List EngineLoad → Lent → Type 0
Recovers x outcome loads after =
    (y : System) (used : ℕ) → x ≡ opened y → outcome ≡ accepted (used ∷ []) → RecoveredBy y after used (ceiling_no y) (λ (e t : ℕ). get_or (record_no loads e).counts (t - 1) 0)

-- what a refused plan hands out: no used engine, no type, the numbers 1 to 16, and 16 loads of six counts, none of which holds anything
pub record HandsOutNothing (r : Plan) : Type 0 where
  pub used : r.used ≡ 0
  pub types : r.typecount ≡ 0
  pub sixteen : (length r.numbers ≡ 16) × (length r.loads ≡ 16)
  pub numbers : (e : ℕ) → 1 ≤ e → e ≤ 16 → get_or r.numbers (e - 1) 0 ≡ e
  pub six_counts : (e : ℕ) → 1 ≤ e → e ≤ 16 → length (record_no r.loads e).counts ≡ 6
  pub loads : (e : ℕ) → HoldsNothing (record_no r.loads e)

-- what the call `plan_of` promises: its whole result and the table; with that demands 1 and 2, and that the two other numbers of a given plan are those of
-- the answer and of the file
pub record PlanPromises (x : Reading) (table : Lent) (room : ℕ) (r : Plan) (after : Lent) : Type 0 where
  pub answers : outcome_of r.answer ≡ plan_outcome (verdict_of x table room)
  pub uses : r.used ≡ used_engines (verdict_of x table room)
  pub counts : r.typecount ≡ planned_types (verdict_of x table room)
  pub places : r.loads ≡ plan_loads (verdict_of x table room)
  -- load i is that of engine i (request 2026-13: of two kinds, the engines have other numbers)
  pub numbers : r.numbers ≡ engines_to 16
  pub leaves_table : after ≡ plan_table x table room
  pub order : InOrder x table room (outcome_of r.answer)
  pub demand1 : Demand1 x table (outcome_of r.answer) after
  pub demand2 : Demand2 x table room (outcome_of r.answer) r.loads
  pub recovers : Recovers x (outcome_of r.answer) r.loads after
  pub used_same : (used : ℕ) → outcome_of r.answer ≡ accepted (used ∷ []) → r.used ≡ used
  pub types_same : (y : System) (used : ℕ) → x ≡ opened y → outcome_of r.answer ≡ accepted (used ∷ []) → r.typecount ≡ y.typecount
  pub refused_nothing : (s : Source) (n : ℕ) → outcome_of r.answer ≡ refused s n → HandsOutNothing r

-- the record of engine e in a list, counted from 1
abbrev pub entry_no : List EngineRecord → ℕ → EngineRecord
entry_no list e = get_or list (e - 1) (record { number = 0; load = record { time = 0; memory = 0; counts = [] } })

-- the first `used` records of a list are a partition of the n(t) instances of each type on `used` engines, and on the fewest: each has its engine's number,
-- six counts, 0 past k,
-- and with these its time and memory what the mapping sends to that engine. Nothing is sent to a later engine
pub record ListsPlan (y : System) (used : ℕ) (list : List EngineRecord) : Type 0 where
  pub mapping : Assignment
  pub partition : Partition y (EngineOf y) (ceiling_no y) mapping
  pub uses : used_to y.engines mapping ≡ used
  pub fewest : (χ : Assignment) → Partition y (EngineOf y) (ceiling_no y) χ → used ≤ used_to y.engines χ
  pub number : (e : ℕ) → 1 ≤ e → e ≤ used → (entry_no list e).number ≡ e
  pub load : (e : ℕ) → 1 ≤ e → e ≤ used → RecordIs y mapping e (entry_no list e).load
  pub six_counts : (e : ℕ) → 1 ≤ e → e ≤ used → length (entry_no list e).load.counts ≡ 6
  pub zero_past : (e t : ℕ) → 1 ≤ e → e ≤ used → y.typecount < t → get_or (entry_no list e).load.counts (t - 1) 0 ≡ 0
  pub none_later : (e t : ℕ) → used < e → e ≤ y.engines → 1 ≤ t → over_instances e 1 (places_no mapping t) ≡ 0

-- Of the lent list, after a plan into it: refused, it is as it was lent. Otherwise its first records are the plan, one for each used engine, and later
-- records are unchanged
pub record ListHolds (x : Reading) (list : List EngineRecord) (outcome : Outcome) (after : List EngineRecord) : Type 0 where
  pub as_lent : (s : Source) (n : ℕ) → outcome ≡ refused s n → after ≡ list
  pub as_long : length after ≡ length list
  pub inside : (used : ℕ) → outcome ≡ accepted (used ∷ []) → used ≤ length list
  pub lists : (y : System) (used : ℕ) → x ≡ opened y → outcome ≡ accepted (used ∷ []) → ListsPlan y used after
  pub later_kept : (used e : ℕ) → outcome ≡ accepted (used ∷ []) → used < e → entry_no after e ≡ entry_no list e

-- what the call `plan_into` promises of its answer, the table and the list, and with that demands 1 and 2: demand 2 with the loads of the plan as it is
-- defined, of the answer alone, and of the plan that the list holds. The room is the list's length
pub record ListPromises (x : Reading) (table : Lent) (list : List EngineRecord) (answer : Answer) (table_after : Lent) (list_after : List EngineRecord) : Type 0 where
  pub answers : outcome_of answer ≡ plan_outcome (verdict_of x table (length list))
  pub leaves_table : table_after ≡ plan_table x table (length list)
  pub leaves_list : list_after ≡ plan_list (verdict_of x table (length list)) list
  pub order : InOrder x table (length list) (outcome_of answer)
  pub demand1 : Demand1 x table (outcome_of answer) table_after
  pub demand2 : Demand2 x table (length list) (outcome_of answer) (plan_loads (verdict_of x table (length list)))
  pub decides : Decides x table (length list) (outcome_of answer)
  pub holds : ListHolds x list (outcome_of answer) list_after
  pub recovers : (y : System) (used : ℕ) → x ≡ opened y → outcome_of answer ≡ accepted (used ∷ [])
      → RecoveredBy y table_after used (ceiling_no y) (λ (e t : ℕ). get_or (entry_no list_after e).load.counts (t - 1) 0)

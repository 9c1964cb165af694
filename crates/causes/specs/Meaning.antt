-- What a cause says, in plain words about instances, engines, U, S and q, and what the two calls promise.
-- None of these words stands in the definitions by which the code is described, but for those that read an answer (`cause_outcome_of`, `told`), so that code
-- and statement cannot be wrong together. These
-- are said case by case in clients/specs/Answers; trial_causes tells the cases apart by their names.
use Rattle.std.specs.Prelude.{ℕ, ◌+◌, ◌*◌, ◌≤◌, ◌<◌, [], ◌∷◌, ◌≡◌, ◌↔◌, ◌⊎◌, Some}
use Rattle.system.specs.declared.Refusal.{Refusal}
use Rattle.system.specs.declared.System.{System}
use Rattle.system.specs.Layout.{Reading, opened, unread}
use Rattle.system.specs.Outcome.{Outcome, Source, accepted, refused, from_input, from_state}
use Rattle.partition.specs.Assignment.{Assignment}
use Rattle.partition.specs.Lent.{Lent}
use Rattle.partition.specs.Plain.{type_no, ceiling_no, LongEnough, TooShort, EngineOf, Partition, Impossible}
use Rattle.table.specs.Meaning.{FilledMeans}
use Rattle.planner.specs.Plan.{verdict_of, plan_outcome}
use Rattle.planner.specs.Demands.{Decides}
use Rattle.board.specs.declared.Board.{Board}
use Rattle.board.specs.Calls.{Result, admit_of, seat_of}
use Rattle.board.specs.Words.{plus_one, stands_no, sum_six, time_out, own_out, shared_out, FitsOut, EngineIn, serving_all, BelowCeiling, IsTrue}
use Rattle.board.specs.Meaning.{NewcomerInOrder, OneKindOnly, AdmitPromises, SeatPromises}
use Rattle.causes.specs.declared.Cause.{Cause}
use Rattle.causes.specs.Causes.{CauseAnswer, cause_outcome_of, told, plan_cause, plan_cause_table, room_cause, room_cause_table}

-- How many engines there are

-- `E e` says that e is one of the engines. There are r of them: they can be numbered 0, 1, .., each once, with r numbers
pub record Numbered (E : ℕ → Type 0) (r : ℕ) : Type 0 where
  pub engine : ℕ → ℕ
  pub is_one : (i : ℕ) → i < r → E (engine i)
  pub once : (i j : ℕ) → i < r → j < r → engine i ≡ engine j → i ≡ j
  pub all : (e : ℕ) → E e → (i : ℕ) × (i < r) × (engine i ≡ e)

-- The causes 1 to 5 as facts, each of a system, r engines, and count(t) instances of each type t

-- 1: "no engine in service .., though the load is not empty"
pub record NoneInService (r : ℕ) (count : ℕ → ℕ) : Type 0 where
  pub none : r ≡ 0
  pub some : 1 ≤ sum_six count

-- an empty engine: no instance of any type
abbrev pub nothing : ℕ → ℕ
nothing t = 0

-- 2, of type t: "one instance of a type in the load .. doesn't fit an empty engine"
pub record DoesNotFit (y : System) (count : ℕ → ℕ) (t : ℕ) : Type 0 where
  pub is_type : (1 ≤ t) × (t ≤ y.typecount)
  pub in_load : 1 ≤ count t
  pub large : FitsOut y (plus_one t nothing) → ⊥

-- what that comes to: its time is over U, or its code with its data over S. A q that is given is not 0, so that it never forbids one
abbrev pub TooLarge : System → ℕ → Type 0
TooLarge y t = (y.timecap < (type_no y t).time) ⊎ (y.memorycap < (type_no y t).memory + (type_no y t).data)

-- 3: "total time exceeds engines × U"
abbrev pub TimeExceeds : System → ℕ → (ℕ → ℕ) → Type 0
TimeExceeds y r count = r * y.timecap < time_out y count

-- 4: "total memory exceeds engines × S": under rule 0 each instance has its own s and d; under rule 1 each has its d, "shared code counted a single time per
-- type"
pub data MemoryExceeds (y : System) (r : ℕ) (count : ℕ → ℕ) : Type 0 where
  own_copies : y.rule ≡ 0 → r * y.memorycap < own_out y count → MemoryExceeds y r count
  shared_code : y.rule ≡ 1 → r * y.memorycap < shared_out y count → MemoryExceeds y r count

-- 5: "a count exceeds q × engines", of a type that has a q
pub record CountExceeds (y : System) (r : ℕ) (count : ℕ → ℕ) : Type 0 where
  pub type : ℕ
  pub is_type : 1 ≤ type
  pub most : ℕ
  pub given : (type_no y type).most ≡ Some most
  pub exceeds : most * r < count type

-- "Causes 1 to 5 each imply refusal": each leaves no good assignment of the load to the engines. Shown of all systems, loads and engines that are r in number
pub record EachImplies (y : System) (E : ℕ → Type 0) (r : ℕ) (count : ℕ → ℕ) : Type 0 where
  pub one : NoneInService r count → Impossible y E count
  pub two : (t : ℕ) → DoesNotFit y count t → Impossible y E count
  pub three : TimeExceeds y r count → Impossible y E count
  pub four : MemoryExceeds y r count → Impossible y E count
  pub five : CountExceeds y r count → Impossible y E count

-- "The cause is the first that holds": 1 does not, neither 1 nor 2 does, and so on
abbrev pub Not1 : ℕ → (ℕ → ℕ) → Type 0
Not1 r count = NoneInService r count → ⊥

abbrev pub Not2 : System → ℕ → (ℕ → ℕ) → Type 0
Not2 y r count = Not1 r count × ((t : ℕ) → DoesNotFit y count t → ⊥)

abbrev pub Not3 : System → ℕ → (ℕ → ℕ) → Type 0
Not3 y r count = Not2 y r count × (TimeExceeds y r count → ⊥)

abbrev pub Not4 : System → ℕ → (ℕ → ℕ) → Type 0
Not4 y r count = Not3 y r count × (MemoryExceeds y r count → ⊥)

abbrev pub Not5 : System → ℕ → (ℕ → ℕ) → Type 0
Not5 y r count = Not4 y r count × (CountExceeds y r count → ⊥)

-- What an answer says of count(t) instances of each type and the r engines E: the cause is given, each exactly where it is the first that holds; 2 names the
-- lowest type;
-- 0 "means that one exists", and 6 is "none of these, yet no good assignment exists"
pub record CauseMeans (y : System) (E : ℕ → Type 0) (r : ℕ) (count : ℕ → ℕ) (o : Outcome) : Type 0 where
  pub engines : Numbered E r
  pub given : (c : Cause) × (o ≡ told c)
  pub zero : (o ≡ accepted (0 ∷ [])) ↔ ((χ : Assignment) × Partition y E count χ)
  pub one : (o ≡ accepted (1 ∷ [])) ↔ NoneInService r count
  pub two : (t : ℕ) → (o ≡ accepted (2 ∷ t ∷ [])) ↔ (Not1 r count × DoesNotFit y count t × ((u : ℕ) → u < t → DoesNotFit y count u → ⊥))
  pub too_large : (t : ℕ) → o ≡ accepted (2 ∷ t ∷ []) → TooLarge y t
  pub three : (o ≡ accepted (3 ∷ [])) ↔ (Not2 y r count × TimeExceeds y r count)
  pub four : (o ≡ accepted (4 ∷ [])) ↔ (Not3 y r count × MemoryExceeds y r count)
  pub five : (o ≡ accepted (5 ∷ [])) ↔ (Not4 y r count × CountExceeds y r count)
  pub six : (o ≡ accepted (6 ∷ [])) ↔ (Not5 y r count × Impossible y E count)

-- The call from a file

-- 1 to 10, 31 and 41 to 43 as the file is read, then 11, for a part of the table that is shorter than the columns
pub record PlanChecksInOrder (x : Reading) (table : Lent) (o : Outcome) : Type 0 where
  pub file_first : (n : ℕ) → x ≡ unread n → o ≡ refused from_input n
  pub then_table : (y : System) → x ≡ opened y → (o ≡ refused from_input 11) ↔ TooShort y table

-- What the call `why_no_plan` promises: its answer and the table, whole; the order of its refusals; demand 1; that the table is left filled; what its cause
-- says of n(t) instances of each type on the engines 1 to m; and that a plan with table and list long enough is refused 12 exactly when the cause is not 0:
-- the plan as it is defined, and whatever a plan call answers (`refused12_any`), of which nothing is known but demand 2, which both plan calls promise
pub record PlanCausePromises (x : Reading) (table : Lent) (r : CauseAnswer) (after : Lent) : Type 0 where
  pub answers : cause_outcome_of r ≡ plan_cause x table
  pub leaves_table : after ≡ plan_cause_table x table
  pub order : PlanChecksInOrder x table (cause_outcome_of r)
  pub as_lent : (s : Source) (n : ℕ) → cause_outcome_of r ≡ refused s n → after ≡ table
  pub left_filled : (y : System) → x ≡ opened y → LongEnough y table → FilledMeans y y.engines table after
  pub means : (y : System) → x ≡ opened y → LongEnough y table → CauseMeans y (EngineOf y) y.engines (ceiling_no y) (cause_outcome_of r)
  pub refused12 : (y : System) → x ≡ opened y → LongEnough y table → (other : Lent) (room : ℕ) → LongEnough y other → y.engines ≤ room
      → (plan_outcome (verdict_of x other room) ≡ refused from_input 12) ↔ (cause_outcome_of r ≡ accepted (0 ∷ []) → ⊥)
  pub refused12_any : (y : System) → x ≡ opened y → LongEnough y table → (other : Lent) (room : ℕ) → LongEnough y other → y.engines ≤ room
      → (answered : Outcome) → Decides x other room answered → (answered ≡ refused from_input 12) ↔ (cause_outcome_of r ≡ accepted (0 ∷ []) → ⊥)

-- The call from a board

-- What the call `why_no_room` promises: its answer and the table, whole; the order 20, 13, 11, 21; that a board of two kinds of engine is refused 20
-- (request 2026-13); demand 1; and for a true board, a type below its ceiling and a table long enough, that the table is left filled, what the cause says
-- of what stands and the newcomer on the engines in service, and that an admit and a seat are refused 24 exactly when it is not 0: the calls as they are
-- defined, and every admit and every seat that keeps what it promises (`admit24_any`, `seat24_any`)
pub record RoomCausePromises (b : Board) (t : ℕ) (table : Lent) (r : CauseAnswer) (after : Lent) : Type 0 where
  pub answers : cause_outcome_of r ≡ room_cause b t table
  pub leaves_table : after ≡ room_cause_table b t table
  pub order : NewcomerInOrder b t table (cause_outcome_of r)
  pub one_kind : OneKindOnly b (cause_outcome_of r)
  pub as_lent : (s : Source) (n : ℕ) → cause_outcome_of r ≡ refused s n → after ≡ table
  pub left_filled : IsTrue b → LongEnough b.system table → BelowCeiling b t → FilledMeans b.system (serving_all b) table after
  pub means : IsTrue b → LongEnough b.system table → BelowCeiling b t
      → CauseMeans b.system (EngineIn b) (serving_all b) (plus_one t (stands_no b)) (cause_outcome_of r)
  pub admit24 : IsTrue b → LongEnough b.system table → BelowCeiling b t → (other : Lent) → LongEnough b.system other
      → ((admit_of b t other).outcome ≡ refused from_state 24) ↔ (cause_outcome_of r ≡ accepted (0 ∷ []) → ⊥)
  pub seat24 : IsTrue b → LongEnough b.system table → BelowCeiling b t → (other : Lent) → LongEnough b.system other
      → ((seat_of b t other).outcome ≡ refused from_state 24) ↔ (cause_outcome_of r ≡ accepted (0 ∷ []) → ⊥)
  pub admit24_any : IsTrue b → LongEnough b.system table → BelowCeiling b t → (other : Lent) → LongEnough b.system other
      → (gives : Result) → AdmitPromises b t other gives → (gives.outcome ≡ refused from_state 24) ↔ (cause_outcome_of r ≡ accepted (0 ∷ []) → ⊥)
  pub seat24_any : IsTrue b → LongEnough b.system table → BelowCeiling b t → (other : Lent) → LongEnough b.system other
      → (gives : Result) → SeatPromises b t other gives → (gives.outcome ≡ refused from_state 24) ↔ (cause_outcome_of r ≡ accepted (0 ∷ []) → ⊥)

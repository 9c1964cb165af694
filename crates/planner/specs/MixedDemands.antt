-- What the plan calls promise of any card: of one kind of engine what they promised before request 2026-13, word for word, and of two kinds demands 1 and 2
-- in plain words (partition/specs/PlainKinds).
use Rattle.std.specs.Prelude.{ℕ, ◌+◌, ◌-◌, ◌≤◌, ◌<◌, List, [], ◌∷◌, ◌≡◌, ◌↔◌, length, get_or}
use Rattle.system.specs.declared.Kind.{Kind}
use Rattle.system.specs.declared.System.{System}
use Rattle.system.specs.Outcome.{Answer, Outcome, Source, accepted, refused, from_input, outcome_of}
use Rattle.system.specs.Layout.{Reading}
use Rattle.system.specs.Card.{Card, plain, mixed}
use Rattle.loads.specs.declared.EngineLoad.{EngineLoad}
use Rattle.partition.specs.Assignment.{Assignment}
use Rattle.partition.specs.Lent.{Lent}
use Rattle.partition.specs.Plain.{ceiling_no, LongEnough, TooShort, record_no, HoldsNothing}
use Rattle.partition.specs.PlainKinds.{MixedPartition, MixedImpossible, MixedOnFewest}
use Rattle.table.specs.Meaning.{KeptPast}
use Rattle.planner.specs.declared.Plan.{Plan}
use Rattle.planner.specs.declared.EngineRecord.{EngineRecord}
use Rattle.planner.specs.Mixed.{card_outcome, card_used, card_types, card_numbers, card_loads, card_table, card_list}
use Rattle.planner.specs.Demands.{HandsOutNothing, PlanPromises, entry_no, ListPromises}

-- "Plan continues 11, 15, 12", of two kinds: 11 for a part of the table shorter than the columns, then 15 for "a list shorter than their number"
pub record MixedOrder (y : System) (k : Kind) (table : Lent) (room : ℕ) (outcome : Outcome) : Type 0 where
  pub then_table : (outcome ≡ refused from_input 11) ↔ TooShort y table
  pub then_list : LongEnough y table → (outcome ≡ refused from_input 15) ↔ (room < y.engines + k.number)

-- Demand 1 of two kinds: 11 and 15 leave the table as lent. "free .. are the table's first entries, one for each column in each part, after 12 too"; nothing
-- else is
pub record MixedTableKept (y : System) (table : Lent) (outcome : Outcome) (after : Lent) : Type 0 where
  pub as_lent : (s : Source) (n : ℕ) → outcome ≡ refused s n → (n ≡ 12 → ⊥) → after ≡ table
  pub kept : KeptPast y table after

-- Demand 2 of two kinds: where 11 and 15 pass, a plan is refused 12 exactly when the n(t) instances of each type cannot be partitioned among the engines of
-- both kinds; a plan that is given is such a
-- partition "on the fewest engines of both kinds together, and among those the fewest of the second kind"
pub record MixedDemand2 (y : System) (k : Kind) (table : Lent) (room : ℕ) (outcome : Outcome) (numbers : List ℕ) (loads : List EngineLoad) : Type 0 where
  pub impossible : LongEnough y table → y.engines + k.number ≤ room → (outcome ≡ refused from_input 12) ↔ MixedImpossible y k (ceiling_no y)
  pub answered : LongEnough y table → y.engines + k.number ≤ room → (χ : Assignment) → MixedPartition y k (ceiling_no y) χ
      → (used : ℕ) × (outcome ≡ accepted (used ∷ []))
  pub given : (used : ℕ) → outcome ≡ accepted (used ∷ []) → MixedOnFewest y k (ceiling_no y) numbers loads used

-- the whole result of a plan and the table after it, by definition
pub record CardPlans (c : Card) (table : Lent) (room : ℕ) (r : Plan) (after : Lent) : Type 0 where
  pub answers : outcome_of r.answer ≡ card_outcome c table room
  pub uses : r.used ≡ card_used c table room
  pub counts : r.typecount ≡ card_types c table room
  pub numbers : r.numbers ≡ card_numbers c table room
  pub places : r.loads ≡ card_loads c table room
  pub leaves_table : after ≡ card_table c table room

-- what a plan of two kinds promises besides: the order of its refusals, both demands, and what it hands out past the used engines and where it is refused
pub record MixedPromises (y : System) (k : Kind) (table : Lent) (room : ℕ) (r : Plan) (after : Lent) : Type 0 where
  pub order : MixedOrder y k table room (outcome_of r.answer)
  pub demand1 : MixedTableKept y table (outcome_of r.answer) after
  pub demand2 : MixedDemand2 y k table room (outcome_of r.answer) r.numbers r.loads
  pub used_same : (used : ℕ) → outcome_of r.answer ≡ accepted (used ∷ []) → r.used ≡ used
  pub types_same : (used : ℕ) → outcome_of r.answer ≡ accepted (used ∷ []) → r.typecount ≡ y.typecount
  pub six_counts : (used i : ℕ) → outcome_of r.answer ≡ accepted (used ∷ []) → 1 ≤ i → i ≤ 16 → length (record_no r.loads i).counts ≡ 6
  pub sixteen : (length r.numbers ≡ 16) × (length r.loads ≡ 16)
  -- a count of a type past k is 0; and past the used engines there is no number, and no load that holds anything
  pub zero_past : (used i t : ℕ) → outcome_of r.answer ≡ accepted (used ∷ []) → 1 ≤ i → y.typecount < t → get_or (record_no r.loads i).counts (t - 1) 0 ≡ 0
  pub idle_past : (used i : ℕ) → outcome_of r.answer ≡ accepted (used ∷ []) → used < i → HoldsNothing (record_no r.loads i)
  pub numbers_past : (used i : ℕ) → outcome_of r.answer ≡ accepted (used ∷ []) → used < i → get_or r.numbers (i - 1) 0 ≡ 0
  pub refused_nothing : (s : Source) (n : ℕ) → outcome_of r.answer ≡ refused s n → HandsOutNothing r

-- what the call `plan_of` promises of any card
pub record PlanCall (c : Card) (table : Lent) (room : ℕ) (r : Plan) (after : Lent) : Type 0 where
  pub whole : CardPlans c table room r after
  pub one_kind : (x : Reading) → c ≡ plain x → PlanPromises x table room r after
  pub two_kinds : (y : System) (k : Kind) → c ≡ mixed y k → MixedPromises y k table room r after

-- the numbers and the loads of a list's records
abbrev pub numbers_in : List EngineRecord → ℕ → ℕ
numbers_in list i = (entry_no list i).number

-- of the lent list after a plan of two kinds into it: refused, it is as it was lent. Otherwise "the list's first records are the used engines", and later
-- records are unchanged
pub record MixedListHolds (y : System) (k : Kind) (list : List EngineRecord) (outcome : Outcome) (after : List EngineRecord) : Type 0 where
  pub as_lent : (s : Source) (n : ℕ) → outcome ≡ refused s n → after ≡ list
  pub as_long : length after ≡ length list
  pub inside : (used : ℕ) → outcome ≡ accepted (used ∷ []) → used ≤ length list
  pub lists : (used : ℕ) → outcome ≡ accepted (used ∷ []) → (numbers : List ℕ) × (loads : List EngineLoad) × MixedOnFewest y k (ceiling_no y) numbers loads used
      × ((i : ℕ) → 1 ≤ i → i ≤ used → ((entry_no after i).number ≡ get_or numbers (i - 1) 0) × ((entry_no after i).load ≡ get_or loads (i - 1) (record { time = 0; memory = 0; counts = [] })) × (length (entry_no after i).load.counts ≡ 6))
  pub zero_past : (used i t : ℕ) → outcome ≡ accepted (used ∷ []) → 1 ≤ i → i ≤ used → y.typecount < t → get_or (entry_no after i).load.counts (t - 1) 0 ≡ 0
  pub later_kept : (used i : ℕ) → outcome ≡ accepted (used ∷ []) → used < i → entry_no after i ≡ entry_no list i

pub record MixedListPromises (y : System) (k : Kind) (table : Lent) (list : List EngineRecord) (answer : Answer) (table_after : Lent) (list_after : List EngineRecord) : Type 0 where
  pub order : MixedOrder y k table (length list) (outcome_of answer)
  pub demand1 : MixedTableKept y table (outcome_of answer) table_after
  pub impossible : LongEnough y table → y.engines + k.number ≤ length list → (outcome_of answer ≡ refused from_input 12) ↔ MixedImpossible y k (ceiling_no y)
  pub answered : LongEnough y table → y.engines + k.number ≤ length list → (χ : Assignment) → MixedPartition y k (ceiling_no y) χ
      → (used : ℕ) × (outcome_of answer ≡ accepted (used ∷ []))
  pub holds : MixedListHolds y k list (outcome_of answer) list_after

-- what the call `plan_into` promises of any card
pub record ListCall (c : Card) (table : Lent) (list : List EngineRecord) (answer : Answer) (table_after : Lent) (list_after : List EngineRecord) : Type 0 where
  pub answers : outcome_of answer ≡ card_outcome c table (length list)
  pub leaves_table : table_after ≡ card_table c table (length list)
  pub leaves_list : list_after ≡ card_list c table list (length list)
  pub one_kind : (x : Reading) → c ≡ plain x → ListPromises x table list answer table_after list_after
  pub two_kinds : (y : System) (k : Kind) → c ≡ mixed y k → MixedListPromises y k table list answer table_after list_after

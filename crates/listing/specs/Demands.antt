-- What a reader finds in a listing, in bytes, plain arithmetic and assignments of single instances (partition/specs/Plain), whatever a listing is defined as.
use Rattle.std.specs.Prelude.{ℕ, zero, suc, ◌+◌, ◌-◌, ◌*◌, ◌≤◌, ◌<◌, List, [], ◌∷◌, ◌++◌, Bool, true, cond, ◌&&◌, ◌≡◌, ◌↔◌, length, get_or, leb, eqb, Some, Err}
use Rattle.buffer.specs.Written.{Written}
use Rattle.system.specs.declared.System.{System}
use Rattle.system.specs.declared.Refusal.{Refusal}
use Rattle.system.specs.declared.Refusal.TheVariants.{Input, State}
use Rattle.system.specs.Limits.{engine_limit}
use Rattle.system.specs.declared.Kind.{Kind}
use Rattle.system.specs.Layout.{read_card, read_file, opened, unread}
use Rattle.system.specs.Card.{card_of}
use Rattle.loads.specs.declared.EngineLoad.{EngineLoad}
use Rattle.partition.specs.Assignment.{Assignment}
use Rattle.partition.specs.Lent.{Lent}
use Rattle.partition.specs.OwnWords.{over_instances, time_on, memory_on, shared_memory_on}
use Rattle.partition.specs.Plain.{ceiling_no, LongEnough, TooShort, EngineOf, places_no, Partition, Impossible, used_to, record_no}
use Rattle.partition.specs.PlainKinds.{MixedPartition, MixedImpossible, number_no, MixedOnFewest}
use Rattle.planner.specs.declared.Plan.{Plan}
use Rattle.planner.specs.Mixed.{card_table}
use Rattle.planner.specs.MixedDemands.{PlanCall}
use Rattle.listing.specs.Listing.{refusal_line, plan_listing, file_listing}

-- the bytes of `0` to `9`
unfoldable pub only_digits : List ℕ → Bool
only_digits [] = true
only_digits (b ∷ bs) = leb 48 b && leb b 57 && only_digits bs

-- what digits read as, after those that read as n
unfoldable pub value_from : ℕ → List ℕ → ℕ
value_from n [] = n
value_from n (b ∷ bs) = value_from (n * 10 + (b - 48)) bs

-- n in decimal: digits that read as n, and of more than one the first is not `0`
pub record InDecimal (n : ℕ) (digits : List ℕ) : Type 0 where
  pub some : 1 ≤ length digits
  pub only : only_digits digits ≡ true
  pub value : value_from 0 digits ≡ n
  pub no_zero : 1 < length digits → 48 < get_or digits 0 0

-- "A refusal is one line, as `refused 12`": the bytes of `refused`, a space, the number, 0A
pub record TellsRefusal (n : ℕ) (text : List ℕ) : Type 0 where
  pub digits : List ℕ
  pub in_decimal : InDecimal n digits
  pub bytes : text ≡ 114 ∷ 101 ∷ 102 ∷ 117 ∷ 115 ∷ 101 ∷ 100 ∷ 32 ∷ (digits ++ (10 ∷ []))

-- what f gives for 1, for 2, .. and for n, one after another
unfoldable pub each_to : (ℕ → List ℕ) → ℕ → List ℕ
each_to f zero = []
each_to f (suc n) = each_to f n ++ f (suc n)

-- `engine`, its number, `util`, its time, `mem`, its memory, `types`, the counts of types 1 to k, each after a space, and 0A; `spelt` writes a number
abbrev pub engine_text : (ℕ → List ℕ) → ℕ → ℕ → ℕ → ℕ → (ℕ → ℕ) → List ℕ
engine_text spelt k e time memory count =
    (101 ∷ 110 ∷ 103 ∷ 105 ∷ 110 ∷ 101 ∷ 32 ∷ spelt e)
    ++ (32 ∷ 117 ∷ 116 ∷ 105 ∷ 108 ∷ 32 ∷ spelt time)
    ++ (32 ∷ 109 ∷ 101 ∷ 109 ∷ 32 ∷ spelt memory)
    ++ (32 ∷ 116 ∷ 121 ∷ 112 ∷ 101 ∷ 115 ∷ each_to (λ (t : ℕ). 32 ∷ spelt (count t)) k)
    ++ (10 ∷ [])

-- `engines`, a space, their number, 0A, and then the lines of engines 1 to that number
abbrev pub plan_text : (ℕ → List ℕ) → ℕ → (ℕ → List ℕ) → List ℕ
plan_text spelt used line_of = 101 ∷ 110 ∷ 103 ∷ 105 ∷ 110 ∷ 101 ∷ 115 ∷ 32 ∷ (spelt used ++ (10 ∷ each_to line_of used))

-- the line of the i-th record, counted from 1: its engine's number, and what it holds
abbrev pub record_text : (ℕ → List ℕ) → ℕ → List ℕ → List EngineLoad → ℕ → List ℕ
record_text spelt k numbers loads i =
    engine_text spelt k (number_no numbers i) (record_no loads i).time (record_no loads i).memory (λ (t : ℕ). get_or (record_no loads i).counts (t - 1) 0)

-- the text is about the first `used` records, in this order, of engines with these numbers
pub record TellsRecords (used k : ℕ) (numbers : List ℕ) (loads : List EngineLoad) (text : List ℕ) : Type 0 where
  pub spelt : ℕ → List ℕ
  pub in_decimal : (n : ℕ) → InDecimal n (spelt n)
  pub lines : text ≡ plan_text spelt used (record_text spelt k numbers loads)

-- what the instances on engine e take of its memory: s and d of each instance under rule 0; s of each type of which one is there and d of each instance under
-- rule 1
abbrev pub memory_under : System → Assignment → ℕ → ℕ
memory_under y χ e = cond (eqb y.rule 0) (memory_on e y.types χ) (shared_memory_on e y.types χ)

-- the line of engine e under the assignment χ: "its number, time, memory and a count per type"
abbrev pub assigned_text : (ℕ → List ℕ) → System → Assignment → ℕ → List ℕ
assigned_text spelt y χ e =
    engine_text spelt y.typecount e (time_on e y.types χ) (memory_under y χ e) (λ (t : ℕ). over_instances e 1 (places_no χ t))

-- the text is about a partition of the n(t) instances of each type among the engines 1 to m that uses the fewest, which are those from 1 on
pub record TellsPlan (y : System) (text : List ℕ) : Type 0 where
  pub mapping : Assignment
  pub partition : Partition y (EngineOf y) (ceiling_no y) mapping
  pub used : ℕ
  pub uses : used_to y.engines mapping ≡ used
  pub fewest : (χ : Assignment) → Partition y (EngineOf y) (ceiling_no y) χ → used ≤ used_to y.engines χ
  pub none_later : (e t : ℕ) → used < e → e ≤ y.engines → 1 ≤ t → over_instances e 1 (places_no mapping t) ≡ 0
  pub spelt : ℕ → List ℕ
  pub in_decimal : (n : ℕ) → InDecimal n (spelt n)
  pub lines : text ≡ plan_text spelt used (assigned_text spelt y mapping)

-- the same of two kinds of engine (request 2026-13): the lines are the records of a partition "on the fewest engines of both kinds together, and among those
-- the fewest of the second kind",
-- with the used engines' own numbers, rising
pub record TellsMixed (y : System) (k : Kind) (text : List ℕ) : Type 0 where
  pub used : ℕ
  pub numbers : List ℕ
  pub loads : List EngineLoad
  pub on_fewest : MixedOnFewest y k (ceiling_no y) numbers loads used
  pub tells : TellsRecords used y.typecount numbers loads text

-- Demand 2, where the file reads and 11 passes: such a text if there is a partition, and `refused 12` exactly if there is none
pub record ListingDemand2 (file : List ℕ) (table : Lent) (text : List ℕ) : Type 0 where
  pub given : (y : System) → read_file file ≡ opened y → LongEnough y table → (χ : Assignment) → Partition y (EngineOf y) (ceiling_no y) χ → TellsPlan y text
  pub impossible : (y : System) → read_file file ≡ opened y → LongEnough y table → TellsRefusal 12 text ↔ Impossible y (EngineOf y) (ceiling_no y)
  pub given_mixed : (y : System) (k : Kind) → read_card file ≡ opened y → y.second ≡ Some k → LongEnough y table → (χ : Assignment)
      → MixedPartition y k (ceiling_no y) χ → TellsMixed y k text
  pub impossible_mixed : (y : System) (k : Kind) → read_card file ≡ opened y → y.second ≡ Some k → LongEnough y table
      → TellsRefusal 12 text ↔ MixedImpossible y k (ceiling_no y)

-- before that the number of the file's own refusal, whichever it is, and `refused 11` exactly if a part of the table is shorter than the columns
pub record ListingRefuses (file : List ℕ) (table : Lent) (text : List ℕ) : Type 0 where
  pub unreadable : (n : ℕ) → read_card file ≡ unread n → TellsRefusal n text
  pub short_table : (y : System) → read_card file ≡ opened y → TellsRefusal 11 text ↔ TooShort y table

-- the number of a refusal, from whichever list
abbrev pub number_of : Refusal → ℕ
number_of (Input n) = n
number_of (State n) = n

-- what the call `write_refusal` promises of its result and the buffer: the line of its number
pub record RefusalPromises (why : Refusal) (old new : List ℕ) (r : ℕ) : Type 0 where
  pub written : Written (refusal_line (number_of why)) old new r
  pub tells : TellsRefusal (number_of why) (refusal_line (number_of why))

-- what the call `write_listing` promises of its result and the buffer: a refusal from either list with its number, and else the plan's records.
-- There is a record for each used engine, and in it a count for each type: a plan has 16 records with 6 counts each
pub record WriteListingPromises (p : Plan) (old new : List ℕ) (r : ℕ) : Type 0 where
  pub written : Written (plan_listing p) old new r
  pub on_input : (n : ℕ) → p.answer ≡ Err (Input n) → TellsRefusal n (plan_listing p)
  pub on_state : (n : ℕ) → p.answer ≡ Err (State n) → TellsRefusal n (plan_listing p)
  pub given : ((why : Refusal) → p.answer ≡ Err why → ⊥) → p.used ≤ length p.loads → p.used ≤ length p.numbers
      → ((e : ℕ) → 1 ≤ e → e ≤ p.used → p.typecount ≤ length (record_no p.loads e).counts)
      → TellsRecords p.used p.typecount p.numbers p.loads (plan_listing p)

-- what the call `listing` promises of its result, the buffer and the table, and with that the refusals and demand 2; the plan that it lists is the one that
-- `plan_of` gives,
-- and it leaves the table as that call does
pub record ListingPromises (file : List ℕ) (table : Lent) (old new : List ℕ) (r : ℕ) (table_after : Lent) : Type 0 where
  pub written : Written (file_listing file table) old new r
  pub leaves_table : table_after ≡ card_table (card_of (read_card file)) table engine_limit
  pub refuses : ListingRefuses file table (file_listing file table)
  pub demand2 : ListingDemand2 file table (file_listing file table)
  pub same_plan : (p : Plan) (after : Lent) → PlanCall (card_of (read_card file)) table engine_limit p after → plan_listing p ≡ file_listing file table
  pub same_table : (p : Plan) (after : Lent) → PlanCall (card_of (read_card file)) table engine_limit p after → table_after ≡ after

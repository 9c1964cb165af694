-- What a written and a checked sheet mean, in plain words: the layout byte by byte, over assignments of single instances and over any records, and what each
-- refusal says.
-- None of these words stands in the definitions by which the code is described, but for those that read a check's answer (`sheet_outcome_of`, which
-- clients/specs/Answers says case by case), so that code and statement cannot be wrong together.
use Rattle.std.specs.Prelude.{ℕ, zero, suc, ◌+◌, ◌*◌, ◌≤◌, ◌<◌, List, [], ◌∷◌, ◌++◌, Bool, true, false, cond, ◌≡◌, ◌↔◌, length, get_or, take, drop, eqb, Result, None}
use Rattle.system.specs.declared.Refusal.{Refusal}
use Rattle.system.specs.declared.System.{System}
use Rattle.system.specs.Outcome.{Answer, Outcome, Source, accepted, refused, from_input, outcome_of}
use Rattle.system.specs.Layout.{Reading, opened, unread}
use Rattle.loads.specs.declared.EngineLoad.{EngineLoad}
use Rattle.partition.specs.Assignment.{Assignment}
use Rattle.partition.specs.Lent.{Lent}
use Rattle.partition.specs.OwnWords.{over_instances, time_on, memory_on, shared_memory_on}
use Rattle.partition.specs.Plain.{ceiling_no, LongEnough, TooShort, EngineOf, places_no, Partition, Impossible, hosts, used_to, record_no}
use Rattle.writer.specs.Meaning.{two_out, four_out}
use Rattle.table.specs.Meaning.{FilledMeans}
use Rattle.planner.specs.declared.EngineRecord.{EngineRecord}
use Rattle.planner.specs.declared.Plan.{Plan}
use Rattle.planner.specs.Demands.{PlanPromises}
use Rattle.board.specs.Words.{count_no, SumsOut, FitsOut}
use Rattle.sheets.specs.Writing.{sheet_verdict, write_outcome, written_to, write_table}
use Rattle.sheets.specs.Checking.{SheetOutcome, right, wrong, sheet_outcome_of, check_outcome, check_table}

-- The layout; `two_out` and `four_out` are the bytes of a number, most significant byte first

-- the counts of types 1 to k, in order of their number
unfoldable pub counts_out : (ℕ → ℕ) → ℕ → List ℕ
counts_out count zero = []
counts_out count (suc t) = counts_out count t ++ two_out (count (suc t))

-- a record: tag 17, length 9 + 2k, number, time, memory, counts
abbrev pub record_out : ℕ → ℕ → ℕ → ℕ → (ℕ → ℕ) → List ℕ
record_out k e time memory count = 17 ∷ (two_out (9 + 2 * k) ++ (e ∷ (four_out time ++ (four_out memory ++ counts_out count k))))

-- a sheet: tag 16, length 2, used engines, k; then the records
abbrev pub headed_out : ℕ → ℕ → List ℕ → List ℕ
headed_out used k records = 16 ∷ 0 ∷ 2 ∷ used ∷ k ∷ records

-- The sheet of an assignment χ of single instances

-- the memory of what χ sends to engine e, by the system's rule
abbrev pub memory_out : System → Assignment → ℕ → ℕ
memory_out y χ e = cond (eqb y.rule 0) (memory_on e y.types χ) (shared_memory_on e y.types χ)

-- how many instances of each type χ sends to engine e
abbrev pub sent_to : Assignment → ℕ → ℕ → ℕ
sent_to χ e t = over_instances e 1 (places_no χ t)

-- a record for each of the engines 1 to m to which χ sends some instance, numbers rising
unfoldable pub hosts_out : System → Assignment → ℕ → List ℕ
hosts_out y χ zero = []
hosts_out y χ (suc e) =
    hosts_out y χ e ++ cond (hosts χ (suc e)) (record_out y.typecount (suc e) (time_on (suc e) y.types χ) (memory_out y χ (suc e)) (sent_to χ (suc e))) []

abbrev pub sheet_out : System → Assignment → List ℕ
sheet_out y χ = headed_out (used_to y.engines χ) y.typecount (hosts_out y χ y.engines)

-- a good assignment of all instances to the engines 1 to m
abbrev pub GoodForAll : System → Assignment → Type 0
GoodForAll y χ = Partition y (EngineOf y) (ceiling_no y) χ

-- The sheet of any records, whatever they state. No bound on their numbers is said: where the sheet is a list of bytes, each fits its own

unfoldable pub records_out : ℕ → List EngineRecord → List ℕ
records_out k [] = []
records_out k (r ∷ rs) = record_out k r.number r.load.time r.load.memory (count_no r.load) ++ records_out k rs

abbrev pub sheet_with : ℕ → List EngineRecord → List ℕ
sheet_with k rs = headed_out (length rs) k (records_out k rs)

-- "numbers rising": each engine number is above the one before it, a at first, and at most m
pub data Rising (m : ℕ) : ℕ → List EngineRecord → Type 0 where
  none : {a : ℕ} → Rising m a []
  next : {a : ℕ} {r : EngineRecord} {rs : List EngineRecord} → a < r.number → r.number ≤ m → Rising m r.number rs → Rising m a (r ∷ rs)

-- every record of the list states a load of which P holds
pub data Each (P : EngineLoad → Type 0) : List EngineRecord → Type 0 where
  done : Each P []
  more : {r : EngineRecord} {rs : List EngineRecord} → P r.load → Each P rs → Each P (r ∷ rs)

-- a load as a record of k types has it: six counts, 0 past k, and some instance
pub record HasInstance (k : ℕ) (l : EngineLoad) : Type 0 where
  pub six : length l.counts ≡ 6
  pub past : (t : ℕ) → k < t → count_no l t ≡ 0
  pub type : ℕ
  pub typed : 1 ≤ type
  pub some : 1 ≤ count_no l type

-- 32 passes: the sheet is that of these records, with k and their number in its header, engine numbers 1 to m rising, and an instance in each
pub record Stated (y : System) (sheet : List ℕ) (rs : List EngineRecord) : Type 0 where
  pub bytes : sheet ≡ sheet_with y.typecount rs
  pub rising : Rising y.engines 0 rs
  pub each : Each (HasInstance y.typecount) rs

-- 33 passes: of every record the stated sums are those of its counts, and these fit an engine
pub record SumsAndFit (y : System) (l : EngineLoad) : Type 0 where
  pub sums : SumsOut y l
  pub fit : FitsOut y (count_no l)

-- 34 passes: the counts of each type add up to n
unfoldable pub total_in : ℕ → List EngineRecord → ℕ
total_in t [] = 0
total_in t (r ∷ rs) = count_no r.load t + total_in t rs

abbrev pub AddUp : System → List EngineRecord → Type 0
AddUp y rs = (t : ℕ) → 1 ≤ t → total_in t rs ≡ ceiling_no y t

-- The check

-- "in this order, after 11": each number is said exactly where its check fails and all before it pass
pub record ChecksInOrder (x : Reading) (sheet : List ℕ) (table : Lent) (o : SheetOutcome) : Type 0 where
  pub file_first : (n : ℕ) → x ≡ unread n → o ≡ wrong from_input n
  pub then_table : (y : System) → x ≡ opened y → (o ≡ wrong from_input 11) ↔ TooShort y table
  pub then_layout : (y : System) → x ≡ opened y → LongEnough y table → (o ≡ wrong from_input 32) ↔ ((rs : List EngineRecord) → Stated y sheet rs → ⊥)
  pub or_stated : (y : System) → x ≡ opened y → LongEnough y table → (o ≡ wrong from_input 32 → ⊥) → (rs : List EngineRecord) × Stated y sheet rs
  pub then_sums : (y : System) → x ≡ opened y → LongEnough y table → (rs : List EngineRecord) → Stated y sheet rs
      → (o ≡ wrong from_input 33) ↔ (Each (SumsAndFit y) rs → ⊥)
  pub then_totals : (y : System) → x ≡ opened y → LongEnough y table → (rs : List EngineRecord) → Stated y sheet rs → Each (SumsAndFit y) rs
      → (o ≡ wrong from_input 34) ↔ (AddUp y rs → ⊥)
  pub or_right : (y : System) → x ≡ opened y → LongEnough y table → (rs : List EngineRecord) → Stated y sheet rs → Each (SumsAndFit y) rs → AddUp y rs
      → (fewer : Bool) × (o ≡ right fewer)

-- What the call `check_sheet` promises: its answer and the table, whole; the order of its refusals; that exactly the sheets of good assignments of all
-- instances are right;
-- that "fewer" is said exactly when some good assignment uses fewer engines than the sheet's fourth byte says; and that only a right sheet fills the table
pub record CheckPromises (x : Reading) (sheet : List ℕ) (table : Lent) (r : Result Bool Refusal) (after : Lent) : Type 0 where
  pub answers : sheet_outcome_of r ≡ check_outcome x sheet table
  pub leaves_table : after ≡ check_table x sheet table
  pub order : ChecksInOrder x sheet table (sheet_outcome_of r)
  pub exactly : (y : System) → x ≡ opened y → LongEnough y table
      → ((fewer : Bool) × (sheet_outcome_of r ≡ right fewer)) ↔ ((χ : Assignment) × GoodForAll y χ × (sheet ≡ sheet_out y χ))
  pub fewer : (y : System) (told : Bool) → x ≡ opened y → sheet_outcome_of r ≡ right told
      → (told ≡ true) ↔ ((χ : Assignment) × GoodForAll y χ × (used_to y.engines χ < get_or sheet 3 0))
  pub as_lent : (s : Source) (n : ℕ) → sheet_outcome_of r ≡ wrong s n → after ≡ table
  pub filled_on_right : (y : System) (told : Bool) → x ≡ opened y → sheet_outcome_of r ≡ right told → FilledMeans y y.engines table after

-- The writer

-- a good assignment of all instances on the fewest engines
pub record GoodOnFewest (y : System) (χ : Assignment) : Type 0 where
  pub good : GoodForAll y χ
  pub fewest : (χ' : Assignment) → GoodForAll y χ' → used_to y.engines χ ≤ used_to y.engines χ'

-- 1 to 10, 31 and 41 to 43, then 11, 12, 30: a sheet on u engines has 5 + u × (12 + 2k) bytes
pub record SheetsInOrder (x : Reading) (table : Lent) (buffer : List ℕ) (o : Outcome) : Type 0 where
  pub file_first : (n : ℕ) → x ≡ unread n → o ≡ refused from_input n
  pub then_table : (y : System) → x ≡ opened y → (o ≡ refused from_input 11) ↔ TooShort y table
  pub then_place : (y : System) → x ≡ opened y → LongEnough y table → (o ≡ refused from_input 12) ↔ Impossible y (EngineOf y) (ceiling_no y)
  pub then_room : (y : System) → x ≡ opened y → LongEnough y table → (χ : Assignment) → GoodOnFewest y χ
      → (o ≡ refused from_input 30) ↔ (length buffer < 5 + used_to y.engines χ * (12 + 2 * y.typecount))
  pub or_written : (y : System) → x ≡ opened y → LongEnough y table → (χ : Assignment) → GoodOnFewest y χ
      → 5 + used_to y.engines χ * (12 + 2 * y.typecount) ≤ length buffer
      → o ≡ accepted ((5 + used_to y.engines χ * (12 + 2 * y.typecount)) ∷ [])

-- the first n bytes of the buffer are the sheet of a good assignment of all instances on the fewest engines, and later bytes are unchanged
pub record SheetWritten (y : System) (n : ℕ) (old new : List ℕ) : Type 0 where
  pub mapping : Assignment
  pub on_fewest : GoodOnFewest y mapping
  pub size : n ≡ length (sheet_out y mapping)
  pub bytes : new ≡ sheet_out y mapping ++ drop n old

-- the records of the engines 1 to u, each with the load that a plan gives to that engine
unfoldable pub records_to : List EngineLoad → ℕ → List EngineRecord
records_to loads zero = []
records_to loads (suc e) = records_to loads e ++ (record { number = suc e; load = record_no loads (suc e) } ∷ [])

-- "We write our plans so": the bytes are the sheet of whatever plan `plan_of` gives for that file, over any table and with room for any number of records:
-- the number of engines that it uses, and then the records of just these engines, 1 to that number
abbrev pub OfPlan : Reading → List ℕ → Type 0
OfPlan x sheet =
    (y : System) (p : Plan) (table : Lent) (room : ℕ) (after : Lent) (used : ℕ) → x ≡ opened y → PlanPromises x table room p after → outcome_of p.answer ≡ accepted (used ∷ [])
    → sheet ≡ sheet_with y.typecount (records_to p.loads used)

-- What the call `write_sheet` promises: its answer, the table and the buffer, whole; the order of its refusals; demand 1; the bytes; that the check finds
-- them right, and no fewer engines;
-- and that they are those of the plan that `plan_of` gives
pub record WriteSheetPromises (x : Reading) (table : Lent) (buffer : List ℕ) (r : Answer) (table_after : Lent) (buffer_after : List ℕ) : Type 0 where
  pub answers : outcome_of r ≡ write_outcome (sheet_verdict x table) (length buffer)
  pub leaves_table : table_after ≡ write_table x table
  pub leaves_buffer : buffer_after ≡ written_to (sheet_verdict x table) buffer
  pub order : SheetsInOrder x table buffer (outcome_of r)
  pub as_lent : (s : Source) (n : ℕ) → outcome_of r ≡ refused s n → buffer_after ≡ buffer
  pub table_as_lent : (s : Source) (n : ℕ) → outcome_of r ≡ refused s n → (n ≡ 12 → ⊥) → (n ≡ 30 → ⊥) → table_after ≡ table
  pub unread_lent : (n : ℕ) → x ≡ unread n → table_after ≡ table
  pub table_filled : (y : System) → x ≡ opened y → LongEnough y table → FilledMeans y y.engines table table_after
  pub writes : (y : System) (n : ℕ) → x ≡ opened y → outcome_of r ≡ accepted (n ∷ []) → SheetWritten y n buffer buffer_after
  pub is_right : (y : System) (n : ℕ) (other : Lent) → x ≡ opened y → outcome_of r ≡ accepted (n ∷ []) → LongEnough y other
      → check_outcome x (take n buffer_after) other ≡ right false
  pub same_plan : (n : ℕ) → outcome_of r ≡ accepted (n ∷ []) → OfPlan x (take n buffer_after)

-- What is easily narrowed in a promise, written out a second time: where 11, 12 and 15 are said, of parts and lists of any length; which sheets are right, of
-- sheets of any length; where 13 and
-- 14 are said, of numbers of any size; where 30 and 38 are said, of buffers and parts of any length; what a call leaves past what it writes, of a buffer or
-- part that held anything before;
-- how an input comes apart into a file and a sheet; what the text of a plan handed in tells; that an engine of a plan misses no deadline; the number of each
-- cause; and a system of which nothing was read,
-- with its board; that a refusal keeps the board; which plan a listing tells; and which runs of an engine are refused, of any counts and ticks.
use Rattle.std.specs.Prelude.{ℕ, ◌+◌, ◌-◌, ◌*◌, ◌≤◌, ◌<◌, List, [], ◌∷◌, ◌++◌, Bool, false, ◌≡◌, ◌↔◌, ◌⊎◌, length, get_or, take, drop, replicate, None, Option, Some, Err}
use Rattle.system.specs.declared.Kind.{Kind}
use Rattle.system.specs.declared.Refusal.{Refusal}
use Rattle.system.specs.declared.Refusal.TheVariants.{Input, State}
use Rattle.system.specs.declared.TaskType.{TaskType}
use Rattle.system.specs.declared.System.{System}
use Rattle.system.specs.Layout.{Reading, opened, unread, read_card, read_file}
use Rattle.system.specs.Card.{card_of}
use Rattle.system.specs.Outcome.{Outcome, Source, accepted, refused, from_input}
use Rattle.partition.specs.Assignment.{Assignment}
use Rattle.partition.specs.Lent.{Lent}
use Rattle.partition.specs.Plain.{columns_out, type_no, ceiling_no, EngineOf, Partition, record_no}
use Rattle.partition.specs.PlainKinds.{MixedPartition}
use Rattle.loads.specs.declared.EngineLoad.{EngineLoad}
use Rattle.planner.specs.declared.EngineRecord.{EngineRecord}
use Rattle.planner.specs.declared.Plan.{Plan}
use Rattle.planner.specs.Demands.{entry_no}
use Rattle.planner.specs.MixedDemands.{PlanCall}
use Rattle.deadlines.specs.Outcome.{FirstMiss, RunOutcome, ran, not_run}
use Rattle.deadlines.specs.Meaning.{RunMeans}
use Rattle.deadlines.specs.Plans.{NoneMissed, PlanRuns}
use Rattle.board.specs.declared.Board.{Board}
use Rattle.board.specs.Words.{IsTrue}
use Rattle.causes.specs.declared.Cause.{Cause}
use Rattle.causes.specs.declared.Cause.TheVariants.{Possible, NoEngine, OneTooLarge, TooMuchTime, TooMuchMemory, TooManyReplicas, NoArrangement}
use Rattle.listing.specs.Listing.{plan_listing}
use Rattle.listing.specs.Demands.{TellsRefusal, TellsRecords}
use Rattle.sheets.specs.Checking.{SheetOutcome, right}
use Rattle.sheets.specs.Meaning.{sheet_out, GoodForAll}

-- of every file that opens, 11 is said exactly where one of the two parts has fewer entries than there are columns
abbrev pub Says11 : Reading → List ℕ → List ℕ → Type 0 → Type 0
Says11 x rows predecessors said = (y : System) → x ≡ opened y → said ↔ ((length rows < columns_out y) ⊎ (length predecessors < columns_out y))

-- of a true board likewise, by the columns of its system
abbrev pub BoardSays11 : Board → List ℕ → List ℕ → Outcome → Type 0
BoardSays11 b rows predecessors o =
    IsTrue b → (o ≡ refused from_input 11) ↔ ((length rows < columns_out b.system) ⊎ (length predecessors < columns_out b.system))

-- the engines of one kind, or of both
abbrev pub engines_in : System → Option Kind → ℕ
engines_in y None = y.engines
engines_in y (Some k) = y.engines + k.number

-- where both parts are long enough, 15 is said exactly where the list has fewer records than there are engines
abbrev pub Says15 : Reading → List ℕ → List ℕ → ℕ → Outcome → Type 0
Says15 x rows predecessors room o =
    (y : System) → x ≡ opened y → columns_out y ≤ length rows → columns_out y ≤ length predecessors → (o ≡ refused from_input 15) ↔ (room < engines_in y y.second)

-- and where parts and list are long enough, 12 is said exactly where no assignment partitions all instances among the engines of one kind, or of both
abbrev pub NoPartition : System → Option Kind → Type 0
NoPartition y None = (χ : Assignment) → Partition y (EngineOf y) (ceiling_no y) χ → ⊥
NoPartition y (Some k) = (χ : Assignment) → MixedPartition y k (ceiling_no y) χ → ⊥

abbrev pub Says12 : Reading → List ℕ → List ℕ → ℕ → Outcome → Type 0
Says12 x rows predecessors room o =
    (y : System) → x ≡ opened y → columns_out y ≤ length rows → columns_out y ≤ length predecessors → engines_in y y.second ≤ room
    → (o ≡ refused from_input 12) ↔ NoPartition y y.second

-- and a sheet is right exactly where all its bytes, to its end, are those of a good assignment of all instances
abbrev pub RightExactly : Reading → List ℕ → List ℕ → List ℕ → SheetOutcome → Type 0
RightExactly x sheet rows predecessors o =
    (y : System) → x ≡ opened y → columns_out y ≤ length rows → columns_out y ≤ length predecessors
    → ((fewer : Bool) × (o ≡ right fewer)) ↔ ((χ : Assignment) × GoodForAll y χ × (sheet ≡ sheet_out y χ))

-- request 2026-14, of what a plan call of one kind of engine hands out: whatever run is made of an engine's counts, at whatever number of ticks, no deadline
-- is missed
abbrev pub PlanKeeps : List ℕ → List EngineLoad → Outcome → Type 0
PlanKeeps file loads o = (used : ℕ) → o ≡ accepted (used ∷ []) → PlanRuns file loads

abbrev pub ListKeeps : List ℕ → List EngineRecord → Outcome → Type 0
ListKeeps file list o = (y : System) (used e : ℕ) → read_file file ≡ opened y → o ≡ accepted (used ∷ []) → 1 ≤ e → e ≤ used → NoneMissed file (entry_no list e).load.counts

-- a text call's buffer before and after: the r bytes of the text are within it, and every byte past them is the one that stood there, whatever it was
abbrev pub KeptPastText : List ℕ → List ℕ → ℕ → Type 0
KeptPastText old new r = (r ≤ length new) × (new ≡ take r new ++ drop r old)

-- a call that writes bytes: those past the ones that it answers are as they were, and where it refuses all are
abbrev pub KeptPastAnswer : List ℕ → List ℕ → Outcome → Type 0
KeptPastAnswer old new o = ((n : ℕ) → o ≡ accepted (n ∷ []) → KeptPastText old new n) × ((s : Source) (n : ℕ) → o ≡ refused s n → new ≡ old)

-- where nothing else is in the way, 30 is said exactly where the buffer has fewer bytes than what is to be written
abbrev pub Says30 : Type 0 → ℕ → ℕ → Outcome → Type 0
Says30 may_be size room o = may_be → (o ≡ refused from_input 30) ↔ (room < size)

-- of a file that opens and whose total is not refused, 38 is said exactly where the part has fewer than two entries for each column
abbrev pub Says38 : Reading → List ℕ → Outcome → Type 0
Says38 x part o = (y : System) → x ≡ opened y → (o ≡ refused from_input 37 → ⊥) → (o ≡ refused from_input 38) ↔ (length part < 2 * columns_out y)

-- and what a count leaves: a part as long as before, the entries past those two for each column as they were, and where it refuses all
pub record KeptPastColumns (x : Reading) (part after : List ℕ) (o : Outcome) : Type 0 where
  pub as_long : length after ≡ length part
  pub past : (y : System) (i : ℕ) → x ≡ opened y → 2 * columns_out y ≤ i → get_or after i 0 ≡ get_or part i 0
  pub as_lent : (s : Source) (n : ℕ) → o ≡ refused s n → after ≡ part

-- of every input to a check, with two bytes in front, 0 where one is missing: the file is as many of the bytes behind them as these say, and the sheet is all
-- the others, to the last
abbrev pub file_in : List ℕ → List ℕ
file_in input = take (256 * get_or input 0 0 + get_or input 1 0) (drop 2 input)

abbrev pub sheet_in : List ℕ → List ℕ
sheet_in input = drop (256 * get_or input 0 0 + get_or input 1 0) (drop 2 input)

-- what a plan's text tells: a refusal from either list with its number, and else the records of the engines that it uses
abbrev pub TellsOfPlan : Plan → List ℕ → Type 0
TellsOfPlan p text =
    ((n : ℕ) → p.answer ≡ Err (Input n) → TellsRefusal n text)
    × ((n : ℕ) → p.answer ≡ Err (State n) → TellsRefusal n text)
    × (((why : Refusal) → p.answer ≡ Err why → ⊥) → p.used ≤ length p.loads → p.used ≤ length p.numbers
    → ((e : ℕ) → 1 ≤ e → e ≤ p.used → p.typecount ≤ length (record_no p.loads e).counts)
    → TellsRecords p.used p.typecount p.numbers p.loads text)

-- of a true board, 13 is said of every number that is not a type's, 1 to k, and of no other; no number is cut, however large
abbrev pub Says13 : Board → ℕ → Outcome → Type 0
Says13 b t o = IsTrue b → (o ≡ refused from_input 13) ↔ ((1 ≤ t) × (t ≤ b.system.typecount) → ⊥)

-- and 14 of every number that is not an engine's, 1 to m
abbrev pub Says14 : Board → ℕ → Outcome → Type 0
Says14 b e o = IsTrue b → (o ≡ refused from_input 14) ↔ ((1 ≤ e) × (e ≤ b.system.engines) → ⊥)

-- the request's number of each cause
abbrev pub NumberedAsAsked : Cause → ℕ → Type 0
NumberedAsAsked c n =
    (c ≡ Possible → n ≡ 0)
    × (c ≡ NoEngine → n ≡ 1)
    × ((t : ℕ) → c ≡ OneTooLarge t → n ≡ 2)
    × (c ≡ TooMuchTime → n ≡ 3)
    × (c ≡ TooMuchMemory → n ≡ 4)
    × (c ≡ TooManyReplicas → n ≡ 5)
    × (c ≡ NoArrangement → n ≡ 6)

-- a type of which nothing is known: no time, no memory, no instance, no data, and neither q nor C and T nor costs on a second kind
abbrev pub unknown_type : TaskType
unknown_type = record { time = 0; memory = 0; ceiling = 0; «data» = 0; most = None; pace = None; there = None }

-- a system of which nothing was read
abbrev pub NothingRead : System → Type 0
NothingRead y =
    (y.engines ≡ 0)
    × (y.rule ≡ 0)
    × (y.timecap ≡ 0)
    × (y.memorycap ≡ 0)
    × (y.typecount ≡ 0)
    × (y.types ≡ replicate 6 unknown_type)
    × (y.second ≡ None)

-- and the board of a file that does not read: such a system, sixteen engines that hold nothing, and no mark
abbrev pub NothingOpened : Board → Type 0
NothingOpened b =
    NothingRead b.system
    × (b.loads ≡ replicate 16 (record { time = 0; memory = 0; counts = 0 ∷ 0 ∷ 0 ∷ 0 ∷ 0 ∷ 0 ∷ [] }))
    × (b.marks ≡ replicate 16 false)

-- "It returns the board as given": at every refusal, whatever its number
abbrev pub BoardKept : Board → Outcome → Board → Type 0
BoardKept b o after = (s : Source) (n : ℕ) → o ≡ refused s n → after ≡ b

-- the plan that a listing tells is the one that `plan_of` gives, which has 16 records: over the same table, which is left as that call leaves it
abbrev pub ListsItsPlan : List ℕ → Lent → List ℕ → Lent → Type 0
ListsItsPlan file table text left = (p : Plan) (after : Lent) → PlanCall (card_of (read_card file)) table 16 p after → (text ≡ plan_listing p) × (left ≡ after)

-- and over any table that is long enough, where the listing has a table of its own
abbrev pub ListsAnyPlan : List ℕ → List ℕ → Type 0
ListsAnyPlan file text =
    (p : Plan) (table after : Lent) → ((y : System) → read_card file ≡ opened y → (columns_out y ≤ length table.rows) × (columns_out y ≤ length table.predecessors))
    → PlanCall (card_of (read_card file)) table 16 p after → text ≡ plan_listing p

-- a run of any counts and any number of ticks: of a file that opens 44 is said exactly where a type of which an instance stands is past k or has no C and T,
-- else 45 exactly where more than 64 instances stand or more than 65,535 ticks are asked for, and else it is run and reported as request 2026-14 says
pub record RunsPlainly (x : Reading) (counts : List ℕ) (ticks : ℕ) (o : RunOutcome) : Type 0 where
  pub does_not_read : (n : ℕ) → x ≡ unread n → o ≡ not_run from_input n
  pub says44 : (y : System) → x ≡ opened y → (o ≡ not_run from_input 44)
      ↔ ((t : ℕ) × (1 ≤ t) × (t ≤ 6) × (1 ≤ get_or counts (t - 1) 0) × ((y.typecount < t) ⊎ ((type_no y t).pace ≡ None)))
  pub says45 : (y : System) → x ≡ opened y → (o ≡ not_run from_input 44 → ⊥) → (o ≡ not_run from_input 45)
      ↔ ((64 < get_or counts 0 0 + (get_or counts 1 0 + (get_or counts 2 0 + (get_or counts 3 0 + (get_or counts 4 0 + get_or counts 5 0))))) ⊎ (65535 < ticks))
  pub reports : (y : System) → x ≡ opened y → (o ≡ not_run from_input 44 → ⊥) → (o ≡ not_run from_input 45 → ⊥)
      → (idle : ℕ) × (miss : FirstMiss) × (o ≡ ran idle miss) × RunMeans y counts ticks idle miss

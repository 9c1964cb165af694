-- How an answer is read, case by case: the promises speak of an answer through a word that reads it as accepted or refused, and here each such word is said
-- of every case of its enum, so that none
-- can read one answer as another. And what reading a file, and a part of a file, hands out, apart from the words by which the code is described.
use Rattle.std.specs.Prelude.{ℕ, ◌-◌, ◌≤◌, ◌<◌, List, [], ◌∷◌, Bool, true, false, ◌≡◌, ◌↔◌, ◌⊎◌, length, take, drop, Ok, Err, None, Some, Result}
use Rattle.system.specs.declared.Refusal.{Refusal}
use Rattle.system.specs.declared.Refusal.TheVariants.{Input, State}
use Rattle.system.specs.Outcome.{Answer, Outcome, Source, accepted, refused, from_input, from_state, outcome_of, is_accepted}
use Rattle.system.specs.declared.System.{System}
use Rattle.system.specs.declared.Opened.{Opened}
use Rattle.system.specs.Layout.{Reading, opened, unread}
use Rattle.partition.specs.Lent.{Lent}
use Rattle.board.specs.declared.Turn.{Turn}
use Rattle.board.specs.Calls.{Result as Gives, gave, Does}
use Rattle.causes.specs.declared.Cause.{Cause}
use Rattle.causes.specs.declared.Cause.TheVariants.{Possible, NoEngine, OneTooLarge, TooMuchTime, TooMuchMemory, TooManyReplicas, NoArrangement}
use Rattle.causes.specs.Causes.{cause_outcome_of, told}
use Rattle.causes.specs.Meaning.{Numbered, EachImplies}
use Rattle.sheets.specs.Checking.{right, wrong, sheet_outcome_of}
use Rattle.counting.specs.declared.Counts.{Counts}
use Rattle.counting.specs.Meaning.{counted_outcome}
use Rattle.runs.specs.declared.Report.{Report}
use Rattle.deadlines.specs.Outcome.{FirstMiss, all_kept, first_at, RunOutcome, ran, not_run, run_outcome_of}
use Rattle.listing.specs.Demands.{number_of}
use Rattle.clients.specs.Wide.{NothingRead}

-- An answer

pub record AnswersRead : Type 0 where
  pub yes : (ns : List ℕ) → is_accepted (accepted ns) ≡ true
  pub no : (s : Source) (n : ℕ) → is_accepted (refused s n) ≡ false
  pub none : outcome_of (Ok None) ≡ accepted []
  pub number : (n : ℕ) → outcome_of (Ok (Some n)) ≡ accepted (n ∷ [])
  pub input : (n : ℕ) → outcome_of (Err (Input n)) ≡ refused from_input n
  pub state : (n : ℕ) → outcome_of (Err (State n)) ≡ refused from_state n

-- the cause of a refusal: its number, and after 2 the type that is named
pub record CausesRead : Type 0 where
  pub zero : cause_outcome_of (Ok Possible) ≡ accepted (0 ∷ [])
  pub one : cause_outcome_of (Ok NoEngine) ≡ accepted (1 ∷ [])
  pub two : (t : ℕ) → cause_outcome_of (Ok (OneTooLarge t)) ≡ accepted (2 ∷ t ∷ [])
  pub three : cause_outcome_of (Ok TooMuchTime) ≡ accepted (3 ∷ [])
  pub four : cause_outcome_of (Ok TooMuchMemory) ≡ accepted (4 ∷ [])
  pub five : cause_outcome_of (Ok TooManyReplicas) ≡ accepted (5 ∷ [])
  pub six : cause_outcome_of (Ok NoArrangement) ≡ accepted (6 ∷ [])
  pub input : (n : ℕ) → cause_outcome_of (Err (Input n)) ≡ refused from_input n
  pub state : (n : ℕ) → cause_outcome_of (Err (State n)) ≡ refused from_state n
  -- the word for a cause that is given reads it alike
  pub given : (c : Cause) → told c ≡ cause_outcome_of (Ok c)

-- a sheet: right, with whether fewer engines would do
pub record SheetsRead : Type 0 where
  pub is_right : (fewer : Bool) → sheet_outcome_of (Ok fewer) ≡ right fewer
  pub input : (n : ℕ) → sheet_outcome_of (Err (Input n)) ≡ wrong from_input n
  pub state : (n : ℕ) → sheet_outcome_of (Err (State n)) ≡ wrong from_state n

-- a count: the good assignments, then all
pub record CountsRead : Type 0 where
  pub counted : (c : Counts) → counted_outcome (Ok c) ≡ accepted (c.good ∷ c.total ∷ [])
  pub input : (n : ℕ) → counted_outcome (Err (Input n)) ≡ refused from_input n
  pub state : (n : ℕ) → counted_outcome (Err (State n)) ≡ refused from_state n

-- a run: its idle ticks, and that no deadline was missed or when the first was
pub record RunsRead : Type 0 where
  pub kept : (idle : ℕ) → run_outcome_of (Ok (record { idle = idle; missed = None })) ≡ ran idle all_kept
  pub missed : (idle d : ℕ) → run_outcome_of (Ok (record { idle = idle; missed = Some d })) ≡ ran idle (first_at d)
  pub input : (n : ℕ) → run_outcome_of (Err (Input n)) ≡ not_run from_input n
  pub state : (n : ℕ) → run_outcome_of (Err (State n)) ≡ not_run from_state n

-- and the number of a refusal whose text is written
pub record NumbersRead : Type 0 where
  pub input : (n : ℕ) → number_of (Input n) ≡ n
  pub state : (n : ℕ) → number_of (State n) ≡ n

-- and every answer is one of the cases that stand here
pub record OneOfThese : Type 0 where
  pub outcome : (o : Outcome) → ((ns : List ℕ) × (o ≡ accepted ns)) ⊎ ((s : Source) × (n : ℕ) × (o ≡ refused s n))
  pub source : (s : Source) → (s ≡ from_input) ⊎ (s ≡ from_state)
  -- and the two lists are two
  pub apart : from_input ≡ from_state → ⊥
  pub refusal : (why : Refusal) → ((n : ℕ) × (why ≡ Input n)) ⊎ ((n : ℕ) × (why ≡ State n))
  pub answer : (r : Answer) → (r ≡ (Ok None)) ⊎ (((n : ℕ) × (r ≡ Ok (Some n))) ⊎ ((why : Refusal) × (r ≡ Err why)))
  pub cause : (r : Result Cause Refusal) → ((c : Cause) × (r ≡ Ok c)) ⊎ ((why : Refusal) × (r ≡ Err why))
  pub one_cause : (c : Cause) → (c ≡ Possible) ⊎ ((c ≡ NoEngine) ⊎ (((t : ℕ) × (c ≡ OneTooLarge t)) ⊎ ((c ≡ TooMuchTime)
      ⊎ ((c ≡ TooMuchMemory) ⊎ ((c ≡ TooManyReplicas) ⊎ (c ≡ NoArrangement))))))
  pub sheet : (r : Result Bool Refusal) → ((fewer : Bool) × (r ≡ Ok fewer)) ⊎ ((why : Refusal) × (r ≡ Err why))
  pub count : (r : Result Counts Refusal) → ((c : Counts) × (r ≡ Ok c)) ⊎ ((why : Refusal) × (r ≡ Err why))
  pub run : (r : Result Report Refusal) → ((p : Report) × (r ≡ Ok p)) ⊎ ((why : Refusal) × (r ≡ Err why))
  pub report : (p : Report) → ((idle : ℕ) × (p ≡ record { idle = idle; missed = None })) ⊎ ((idle d : ℕ) × (p ≡ record { idle = idle; missed = Some d }))
  pub run_outcome : (o : RunOutcome) → ((idle : ℕ) × (miss : FirstMiss) × (o ≡ ran idle miss)) ⊎ ((s : Source) × (n : ℕ) × (o ≡ not_run s n))
  pub first_miss : (m : FirstMiss) → (m ≡ all_kept) ⊎ ((d : ℕ) × (m ≡ first_at d))
  -- and a run that missed none is not one that missed
  pub miss_apart : (d : ℕ) → all_kept ≡ first_at d → ⊥

-- What a call on a board gave: its answer, the board that it returned and what the table then held; and that it did what is defined is that these three are
-- what is defined
abbrev pub GaveIs : Type 0
GaveIs = (r : Turn) (after : Lent) → ((gave r after).outcome ≡ outcome_of r.answer) × ((gave r after).board ≡ r.board) × ((gave r after).table ≡ after)

abbrev pub DoesIs : Type 0
DoesIs = (x : Gives) (r : Turn) (after : Lent) → Does x r after ↔ ((outcome_of r.answer ≡ x.outcome) × (r.board ≡ x.board) × (after ≡ x.table))

-- Request 2026-08, "Causes 1 to 5 each imply refusal", closed: of every system, load and engines
abbrev pub ImpliedAlways : Type 1
ImpliedAlways = (y : System) (E : ℕ → Type 0) (r : ℕ) (count : ℕ → ℕ) → Numbered E r → EachImplies y E r count

-- What reading a file hands out: the system that the file reads as, and else the number of its refusal and a system of which nothing was read
abbrev pub ReadsPlainly : Reading → Opened → Type 0
ReadsPlainly x r =
    ((y : System) → x ≡ opened y → (outcome_of r.answer ≡ accepted []) × (r.system ≡ y))
    × ((n : ℕ) → x ≡ unread n → (outcome_of r.answer ≡ refused from_input n) × NothingRead r.system)

-- the part of a file from one place to another, nothing where there is no such part
abbrev pub PartPlainly : List ℕ → ℕ → ℕ → List ℕ → Type 0
PartPlainly file start end part =
    (start ≤ end → end ≤ length file → part ≡ take (end - start) (drop start file))
    × ((end < start) ⊎ (length file < end) → part ≡ [])

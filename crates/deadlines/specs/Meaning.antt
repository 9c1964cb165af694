-- Request 2026-14 in words of its own: who runs in each tick, how many ticks a job ran between its arrival and its deadline, and what is reported of it.
-- None of these words stands in the definitions by which the code is described, so that code and statement cannot be wrong together.
use Rattle.std.specs.Prelude.{ℕ, zero, suc, ◌+◌, ◌-◌, ◌*◌, ◌/◌, ◌%◌, ◌≤◌, ◌<◌, List, cond, ◌&&◌, ◌≡◌, ◌⊎◌, ◌↔◌, get_or, eqb, None, Some, Result}
use Rattle.system.specs.declared.Refusal.{Refusal}
use Rattle.runs.specs.declared.Report.{Report}
use Rattle.system.specs.declared.Cycle.{Cycle}
use Rattle.system.specs.declared.System.{System}
use Rattle.system.specs.Layout.{Reading, opened, unread}
use Rattle.system.specs.Outcome.{from_input}
use Rattle.partition.specs.Plain.{type_no}
use Rattle.deadlines.specs.Outcome.{FirstMiss, all_kept, first_at, ran, not_run, run_outcome_of}
use Rattle.deadlines.specs.Engine.{run_engine}

-- Who runs

-- a type and an instance of it for each tick, both counted from 1; type 0 in a tick in which nobody runs
pub record Schedule : Type 0 where
  pub kind : ℕ → ℕ
  pub instance : ℕ → ℕ

-- in how many of the n ticks from `start` on instance i of type t ran
unfoldable pub ran_for : Schedule → (t i start n : ℕ) → ℕ
ran_for σ t i start zero = 0
ran_for σ t i start (suc n) = ran_for σ t i start n + cond (eqb (σ.kind (start + n)) t && eqb (σ.instance (start + n)) i) 1 0

-- in how many of the first n ticks nobody ran
unfoldable pub idle_for : Schedule → ℕ → ℕ
idle_for σ zero = 0
idle_for σ (suc n) = idle_for σ n + cond (eqb (σ.kind n) 0) 1 0

-- the number of instances of type t on the engine, counted from 1
abbrev pub count_no : List ℕ → ℕ → ℕ
count_no counts t = get_or counts (t - 1) 0

-- instance i of type t is on the engine, with its C and T
pub record Runs (y : System) (counts : List ℕ) (t i : ℕ) (c : Cycle) : Type 0 where
  pub is_type : (1 ≤ t) × (t ≤ 6)
  pub is_instance : (1 ≤ i) × (i ≤ count_no counts t)
  pub paced : (type_no y t).pace ≡ Some c

-- "jobs arrive at 0 and every T, each due at the next arrival": the last arrival at or before the instant τ, and the deadline of the job that came with it
abbrev pub arrival : Cycle → ℕ → ℕ
arrival c τ = c.period * (τ / c.period)

abbrev pub deadline : Cycle → ℕ → ℕ
deadline c τ = arrival c τ + c.period

-- that job has run less than C before tick τ
abbrev pub Waits : Schedule → ℕ → ℕ → Cycle → ℕ → Type 0
Waits σ t i c τ = ran_for σ t i (arrival c τ) (τ % c.period) < c.run

-- "the job with the earliest deadline .., ties to the lower type, then the lower instance": due at d, instance i of type t goes before instance i' of type
-- t', due at d'
pub data GoesBefore (d t i d' t' i' : ℕ) : Type 0 where
  sooner : d < d' → GoesBefore d t i d' t' i'
  lower_type : d ≡ d' → t < t' → GoesBefore d t i d' t' i'
  lower_instance : d ≡ d' → t ≡ t' → i < i' → GoesBefore d t i d' t' i'

-- in tick τ nobody waits and nobody runs, or one that waits runs, and goes before every other that waits
pub data TickIs (y : System) (counts : List ℕ) (σ : Schedule) (τ : ℕ) : Type 0 where
  nobody : σ.kind τ ≡ 0 → ((t i : ℕ) (c : Cycle) → Runs y counts t i c → Waits σ t i c τ → ⊥) → TickIs y counts σ τ
  somebody : (t i : ℕ) (c : Cycle) → σ.kind τ ≡ t → σ.instance τ ≡ i → Runs y counts t i c → Waits σ t i c τ
      → ((t' i' : ℕ) (c' : Cycle) → Runs y counts t' i' c' → Waits σ t' i' c' τ → ((t' ≡ t) × (i' ≡ i)) ⊎ GoesBefore (deadline c τ) t i (deadline c' τ) t' i')
      → TickIs y counts σ τ

-- What is reported

-- a deadline is missed at the instant d: it is that of some instance's job, which came one period before and ran less than C since
pub record MissedAt (y : System) (counts : List ℕ) (σ : Schedule) (d : ℕ) : Type 0 where
  pub kind : ℕ
  pub instance : ℕ
  pub cycle : Cycle
  pub job : ℕ
  pub runs : Runs y counts kind instance cycle
  pub due : d ≡ cycle.period * job + cycle.period
  pub short : ran_for σ kind instance (cycle.period * job) cycle.period < cycle.run

-- "the first missed deadline, where it ends: one at or before the last tick's end", and the idle ticks before that end
pub record ReportIs (y : System) (counts : List ℕ) (σ : Schedule) (ticks idle : ℕ) (miss : FirstMiss) : Type 0 where
  pub first : (d : ℕ) → (miss ≡ first_at d) ↔ ((d ≤ ticks) × MissedAt y counts σ d × ((sooner : ℕ) → sooner < d → MissedAt y counts σ sooner → ⊥))
  pub none : (miss ≡ all_kept) ↔ ((d : ℕ) → d ≤ ticks → MissedAt y counts σ d → ⊥)
  pub idle_to_miss : (d : ℕ) → miss ≡ first_at d → idle ≡ idle_for σ d
  pub idle_to_end : miss ≡ all_kept → idle ≡ idle_for σ ticks

-- a report is that of the one schedule that the rule makes
pub record RunMeans (y : System) (counts : List ℕ) (ticks idle : ℕ) (miss : FirstMiss) : Type 0 where
  pub schedule : Schedule
  pub follows : (τ : ℕ) → TickIs y counts schedule τ
  pub reports : ReportIs y counts schedule ticks idle miss

-- What is refused

-- "44, when a type on the engine has no tag 5", "a count past k that is not 0 is a type without tag 5"
pub record NoPace (y : System) (counts : List ℕ) : Type 0 where
  pub kind : ℕ
  pub is_type : (1 ≤ kind) × (kind ≤ 6)
  pub some : 1 ≤ count_no counts kind
  pub without : (y.typecount < kind) ⊎ ((type_no y kind).pace ≡ None)

-- "45, when instances or ticks exceed the numbers above": "up to 64 instances and 65,535 ticks"
abbrev pub instances_on : List ℕ → ℕ
instances_on counts = count_no counts 1 + (count_no counts 2 + (count_no counts 3 + (count_no counts 4 + (count_no counts 5 + count_no counts 6))))

abbrev pub TooMuch : List ℕ → ℕ → Type 0
TooMuch counts ticks = (64 < instances_on counts) ⊎ (65535 < ticks)

-- What the call `run_engine` promises of what every file reads as, six counts and number of ticks: its whole answer; the order of its refusals; and what a
-- report means.
-- The bytes of the file are not known here: two files that read alike are run alike
pub record RunPromises (x : Reading) (counts : List ℕ) (ticks : ℕ) (r : Result Report Refusal) : Type 0 where
  pub answers : run_outcome_of r ≡ run_engine x counts ticks
  pub file_first : (n : ℕ) → x ≡ unread n → run_outcome_of r ≡ not_run from_input n
  pub then44 : (y : System) → x ≡ opened y → (run_outcome_of r ≡ not_run from_input 44) ↔ NoPace y counts
  pub then45 : (y : System) → x ≡ opened y → (NoPace y counts → ⊥) → (run_outcome_of r ≡ not_run from_input 45) ↔ TooMuch counts ticks
  pub else : (y : System) → x ≡ opened y → (NoPace y counts → ⊥) → (TooMuch counts ticks → ⊥)
      → (idle : ℕ) × (miss : FirstMiss) × (run_outcome_of r ≡ ran idle miss)
  pub means : (y : System) (idle : ℕ) (miss : FirstMiss) → x ≡ opened y → run_outcome_of r ≡ ran idle miss → RunMeans y counts ticks idle miss

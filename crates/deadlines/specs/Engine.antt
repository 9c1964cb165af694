-- Request 2026-14, the call: from what a file reads as, six counts and a number of ticks to the report of the run, or 44, 45 in this order.
use Rattle.std.specs.Prelude.{ℕ, ◌+◌, List, [], ◌∷◌, ◌++◌, Bool, true, false, ◌&&◌, ◌||◌, replicate, eqb, leb, Option, None, Some}
use Rattle.system.specs.declared.Cycle.{Cycle}
use Rattle.system.specs.declared.TaskType.{TaskType}
use Rattle.system.specs.declared.System.{System}
use Rattle.system.specs.Limits.{tick_limit}
use Rattle.system.specs.Layout.{Reading, opened, unread}
use Rattle.system.specs.Outcome.{from_input, Checked, passes, fails, check, and_then}
use Rattle.runs.specs.declared.Job.{Job}
use Rattle.runs.specs.Run.{job_of, no_job, job_limit, run_of}
use Rattle.deadlines.specs.Outcome.{RunOutcome, not_run, reported_as}

-- the type has a C and a T. One past k has none
abbrev pub has_pace : Option Cycle → Bool
has_pace None = false
has_pace (Some c) = true

abbrev pub paced_type : TaskType → Bool
paced_type t = has_pace t.pace

-- every type of which an instance stands has them
unfoldable pub all_paced : List TaskType → List ℕ → Bool
all_paced [] ns = true
all_paced (t ∷ ts) [] = true
all_paced (t ∷ ts) (n ∷ ns) = (eqb n 0 || paced_type t) && all_paced ts ns

-- the instances of all types
unfoldable pub instances : List ℕ → ℕ
instances [] = 0
instances (n ∷ ns) = n + instances ns

-- an instance of a type, before its first job
abbrev pub paced_job : Option Cycle → Job
paced_job None = no_job
paced_job (Some c) = job_of c.run c.period 0 0

abbrev pub job_of_type : TaskType → Job
job_of_type t = paced_job t.pace

-- the instances on the engine: those of type 1 first, each type's in order of their number
unfoldable pub jobs_of : List TaskType → List ℕ → List Job
jobs_of [] ns = []
jobs_of (t ∷ ts) [] = []
jobs_of (t ∷ ts) (n ∷ ns) = replicate n (job_of_type t) ++ jobs_of ts ns

-- "up to 64 instances and 65,535 ticks"
abbrev pub few_instances : List ℕ → Bool
few_instances ns = leb (instances ns) job_limit

abbrev pub few_ticks : ℕ → Bool
few_ticks ticks = leb ticks tick_limit

abbrev pub few_enough : List ℕ → ℕ → Bool
few_enough ns ticks = few_instances ns && few_ticks ticks

-- "44, when a type on the engine has no tag 5; 45, when instances or ticks exceed the numbers above; the last two in this order"
abbrev pub run_checks : List TaskType → List ℕ → ℕ → Checked
run_checks ts ns ticks = and_then (check (all_paced ts ns) from_input 44) (check (few_enough ns ticks) from_input 45)

abbrev pub run_where : Checked → List TaskType → List ℕ → ℕ → RunOutcome
run_where (fails s n) ts ns ticks = not_run s n
run_where passes ts ns ticks = reported_as (run_of ticks (jobs_of ts ns))

unfoldable pub run_over : System → List ℕ → ℕ → RunOutcome
run_over y ns ticks = run_where (run_checks y.types ns ticks) y.types ns ticks

-- the file's own refusals come first, 42 with them
unfoldable pub run_engine : Reading → List ℕ → ℕ → RunOutcome
run_engine (unread n) ns ticks = not_run from_input n
run_engine (opened y) ns ticks = run_over y ns ticks

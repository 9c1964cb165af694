-- The run of an engine (request 2026-14), over the list of the jobs on it: lower type first, then lower instance.
use Rattle.std.specs.Prelude.{ℕ, zero, suc, ◌+◌, ◌-◌, ◌*◌, ◌/◌, ◌≤◌, List, [], ◌∷◌, Bool, false, cond, not, ◌&&◌, ◌||◌, length, eqb, ltb, None, Some}
use Rattle.runs.specs.declared.Job.{Job}
use Rattle.runs.specs.declared.Report.{Report}

abbrev pub job_of : ℕ → ℕ → ℕ → ℕ → Job
job_of c t left due = record { run = c; period = t; left = left; due = due }

-- "up to 64 instances"
abbrev pub job_limit : ℕ
job_limit = 64

-- what stands past the last job
abbrev pub no_job : Job
no_job = job_of 0 0 0 0

-- before the first tick: nothing to do, and an arrival due at 0
abbrev pub started_job : Job → Job
started_job j = job_of j.run j.period 0 0

unfoldable pub started : List Job → List Job
started [] = []
started (j ∷ js) = started_job j ∷ started js

-- "whose job has run less than C by then": its deadline is now, and something is left
abbrev pub late_job : ℕ → Job → Bool
late_job now j = eqb j.due now && ltb 0 j.left

unfoldable pub late : ℕ → List Job → Bool
late now [] = false
late now (j ∷ js) = late_job now j || late now js

-- "jobs arrive at 0 and every T, each due at the next arrival"
abbrev pub fresh_job : ℕ → Job → Job
fresh_job now j = job_of j.run j.period j.run (now + j.period)

abbrev pub arrived_job : ℕ → Job → Job
arrived_job now j = cond (eqb j.due now) (fresh_job now j) j

unfoldable pub arrived : ℕ → List Job → List Job
arrived now [] = []
arrived now (j ∷ js) = arrived_job now j ∷ arrived now js

abbrev pub pending : Job → Bool
pending j = ltb 0 j.left

-- whether a deadline is before another
abbrev pub earlier : ℕ → ℕ → Bool
earlier d e = ltb d e

-- whether a pending job is due before d
unfoldable pub sooner : ℕ → List Job → Bool
sooner d [] = false
sooner d (j ∷ js) = (pending j && earlier j.due d) || sooner d js

-- "the job with the earliest deadline runs, ties to the lower type, then the lower instance": its place, or the number of jobs where none is pending
unfoldable pub chosen : List Job → ℕ
chosen [] = 0
chosen (j ∷ js) = cond (pending j && not (sooner j.due js)) 0 (suc (chosen js))

-- there is a job at a place, and its deadline is before d
abbrev pub due_before : ℕ → ℕ → ℕ → ℕ → Bool
due_before count i due d = not (eqb i count) && earlier due d

-- one tick of work for a job
abbrev pub worked_job : Job → Job
worked_job j = job_of j.run j.period (j.left - 1) j.due

-- one tick of work for the job at a place; past the last job, for none
unfoldable pub worked_at : List Job → ℕ → List Job
worked_at [] i = []
worked_at (j ∷ js) zero = worked_job j ∷ js
worked_at (j ∷ js) (suc i) = j ∷ worked_at js i

abbrev pub worked : List Job → List Job
worked js = worked_at js (chosen js)

-- 1 in a tick in which no job runs
abbrev pub idle_at : ℕ → ℕ → ℕ
idle_at count i = cond (eqb i count) 1 0

abbrev pub idle_tick : List Job → ℕ
idle_tick js = idle_at (length js) (chosen js)

-- the run from the instant `now` on, over `ticks` more ticks, after `idle` idle ones: deadlines first, then arrivals, then the tick
unfoldable pub run_from : ℕ → ℕ → ℕ → List Job → Report
run_from zero now idle js = record { idle = idle; missed = cond (late now js) (Some now) None }
run_from (suc ticks) now idle js =
    cond (late now js) (record { idle = idle; missed = Some now })
    (run_from ticks (now + 1) (idle + idle_tick (arrived now js)) (worked (arrived now js)))

-- the run over a number of ticks, of jobs of which only run time and period matter
abbrev pub run_of : ℕ → List Job → Report
run_of ticks js = run_from ticks 0 0 (started js)

-- what n ticks ask for: of each job its run time, as often as its period goes into n
unfoldable pub demand : ℕ → List Job → ℕ
demand n [] = 0
demand n (j ∷ js) = j.run * (n / j.period) + demand n js

-- the demand bound: no number of ticks is asked for more than it has
abbrev pub Demand : List Job → Type 0
Demand js = (n : ℕ) → demand n js ≤ n

-- every period is at least 1
pub data Periods : List Job → Type 0 where
  none : Periods []
  more : {j : Job} {js : List Job} → 1 ≤ j.period → Periods js → Periods (j ∷ js)

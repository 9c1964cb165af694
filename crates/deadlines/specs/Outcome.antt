-- What the call that runs an engine answers, in the words of request 2026-14: the idle ticks and the first missed deadline, or document 01's list that the
-- refusal is from and its number there.
use Rattle.std.specs.Prelude.{ℕ, Option, None, Some, Result, Ok, Err}
use Rattle.system.specs.declared.Refusal.{Refusal}
use Rattle.system.specs.declared.Refusal.TheVariants.{Input, State}
use Rattle.system.specs.Outcome.{Source, from_input, from_state}
use Rattle.runs.specs.declared.Report.{Report}

-- "none missed", or the time of the first missed deadline
pub data FirstMiss : Type 0 where
  all_kept : FirstMiss
  first_at : ℕ → FirstMiss

-- "the run reports idle ticks and the first missed deadline"
pub data RunOutcome : Type 0 where
  ran : (idle : ℕ) → FirstMiss → RunOutcome
  not_run : Source → ℕ → RunOutcome

-- every case of every answer

abbrev pub miss_of : Option ℕ → FirstMiss
miss_of None = all_kept
miss_of (Some d) = first_at d

abbrev pub reported_as : Report → RunOutcome
reported_as r = ran r.idle (miss_of r.missed)

abbrev pub not_run_for : Refusal → RunOutcome
not_run_for (Input n) = not_run from_input n
not_run_for (State n) = not_run from_state n

abbrev pub run_outcome_of : Result Report Refusal → RunOutcome
run_outcome_of (Ok r) = reported_as r
run_outcome_of (Err r) = not_run_for r

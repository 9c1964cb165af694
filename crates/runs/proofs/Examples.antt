-- Runs computed: an engine used in full, one with idle ticks, and one whose miss is judged at the last tick's end; and a tie.
use Rattle.std.proofs.Common.{None, Some}
use mathlib.Core.Path.{◌≡◌, refl}
use mathlib.Core.List.{[], ◌∷◌}
use Rattle.runs.specs.Run.{job_of, started, late, arrived, sooner, chosen, worked_at, run_from, run_of}

full : run_of 12 (job_of 2 4 0 0 ∷ job_of 3 6 0 0 ∷ []) ≡ record { idle = 0; missed = None }
unfolding started late arrived sooner chosen worked_at run_from
full = refl

idle : run_of 6 (job_of 1 3 0 0 ∷ []) ≡ record { idle = 4; missed = None }
unfolding started late arrived sooner chosen worked_at run_from
idle = refl

-- the second job's second deadline, after a tie at 4 that the first job wins
missed : run_of 6 (job_of 1 2 0 0 ∷ job_of 2 3 0 0 ∷ []) ≡ record { idle = 0; missed = Some 6 }
unfolding started late arrived sooner chosen worked_at run_from
missed = refl

-- one tick less does not see it
unseen : run_of 5 (job_of 1 2 0 0 ∷ job_of 2 3 0 0 ∷ []) ≡ record { idle = 0; missed = None }
unfolding started late arrived sooner chosen worked_at run_from
unseen = refl

-- a tie goes to the job that stands first; one with nothing left takes no part in it
tie : chosen (job_of 2 9 0 7 ∷ job_of 1 4 1 8 ∷ job_of 1 8 1 8 ∷ job_of 1 9 1 9 ∷ []) ≡ 1
unfolding sooner chosen
tie = refl

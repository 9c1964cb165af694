-- The loop's invariant holds in the middle of a tick (Passes): the jobs from place `i` on have been seen, and the run from here on reports what the
-- whole run does. Each turn sees a job, or ends a tick.
use Prim.Native.Nat.{◌+◌, ◌-◌, ◌*◌}
use lib.ListN.{take}
use Rattle.runs.specs.Run.{run_from}
use Rattle.runs_code.proofs.Passes.{Midway}
use Rattle.runs_code.proofs.run_of.Given as goal

abbrev pub invariant-loop-now : goal.invariant-loop-now
invariant-loop-now l = Midway l.ticks l.count (run_from l.ticks 0 0 (take l.count l.initial.state)) l.state l.idle l.now l.i l.best l.due

abbrev pub decreases-loop-now : goal.decreases-loop-now
decreases-loop-now l = (l.ticks - l.now) * (l.count + 1) + l.i

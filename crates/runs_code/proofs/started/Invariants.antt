-- The loop's invariant: the jobs passed are done.
use mathlib.Core.Path.{◌≡◌}
use lib.ListN.{take}
use Rattle.runs.specs.Run.{started_job}
use Rattle.runs_code.proofs.Passes.{passed}
use Rattle.runs_code.proofs.started.Given as goal

abbrev pub invariant-loop-j : goal.invariant-loop-j
invariant-loop-j l = l.j-items ≡ passed started_job l.j-index (take l.count l.fn.jobs)

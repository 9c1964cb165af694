-- The loop's invariant: the best so far is the choice among the jobs from `i` on.
use Prim.Native.Nat.{◌+◌, ◌≤◌, ◌<◌}
use mathlib.Core.Path.{◌≡◌}
use lib.ListN.{get_or, take, drop}
use Rattle.runs.specs.Run.{no_job, chosen}
use Rattle.runs_code.proofs.chosen.Given as goal

abbrev pub invariant-loop-i : goal.invariant-loop-i
invariant-loop-i l = (l.i ≤ l.count) × (l.best ≡ l.i + chosen (drop l.i (take l.count l.jobs))) × (l.best < l.count → l.due ≡ (get_or l.jobs l.best no_job).due)

abbrev pub decreases-loop-i : goal.decreases-loop-i
decreases-loop-i l = l.i

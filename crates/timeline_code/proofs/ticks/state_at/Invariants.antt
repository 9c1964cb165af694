-- The loop's invariant: the jobs are those at the instant that is reached.
use Prim.Native.Nat.{◌≤◌}
use mathlib.Core.Path.{◌≡◌}
use mathlib.Core.List.{List}
use lib.ListN.{take}
use Rattle.runs.specs.declared.Job.{Job}
use Rattle.runs.specs.Run.{started}
use Rattle.runs.specs.Trace.{state_at}
use Rattle.timeline_code.proofs.ticks.state_at.Given as goal

abbrev pub invariant-loop-now : goal.invariant-loop-now
invariant-loop-now l = (l.now ≤ l.time) × ((js : List Job) → take l.count l.initial.state ≡ started js → take l.count l.state ≡ state_at l.now js)

-- `each_until`: what is left never grows.
use Rattle.std.proofs.Common.{◌≤◌, length}
use Rattle.trial.proofs.cases.Words.each_until.Given as goal

abbrev pub invariant-loop-last : goal.invariant-loop-last
invariant-loop-last g l = goal.F-IsAlwaysCallable g l.f × (length l.self.rest.now ≤ length l.initial.self.rest.now)

abbrev pub decreases-loop-last : goal.decreases-loop-last
decreases-loop-last g l = length l.self.rest.now

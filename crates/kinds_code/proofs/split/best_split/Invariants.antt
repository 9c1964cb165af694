-- The loop's invariant: the best of the columns before p, with its cost.
use Prim.Native.Nat.{◌+◌, ◌-◌, ◌≤◌}
use mathlib.Core.Path.{◌≡◌}
use Rattle.partition.specs.Kinds.{least_at}
use Rattle.kinds.specs.Inner.{cost_at}
use Rattle.kinds_code.proofs.split.best_split.Given as goal

abbrev pub invariant-loop-p : goal.invariant-loop-p
invariant-loop-p l = (l.p ≤ l.last + 1) × (l.best ≡ least_at (cost_at l.rows l.rows2 l.last l.m l.n) l.p) × (l.least ≡ cost_at l.rows l.rows2 l.last l.m l.n l.best)

abbrev pub decreases-loop-p : goal.decreases-loop-p
decreases-loop-p l = l.p-end - l.p

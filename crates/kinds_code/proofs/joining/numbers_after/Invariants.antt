-- The loop's invariant: the first i of the numbers are in their places (lib.Seq's `paste`).
use Prim.Native.Nat.{◌-◌, ◌≤◌}
use mathlib.Core.Path.{◌≡◌}
use lib.Seq.{paste}
use Rattle.partition.specs.Assignment.{numbers_from}
use Rattle.kinds_code.proofs.joining.numbers_after.Given as goal

abbrev pub invariant-loop-i : goal.invariant-loop-i
invariant-loop-i l = (l.i ≤ l.count) × (l.both ≡ paste l.initial.both l.at (numbers_from l.from l.count) l.i)

abbrev pub decreases-loop-i : goal.decreases-loop-i
decreases-loop-i l = l.count - l.i

-- The loop's invariant: the numbers written are those of the engines 1 to i.
use Prim.Native.Nat.{◌-◌, ◌≤◌}
use mathlib.Core.Path.{◌≡◌}
use lib.ListN.{length, take}
use Rattle.system.specs.Limits.{engine_limit}
use Rattle.partition.specs.Assignment.{engines_to}
use Rattle.table_code.proofs.onto.engines_to.Given as goal

abbrev pub invariant-loop-i : goal.invariant-loop-i
invariant-loop-i l = (l.i ≤ l.m) × (length l.numbers ≡ engine_limit) × (take l.i l.numbers ≡ engines_to l.i)

abbrev pub decreases-loop-i : goal.decreases-loop-i
decreases-loop-i l = l.m - l.i

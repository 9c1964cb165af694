-- The loop's invariant: the numbers written are those of the engines in service of 1 to i.
use Prim.Native.Nat.{◌-◌, ◌≤◌}
use mathlib.Core.Path.{◌≡◌}
use lib.ListN.{length, take}
use Rattle.system.specs.Limits.{engine_limit}
use Rattle.partition.specs.Assignment.{passing, engines_to}
use Rattle.board.proofs.Steps.{free}
use Rattle.board_code.proofs.work.engines_of.Given as goal

abbrev pub invariant-loop-i : goal.invariant-loop-i
invariant-loop-i l = (l.i ≤ l.i-end) × (l.i-end ≤ engine_limit) × (l.count ≤ l.i) × (length l.numbers ≡ engine_limit) × (take l.count l.numbers ≡ passing (free l.b.marks) (engines_to l.i))

abbrev pub decreases-loop-i : goal.decreases-loop-i
decreases-loop-i l = l.i-end - l.i

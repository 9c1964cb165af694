-- The loop's invariant: the jumps made, followed by those of the types left, are the jumps; the stride times the columns left are the columns.
use Prim.Native.Nat.{◌-◌, ◌*◌, ◌≤◌, ◌<◌}
use mathlib.Core.Path.{◌≡◌}
use mathlib.Core.List.{◌++◌}
use lib.ListN.{length, take, drop}
use Rattle.system.specs.Limits.{columns_of}
use Rattle.table.specs.Under.{jumps_from}
use Rattle.table_code.proofs.under.jumps_of.Given as goal

abbrev pub invariant-loop-t : goal.invariant-loop-t
invariant-loop-t l =
    (l.t ≤ 6)
    × (length l.jumps ≡ 6)
    × (l.passed < l.stride)
    × (l.stride * columns_of (drop l.t l.ceilings) ≡ columns_of l.ceilings)
    × (take l.t l.jumps ++ jumps_from l.stride l.passed (drop l.t l.ceilings) (drop l.t l.tops) ≡ jumps_from 1 0 l.ceilings l.tops)

abbrev pub decreases-loop-t : goal.decreases-loop-t
decreases-loop-t l = 6 - l.t

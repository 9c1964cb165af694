-- The loop's invariant: the larger of the largest row so far and the largest over the types left is the largest, and what the types left add to the column is at most the column.
use Prim.Native.Nat.{◌-◌, ◌*◌, ◌≤◌}
use mathlib.Core.Path.{◌≡◌}
use lib.ListN.{drop}
use Rattle.system.specs.Limits.{columns_of}
use Rattle.loads.specs.Column.{column_from}
use Rattle.table.specs.Scan.{most_below, larger}
use Rattle.table_code.proofs.fill.most_below.Given as goal

abbrev pub invariant-loop-t : goal.invariant-loop-t
invariant-loop-t l =
    (l.t ≤ 6)
    × (l.stride * columns_of (drop l.t l.ceilings) ≡ columns_of l.ceilings)
    × (column_from l.stride (drop l.t l.ceilings) (drop l.t l.load) ≤ l.column)
    × (larger l.most (most_below l.rows l.column l.stride (drop l.t l.ceilings) (drop l.t l.load)) ≡ most_below l.rows l.column 1 l.ceilings l.load)

abbrev pub decreases-loop-t : goal.decreases-loop-t
decreases-loop-t l = 6 - l.t

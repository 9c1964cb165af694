-- The loop's invariant: both parts are filled up to the next column, the load is that of this column, and the pairs counted are those of the columns before it.
use Prim.Native.Nat.{◌-◌, ◌*◌, ◌≤◌}
use mathlib.Core.Path.{◌≡◌}
use Rattle.system.specs.Values.{ceilings_of}
use Rattle.system.specs.Limits.{column_limit}
use Rattle.loads.specs.Column.{load_of}
use Rattle.table.proofs.Begun.{begun}
use Rattle.table.specs.Parts.{row_at, predecessor_at}
use Rattle.table.proofs.Counted.{counted_to}
use Rattle.table_code.proofs.fill.fill_parts.Given as goal

abbrev pub invariant-loop-column : goal.invariant-loop-column
invariant-loop-column l =
    (l.column ≤ l.columns)
    × (l.rows ≡ begun (row_at l.y l.engines) l.column l.initial.rows)
    × (l.predecessors ≡ begun (predecessor_at l.y l.engines) l.column l.initial.predecessors)
    × (l.load ≡ load_of (ceilings_of l.y) l.column)
    × (l.counted ≡ counted_to l.y l.engines l.column)
    × (l.counted ≤ l.column * (16 * column_limit))

abbrev pub decreases-loop-column : goal.decreases-loop-column
decreases-loop-column l = l.columns - l.column

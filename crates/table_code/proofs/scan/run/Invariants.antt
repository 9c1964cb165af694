-- The loop's invariant: `left` is one more than the next difference, and the lowest from the column with that difference on is the lowest of all.
use Prim.Native.Nat.{◌+◌, ◌-◌, ◌≤◌}
use mathlib.Core.Path.{◌≡◌}
use Rattle.partition.specs.Cell.{lowest, no_column}
use Rattle.table.specs.Scan.{seen_by}
use Rattle.table_code.proofs.scan.run.Given as goal

abbrev pub invariant-loop-left : goal.invariant-loop-left
invariant-loop-left l =
    (l.column + 1 - l.end ≤ l.left)
    × (l.left ≤ l.column + 1 - l.from)
    × (lowest (seen_by l.rows l.bound l.column) no_column (l.end - (l.column + 1 - l.left)) (l.column + 1 - l.left) ≡ lowest (seen_by l.rows l.bound l.column) no_column (l.end - l.from) l.from)

abbrev pub decreases-loop-left : goal.decreases-loop-left
decreases-loop-left l = l.left

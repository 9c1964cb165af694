-- The loop's invariant: what was summed and the column of what is left make the column; the stride times the columns left are the columns.
use Prim.Native.Nat.{◌+◌, ◌*◌, ◌^◌, ◌≤◌}
use mathlib.Core.Path.{◌≡◌}
use lib.ListN.{length}
use Rattle.std.specs.Iterator.Adapters.{zip_first, zip_second}
use Rattle.std.specs.Slice.Iter.{iter_rest}
use Rattle.system.specs.Limits.{type_limit, columns_of, column_limit}
use Rattle.loads.specs.Column.{column_from, column_of}
use Rattle.loads.proofs.Steps.{ceilings}
use Rattle.loads_code.proofs.column_of.Given as goal

abbrev pub invariant-loop-task : goal.invariant-loop-task
invariant-loop-task l =
    let ts = iter_rest (zip_first l.task-iterator) in
    let xs = iter_rest (zip_second l.task-iterator) in
    (goal.iterator-loop-task).can_next l.task-iterator
    × (goal.iterator-loop-task).is_finite l.task-iterator
    × (l.column + length ts * (2 ^ 16 * column_limit) ≤ type_limit * (2 ^ 16 * column_limit))
    × (l.stride * columns_of (ceilings ts) ≡ columns_of (ceilings l.fn.y.types))
    × (l.column + column_from l.stride (ceilings ts) xs ≡ column_of (ceilings l.fn.y.types) l.fn.counts)

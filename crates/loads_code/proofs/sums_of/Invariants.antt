-- The loop's invariant: what was summed and the sum of what is left make the sum of the load, for time and for memory alike.
use Prim.Native.Nat.{◌+◌, ◌*◌, ◌^◌, ◌≤◌}
use mathlib.Core.Path.{◌≡◌}
use lib.ListN.{length}
use Rattle.std.specs.Iterator.Adapters.{zip_first, zip_second}
use Rattle.std.specs.Slice.Iter.{iter_rest}
use Rattle.system.specs.Limits.{type_limit}
use Rattle.loads.specs.Load.{time_of, memory_of}
use Rattle.loads_code.proofs.sums_of.Given as goal

abbrev pub invariant-loop-task : goal.invariant-loop-task
invariant-loop-task l =
    let ts = iter_rest (zip_first l.task-iterator) in
    let xs = iter_rest (zip_second l.task-iterator) in
    (goal.iterator-loop-task).can_next l.task-iterator
    × (goal.iterator-loop-task).is_finite l.task-iterator
    × (l.time + length ts * 2 ^ 48 ≤ type_limit * 2 ^ 48)
    × (l.memory + length ts * 2 ^ 49 ≤ type_limit * 2 ^ 49)
    × (l.time + time_of ts xs ≡ time_of l.fn.y.types l.fn.counts)
    × (l.memory + memory_of l.fn.y.rule ts xs ≡ memory_of l.fn.y.rule l.fn.y.types l.fn.counts)

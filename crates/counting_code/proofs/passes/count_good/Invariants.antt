-- The loop's invariant: the part has the row for the engines so far, and past 2 × columns it is as it was.
use Prim.Native.Nat.{◌≤◌}
use Rattle.counting.specs.Walk.{RowOf, Beyond}
use Rattle.counting_code.proofs.passes.count_good.Given as goal

abbrev pub invariant-loop-e : goal.invariant-loop-e
invariant-loop-e l = (1 ≤ l._e) × (l._e ≤ l.y.engines) × RowOf l.y l._e l.part × Beyond l.y l.initial.part l.part

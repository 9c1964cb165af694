-- The loop's invariant: the value is the power so far. One factor more passes 64 bits where it is above the greatest number divided by the base.
use Prim.Native.Nat.{◌^◌, ◌≤◌}
use mathlib.Core.Path.{◌≡◌}
use Rattle.counting.specs.Counts.{greatest}
use Rattle.counting_code.proofs.total.power.Given as goal

abbrev pub invariant-loop-k : goal.invariant-loop-k
invariant-loop-k l = (l._k ≤ l.times) × (l.value ≡ l.base ^ l._k) × (l.value ≤ greatest)

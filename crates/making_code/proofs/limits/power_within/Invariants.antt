-- The loop's invariant: the product is the power so far, and within the limit. The next one is not made where it passes it.
use Prim.Native.Nat.{◌+◌, ◌-◌, ◌^◌, ◌≤◌}
use mathlib.Core.Path.{◌≡◌}
use Rattle.system.specs.Limits.{column_limit}
use Rattle.making_code.proofs.limits.power_within.Given as goal

abbrev pub invariant-loop-t : goal.invariant-loop-t
invariant-loop-t l = (l._t ≤ l.times) × (l.most ≡ column_limit) × (l.product ≡ (l.top + 1) ^ l._t) × (1 ≤ l.product) × (l.product ≤ column_limit)

abbrev pub decreases-loop-t : goal.decreases-loop-t
decreases-loop-t l = l.times - l._t

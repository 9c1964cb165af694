-- The loop's invariant: the strides up to the type are made, and the stride at hand is that of the type.
use Prim.Native.Nat.{ℕ, ◌-◌, ◌≤◌, ◌<◌}
use mathlib.Core.Path.{◌≡◌}
use lib.ListN.{length, get_or}
use Rattle.loads.proofs.Steps.{ceilings}
use Rattle.counting.specs.Tally.{stride_at}
use Rattle.counting_code.proofs.passes.strides_of.Given as goal

abbrev pub invariant-loop-t : goal.invariant-loop-t
invariant-loop-t l =
    (l.t ≤ 6)
    × (length l.strides ≡ 6)
    × (l.stride ≡ stride_at (ceilings l.fn.y.types) l.t)
    × ((i : ℕ) → i < l.t → get_or l.strides i 0 ≡ stride_at (ceilings l.fn.y.types) i)

abbrev pub decreases-loop-t : goal.decreases-loop-t
decreases-loop-t l = 6 - l.t

-- The measure is the index of the type, which falls by one at each call. The loop's invariant: the sum is that of the first j terms.
use Prim.Native.Nat.{◌+◌, ◌≤◌}
use mathlib.Core.Path.{◌≡◌}
use lib.ListN.{get_or}
use Rattle.counting.proofs.Sums.{first_terms}
use Rattle.counting.proofs.Walked.{ways_of, inner_at}
use Rattle.counting_code.proofs.passes.+over_types.Given as goal

abbrev pub decreases-over_types : goal.decreases-over_types
decreases-over_types l = l.t

abbrev pub invariant-loop-j : goal.invariant-loop-j
invariant-loop-j l =
    (l.j ≤ get_or l.walk.counts l.t 0 + 1)
    × (l.sum ≡ first_terms l.j (ways_of (get_or l.walk.counts l.t 0) (inner_at l.part l.walk.strides l.walk.counts l.walk.columns l.walk.column l.t l.from)))

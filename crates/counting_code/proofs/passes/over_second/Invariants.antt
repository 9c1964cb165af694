-- The loop's invariant: the sum is that of the first j terms. Each term and each partial sum is at most the whole, which is a number of 64 bits, and so is each sum over type 1.
use Prim.Native.Nat.{◌+◌, ◌-◌, ◌≤◌}
use mathlib.Core.Path.{◌≡◌}
use Rattle.counting.proofs.Sums.{first_terms}
use Rattle.counting.proofs.Walked.{ways_of, first_at}
use Rattle.counting_code.proofs.passes.over_second.Given as goal

abbrev pub invariant-loop-j : goal.invariant-loop-j
invariant-loop-j l = (l.j ≤ l.second + 1) × (l.sum ≡ first_terms l.j (ways_of l.second (first_at l.part l.columns l.column l.first l.stride l.from)))

abbrev pub decreases-loop-j : goal.decreases-loop-j
decreases-loop-j l = l.j-end - l.j

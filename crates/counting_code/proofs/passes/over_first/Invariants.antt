-- The loop's invariant: the sum is that of the first j terms. Each term and each partial sum is at most the whole, which is a number of 64 bits.
use Prim.Native.Nat.{ℕ, ◌+◌, ◌-◌, ◌≤◌}
use mathlib.Core.Path.{◌≡◌}
use Rattle.counting.specs.Walk.{held_ways}
use Rattle.counting.proofs.Sums.{first_terms}
use Rattle.counting.proofs.Walked.{ways_of}
use Rattle.counting_code.proofs.passes.over_first.Given as goal

abbrev pub invariant-loop-j : goal.invariant-loop-j
invariant-loop-j l = (l.j ≤ l.count + 1) × (l.sum ≡ first_terms l.j (ways_of l.count (λ (k : ℕ). held_ways l.part l.columns l.column (l.from + k))))

abbrev pub decreases-loop-j : goal.decreases-loop-j
decreases-loop-j l = l.j-end - l.j

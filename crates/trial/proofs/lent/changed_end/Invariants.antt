-- `changed_end`: of the pairs that were compared none differs from `end` on, and the one before it does.
use Rattle.std.proofs.Common.{ℕ, ◌-◌, ◌<◌, ◌≤◌, IsTrue, IsFalse, length, slice_index_or}
use Rattle.trial.proofs.lent.changed_end.Given as goal

abbrev pub invariant-loop-i : goal.invariant-loop-i
invariant-loop-i g l =
    (l.end ≤ l.i)
    × ((x : _) → 0 < l.end → IsFalse (g.T.PartialEq.eq (slice_index_or l.now (l.end - 1) x) (slice_index_or l.old (l.end - 1) x)))
    × ((k : ℕ) (x : _) → l.end ≤ k → k < l.i → k < length l.old → IsTrue (g.T.PartialEq.eq (slice_index_or l.now k x) (slice_index_or l.old k x)))

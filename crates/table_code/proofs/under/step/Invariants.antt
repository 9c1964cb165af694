-- The loop's invariant: the counts passed, followed by the step of those that are left, are the step of all.
use Prim.Native.Nat.{◌+◌, ◌-◌, ◌≤◌}
use mathlib.Core.Path.{◌≡◌}
use mathlib.Core.List.{◌++◌}
use lib.ListN.{length, take, drop}
use Rattle.table.specs.Under.{next_under, rises_at}
use Rattle.table_code.proofs.under.step.Given as goal

abbrev pub invariant-loop-t : goal.invariant-loop-t
invariant-loop-t l =
    (l.t ≤ 6)
    × (length l.counts ≡ 6)
    × (take l.t l.counts ++ next_under (drop l.t l.tops) (drop l.t l.counts) ≡ take l.from l.initial.counts ++ next_under (drop l.from l.tops) (drop l.from l.initial.counts))
    × (l.t + rises_at (drop l.t l.tops) (drop l.t l.counts) ≡ l.from + rises_at (drop l.from l.tops) (drop l.from l.initial.counts))

abbrev pub decreases-loop-t : goal.decreases-loop-t
decreases-loop-t l = 6 - l.t

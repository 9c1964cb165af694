-- The loop's invariant: the columns from this one on have the new number, those below it and all past the first half are as they were.
use Prim.Native.Nat.{ℕ, ◌≤◌, ◌<◌}
use mathlib.Core.Path.{◌≡◌}
use lib.ListN.{length, get_or}
use Rattle.system.specs.Limits.{columns}
use Rattle.counting.specs.Walk.{passed_cell}
use Rattle.counting_code.proofs.passes.pass.Given as goal

abbrev pub invariant-loop-column : goal.invariant-loop-column
invariant-loop-column l =
    (l.column ≤ columns l.y)
    × (length l.part ≡ length l.initial.part)
    × ((c : ℕ) → l.column ≤ c → c < columns l.y → get_or l.part c 0 ≡ passed_cell l.y l.initial.part c)
    × ((k : ℕ) → k < l.column → get_or l.part k 0 ≡ get_or l.initial.part k 0)
    × ((k : ℕ) → columns l.y ≤ k → get_or l.part k 0 ≡ get_or l.initial.part k 0)

abbrev pub decreases-loop-column : goal.decreases-loop-column
decreases-loop-column l = l.column

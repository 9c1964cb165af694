-- The loop's invariant: both halves are filled up to the column, and past them the part is as it was.
use Prim.Native.Nat.{ℕ, ◌+◌, ◌-◌, ◌≤◌, ◌<◌}
use mathlib.Core.Path.{◌≡◌}
use lib.ListN.{length, get_or, drop}
use Rattle.system.specs.Values.{ceilings_of}
use Rattle.loads.specs.Load.{fits_engine}
use Rattle.loads.specs.Column.{load_of}
use Rattle.counting.specs.Tally.{bit}
use Rattle.counting_code.proofs.passes.first_row.Given as goal

abbrev pub invariant-loop-column : goal.invariant-loop-column
invariant-loop-column l =
    (l.column ≤ l.columns)
    × (length l.part ≡ length l.initial.part)
    × ((c : ℕ) → c < l.column → get_or l.part c 0 ≡ bit (fits_engine l.y (load_of (ceilings_of l.y) c)))
    × ((c : ℕ) → c < l.column → get_or l.part (l.columns + c) 0 ≡ bit (fits_engine l.y (load_of (ceilings_of l.y) c)))
    × (drop (l.columns + l.columns) l.part ≡ drop (l.columns + l.columns) l.initial.part)

abbrev pub decreases-loop-column : goal.decreases-loop-column
decreases-loop-column l = l.columns - l.column

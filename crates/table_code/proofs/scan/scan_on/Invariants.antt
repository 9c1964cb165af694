-- The loop's invariant: the run before found nothing, what is left to search has the answer, and the columns tried are all that are to visit up to that run's end.
-- It speaks of any ceilings with these jumps, since the loop no longer uses the ceilings. A run that is passed over has nothing to find: a part of each of its differences does not fit.
use Prim.Native.Nat.{ℕ, ◌-◌}
use mathlib.Core.Path.{◌≡◌}
use mathlib.Core.List.{List}
use lib.ListN.{length}
use Rattle.system.specs.Limits.{column_limit}
use Rattle.table.proofs.Candidates.{Given, Passed}
use Rattle.table.specs.Scan.{seen_by}
use Rattle.table_code.proofs.scan.scan_on.Given as goal

abbrev pub invariant-loop-t : goal.invariant-loop-t
invariant-loop-t l = (length l.counts ≡ 6) × ((ns : List ℕ) → Given (seen_by l.rows l.bound l.column) ns l.load l.jumps → Passed (seen_by l.rows l.bound l.column) ns l.load l.counts l.base l.tried)

abbrev pub decreases-loop-t : goal.decreases-loop-t
decreases-loop-t l = column_limit - l.base

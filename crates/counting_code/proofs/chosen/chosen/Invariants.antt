-- The loop's invariant: the entries before i are the ways to choose. The entry before the first of a row is the last of the row before, which is 0 there.
use Prim.Native.Nat.{ℕ, ◌-◌, ◌≤◌, ◌<◌}
use mathlib.Core.Path.{◌≡◌}
use lib.ListN.{length, get_or}
use Rattle.counting.proofs.Turns.{ways_at}
use Rattle.counting_code.proofs.chosen.chosen.Given as goal

abbrev pub invariant-loop-i : goal.invariant-loop-i
invariant-loop-i l = (65 ≤ l.i) × (l.i ≤ 4096) × (length l.table ≡ 4096) × ((k : ℕ) → k < l.i → get_or l.table k 0 ≡ ways_at k)

abbrev pub decreases-loop-i : goal.decreases-loop-i
decreases-loop-i l = 4096 - l.i

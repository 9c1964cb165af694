-- `put_word`. The loop's invariant: the first i bytes of the word stand at `at`.
use Prim.Native.Nat.{◌+◌, ◌-◌, ◌≤◌}
use mathlib.Core.Path.{◌≡◌}
use lib.ListN.{length, take, drop}
use Rattle.buffer.specs.Written.{Puts}
use Rattle.listing.proofs.Laws.{words}
use Rattle.listing_code.proofs.put_word.Given as goal

abbrev pub invariant-loop-i : goal.invariant-loop-i
invariant-loop-i l = (l.i ≤ l.size) × (length l.out ≡ length l.initial.out) × (l.next ≡ l.at + l.i) × Puts (take l.i (drop l.start words)) l.at l.initial.out l.out l.next

abbrev pub decreases-loop-i : goal.decreases-loop-i
decreases-loop-i l = l.size - l.i

-- `put_engines`. The loop's invariant: the lines of the first i engines, each under its own number, stand at `at`, each within its room.
use Prim.Native.Nat.{◌+◌, ◌-◌, ◌*◌, ◌≤◌}
use mathlib.Core.Path.{◌≡◌}
use lib.ListN.{length, take}
use Rattle.planner.specs.Plan.{records_with}
use Rattle.listing.specs.Listing.{record_lines}
use Rattle.listing.specs.Room.{engine_room}
use Rattle.buffer.specs.Written.{Puts}
use Rattle.listing_code.proofs.put_engines.Given as goal

abbrev pub invariant-loop-i : goal.invariant-loop-i
invariant-loop-i l = (l.i ≤ l.end) × (length l.out ≡ length l.initial.out) × (l.next ≤ l.at + engine_room * l.i) × Puts (record_lines l.p.typecount (take l.i (records_with l.p.numbers l.p.loads))) l.at l.initial.out l.out l.next

abbrev pub decreases-loop-i : goal.decreases-loop-i
decreases-loop-i l = l.end - l.i

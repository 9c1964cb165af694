-- The loop's invariant: what was put so far, and what arrives of the jobs from place i on, are what arrives of all.
use Prim.Native.Nat.{ℕ, ◌+◌, ◌-◌, ◌*◌, ◌≤◌}
use mathlib.Core.Path.{◌≡◌}
use mathlib.Core.List.{List, ◌++◌}
use lib.ListN.{length, take, drop}
use Rattle.buffer.specs.Written.{Puts}
use Rattle.timeline.specs.Text.{arrivals_from}
use Rattle.timeline.specs.Room.{arrival_room}
use Rattle.timeline_code.proofs.lines.put_arrivals.Given as goal

abbrev pub invariant-loop-i : goal.invariant-loop-i
invariant-loop-i l =
    (told : List ℕ)
    × (l.i ≤ l.count)
    × (length l.out ≡ length l.initial.out)
    × (l.next ≤ l.at + arrival_room * l.i)
    × Puts told l.at l.initial.out l.out l.next
    × (told ++ arrivals_from l.time l.counts l.i (drop l.i (take l.count l.jobs)) ≡ arrivals_from l.time l.counts 0 (take l.count l.jobs))

abbrev pub decreases-loop-i : goal.decreases-loop-i
decreases-loop-i l = l.count - l.i

-- The loop's invariant: what was put so far, and the lines of the ticks that are left, are those of all.
use Prim.Native.Nat.{ℕ, ◌+◌, ◌-◌, ◌*◌, ◌≤◌}
use mathlib.Core.Path.{◌≡◌}
use mathlib.Core.List.{List, ◌++◌}
use lib.ListN.{length, take}
use Rattle.buffer.specs.Written.{Puts}
use Rattle.timeline.specs.Text.{tick_lines}
use Rattle.timeline.specs.Room.{tick_room}
use Rattle.timeline_code.proofs.ticks.put_ticks.Given as goal

abbrev pub invariant-loop-now : goal.invariant-loop-now
invariant-loop-now l =
    (told : List ℕ)
    × (l.from ≤ l.now)
    × (l.now ≤ l.from + l.shown)
    × (length l.out ≡ length l.initial.out)
    × (l.next ≤ tick_room * (l.now - l.from))
    × (length (take l.count l.state) ≡ l.count)
    × Puts told 0 l.initial.out l.out l.next
    × (told ++ tick_lines (l.from + l.shown - l.now) l.now l.counts (take l.count l.state) ≡ tick_lines l.shown l.from l.counts (take l.count l.initial.state))

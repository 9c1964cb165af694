-- The loop's invariant: the counts from type t + 1 on, and what is left of the place, name the instance.
use Prim.Native.Nat.{◌+◌, ◌≤◌}
use mathlib.Core.Path.{◌≡◌}
use lib.ListN.{drop}
use Rattle.timeline.specs.Text.{kind_from, number_from}
use Rattle.timeline_code.proofs.lines.name_at.Given as goal

abbrev pub invariant-loop-t : goal.invariant-loop-t
invariant-loop-t l = (l.t ≤ 6) × (kind_from (l.t + 1) (drop l.t l.fn.counts) l.left ≡ kind_from 1 l.fn.counts l.place) × (number_from (drop l.t l.fn.counts) l.left ≡ number_from l.fn.counts l.place)

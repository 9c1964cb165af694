-- The loop's invariant: the system has its first t types, and the generator stands where they have left it.
use Prim.Native.Nat.{◌-◌, ◌*◌, ◌≤◌}
use mathlib.Core.Path.{◌≡◌}
use Rattle.making.specs.Generator.{value_after}
use Rattle.making.specs.Making.{drawn_to}
use Rattle.making_code.proofs.drawn.drawn_system.Given as goal

abbrev pub invariant-loop-t : goal.invariant-loop-t
invariant-loop-t l = (l.t ≤ l.t-end) × (l.t-end ≡ l.w.typecount) × (l.y ≡ drawn_to l.w l.t) × (l.x ≡ value_after l.w.seed (3 * l.t))

abbrev pub decreases-loop-t : goal.decreases-loop-t
decreases-loop-t l = l.t-end - l.t

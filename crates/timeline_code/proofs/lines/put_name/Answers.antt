-- The type's number, the dot, the instance's number, put one after another.
use Prim.Native.Nat.{◌≤◌}
use native.Mathlib.Omega.{arith}
use lib.ListN.{length}
use Rattle.buffer.proofs.Laws.{puts_then}
use Rattle.timeline.specs.Text.{name_text}
use Rattle.timeline_code.proofs.lines.put_name.Goals as goal

pub returns : goal.returns
unfolding name_text
returns c =
    let last = c in
    let dot = last in
    let first = dot in
    let name = first in
    let start = name in
    let room : start.args.at ≤ length start.args.out.now = omega (arith, start.requires) in
    let kind = rw name.name_at-name.ensures.0 at first.put_number-kind.ensures.0 in
    let number = rw name.name_at-name.ensures.1 at last.put_number.ensures.0 in
    (puts_then room (puts_then room kind dot.put_byte-dot.ensures) number, omega (arith, first.put_number-kind.ensures.1, dot.put_byte-dot.ensures.next, last.put_number.ensures.1))

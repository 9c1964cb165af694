-- Words, the name and the time, put one after another.
use Prim.Native.Nat.{◌≤◌}
use native.Mathlib.Omega.{arith}
use lib.ListN.{length}
use Rattle.buffer.proofs.Laws.{puts_then}
use Rattle.timeline_code.proofs.lines.put_due.Goals as goal

pub returns : goal.returns
returns c =
    let last = c in
    let due = last in
    let named = due in
    let first = named in
    let start = first in
    let room : start.args.at ≤ length start.args.out.now = omega (arith, start.requires) in
    let name = puts_then room first.put_bytes-arrives.ensures named.put_name-named.ensures.0 in
    (puts_then room (puts_then room name due.put_bytes-dues.ensures) last.put_number.ensures.0, omega (arith, first.put_bytes-arrives.ensures.next, named.put_name-named.ensures.1, due.put_bytes-dues.ensures.next, last.put_number.ensures.1))

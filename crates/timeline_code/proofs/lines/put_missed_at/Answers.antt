-- Words and the time.
use Prim.Native.Nat.{◌≤◌}
use native.Mathlib.Omega.{arith}
use lib.ListN.{length}
use Rattle.buffer.proofs.Laws.{puts_then}
use Rattle.timeline_code.proofs.lines.put_missed_at.Goals as goal

pub returns : goal.returns
returns c =
    let last = c in
    let first = last in
    let start = first in
    let room : start.args.at ≤ length start.args.out.now = omega (arith, start.requires) in
    (puts_then room first.put_bytes-missed.ensures last.put_number.ensures.0, omega (arith, first.put_bytes-missed.ensures.next, last.put_number.ensures.1))

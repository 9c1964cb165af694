-- The parts of the line, put one after another.
use Prim.Native.Nat.{◌≤◌}
use native.Mathlib.Omega.{arith}
use lib.ListN.{length}
use Rattle.buffer.proofs.Laws.{puts_then}
use Rattle.timeline.specs.Text.{line_with}
use Rattle.timeline_code.proofs.lines.put_tick.Goals as goal

pub returns : goal.returns
unfolding line_with
returns c =
    let end = c in
    let ran = end in
    let came = ran in
    let told = came in
    let first = told in
    let start = first in
    let room : start.args.at ≤ length start.args.out.now = omega (arith, start.requires.1) in
    let time = puts_then room first.put_bytes-named.ensures told.put_number-told.ensures.0 in
    let both = puts_then room (puts_then room time came.put_arrivals-came.ensures.0) ran.put_runner-ran.ensures.0 in
    (puts_then room both end.put_byte.ensures, omega (arith, first.put_bytes-named.ensures.next, told.put_number-told.ensures.1, came.put_arrivals-came.ensures.1, ran.put_runner-ran.ensures.1, end.put_byte.ensures.next))

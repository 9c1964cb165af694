-- The parts of the line, put one after another.
use Prim.Native.Nat.{◌≤◌}
use native.Mathlib.Omega.{arith}
use lib.ListN.{length}
use Rattle.buffer.proofs.Laws.{puts_then}
use Rattle.timeline.specs.Text.{summary_line}
use Rattle.timeline_code.proofs.lines.put_summary.Goals as goal

pub returns : goal.returns
unfolding summary_line
returns c =
    let end = c in
    let missed = end in
    let were = missed in
    let idle = were in
    let parted = idle in
    let all = parted in
    let first = all in
    let start = first in
    let room : start.args.at ≤ length start.args.out.now = omega (arith, start.requires) in
    let ticks = puts_then room first.put_bytes-begun.ensures all.put_number-all.ensures.0 in
    let idles = puts_then room (puts_then room ticks parted.put_bytes-parted.ensures) idle.put_number-idle.ensures.0 in
    let told = puts_then room (puts_then room idles were.put_bytes-were.ensures) missed.put_missed-told.ensures.0 in (
      puts_then room told end.put_byte.ensures,
      omega (arith, first.put_bytes-begun.ensures.next, all.put_number-all.ensures.1, parted.put_bytes-parted.ensures.next, idle.put_number-idle.ensures.1, were.put_bytes-were.ensures.next, missed.put_missed-told.ensures.1, end.put_byte.ensures.next),
    )

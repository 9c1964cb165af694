-- `put_record`: the head, then the number, the time, the memory and the counts.
use Prim.Native.Nat.{◌≤◌}
use native.Mathlib.Omega.{arith}
use lib.ListN.{length}
use Rattle.buffer.proofs.Laws.{puts_then}
use Rattle.sheets.specs.Sheet.{record_bytes}
use Rattle.sheets_code.proofs.writing.put_record.Goals as goal

pub returns : goal.returns
unfolding record_bytes
returns c =
    let counted = c in
    let stored = counted in
    let timed = stored in
    let numbered = timed in
    let headed = numbered in
    let start = headed in
    let room : start.args.at ≤ length start.args.out.now = omega (arith, start.requires.2) in
    let named = puts_then room headed.put_head-headed.ensures numbered.put_byte-numbered.ensures in
    puts_then room (puts_then room (puts_then room named timed.put_four-timed.ensures) stored.put_four-stored.ensures) counted.put_counts.ensures

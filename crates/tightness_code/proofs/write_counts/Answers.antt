-- `write_counts`: what stands before each number, the numbers, and the line's end, put one after another.
use Prim.Native.Nat.{◌≤◌}
use native.Mathlib.Omega.{arith}
use lib.ListN.{length}
use Rattle.buffer.proofs.Laws.{puts_then, written}
use Rattle.tightness_code.proofs.write_counts.Goals as goal

pub returns : goal.returns
returns c =
    let room : 0 ≤ length c.args.out.now = omega arith in
    let named = puts_then room c.put_bytes-named.ensures c.put_number-told.ensures.0 in
    let both = puts_then room (puts_then room named c.put_bytes-parted.ensures) c.put_number-all.ensures.0 in
    written
    (omega (arith, c.put_bytes-named.ensures.next, c.put_number-told.ensures.1, c.put_bytes-parted.ensures.next, c.put_number-all.ensures.1, c.put_bytes.ensures.next))
    (omega arith)
    (puts_then room both c.put_bytes.ensures)

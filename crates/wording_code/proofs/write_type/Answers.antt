-- `write_type`: what stands before the number, the number, and what stands after it, put one after another.
use Prim.Native.Nat.{◌≤◌}
use native.Mathlib.Omega.{arith}
use lib.ListN.{length}
use Rattle.buffer.proofs.Laws.{puts_then, written}
use Rattle.wording_code.proofs.write_type.Goals as goal

pub returns : goal.returns
returns c =
    let room : 0 ≤ length c.args.out.now = omega arith in
    let whole = puts_then room (puts_then room c.put_bytes-named.ensures c.put_number-told.ensures.0) c.put_bytes.ensures in
    written (omega (arith, c.put_bytes-named.ensures.next, c.put_number-told.ensures.1, c.put_bytes.ensures.next))
    (omega (arith, c.put_bytes-named.auto.out, c.put_number-told.auto.out, c.put_bytes.auto.out)) whole

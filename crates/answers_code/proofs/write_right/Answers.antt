-- `write_right`: one of two texts is put at place 0.
use native.Mathlib.Omega.{arith}
use Rattle.buffer.proofs.Laws.{written}
use Rattle.answers_code.proofs.write_right.Goals as goal

pub returns-then-fewer : goal.returns-then-fewer
returns-then-fewer c = rw c.if-fewer.true (written (omega (arith, c.put_bytes.ensures.next)) c.put_bytes.auto.out c.put_bytes.ensures)

pub returns : goal.returns
returns c = rw c.if-fewer.false (written (omega (arith, c.put_bytes-2.ensures.next)) c.put_bytes-2.auto.out c.put_bytes-2.ensures)

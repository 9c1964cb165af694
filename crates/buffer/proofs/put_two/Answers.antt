-- `put_two`: the upper byte, then the lower.
use native.Mathlib.Omega.{arith}
use Rattle.buffer.proofs.Laws.{puts_then}
use Rattle.buffer.proofs.put_two.Goals as goal

pub returns : goal.returns
returns c = puts_then (omega arith) c.put_byte-next.ensures c.put_byte.ensures

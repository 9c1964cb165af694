-- `put_four`: the upper two bytes, then the lower.
use native.Mathlib.Omega.{arith}
use Rattle.buffer.proofs.Laws.{puts_then}
use Rattle.buffer.proofs.put_four.Goals as goal

pub returns : goal.returns
returns c = puts_then (omega arith) c.put_two-next.ensures c.put_two.ensures

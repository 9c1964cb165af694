-- A remainder is below its divisor, which is at most 4,096.
use native.Mathlib.Omega.{arith}
use Rattle.making.proofs.Turns.{drawn-below}
use Rattle.making_code.proofs.drawn.zero_to.Goals as goal

pub overflow_cast-result : goal.overflow_cast-result
overflow_cast-result c = omega (arith, drawn-below c.args.x c.args.most)

-- A remainder and 1 more is at most its divisor, which has 32 bits.
use native.Mathlib.Omega.{arith}
use Rattle.making.proofs.Turns.{drawn-small}
use Rattle.making_code.proofs.drawn.one_to.Goals as goal

pub overflow_cast-result-2 : goal.overflow_cast-result-2
overflow_cast-result-2 c = omega (arith, drawn-small c.args.x c.args.most c.requires)

pub overflow_add-result : goal.overflow_add-result
overflow_add-result c = omega (arith, drawn-small c.args.x c.args.most c.requires)

-- `loads::cost` meets its contract: a product of a number below 2^16 and one below 2^32.
use Prim.Native.Nat.{◌*◌, ◌≤◌, ◌^◌}
use mathlib.Core.Path.{refl}
use native.Mathlib.Nat.{mul-le-mul}
use native.Mathlib.Omega.{arith}
use Rattle.loads_code.proofs.cost.Goals.{Start}
use Rattle.loads_code.proofs.cost.Goals as goal

small : (c : Start) → c.args.count * c.args.each ≤ 2 ^ 48
small c = mul-le-mul {n₂ = 2 ^ 16} {m₂ = 2 ^ 32} (omega arith) (omega arith)

pub overflow_mul-result : goal.overflow_mul-result
overflow_mul-result c = record { fits = omega (arith, small c) }

pub returns : goal.returns
returns c = (refl, small c)

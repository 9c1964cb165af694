-- At most 16 engines times a 32-bit number is far below 2^64.
use native.Mathlib.Nat.{mul-le-mul_right}
use native.Mathlib.Omega.{arith}
use Rattle.causes_code.proofs.facts.short.Goals as goal

pub overflow_mul-result : goal.overflow_mul-result
overflow_mul-result c = record { fits = omega (arith, mul-le-mul_right c.args.cap c.requires) }

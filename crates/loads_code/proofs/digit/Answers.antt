-- A remainder by n + 1, with n below 2^16, fits 16 bits.
use Prim.Native.Nat.{ℕ, ◌%◌}
use mathlib.Core.Path.{ap}
use native.Mathlib.Nat.{mod-lt}
use native.Mathlib.Omega.{arith}
use Rattle.loads_code.proofs.digit.Goals as goal

pub overflow_cast-result : goal.overflow_cast-result
overflow_cast-result c = record { fits = omega (arith, mod-lt c.args.column {m = c.base.result} (omega arith)) }

pub returns : goal.returns
returns c = ap (λ (n : ℕ). c.args.column % n) c.base.ensures

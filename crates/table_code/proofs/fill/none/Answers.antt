-- At most 16 rows of at most as many columns as the limit allows are counted.
use native.Mathlib.Nat.{mul-le-mul}
use native.Mathlib.Omega.{arith}
use Rattle.system.specs.Limits.{column_limit}
use Rattle.table_code.proofs.fill.none.Goals as goal

pub no_row-requires : goal.no_row-requires
no_row-requires c = c.requires.0

pub overflow_mul-result : goal.overflow_mul-result
overflow_mul-result c = record { fits = omega (arith, mul-le-mul {n₂ = 16} {m₂ = column_limit} c.requires.1 c.requires.2) }

pub returns : goal.returns
returns c = rw c.no_row.ensures

-- The columns are few, so below the bound at which `columns_within` stops.
use native.Mathlib.Omega.{arith}
use Rattle.table_code.proofs.size.columns_of.Goals as goal

pub returns : goal.returns
returns c = omega (arith, c.columns_within.ensures, c.requires)

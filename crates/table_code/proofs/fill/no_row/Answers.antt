-- A system within the limits has at most 16 engines.
use native.Mathlib.Omega.{arith}
use Rattle.system.proofs.Laws.{limits_of}
use Rattle.table_code.proofs.fill.no_row.Goals as goal

pub overflow_cast-result : goal.overflow_cast-result
overflow_cast-result c = record { fits = omega (arith, (limits_of c.args.y c.requires).engines) }

pub overflow_add-result : goal.overflow_add-result
overflow_add-result c = record { fits = omega (arith, (limits_of c.args.y c.requires).engines) }

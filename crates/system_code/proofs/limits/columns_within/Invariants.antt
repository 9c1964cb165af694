-- `limits::columns_within` meets its contract. The loop's invariant: the product so far times that of the types that are left is the columns, and is within the limit.
use Prim.Native.Nat.{◌*◌, ◌≤◌}
use mathlib.Core.Path.{◌≡◌}
use lib.ListN.{drop}
use Rattle.system.specs.Limits.{column_limit}
use Rattle.system_code.proofs.Steps.{left}
use Rattle.system_code.proofs.limits.columns_within.Given as goal

abbrev pub invariant-loop-t : goal.invariant-loop-t
invariant-loop-t l = (l.product ≤ column_limit) × (l.product * left (drop l.t-index l.t-items) ≡ left l.fn.types)

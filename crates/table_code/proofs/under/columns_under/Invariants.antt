-- The loop's invariant: the product so far times that of the counts from t on is the product of all.
use Prim.Native.Nat.{◌*◌, ◌≤◌}
use mathlib.Core.Path.{◌≡◌}
use lib.ListN.{length, drop}
use Rattle.system.specs.Limits.{columns_of}
use Rattle.table_code.proofs.under.columns_under.Given as goal

abbrev pub invariant-loop-count : goal.invariant-loop-count
invariant-loop-count l = (l.count-index ≤ 6) × (length l.fn.load ≡ 6) × (l.columns * columns_of (drop l.count-index l.fn.load) ≡ columns_of l.fn.load)

-- Tables that are long enough for every card that a file gives.
use Prim.Native.Nat.{ℕ, ◌≤◌}
use mathlib.Core.Path.{◌≡◌}
use mathlib.Core.List.{List}
use native.Mathlib.Nat.{le_trans}
use lib.ListN.{length}
use Rattle.system.specs.declared.System.{System}
use Rattle.system.specs.Layout.{read_card, opened}
use Rattle.system.proofs.Laws.{read-card-limits}
use Rattle.partition.specs.Lent.{Lent}
use Rattle.partition.specs.Plain.{LongEnough}
use Rattle.partition.proofs.Plain.{columns-out}

-- 4,096 entries in each part, one for each column, are enough for every card that a file gives
abbrev pub LongForAll : Lent → Type 0
LongForAll table = (4096 ≤ length table.rows) × (4096 ≤ length table.predecessors)

pub long-for-all : (file : List ℕ) (y : System) (table : Lent) → read_card file ≡ opened y → LongForAll table → LongEnough y table
long-for-all file y table opens size =
    let limits = read-card-limits file y opens in
    rw (columns-out y limits.six) (le_trans limits.columns size.0, le_trans limits.columns size.1)

-- The code's test of the lengths of the parts is the plain one.
use Prim.Native.Nat.{ℕ, ◌≤◌, ◌<◌}
use mathlib.Core.Path.{◌≡◌, refl, sym}
use mathlib.Core.Bool.{Bool, true, false, ◌&&◌, and-false, false≢true}
use mathlib.Core.Logic.{◌↔◌, ◌⊎◌, inl, inr}
use borrow.Author.Tests.{leb-true, leb-false, le-leb, lt-leb}
use lib.ListN.{length}
use lib.Dec.{leb}
use Rattle.system.specs.declared.System.{System}
use Rattle.system.specs.Limits.{type_limit, columns, keeps_limits}
use Rattle.system.proofs.Laws.{limits_of}
use Rattle.partition.specs.Lent.{Lent}
use Rattle.partition.specs.Plain.{columns_out, LongEnough, TooShort}
use Rattle.loads.proofs.Order.{and_parts, and_both}
use Rattle.partition.proofs.Plain.{columns-out}
use Rattle.table.specs.Table.{long_enough}

-- of six types, whatever their limits
pub long-six : (y : System) (table : Lent) → length y.types ≡ type_limit → (long_enough y table ≡ true) ↔ LongEnough y table
long-six y table six = (there, back)
  where
    same : columns_out y ≡ columns y
    same = columns-out y six

    there : long_enough y table ≡ true → LongEnough y table
    there h =
        let both = and_parts (leb (columns y) (length table.rows)) (leb (columns y) (length table.predecessors)) h in
        rw same (leb-true (columns y) (length table.rows) both.0, leb-true (columns y) (length table.predecessors) both.1)

    back : LongEnough y table → long_enough y table ≡ true
    back h =
        let (a, b) = rw same at h in
        and_both (leb (columns y) (length table.rows)) (leb (columns y) (length table.predecessors)) (le-leb (columns y) (length table.rows) a) (le-leb (columns y) (length table.predecessors) b)

pub short-six : (y : System) (table : Lent) → length y.types ≡ type_limit → (long_enough y table ≡ false) ↔ TooShort y table
short-six y table six = rw same (there (leb (columns y) (length table.rows)) refl (leb (columns y) (length table.predecessors)) refl, back)
  where
    same : columns_out y ≡ columns y
    same = columns-out y six

    there : (a : Bool) → leb (columns y) (length table.rows) ≡ a → (b : Bool) → leb (columns y) (length table.predecessors) ≡ b → (a && b) ≡ false → (length table.rows < columns y) ⊎ (length table.predecessors < columns y)
    there false p b q h = inl (leb-false (columns y) (length table.rows) p)
    there true p false q h = inr (leb-false (columns y) (length table.predecessors) q)
    there true p true q h = absurd (false≢true (sym h))

    back : (length table.rows < columns y) ⊎ (length table.predecessors < columns y) → long_enough y table ≡ false
    back (inl l) = rw (lt-leb (columns y) (length table.rows) l)
    back (inr l) = rw (lt-leb (columns y) (length table.predecessors) l) (and-false (leb (columns y) (length table.rows)))

-- and so of a system within the limits
pub long-enough-out : (y : System) (table : Lent) → keeps_limits y ≡ true → (long_enough y table ≡ true) ↔ LongEnough y table
long-enough-out y table limits = long-six y table (limits_of y limits).six

pub too-short-out : (y : System) (table : Lent) → keeps_limits y ≡ true → (long_enough y table ≡ false) ↔ TooShort y table
too-short-out y table limits = short-six y table (limits_of y limits).six

-- The parts of both kinds: the lent ones are long enough for the first kind, those of the function's own for every second kind, and both show their entries once they are filled.
use Prim.Native.Nat.{ℕ, ◌≤◌}
use mathlib.Core.Path.{◌≡◌}
use mathlib.Core.List.{List}
use native.Mathlib.Nat.{le_refl}
use native.Mathlib.Omega.{arith}
use lib.ListN.{length, replicate, length-replicate}
use Rattle.system.specs.declared.System.{System}
use Rattle.system.specs.Limits.{columns, column_limit}
use Rattle.system.proofs.Laws.{limits_of}
use Rattle.partition.specs.Lent.{lent}
use Rattle.table.specs.Parts.{row_at, predecessor_at, part_of}
use Rattle.table.proofs.Chained.{filled-show}
use Rattle.table.proofs.Reading.{parts-room}
use Rattle.kinds.specs.Mixing.{MayMix}
use Rattle.kinds.specs.Inner.{BothShow}

-- a part of the function's own, before it is filled
abbrev pub own_part : List ℕ
own_part = replicate column_limit 0

module _ {first second : System} {rows predecessors : List ℕ} (may : MayMix first second (lent rows predecessors)) where
  pub lent-room : (columns first ≤ length rows) × (columns first ≤ length predecessors)
  lent-room = parts-room first (lent rows predecessors) may.room

  pub own_room : columns second ≤ length own_part
  own_room = omega (arith, length-replicate {A = ℕ} column_limit 0, (limits_of second may.limits_second).columns)

  pub both-show : (last_rows last_predecessors last_rows2 last_predecessors2 : List ℕ) → last_rows ≡ part_of first (row_at first first.engines) rows
      → last_predecessors ≡ part_of first (predecessor_at first first.engines) predecessors → last_rows2 ≡ part_of second (row_at second second.engines) own_part
      → last_predecessors2 ≡ part_of second (predecessor_at second second.engines) own_part → BothShow first second last_rows last_predecessors last_rows2 last_predecessors2
  both-show last_rows last_predecessors last_rows2 last_predecessors2 is_rows is_predecessors is_rows2 is_predecessors2 = record {
    one = filled-show first first.engines rows predecessors last_rows last_predecessors may.limits (le_refl first.engines) lent-room.0 lent-room.1 is_rows is_predecessors;
    other = filled-show second second.engines own_part own_part last_rows2 last_predecessors2 may.limits_second (le_refl second.engines) own_room own_room is_rows2 is_predecessors2;
    same_ceilings = may.same_ceilings;
    few = may.few;
  }

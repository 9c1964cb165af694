-- The loop's invariant: the first t counts are those of the record.
use Prim.Native.Nat.{◌-◌, ◌≤◌}
use mathlib.Core.Path.{◌≡◌}
use lib.ListN.{length, take}
use Rattle.table.specs.Parts.{up_to}
use Rattle.sheets.specs.Sheet.{stated_count}
use Rattle.sheets_code.proofs.checking.counts_in.Given as goal

abbrev pub invariant-loop-t : goal.invariant-loop-t
invariant-loop-t l = (l.t ≤ 6) × (length l.counts ≡ 6) × (take l.t l.counts ≡ up_to (stated_count l.k l.rest) l.t)

abbrev pub decreases-loop-t : goal.decreases-loop-t
decreases-loop-t l = 6 - l.t

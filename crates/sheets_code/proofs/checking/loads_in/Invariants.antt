-- The loop's invariant: the engines passed have what the sheet states of them, and those left get what stands from the place on.
use Prim.Native.Nat.{◌+◌, ◌-◌, ◌*◌, ◌≤◌}
use mathlib.Core.Path.{◌≡◌}
use mathlib.Core.List.{◌++◌}
use lib.ListN.{length, take}
use Rattle.sheets.specs.Sheet.{loads_from, loads_in}
use Rattle.sheets_code.proofs.checking.loads_in.Given as goal

abbrev pub invariant-loop-i : goal.invariant-loop-i
invariant-loop-i l = (l.i ≤ 16) × (length l.loads ≡ 16) × (l.at ≤ 5 + 24 * l.i) × (l.k ≤ 6) × (take l.i l.loads ++ loads_from l.m l.k l.sheet l.at (l.i + 1) (16 - l.i) ≡ loads_in l.m l.k l.sheet)

abbrev pub decreases-loop-i : goal.decreases-loop-i
decreases-loop-i l = 16 - l.i

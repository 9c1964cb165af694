-- The loop's invariant: the counts made, followed by the load of the rest of the column over the types left, are the load.
use Prim.Native.Nat.{◌≤◌}
use mathlib.Core.Path.{◌≡◌}
use mathlib.Core.List.{◌++◌}
use lib.ListN.{length, take, drop}
use Rattle.system.specs.Limits.{type_limit}
use Rattle.loads.specs.Column.{load_of}
use Rattle.loads.proofs.Steps.{ceilings}
use Rattle.loads_code.proofs.load_of.Given as goal

abbrev pub invariant-loop-i : goal.invariant-loop-i
invariant-loop-i l =
    (l.i ≤ type_limit)
    × (length l.counts ≡ type_limit)
    × (take l.i l.counts ++ load_of (ceilings (drop l.i l.fn.y.types)) l.rest ≡ load_of (ceilings l.fn.y.types) l.column)

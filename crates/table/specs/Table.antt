-- What the lent table holds (request 2026-10, instead of document 01's "Table"), its refusal, and placing a load by it.
use Rattle.std.specs.Prelude.{ℕ, List, [], ◌∷◌, map, Bool, cond, ◌&&◌, length, leb, Option, None, Some}
use Rattle.system.specs.declared.System.{System}
use Rattle.system.specs.Limits.{columns, engine_limit}
use Rattle.system.specs.Layout.{Reading, opened, unread}
use Rattle.system.specs.Card.{Card, plain, mixed, first_of}
use Rattle.system.specs.Outcome.{Outcome, accepted, refused, from_input, Checked, check, unless_fails}
use Rattle.loads.specs.Load.{engine_with}
use Rattle.partition.specs.Assignment.{engines_to}
use Rattle.partition.specs.ForSystem.{row_for, placeable, recovered_for}
use Rattle.partition.specs.Lent.{Lent}
use Rattle.table.specs.declared.Placement.{Placement}
use Rattle.table.specs.Parts.{row_at, predecessor_at, part_of}
use Rattle.table.specs.Pairs.{counted_of}

-- both parts have an entry for each column
abbrev pub room_for : System → ℕ → ℕ → Bool
room_for y rows predecessors = leb (columns y) rows && leb (columns y) predecessors

-- refusal 11 is for parts of which one is not so long
abbrev pub long_enough : System → Lent → Bool
long_enough y table = room_for y (length table.rows) (length table.predecessors)

-- 11, for parts of so many entries
abbrev pub room_check : System → ℕ → ℕ → Checked
room_check y rows predecessors = check (room_for y rows predecessors) from_input 11

abbrev pub table_check : System → Lent → Checked
table_check y table = room_check y (length table.rows) (length table.predecessors)

-- the entries that each part of the table of a file must have
abbrev pub columns_needed : Reading → Outcome
columns_needed (unread n) = refused from_input n
columns_needed (opened y) = accepted (columns y ∷ [])

-- the parts filled for rows 0 to r, r being the number of engines in service
abbrev pub filled_to : System → ℕ → Lent → Lent
filled_to y r table = record { rows = part_of y (row_at y r) table.rows; predecessors = part_of y (predecessor_at y r) table.predecessors }

-- with a row for each of the engines es
abbrev pub filled : System → List ℕ → Lent → Lent
filled y es table = filled_to y (length es) table

-- a call that only fills: 1 to 10, 31, 41 and 43, 11, else accepted with the number of pairs tried (request 2026-05)
abbrev pub fill_outcome : Reading → Lent → Outcome
fill_outcome (unread n) table = refused from_input n
fill_outcome (opened y) table = unless_fails (table_check y table) (accepted (counted_of y y.engines ∷ []))

abbrev pub fill_table : Reading → Lent → Lent
fill_table (unread n) table = table
fill_table (opened y) table = cond (long_enough y table) (filled y (engines_to y.engines) table) table

-- of a card of two kinds of engine (request 2026-13): "no pairs are reported", and "free .. are the table's first entries", which are left as a fill for
-- the first kind leaves them
abbrev pub fill_card_outcome : Card → Lent → Outcome
fill_card_outcome (plain x) table = fill_outcome x table
fill_card_outcome (mixed y k) table = unless_fails (table_check y table) (accepted [])

abbrev pub fill_card_table : Card → Lent → Lent
fill_card_table (plain x) table = fill_table x table
fill_card_table (mixed y k) table = cond (long_enough y table) (filled_to (first_of y) y.engines table) table

-- the recovery of the load x onto the engines es by the cells, as records of the engines 1, 2, ..; nothing is placed where no row says yes
unfoldable pub placement : System → List ℕ → List ℕ → Option Placement
placement y es x =
    cond (placeable y es x)
    (Some (record { used = row_for y es x; loads = map (engine_with y) (recovered_for engine_limit y es x) }))
    None

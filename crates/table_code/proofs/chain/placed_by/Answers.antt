-- The column is one of the part's. Where its entry is one of the rows, it is the lowest that says yes, and recovery from it onto idle rows is what is placed.
use Prim.Native.Nat.{ℕ, ◌<◌}
use mathlib.Core.Path.{◌≡◌, refl}
use mathlib.Core.Bool.{true}
use mathlib.Core.List.{List}
use native.Mathlib.Omega.{arith}
use lib.ListN.{get_or}
use Rattle.system.specs.declared.System.{System}
use Rattle.system.specs.Values.{ceilings_of}
use Rattle.system.specs.Limits.{columns}
use Rattle.system.proofs.Laws.{limits_of}
use Rattle.loads.specs.Load.{within}
use Rattle.loads.specs.Column.{column_of}
use Rattle.loads.proofs.Column.{column_of-lt}
use Rattle.table.proofs.Placed.{rows-found, rows_none}
use Rattle.table.specs.Parts.{lowest_for}
use Rattle.table.proofs.Chained.{shown-row, shown-none, shown-chain}
use Rattle.table_code.proofs.chain.placed_by.Goals as goal

pub column_of-column-requires : goal.column_of-column-requires
column_of-column-requires c = let start = c in (limits_of start.args.y start.requires.0.limits).columns

-- the column stands for a load within the ceilings
column-small : (y : System) (counts : List ℕ) (column : ℕ) → within counts (ceilings_of y) ≡ true → column ≡ column_of (ceilings_of y) counts → column < columns y
column-small y counts column inside is = omega (arith, is, column_of-lt (ceilings_of y) counts inside)

pub offset_bounds-rows-column : goal.offset_bounds-rows-column
offset_bounds-rows-column c =
    let start = c in
    omega (arith, column-small c.args.y c.args.counts c.column_of-column.result c.requires.1 c.column_of-column.ensures, (limits_of start.args.y start.requires.0.limits).columns)

pub bounds-rows-column : goal.bounds-rows-column
bounds-rows-column c = omega (arith, column-small c.args.y c.args.counts c.column_of-column.result c.requires.1 c.column_of-column.ensures, c.requires.0.room_rows)

pub returns-then-row-engines : goal.returns-then-row-engines
returns-then-row-engines c =
    let column = c.column_of-column.result in
    rows_none c.args.y c.args.engines c.args.counts
    (lowest_for c.args.y c.args.engines column)
    column
    refl
    c.column_of-column.ensures
    (shown-none c.requires.0 column (column-small c.args.y c.args.counts column c.requires.1 c.column_of-column.ensures) c.if-row-engines.true)

pub recover-requires : goal.recover-requires
recover-requires c = shown-chain c.requires.0 c.column_of-column.result (column-small c.args.y c.args.counts c.column_of-column.result c.requires.1 c.column_of-column.ensures) c.if-row-engines.false

pub returns : goal.returns
returns c =
    let column = c.column_of-column.result in
    rows-found c.args.y c.args.engines c.args.counts
    (get_or c.args.rows.now column 0)
    column
    (shown-row c.requires.0 column (column-small c.args.y c.args.counts column c.requires.1 c.column_of-column.ensures) c.if-row-engines.false)
    c.column_of-column.ensures
    c.idle_engine-idle.result
    c.idle_engine-idle.ensures
    c.recover.result
    c.recover.ensures
    c.if-row-engines.false

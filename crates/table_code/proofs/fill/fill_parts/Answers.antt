-- `fill_parts`: the answers.
use Prim.Native.Nat.{ℕ, ◌+◌, ◌*◌, ◌≤◌, ◌<◌}
use mathlib.Core.Path.{◌≡◌, sym, ap, ◌∙◌}
use mathlib.Core.Bool.{true}
use native.Mathlib.Omega.{arith}
use lib.ListN.{length, replicate, length-map, length-set}
use Rattle.system.specs.declared.TaskType.{TaskType}
use Rattle.system.specs.declared.System.{System}
use Rattle.system.specs.Values.{ceilings_of}
use Rattle.system.specs.Limits.{columns, column_limit, keeps_limits}
use Rattle.system.proofs.Laws.{limits_of}
use Rattle.loads.proofs.Column.{length-load_of, load_of-zero}
use Rattle.table.proofs.Begun.{length-begun}
use Rattle.table.proofs.Stepping.{next_under-load_of}
use Rattle.table.specs.declared.Entry.{Entry}
use Rattle.table.specs.Parts.{row_at, predecessor_at}
use Rattle.table.specs.Scan.{column_counted}
use Rattle.table.proofs.Counted.{counted_to, counted_to-none, counted_to-more, counted_to-all}
use Rattle.table.proofs.FilledParts.{stored-again, stored, part-starts, part-ends, rows-to, counted-more}
use Rattle.table_code.proofs.fill.fill_parts.Goals.{After-entry_at-found, In-loop-column}
use Rattle.table_code.proofs.fill.fill_parts.Goals as goal

six-ceilings : (y : System) → keeps_limits y ≡ true → length (ceilings_of y) ≡ 6
six-ceilings y h = length-map y.types (λ (t : TaskType). t.ceiling) ∙ (limits_of y h).six

pub columns_of-columns-requires : goal.columns_of-columns-requires
columns_of-columns-requires c = (limits_of _ c.requires.0).columns

pub no_row-none-requires : goal.no_row-none-requires
no_row-none-requires c = c.requires.0

pub loop-column-init : goal.loop-column-init
loop-column-init c =
    let a = c.args in (
      omega arith,
      part-starts (row_at a.y a.engines) a.rows.now,
      part-starts (predecessor_at a.y a.engines) a.predecessors.now,
      sym (load_of-zero (ceilings_of a.y) ∙ ap (λ (k : ℕ). replicate k 0) (six-ceilings c.args.y c.requires.0)),
      sym (counted_to-none a.y a.engines),
      omega arith,
    )

-- the entries that are written lie in the parts
entry-inside : (c : In-loop-column) →
    let at = c in
    let start = at in
    (at.loop-column.column < columns start.args.y) × (columns start.args.y ≤ column_limit) × (at.loop-column.column < length at.loop-column.rows) × (at.loop-column.column < length at.loop-column.predecessors)
entry-inside c =
    let at = c in
    let start = at in
    let a = start.args in
    let p = start.requires in
    let k = at.loop-column.column in
    let inside : k < columns a.y = omega (arith, c.loop-column-test.true, at.columns_of-columns.ensures) in (
      inside,
      (limits_of a.y p.0).columns,
      rw (at.loop-column.invariant.1, length-begun (row_at a.y a.engines) k a.rows.now (omega (arith, p.2))) (omega (arith, p.2)),
      rw (at.loop-column.invariant.2, length-begun (predecessor_at a.y a.engines) k a.predecessors.now (omega (arith, p.3))) (omega (arith, p.3)),
    )

-- the entries that are written lie in the parts
entry-inside-2 : (c : After-entry_at-found) →
    let at = c in
    let start = at in
    (at.loop-column.column < columns start.args.y) × (columns start.args.y ≤ column_limit) × (at.loop-column.column < length at.loop-column.rows) × (at.loop-column.column < length at.loop-column.predecessors)
entry-inside-2 c =
    let at = c in
    let start = at in
    let a = start.args in
    let p = start.requires in
    let k = at.loop-column.column in
    let inside : k < columns a.y = omega (arith, c.loop-column-test.true, at.columns_of-columns.ensures) in (
      inside,
      (limits_of a.y p.0).columns,
      rw (at.loop-column.invariant.1, length-begun (row_at a.y a.engines) k a.rows.now (omega (arith, p.2))) (omega (arith, p.2)),
      rw (at.loop-column.invariant.2, length-begun (predecessor_at a.y a.engines) k a.predecessors.now (omega (arith, p.3))) (omega (arith, p.3)),
    )

pub offset_bounds-rows-column : goal.offset_bounds-rows-column
offset_bounds-rows-column c = omega (arith, entry-inside c)

pub bounds-rows-column : goal.bounds-rows-column
bounds-rows-column c = (entry-inside c).2

pub entry_at-found-requires : goal.entry_at-found-requires
entry_at-found-requires c =
    let at = c in
    let start = at in
    let a = start.args in
    let p = start.requires in
    record {
      filled = rw (at.loop-column.invariant.1, at.no_row-none.ensures) (rows-to a.y a.engines at.loop-column.column a.rows.now p.0 p.1 (entry-inside c).0 p.2);
      ceilings = at.ceilings_of-ceilings.ensures;
      load = at.loop-column.invariant.3;
    }

pub offset_bounds-rows-column-in-loop-column : goal.offset_bounds-rows-column-in-loop-column
offset_bounds-rows-column-in-loop-column c = omega (arith, entry-inside-2 c)

pub bounds-rows-column-in-loop-column : goal.bounds-rows-column-in-loop-column
bounds-rows-column-in-loop-column c =
    let at = c in
    rw (length-set at.loop-column.rows at.loop-column.column at.no_row-none.result) (entry-inside-2 c).2

pub offset_bounds-predecessors-column : goal.offset_bounds-predecessors-column
offset_bounds-predecessors-column c = omega (arith, entry-inside-2 c)

pub bounds-predecessors-column : goal.bounds-predecessors-column
bounds-predecessors-column c = (entry-inside-2 c).3

-- the entries of the column, and the pairs counted with them
told : (c : After-entry_at-found) →
    let at = c in
    let a = at.args in
    let found = c.entry_at-found.result in
    (found.row ≡ row_at a.y a.engines at.loop-column.column)
    × (found.predecessor ≡ predecessor_at a.y a.engines at.loop-column.column)
    × (found.counted ≡ column_counted a.y a.engines at.loop-column.column)
told c = (ap (λ (f : Entry). f.row) c.entry_at-found.ensures, ap (λ (f : Entry). f.predecessor) c.entry_at-found.ensures, ap (λ (f : Entry). f.counted) c.entry_at-found.ensures)

counted-now : (c : After-entry_at-found) →
    let at = c in
    (at.loop-column.counted + c.entry_at-found.result.counted ≤ (at.loop-column.column + 1) * (16 * column_limit)) × (at.loop-column.column + 1 ≤ column_limit)
counted-now c =
    let at = c in
    let start = at in
    let a = start.args in
    let p = start.requires in
    let inside = entry-inside-2 c in (
      rw (told c).2 (counted-more a.y a.engines at.loop-column.column a.rows.now p.0 p.1 inside.0 p.2 at.loop-column.counted at.loop-column.invariant.5),
      omega (arith, inside.0, inside.1),
    )

pub overflow_add-counted : goal.overflow_add-counted
overflow_add-counted c = omega (arith, counted-now (goal.at.overflow_add-counted c).After-entry_at-found)

pub step-requires : goal.step-requires
step-requires c =
    let at = c in
    let start = at in
    (omega arith, rw at.loop-column.invariant.3 (length-load_of (ceilings_of start.args.y) at.loop-column.column ∙ six-ceilings start.args.y start.requires.0))

pub loop-column-preserved : goal.loop-column-preserved
loop-column-preserved c =
    let found = (goal.at.loop-column-preserved c).After-entry_at-found in
    let at = found in
    let a = at.args in
    let p = at.requires in
    let k = at.loop-column.column in
    let inside = (entry-inside-2 found).0 in (
      omega arith,
      rw at.loop-column.invariant.1 (stored-again (row_at a.y a.engines) k a.rows.now (omega (arith, inside, p.2)) at.no_row-none.result found.entry_at-found.result.row (told found).0),
      rw at.loop-column.invariant.2 (stored (predecessor_at a.y a.engines) k a.predecessors.now (omega (arith, inside, p.3)) found.entry_at-found.result.predecessor (told found).1),
      c.step.ensures.0 ∙ rw (at.ceilings_of-ceilings.ensures, at.loop-column.invariant.3) (next_under-load_of (ceilings_of a.y) k),
      rw (at.loop-column.invariant.4, (told found).2) (sym (counted_to-more a.y a.engines k)),
      (counted-now found).0,
    )

pub shape_of-rows : goal.shape_of-rows
shape_of-rows c =
    let here = c.loop-column in
    let start = c in
    let a = start.args in
    ap length here.invariant.1 ∙ length-begun (row_at a.y a.engines) here.column a.rows.now (omega (arith, here.invariant.0, c.columns_of-columns.ensures, start.requires.2))

pub shape_of-predecessors : goal.shape_of-predecessors
shape_of-predecessors c =
    let here = c.loop-column in
    let start = c in
    let a = start.args in
    ap length here.invariant.2 ∙ length-begun (predecessor_at a.y a.engines) here.column a.predecessors.now (omega (arith, here.invariant.0, c.columns_of-columns.ensures, start.requires.3))

pub returns : goal.returns
returns c =
    let here = c.loop-column in
    let a = c.args in
    let all : here.column ≡ columns a.y = omega (arith, c.columns_of-columns.ensures) in (
      here.invariant.1 ∙ rw all (part-ends a.y (row_at a.y a.engines) a.rows.now),
      here.invariant.2 ∙ rw all (part-ends a.y (predecessor_at a.y a.engines) a.predecessors.now),
      here.invariant.4 ∙ ap (counted_to a.y a.engines) all ∙ counted_to-all a.y a.engines,
    )

-- Request 2026-09 holds of the rows of every filled table: the row of a load's column is the lowest yes row of the cells, of which partition proves the bounds.
use Prim.Native.Nat.{ℕ, ◌≤◌, ◌<◌}
use mathlib.Core.Path.{◌≡◌, refl, ◌∙◌}
use mathlib.Core.Bool.{Bool, true, false}
use mathlib.Core.List.{List}
use mathlib.Core.Logic.{◌↔◌}
use native.Mathlib.Nat.{le_antisymm}
use native.Mathlib.Omega.{arith}
use borrow.Author.Tests.{leb-true, leb-false}
use lib.ListN.{length}
use lib.Dec.{leb}
use Rattle.system.specs.declared.System.{System}
use Rattle.system.specs.Values.{ceilings_of}
use Rattle.system.specs.Layout.{read_file, opened}
use Rattle.system.proofs.Laws.{Limits, read-limits}
use Rattle.loads.specs.Load.{fits_engine, within}
use Rattle.loads.specs.Column.{column_of}
use Rattle.loads.proofs.Column.{column_of-lt}
use Rattle.partition.specs.Assignment.{engines_to}
use Rattle.partition.specs.Cell.{says_yes}
use Rattle.partition.specs.ForSystem.{cell_for, row_for}
use Rattle.partition.specs.Lent.{Lent}
use Rattle.partition.specs.Plain.{columns_out}
use Rattle.partition.specs.Releases.{Serving, Within, instances_in}
use Rattle.partition.proofs.Lists.{distinct-engines_to, length-engines_to, among-engines_to}
use Rattle.partition.proofs.Rows.{lowest_row-le, lowest_row-yes}
use Rattle.partition.proofs.Plain.{columns-out}
use Rattle.partition.proofs.Releases.{within-ceilings, releases-within}
use Rattle.table.specs.Meaning.{column_no, row_of, FilledMeans}
use Rattle.table.specs.Releases.{LowestYes, TableReleases}
use Rattle.table.proofs.Meaning.{no_cell, yes-cell}
use Rattle.table.proofs.RecoveredBy.{start-no}

module _ (y : System) (limits : Limits y) (rows : ℕ) (few : rows ≤ y.engines) (table after : Lent) (filled : FilledMeans y rows table after) where
  -- as many engines as the table has rows past row 0
  abbrev es : List ℕ
  es = engines_to rows

  served : Serving y es
  served = record { once = distinct-engines_to rows; engines = λ e h. let k = (among-engines_to rows e).0 h in (k.0, omega (arith, k.1)) }

  module _ (x : List ℕ) (w : Within y x) where
    abbrev c : ℕ
    c = column_of (ceilings_of y) x

    under : within x (ceilings_of y) ≡ true
    under = within-ceilings y limits x w

    low : column_of (ceilings_of y) x < columns_out y
    low = omega (arith, columns-out y limits.six, column_of-lt (ceilings_of y) x under)

    -- the row at the load's column
    abbrev row : ℕ
    row = row_of after (column_no y (instances_in x))

    -- a row is below it exactly when its cell says no
    row_below : (i : ℕ) → i ≤ rows → (cell_for y i c ≡ 65535) ↔ (i < row)
    row_below i h = rw (← (start-no y limits x w.six)) (filled.cells i c h low)

    row-within-table : row_for y es x ≤ length es → row_for y es x ≤ rows
    row-within-table h = omega (arith, h, length-engines_to rows)

    row-yes : (h : row_for y es x ≤ length es) → says_yes (cell_for y (row_for y es x) c) ≡ true
    row-yes h = lowest_row-yes (fits_engine y) (ceilings_of y) (length es) c h

    row_first : (i : ℕ) → i ≤ rows → says_yes (cell_for y i c) ≡ true → row_for y es x ≤ i
    row_first i h says = lowest_row-le (fits_engine y) (ceilings_of y) (length es) c i (omega (arith, length-engines_to rows)) says

    -- a row of the table at which the cell says yes is not below the table's, and the table's own says yes
    row-most : (i : ℕ) → i ≤ rows → says_yes (cell_for y i c) ≡ true → row ≤ i
    row-most i h says = go (leb row i) refl
      where
        go : (b : Bool) → leb row i ≡ b → row ≤ i
        go true q = leb-true row i q
        go false q = absurd ((no_cell (cell_for y i c)).0 ((row_below i h).1 (leb-false row i q)) says)

    row-says : row ≤ rows → says_yes (cell_for y row c) ≡ true
    row-says h = yes-cell (cell_for y row c) (λ z. absurd (omega (arith, (row_below row h).0 z)))

    -- the lowest row of the cells is that of the table
    table-row : row_for y es x ≤ length es → LowestYes y rows after (instances_in x) (row_for y es x)
    table-row h =
        let inside = row-within-table h in
        let most = row-most (row_for y es x) inside (row-yes h) in
        record {
          within = inside;
          says = le_antisymm most (row_first row (omega arith) (row-says (omega arith)));
        }

    -- and no other is
    only_row : (k : ℕ) → LowestYes y rows after (instances_in x) k → row_for y es x ≡ k
    only_row k l =
        let inside : row ≤ rows = omega (arith, l.says, l.within) in
        let up = row_first row inside (row-says inside) in
        le_antisymm up (row-most (row_for y es x) (omega (arith, up)) (row-yes (omega (arith, up, length-engines_to rows)))) ∙ l.says

  bounds-read : TableReleases y rows after
  bounds-read a b both first second w la lb h =
      let is_a = only_row a in_a first la in
      let is_b = only_row b in_b second lb in
      let bounds = (releases-within y limits es served).rows a b both w (rw (is_a, is_b, length-engines_to rows) h) in
      (row_for y es both, table-row both w.inside (omega (arith, bounds.at_most, is_a, is_b, h, length-engines_to rows)), rw (is_a, is_b) at bounds)
    where
      in_a : Within y a
      in_a = record { six = w.six.0; ceilings = λ t low. omega (arith, w.sums t low, w.inside.ceilings t low) }

      in_b : Within y b
      in_b = record { six = w.six.1; ceilings = λ t low. omega (arith, w.sums t low, w.inside.ceilings t low) }

-- main: of every file that opens, whatever rows of its table were filled
pub table-releases : (file : List ℕ) (y : System) → read_file file ≡ opened y → (rows : ℕ) (table after : Lent) → rows ≤ y.engines → FilledMeans y rows table after → TableReleases y rows after
table-releases file y reads rows table after few filled = bounds-read y (read-limits file y reads) rows few table after filled

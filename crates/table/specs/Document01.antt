-- Document 01's own table of m+1 rows, which request 2026-10 replaces, and what it has to do with the two parts: the same cells, and the same recovery.
-- No code fills it any more; trials compute its rows apart.
use Rattle.std.specs.Prelude.{ℕ, ◌+◌, ◌-◌, ◌*◌, ◌/◌, ◌%◌, ◌≤◌, ◌<◌, List, ◌++◌, ◌≡◌, ◌↔◌, get_or, drop}
use Rattle.system.specs.declared.System.{System}
use Rattle.system.specs.Limits.{columns}
use Rattle.partition.specs.ForSystem.{cell_for}
use Rattle.partition.specs.Lent.{Lent}
use Rattle.partition.specs.Plain.{columns_out}
use Rattle.table.specs.Parts.{up_to}
use Rattle.table.specs.Meaning.{count_in, column_no, row_of, predecessor_of, RecoveredBy}

-- "The cell of row i, column c is entry i × columns + c"
abbrev pub entry_of01 : System → ℕ → ℕ
entry_of01 y k = cell_for y (k / columns y) (k % columns y)

-- the table filled for rows 0 to r: their cells, then what it held past them
abbrev pub filled01 : System → ℕ → List ℕ → List ℕ
filled01 y r table = up_to (entry_of01 y) ((r + 1) * columns y) ++ drop ((r + 1) * columns y) table

-- no row says yes at the load of count(t) instances of each type: each of the rows 0 to r of its table, once filled, holds 65,535 at the load's column. r
-- is the number of engines in service
abbrev pub NoRow01 : System → ℕ → List ℕ → (ℕ → ℕ) → Type 0
NoRow01 y r table01 count = (i : ℕ) → i ≤ r → get_or (filled01 y r table01) (i * columns_out y + column_no y count) 0 ≡ 65535

-- document 01's recovery read in its own table
pub record Recovered01 (y : System) (table : List ℕ) (used : ℕ) (count : ℕ → ℕ) (row : ℕ → ℕ → ℕ) : Type 0 where
  pub column : ℕ → ℕ
  pub starts : column used ≡ column_no y count
  pub says : get_or table (used * columns_out y + column used) 0 ≡ 65535 → ⊥
  pub lowest_row : (i : ℕ) → i < used → get_or table (i * columns_out y + column used) 0 ≡ 65535
  pub down : (i : ℕ) → i < used → column i ≡ get_or table ((i + 1) * columns_out y + column (i + 1)) 0
  pub gets : (i t : ℕ) → i < used → row (i + 1) t ≡ count_in y (column (i + 1)) t - count_in y (column i) t

-- what the two parts keep of document 01's table with rows 0 to r: which row of a column is the first to say yes, what it holds, and every recovery within
-- the ceilings
pub record Keeps01 (y : System) (r : ℕ) (table01 : List ℕ) (table : Lent) : Type 0 where
  pub says : (i c : ℕ) → i ≤ r → c < columns_out y → (get_or table01 (i * columns_out y + c) 0 ≡ 65535) ↔ (i < row_of table c)
  pub holds : (c : ℕ) → 0 < c → c < columns_out y → row_of table c ≤ r → predecessor_of table c ≡ get_or table01 (row_of table c * columns_out y + c) 0
  pub recovers : (used : ℕ) (count : ℕ → ℕ) (row : ℕ → ℕ → ℕ) → used ≤ r → column_no y count < columns_out y
      → RecoveredBy y table used count row ↔ Recovered01 y table01 used count row

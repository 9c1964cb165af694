-- Request 2026-10, "A smaller table": what the two lent parts hold, by document 01's cells.
use Rattle.std.specs.Prelude.{ℕ, zero, suc, ◌+◌, List, [], ◌∷◌, ◌++◌, cond, drop, leb, eqb}
use Rattle.system.specs.declared.System.{System}
use Rattle.system.specs.Values.{ceilings_of}
use Rattle.system.specs.Limits.{columns}
use Rattle.loads.specs.Load.{fits_engine}
use Rattle.partition.specs.Cell.{no_column, lowest_row}
use Rattle.partition.specs.ForSystem.{cell_for}

-- the lowest of the rows 0 to r that says yes at column c; r + 1 if there is none. r is the number of engines in service
abbrev pub lowest_for : System → ℕ → ℕ → ℕ
lowest_for y r c = lowest_row (fits_engine y) (ceilings_of y) r c

-- "for each column its lowest yes row (m+1 for none)": m is the platform's, also where fewer engines are in service
abbrev pub row_at : System → ℕ → ℕ → ℕ
row_at y r c = cond (leb (lowest_for y r c) r) (lowest_for y r c) (y.engines + 1)

-- "and the predecessor at that row (65,535 for none and for column 0)"
abbrev pub predecessor_at : System → ℕ → ℕ → ℕ
predecessor_at y r c = cond (eqb c 0) no_column (cond (leb (lowest_for y r c) r) (cell_for y (lowest_for y r c) c) no_column)

-- f 0, f 1, .., as many as k
unfoldable pub up_to : (ℕ → ℕ) → ℕ → List ℕ
up_to f zero = []
up_to f (suc k) = up_to f k ++ (f k ∷ [])

-- a lent part whose entries below the columns are given; "entries past those are unchanged"
abbrev pub part_of : System → (ℕ → ℕ) → List ℕ → List ℕ
part_of y entry part = up_to entry (columns y) ++ drop (columns y) part

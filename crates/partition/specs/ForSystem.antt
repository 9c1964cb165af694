-- What the theory says of a system and a list of its engines: assignments to them, the fewest of them, and the recovery of a load onto them.
use Rattle.std.specs.Prelude.{ℕ, ◌+◌, ◌<◌, ◌≤◌, List, Bool, true, ◌≡◌, length, get_or, leb}
use Rattle.system.specs.declared.System.{System}
use Rattle.system.specs.Values.{ceilings_of}
use Rattle.loads.specs.declared.EngineLoad.{EngineLoad}
use Rattle.loads.specs.Load.{fits_engine, empty_load, engine_with, idle_engine}
use Rattle.loads.specs.Column.{column_of}
use Rattle.partition.specs.Assignment.{Assignment, load_on, assigned, good, used_of, Feasible}
use Rattle.partition.specs.Cell.{cell, lowest_row, recovery}
use Rattle.partition.specs.Shares.{on_engines}

-- χ sends every instance to one of the engines es, and on each of these the load fits
abbrev pub good_on : System → List ℕ → Assignment → Bool
good_on y es χ = good (λ (e : ℕ). fits_engine y) es χ

-- a good assignment of the load x to the engines es exists
abbrev pub FeasibleOn : System → List ℕ → List ℕ → Type 0
FeasibleOn y es x = Feasible (λ (e : ℕ). fits_engine y) es x

-- document 01's cell of row i, column c
abbrev pub cell_for : System → ℕ → ℕ → ℕ
cell_for y i c = cell (fits_engine y) (ceilings_of y) i c

-- the lowest row that says yes at the load x, where there is a row for each of the engines es; one more than these if there is none
abbrev pub row_for : System → List ℕ → List ℕ → ℕ
row_for y es x = lowest_row (fits_engine y) (ceilings_of y) (length es) (column_of (ceilings_of y) x)

-- by the cells, the load x can be placed on the engines es
abbrev pub placeable : System → List ℕ → List ℕ → Bool
placeable y es x = leb (row_for y es x) (length es)

-- document 01's recovery of the load x, row by row, and with row i on the i-th of the engines es: the loads of the engines 1 to `all`
abbrev pub rows_for : System → List ℕ → List ℕ → List (List ℕ)
rows_for y es x = recovery (fits_engine y) (ceilings_of y) (length es) (column_of (ceilings_of y) x)

abbrev pub recovered_for : ℕ → System → List ℕ → List ℕ → List (List ℕ)
recovered_for all y es x = on_engines empty_load all es (rows_for y es x)

-- the engines' records are a good assignment of the load x to the engines es: what the record of each engine holds is what the mapping sends there, with its
-- time and memory
pub record Placed (y : System) (es x : List ℕ) (loads : List EngineLoad) : Type 0 where
  pub mapping : Assignment
  pub assigns : assigned mapping ≡ x
  pub is_good : good_on y es mapping ≡ true
  pub holds : (i : ℕ) → i < length loads → get_or loads i idle_engine ≡ engine_with y (load_on (i + 1) mapping)

-- such an assignment on the fewest engines: every good assignment of the load uses at least as many
pub record OnFewest (y : System) (es x : List ℕ) (loads : List EngineLoad) (used : ℕ) : Type 0 where
  pub placed : Placed y es x loads
  pub uses : used_of es placed.mapping ≡ used
  pub fewest : (χ : Assignment) → assigned χ ≡ x → good_on y es χ ≡ true → used ≤ used_of es χ

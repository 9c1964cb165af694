-- What the functions that read a filled table rely on, and what recovery leaves in an array of engines.
use Rattle.std.specs.Prelude.{ℕ, ◌≤◌, ◌<◌, List, [], ◌++◌, map, true, cond, ◌≡◌, length, get_or, take, drop, replicate, leb, Option, None, Some}
use Rattle.system.specs.declared.System.{System}
use Rattle.system.specs.Values.{ceilings_of}
use Rattle.system.specs.Limits.{columns, engine_limit, keeps_limits}
use Rattle.loads.specs.declared.EngineLoad.{EngineLoad}
use Rattle.loads.specs.Load.{fits_engine, engine_with, idle_engine, within, less}
use Rattle.loads.specs.Column.{column_of, load_of}
use Rattle.partition.specs.Assignment.{among, every, engines_to}
use Rattle.partition.specs.Cell.{lowest_row, recover}
use Rattle.partition.specs.Shares.{distinct}
use Rattle.partition.specs.ForSystem.{cell_for}
use Rattle.partition.specs.Lent.{Lent}
use Rattle.table.specs.declared.Engines.{Engines}
use Rattle.table.specs.declared.Placement.{Placement}
use Rattle.table.specs.Parts.{lowest_for, row_at, predecessor_at}
use Rattle.table.specs.Table.{long_enough}

-- the parts show the entries of rows 0 to r
pub record PartsShow (y : System) (r : ℕ) (rows predecessors : List ℕ) : Type 0 where
  pub limits : keeps_limits y ≡ true
  pub few : r ≤ y.engines
  pub room_rows : columns y ≤ length rows
  pub room_predecessors : columns y ≤ length predecessors
  pub rows_hold : (c : ℕ) → c < columns y → get_or rows c 0 ≡ row_at y r c
  pub predecessors_hold : (c : ℕ) → c < columns y → get_or predecessors c 0 ≡ predecessor_at y r c

-- where recovery may go on from: a column whose lowest yes row is this one, and the predecessors at the lowest yes rows up to it
pub record ChainAt (y : System) (row : ℕ) (predecessors : List ℕ) (column : ℕ) : Type 0 where
  pub limits : keeps_limits y ≡ true
  pub few : row ≤ engine_limit
  pub inside : column < columns y
  pub room : columns y ≤ length predecessors
  pub holds : (i c : ℕ) → 1 ≤ i → i ≤ row → c < columns y → lowest_for y i c ≡ i → get_or predecessors c 0 ≡ cell_for y i c
  pub lowest : lowest_for y row column ≡ row

-- the load of row i where the cell of row i, column c holds p: the load of c less that of p
abbrev pub row_load : System → ℕ → ℕ → List ℕ
row_load y c p = less (load_of (ceilings_of y) c) (load_of (ceilings_of y) p)

-- the rows up to `row` are the recovery from that row at a column, those past it are as they were
unfoldable pub recovered_onto : System → ℕ → ℕ → List EngineLoad → List EngineLoad
recovered_onto y row column loads = map (engine_with y) (recover (fits_engine y) (ceilings_of y) row column []) ++ drop row loads

-- the recovery of the load x, row by row, before it is put on engines: `rows` are the rows that the table has past row 0
unfoldable pub rows_placed : System → ℕ → List ℕ → Option Placement
rows_placed y rows x =
    let c = column_of (ceilings_of y) x in
    let row = lowest_row (fits_engine y) (ceilings_of y) rows c in
    cond (leb row rows) (Some (record { used = row; loads = recovered_onto y row c (replicate engine_limit idle_engine) })) None

-- the engines that are listed, as the code has them: the first `count` numbers
abbrev pub listed : Engines → List ℕ
listed e = take e.count e.numbers

-- they are engines, each named once, and at least as many as the rows that are put on them
pub record OnListed (e : Engines) (rows : ℕ) : Type 0 where
  pub enough : rows ≤ e.count
  pub few : e.count ≤ engine_limit
  pub apart : distinct (listed e) ≡ true
  pub known : every (among (engines_to engine_limit)) (listed e) ≡ true

-- what placing a load relies on: a system within the limits, engines of it, parts long enough, and a load within the ceilings
pub record MayPlace (y : System) (e : Engines) (x : List ℕ) (table : Lent) : Type 0 where
  pub limits : keeps_limits y ≡ true
  pub few : e.count ≤ y.engines
  pub engines : OnListed e e.count
  pub room : long_enough y table ≡ true
  pub under : within x (ceilings_of y) ≡ true

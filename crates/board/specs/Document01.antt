-- Request 2026-10: "For every system that was accepted before, plans, boards and refusals but 11 are equal to the old table's". The calls on a board read in
-- document 01's own table of m+1 rows,
-- filled for as many rows past row 0 as engines are in service. Retire, withdraw and restore are lent no table.
use Rattle.std.specs.Prelude.{ℕ, ◌≤◌, List, [], ◌≡◌, ◌↔◌}
use Rattle.system.specs.Outcome.{accepted, refused, from_state}
use Rattle.table.specs.Document01.{filled01, NoRow01, Recovered01}
use Rattle.board.specs.declared.Board.{Board}
use Rattle.board.specs.Calls.{Result}
use Rattle.board.specs.Words.{count_at, stands_no, plus_one, used_records, EngineIn, serving_to, serving_all, TakesType}

-- its table of the board's system, filled
abbrev pub filled_on01 : Board → List ℕ → List ℕ
filled_on01 b table01 = filled01 b.system (serving_all b) table01

-- none of its rows says yes at count(t) instances of each type
abbrev pub NoRowOn01 : Board → List ℕ → (ℕ → ℕ) → Type 0
NoRowOn01 b table01 count = NoRow01 b.system (serving_all b) table01 count

-- `RecoveredOn` read in its table: the i-th engine in service has row i of the recovery
pub record RecoveredOn01 (b : Board) (table01 : List ℕ) (count : ℕ → ℕ) (after : Board) : Type 0 where
  pub row : ℕ → ℕ → ℕ
  pub reads : Recovered01 b.system table01 (used_records after.loads) count row
  pub holds : (e t : ℕ) → EngineIn b e → 1 ≤ t → count_at after e t ≡ row (serving_to b e) t

-- Each call for a true board, and what is lent being long enough; admit and seat for a type below its ceiling

-- admit: where no engine takes the newcomer, 23 exactly if some row says yes at all with it, and 24 exactly if none does. Whether an engine takes it is asked
-- of no table
pub record AdmitBy01 (b : Board) (t : ℕ) (table01 : List ℕ) (r : Result) : Type 0 where
  pub tight : (r.outcome ≡ refused from_state 23) ↔ (((e : ℕ) → TakesType b t e → ⊥) × (NoRowOn01 b table01 (plus_one t (stands_no b)) → ⊥))
  pub no_room : (r.outcome ≡ refused from_state 24) ↔ (((e : ℕ) → TakesType b t e → ⊥) × NoRowOn01 b table01 (plus_one t (stands_no b)))

-- seat: 24 exactly if no row says yes at all with the newcomer, else accepted, and the board is the recovery read in its table
pub record SeatBy01 (b : Board) (t : ℕ) (table01 : List ℕ) (r : Result) : Type 0 where
  pub none : (r.outcome ≡ refused from_state 24) ↔ NoRowOn01 b table01 (plus_one t (stands_no b))
  pub some : (NoRowOn01 b table01 (plus_one t (stands_no b)) → ⊥) → r.outcome ≡ accepted []
  pub given : r.outcome ≡ accepted [] → RecoveredOn01 b (filled_on01 b table01) (plus_one t (stands_no b)) r.board

-- repack: some row says yes at what stands, so that it is accepted, and the board is the recovery read in its table
pub record RepackBy01 (b : Board) (table01 : List ℕ) (r : Result) : Type 0 where
  pub some : NoRowOn01 b table01 (stands_no b) → ⊥
  pub answer : r.outcome ≡ accepted []
  pub given : RecoveredOn01 b (filled_on01 b table01) (stands_no b) r.board

-- The chain of predecessors at the lowest yes rows: recovery goes on along it, two parts that show the entries show it, and filled parts show the entries.
use Prim.Native.Nat.{ℕ, suc, ◌+◌, ◌-◌, ◌≤◌, ◌<◌}
use mathlib.Core.Path.{◌≡◌, refl, sym, ap, ◌∙◌}
use mathlib.Core.List.{List}
use mathlib.Core.Bool.{Bool, true, false, cond}
use native.Mathlib.Nat.{le_refl}
use native.Mathlib.Omega.{arith}
use borrow.Author.Tests.{leb-true, leb-false, le-leb, ne_eqb}
use lib.ListN.{length, get_or}
use lib.Dec.{leb, eqb}
use Rattle.system.specs.declared.System.{System}
use Rattle.system.specs.Values.{ceilings_of}
use Rattle.system.specs.Limits.{columns, keeps_limits}
use Rattle.system.proofs.Laws.{limits_of}
use Rattle.loads.specs.Load.{fits_engine}
use Rattle.partition.specs.ForSystem.{cell_for}
use Rattle.partition.proofs.Cells.{Predecessor, cell-predecessor}
use Rattle.table.specs.Chain.{row_load}
use Rattle.table.proofs.Begun.{begun, length-begun, get_or-begun}
use Rattle.table.specs.Parts.{lowest_for, row_at, predecessor_at, part_of}
use Rattle.table.specs.Chain.{PartsShow, ChainAt}
use Rattle.table.proofs.LowestRows.{row-at, row_zero, row_stays, row_cut, chain_next}

-- main: where recovery goes on

module _ {y : System} {row : ℕ} {predecessors : List ℕ} {c : ℕ} (at : ChainAt y row predecessors c) (some : 1 ≤ row) where
  pub chain-cell : get_or predecessors c 0 ≡ cell_for y row c
  chain-cell = at.holds row c some (le_refl row) at.inside at.lowest

  -- the load of the row fits, and the row before is the lowest of the column that precedes
  module _ (p : ℕ) (held : p ≡ cell_for y row c) where
    up : row ≡ suc (row - 1)
    up = omega arith

    here : p ≡ cell_for y (suc (row - 1)) c
    here = rw (← up) held

    pub chain_fits : fits_engine y (row_load y c p) ≡ true
    chain_fits =
        let says = row-at y row row c at.lowest (le_refl row) in
        let before : Predecessor (fits_engine y) (ceilings_of y) (row - 1) c p = rw here (cell-predecessor (fits_engine y) (ceilings_of y) (row - 1) c (rw (← up) says)) in
        before.difference_fits

    pub chain-before : ChainAt y (row - 1) predecessors p
    chain-before =
        let next = chain_next y at.limits (row - 1) c at.inside (rw (← up) at.lowest) in
        record {
          limits = at.limits;
          few = omega (arith, at.few);
          inside = rw here next.0;
          room = at.room;
          holds = λ i d pos le small low. at.holds i d pos (omega arith) small low;
          lowest = rw here next.1;
        }

-- main: what two parts show of a column

module _ {y : System} {r : ℕ} {rows predecessors : List ℕ} (shows : PartsShow y r rows predecessors) where
  shown-before : (i c : ℕ) → 1 ≤ i → i ≤ r → c < columns y → lowest_for y i c ≡ i → get_or predecessors c 0 ≡ cell_for y i c
  shown-before i c some few small low =
      let same = row_stays y shows.limits r i c small few low in
      let past : eqb c 0 ≡ false = ne_eqb c 0 (λ (e : c ≡ 0). absurd (omega (arith, ap (lowest_for y i) e, row_zero y i))) in
      shows.predecessors_hold c small ∙ rw (past, same, le-leb i r few)

  module _ (c : ℕ) (small : c < columns y) where
    -- the row of a column, where it has one
    pub shown-row : get_or rows c 0 ≤ r → get_or rows c 0 ≡ lowest_for y r c
    shown-row h = shows.rows_hold c small ∙ go (leb (lowest_for y r c) r) refl
      where
        go : (b : Bool) → leb (lowest_for y r c) r ≡ b → row_at y r c ≡ lowest_for y r c
        go true e = rw e
        go false e =
            let none : row_at y r c ≡ y.engines + 1 = rw e in
            absurd (omega (arith, shows.rows_hold c small, none, shows.few))

    pub shown-none : r < get_or rows c 0 → r < lowest_for y r c
    shown-none h = go (leb (lowest_for y r c) r) refl
      where
        go : (b : Bool) → leb (lowest_for y r c) r ≡ b → r < lowest_for y r c
        go true e =
            let held : row_at y r c ≡ lowest_for y r c = rw e in
            absurd (omega (arith, shows.rows_hold c small, held, leb-true (lowest_for y r c) r e))
        go false e = leb-false (lowest_for y r c) r e

    -- recovery may start at the row that they show
    pub shown-chain : get_or rows c 0 ≤ r → ChainAt y (get_or rows c 0) predecessors c
    shown-chain h =
        let low = shown-row h in
        record {
          limits = shows.limits;
          few = omega (arith, shows.few, (limits_of y shows.limits).engines);
          inside = small;
          room = shows.room_predecessors;
          holds = λ i d pos le inside own. shown-before i d pos (omega arith) inside own;
          lowest = row_cut y r (get_or rows c 0) c (sym low) h;
        }

-- main: filled parts show the entries

-- a filled part is as long as it was, and holds its entries
module _ (y : System) (entry : ℕ → ℕ) (part last : List ℕ) (room : columns y ≤ length part) (filled : last ≡ part_of y entry part) where
  part_room : columns y ≤ length last
  unfolding begun
  part_room = omega (arith, ap length filled, length-begun entry (columns y) part room)

  part-holds : (c : ℕ) → c < columns y → get_or last c 0 ≡ entry c
  unfolding begun
  part-holds c small = ap (λ (l : List ℕ). get_or l c 0) filled ∙ get_or-begun entry (columns y) part room c small

pub filled-show : (y : System) (r : ℕ) (rows predecessors last_rows last_befores : List ℕ) → keeps_limits y ≡ true → r ≤ y.engines → columns y ≤ length rows → columns y ≤ length predecessors
    → last_rows ≡ part_of y (row_at y r) rows → last_befores ≡ part_of y (predecessor_at y r) predecessors → PartsShow y r last_rows last_befores
filled-show y r rows predecessors last_rows last_befores limits few room_rows room_predecessors is_rows is_befores = record {
  limits = limits;
  few = few;
  room_rows = part_room y (row_at y r) rows last_rows room_rows is_rows;
  room_predecessors = part_room y (predecessor_at y r) predecessors last_befores room_predecessors is_befores;
  rows_hold = part-holds y (row_at y r) rows last_rows room_rows is_rows;
  predecessors_hold = part-holds y (predecessor_at y r) predecessors last_befores room_predecessors is_befores;
}

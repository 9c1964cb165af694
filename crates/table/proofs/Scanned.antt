-- What a scan of the row part finds is the cell: where the rows before a column are filled, the columns that it sees are those that precede.
use Prim.Native.Nat.{ℕ, suc, ◌+◌, ◌-◌, ◌≤◌, ◌<◌}
use mathlib.Core.Path.{◌≡◌, refl, sym, ◌∙◌}
use mathlib.Core.List.{List}
use mathlib.Core.Bool.{Bool, true, false, cond, ◌&&◌}
use mathlib.Core.Logic.{⊎_elim}
use native.Mathlib.Nat.{eq-or-lt_of_le}
use native.Mathlib.Omega.{arith}
use borrow.Author.Tests.{leb-true, leb-false, lt-leb}
use lib.ListN.{get_or}
use lib.Dec.{leb}
use Rattle.system.specs.declared.System.{System}
use Rattle.system.specs.Values.{ceilings_of}
use Rattle.system.specs.Limits.{columns_of}
use Rattle.system.proofs.Laws.{limits_of}
use Rattle.loads.specs.Load.{fits_engine}
use Rattle.loads.specs.Column.{load_of}
use Rattle.loads.proofs.Column.{load_of-within, column_of-load_of}
use Rattle.loads.proofs.Laws.{fits-within}
use Rattle.partition.specs.Cell.{no_column, says_yes, lowest}
use Rattle.partition.specs.ForSystem.{cell_for}
use Rattle.partition.proofs.Lists.{true-or-false}
use Rattle.table.specs.Under.{candidate}
use Rattle.table.proofs.Preceding.{candidates-cell}
use Rattle.table.specs.Parts.{lowest_for}
use Rattle.table.specs.Scan.{seen_by, ScanIn, PartsFit, RowsTo, EntryWanted}
use Rattle.table.proofs.LowestRows.{row-yes, row_fits}

-- intermediate: for a bound of r at most, m + 1 for none is as good as the lowest row itself

none-past : (l r m bound : ℕ) → bound ≤ r → r ≤ m → leb (cond (leb l r) l (m + 1)) bound ≡ leb l bound
none-past l r m bound h k = go (leb l r) refl
  where
    go : (b : Bool) → leb l r ≡ b → leb (cond b l (m + 1)) bound ≡ leb l bound
    go true e = refl
    go false e = lt-leb (m + 1) bound (omega arith) ∙ sym (lt-leb l bound (omega (arith, leb-false l r e)))

module _ {rows : List ℕ} {y : System} {r c : ℕ} (filled : RowsTo y r c rows) where
  -- the rows of the columns before c, and that of c, which says none
  row_before : (bound q : ℕ) → bound ≤ r → q < c → leb (get_or rows q 0) bound ≡ leb (lowest_for y r q) bound
  row_before bound q h l = rw (filled.holds q l) (none-past (lowest_for y r q) r y.engines bound h filled.few)

  row-own : (bound : ℕ) → bound ≤ r → leb (get_or rows c 0) bound ≡ false
  row-own bound h = rw filled.none (lt-leb (y.engines + 1) bound (omega (arith, filled.few)))

  -- with an engine, a row before c of at most 1 says that the load fits; so a part of a load that fits has such a row too
  fit-before : 1 ≤ r → (q : ℕ) → q < c → leb (get_or rows q 0) 1 ≡ fits_engine y (load_of (ceilings_of y) q)
  fit-before some q l = row_before 1 q some l ∙ sym (row_fits y filled.limits r q (omega (arith, filled.inside)) some)

  rows-parts : 1 ≤ r → PartsFit rows c (ceilings_of y)
  rows-parts some p q l h w high = ⊎_elim (λ (e : q ≡ c). rw (e, filled.none) (omega (arith, filled.few))) before (eq-or-lt_of_le h)
    where
      before : q < c → 1 < get_or rows q 0
      before k = ⊎_elim (λ t. absurd (omega (arith, leb-true (get_or rows p 0) 1 (part t)))) (leb-false (get_or rows q 0) 1) (true-or-false (leb (get_or rows q 0) 1))
        where
          part : leb (get_or rows q 0) 1 ≡ true → leb (get_or rows p 0) 1 ≡ true
          part t =
              fit-before some p (omega arith)
              ∙ fits-within y (load_of (ceilings_of y) p) (load_of (ceilings_of y) q) w (sym (fit-before some q k) ∙ t)

  module _ (unfit : fits_engine y (load_of (ceilings_of y) c) ≡ false) (i : ℕ) (early : i < r) (later : i < lowest_for y r c) where
    sees-yes : (q : ℕ) → q ≤ c → leb (get_or rows q 0) i ≡ says_yes (cell_for y i q)
    sees-yes q h =
        ⊎_elim
        (λ (e : q ≡ c). rw e (row-own i (omega arith) ∙ sym (row-yes y filled.limits r i c filled.inside (omega arith) ∙ lt-leb (lowest_for y r c) i later)))
        (λ l. row_before i q (omega arith) l ∙ sym (row-yes y filled.limits r i q (omega (arith, filled.inside)) (omega arith)))
        (eq-or-lt_of_le h)

    sees-fit : (q : ℕ) → q ≤ c → leb (get_or rows q 0) 1 ≡ fits_engine y (load_of (ceilings_of y) q)
    sees-fit q h =
        ⊎_elim
        (λ (e : q ≡ c). rw e (row-own 1 (omega arith) ∙ sym unfit))
        (fit-before (omega arith) q)
        (eq-or-lt_of_le h)

    sees : (q : ℕ) → q ≤ c → seen_by rows i c q ≡ (says_yes (cell_for y i q) && fits_engine y (load_of (ceilings_of y) (c - q)))
    sees q h = rw (sees-yes q h, sees-fit (c - q) (omega arith))

-- main: what a scan relies on, and what it finds

module _ {rows : List ℕ} {y : System} {r c : ℕ} {ns x : List ℕ} (wanted : EntryWanted rows y r c ns x) where
  pub scan-in : ScanIn rows c ns x
  scan-in =
      rw (wanted.ceilings, wanted.load)
      (record {
        under = load_of-within (ceilings_of y) c;
        few = (limits_of y wanted.filled.limits).columns;
        column = column_of-load_of (ceilings_of y) c wanted.filled.inside;
        inside = omega (arith, wanted.filled.inside, wanted.filled.room);
      })

  pub scan-parts : 1 ≤ r → PartsFit rows c ns
  scan-parts some = rw wanted.ceilings (rows-parts wanted.filled some)

  pub scanned-cell : fits_engine y x ≡ false → (i : ℕ) → i < r → i < lowest_for y r c →
      lowest (candidate (seen_by rows i c) ns x) no_column (columns_of ns) 0 ≡ cell_for y (suc i) c
  scanned-cell unfit i early later =
      rw (wanted.ceilings, wanted.load)
      (candidates-cell (fits_engine y) (ceilings_of y) (seen_by rows i c) i c wanted.filled.inside
      (sees wanted.filled (rw wanted.load at unfit) i early later))

-- Document 01's own table, entry by entry, is what document 01's words say of it: each entry is the cell of its row and column, and what partition proves of cells is said in these words.
use Prim.Native.Nat.{ℕ, zero, suc, ◌+◌, ◌-◌, ◌*◌, ◌≤◌, ◌<◌}
use mathlib.Core.List.{List, [], ◌∷◌}
use mathlib.Core.Bool.{Bool, true, false}
use mathlib.Core.Path.{◌≡◌, refl, sym, ap, subst, ◌∙◌}
use mathlib.Core.Logic.{◌⊎◌, inl, inr}
use native.Mathlib.Numerals.{add-one}
use native.Mathlib.Nat.{le_refl, suc_inj, add-zero, zero-mul, mod-eq_of_lt, div-eq_of_lt, mul-add-div_right, mul-add-mod_self_right, add-mul, mul-le-mul_right}
use native.Mathlib.Omega.{arith}
use borrow.Author.Tests.{ne_eqb}
use lib.ListN.{length, get_or, drop, get_or-append}
use lib.Seq.{drop_at, get_or-drop}
use Rattle.system.specs.declared.System.{System}
use Rattle.system.specs.Values.{ceilings_of}
use Rattle.system.specs.Limits.{columns}
use Rattle.system.proofs.Laws.{Limits, read-limits, columns_of-pos}
use Rattle.loads.specs.Load.{fits_engine, within, less}
use Rattle.loads.specs.Column.{load_of}
use Rattle.loads.proofs.Order.{Below, none, more, within→below, below→within, length-less}
use Rattle.loads.proofs.Column.{dominated-le}
use Rattle.partition.specs.Cell.{says_yes, cell}
use Rattle.partition.specs.ForSystem.{cell_for}
use Rattle.partition.specs.Plain.{columns_out}
use Rattle.partition.proofs.Lists.{not-both}
use Rattle.partition.proofs.Cells.{Predecessor, cell-predecessor, cell-lowest, predecessor-cell}
use Rattle.partition.proofs.Plain.{columns-out}
use Rattle.partition.proofs.Releases.{back}
use Rattle.table.specs.Parts.{up_to}
use Rattle.table.specs.Meaning.{count_in}
use Rattle.table.specs.Document01.{entry_of01, filled01}
use Rattle.table.proofs.Filled.{length-up_to, get_or-up_to}
use Rattle.table.proofs.Meaning.{no_cell, yes-cell, get_or-less, six-loads}
use Rattle.board.proofs.Plain.{fits-same, fits_out, out-fits}
use Rattle.cases.specs.Every.{MayPrecede01, Cells01}

-- intermediate: a load below another, type by type

below_at : {x z : List ℕ} → Below x z → (i : ℕ) → get_or x i 0 ≤ get_or z i 0
below_at none i = le_refl 0
below_at (more h r) zero = h
below_at (more h r) (suc i) = below_at r i

below_of : (x z : List ℕ) → length x ≡ length z → ((i : ℕ) → get_or x i 0 ≤ get_or z i 0) → Below x z
below_of [] [] l h = none
below_of [] (b ∷ z) l h = absurd (omega arith)
below_of (a ∷ x) [] l h = absurd (omega arith)
below_of (a ∷ x) (b ∷ z) l h = more (h 0) (below_of x z (suc_inj l) (λ i. h (suc i)))

-- intermediate: the entries

module _ (y : System) (r : ℕ) (table01 : List ℕ) where
  entry_at : (i c : ℕ) → c < columns y → entry_of01 y (i * columns y + c) ≡ cell_for y i c
  entry_at i c h =
      rw (mul-add-div_right (columns_of-pos (ceilings_of y)) i c, mul-add-mod_self_right i (columns y) c, div-eq_of_lt h, mod-eq_of_lt h, add-zero i)

  filled_at : (i c : ℕ) → i ≤ r → c < columns y → get_or (filled01 y r table01) (i * columns y + c) 0 ≡ cell_for y i c
  filled_at i c h small =
      let n = (r + 1) * columns y in
      let k = i * columns y + c in
      let low : k < n = omega (arith, mul-le-mul_right (columns y) h, add-mul r 1 (columns y)) in
      let inside : k < length (up_to (entry_of01 y) n) = omega (arith, length-up_to (entry_of01 y) n) in
      get_or-append (up_to (entry_of01 y) n) (drop n table01) 0 k inside ∙ get_or-up_to (entry_of01 y) n k low ∙ entry_at i c small

  filled-past : (k : ℕ) → (r + 1) * columns y ≤ k → get_or (filled01 y r table01) k 0 ≡ get_or table01 k 0
  filled-past k h =
      let n = (r + 1) * columns y in
      let up : n + (k - n) ≡ k = omega arith in
      subst (λ (j : ℕ). get_or (filled01 y r table01) j 0 ≡ get_or table01 j 0) up
      (sym (get_or-drop n (filled01 y r table01) (k - n) 0)
      ∙ ap (λ (l : List ℕ). get_or l (k - n) 0) (drop_at (up_to (entry_of01 y) n) (drop n table01) n (length-up_to (entry_of01 y) n))
      ∙ get_or-drop n table01 (k - n) 0)

-- intermediate: row 0

cell-none : (y : System) → cell_for y 0 0 ≡ 0
unfolding cell
cell-none y = refl

cell_other : (y : System) (c : ℕ) → 0 < c → cell_for y 0 c ≡ 65535
unfolding cell
cell_other y c h = rw (ne_eqb c 0 (λ e. omega arith))

-- main: row by row

module _ (y : System) (limits : Limits y) (r : ℕ) (table01 : List ℕ) where
  abbrev table : List ℕ
  table = filled01 y r table01

  abbrev ns : List ℕ
  ns = ceilings_of y

  same : columns_out y ≡ columns y
  same = columns-out y limits.six

  entry-is : (i c : ℕ) → i ≤ r → c < columns_out y → get_or (filled01 y r table01) (i * columns_out y + c) 0 ≡ cell_for y i c
  entry-is i c h k = rw same (filled_at y r table01 i c h (rw same at k))

  module _ (i c : ℕ) (low : i < r) (small : c < columns_out y) where
    as_long_lem : (p : ℕ) → length (load_of ns c) ≡ length (load_of ns p)
    as_long_lem p = six-loads y limits c ∙ sym (six-loads y limits p)

    -- the difference, as a load and type by type
    six-less : (p : ℕ) → length (less (load_of ns c) (load_of ns p)) ≡ 6
    six-less p = length-less (load_of ns c) (load_of ns p) (as_long_lem p) ∙ six-loads y limits c

    counted : (p t : ℕ) → 1 ≤ t → get_or (less (load_of ns c) (load_of ns p)) (t - 1) 0 ≡ count_in y c t - count_in y p t
    counted p t h = get_or-less (load_of ns c) (load_of ns p) (as_long_lem p) (t - 1)

    -- what may precede by the table's words, and by the cells
    to-cells : (p : ℕ) → MayPrecede01 y table i c p → Predecessor (fits_engine y) ns i c p
    to-cells p m = record {
      dominated = under;
      difference_fits =
          out-fits y limits.six (less (load_of ns c) (load_of ns p)) (six-less p) limits.rule
          (fits-same y (λ (t : ℕ). count_in y c t - count_in y p t) (λ (t : ℕ). get_or (less (load_of ns c) (load_of ns p)) (t - 1) 0) (λ t h. sym (counted p t h)) m.fits);
      yes_before = yes-cell (cell_for y i p) (λ e. m.yes_before (entry-is i p (omega arith) m.inside ∙ e));
      not_above = dominated-le ns c p (rw same at small) (rw same at m.inside) under;
    }
      where
        under : within (load_of ns p) (load_of ns c) ≡ true
        under =
            below→within (below_of (load_of ns p) (load_of ns c) (sym (as_long_lem p))
            (λ j. subst (λ (k : ℕ). get_or (load_of ns p) k 0 ≤ get_or (load_of ns c) k 0) (back j) (m.no_more (suc j) (omega arith))))

    of-cells : (p : ℕ) → Predecessor (fits_engine y) ns i c p → MayPrecede01 y table i c p
    of-cells p m =
        let inside : p < columns_out y = omega (arith, m.not_above, small) in
        record {
          inside = inside;
          no_more = λ t h. below_at (within→below (load_of ns p) (load_of ns c) (sym (as_long_lem p)) m.dominated) (t - 1);
          yes_before = λ e. (no_cell (cell_for y i p)).0 (sym (entry-is i p (omega arith) inside) ∙ e) m.yes_before;
          fits =
              fits-same y (λ (t : ℕ). get_or (less (load_of ns c) (load_of ns p)) (t - 1) 0) (λ (t : ℕ). count_in y c t - count_in y p t) (counted p)
              (fits_out y limits.six (less (load_of ns c) (load_of ns p)) (six-less p) m.difference_fits);
        }

    in_cells : ((cell_for y (suc i) c ≡ 65535) × ((p : ℕ) → MayPrecede01 y table i c p → ⊥))
        ⊎ (MayPrecede01 y table i c (cell_for y (suc i) c) × ((p : ℕ) → MayPrecede01 y table i c p → cell_for y (suc i) c ≤ p))
    in_cells = go (says_yes (cell_for y (suc i) c)) refl
      where
        held : ℕ
        held = cell_for y (suc i) c

        go : (b : Bool) → says_yes held ≡ b → ((held ≡ 65535) × ((p : ℕ) → MayPrecede01 y table i c p → ⊥)) ⊎ (MayPrecede01 y table i c held × ((p : ℕ) → MayPrecede01 y table i c p → held ≤ p))
        go true q = inr (of-cells held (cell-predecessor (fits_engine y) ns i c q), λ p m. cell-lowest (fits_engine y) ns i c p (to-cells p m))
        go false q =
            inl ((no_cell held).1 (λ h. not-both h q), λ p m. not-both (predecessor-cell (fits_engine y) ns i c p (omega (arith, m.inside, same, limits.columns)) (to-cells p m)) q)

    in_table : ((get_or (filled01 y r table01) ((i + 1) * columns_out y + c) 0 ≡ 65535) × ((p : ℕ) → MayPrecede01 y table i c p → ⊥))
        ⊎ (MayPrecede01 y table i c (get_or (filled01 y r table01) ((i + 1) * columns_out y + c) 0)
        × ((p : ℕ) → MayPrecede01 y table i c p → get_or (filled01 y r table01) ((i + 1) * columns_out y + c) 0 ≤ p))
    in_table =
        let is : get_or (filled01 y r table01) ((i + 1) * columns_out y + c) 0 ≡ cell_for y (suc i) c =
        ap (λ (j : ℕ). get_or (filled01 y r table01) (j * columns_out y + c) 0) (add-one i) ∙ entry-is (suc i) c low small in
        subst (λ (v : ℕ). ((v ≡ 65535) × ((p : ℕ) → MayPrecede01 y table i c p → ⊥)) ⊎ (MayPrecede01 y table i c v × ((p : ℕ) → MayPrecede01 y table i c p → v ≤ p))) (sym is) in_cells

  -- row 0 begins at entry 0
  first-row : (c : ℕ) → c < columns_out y → get_or (filled01 y r table01) c 0 ≡ cell_for y 0 c
  first-row c k =
      let here : 0 * columns_out y + c ≡ c = omega (arith, zero-mul (columns_out y)) in
      ap (λ (j : ℕ). get_or (filled01 y r table01) j 0) (sym here) ∙ entry-is 0 c (omega arith) k

pub cells-01 : Cells01
cells-01 file y r table01 reads =
    let limits = read-limits file y reads in
    let some : 0 < columns_out y = omega (arith, columns-out y limits.six, columns_of-pos (ceilings_of y)) in (
      first-row y limits r table01 0 some ∙ cell-none y,
      (λ c past k. first-row y limits r table01 c k ∙ cell_other y c past),
      in_table y limits r table01,
      (λ k h. filled-past y r table01 k (rw (columns-out y limits.six) at h)),
    )

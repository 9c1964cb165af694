-- The lowest yes rows of a system: a row says yes exactly from the lowest one on, and the column that precedes at the lowest row has the row before as its lowest.
use Prim.Native.Nat.{ℕ, zero, suc, ◌+◌, ◌-◌, ◌≤◌, ◌<◌}
use mathlib.Core.Path.{◌≡◌, refl, sym, subst, ◌∙◌}
use mathlib.Core.List.{List}
use mathlib.Core.Bool.{Bool, true, false, cond}
use native.Mathlib.Nat.{le_refl, zero-add, suc-add}
use native.Mathlib.Omega.{arith}
use borrow.Author.Tests.{leb-true, leb-false, le-leb, lt-leb}
use lib.ListN.{length, replicate, length-replicate}
use lib.Dec.{leb}
use Rattle.system.specs.declared.System.{System}
use Rattle.system.specs.Values.{ceilings_of}
use Rattle.system.specs.Limits.{columns, keeps_limits}
use Rattle.system.proofs.Laws.{limits_of}
use Rattle.loads.specs.Load.{fits_engine, less}
use Rattle.loads.specs.Column.{load_of}
use Rattle.loads.proofs.Order.{within-refl, plus-zero, less-plus}
use Rattle.loads.proofs.Laws.{zeros-fit}
use Rattle.partition.specs.Cell.{no_column, says_yes, cell}
use Rattle.partition.specs.ForSystem.{cell_for}
use Rattle.partition.proofs.Lists.{not-both}
use Rattle.partition.proofs.Cells.{Predecessor, cell-predecessor, predecessor-cell, cell-zero-yes}
use Rattle.partition.proofs.Rows.{lowest_row-le, lowest_row-most, lowest_row-yes}
use Rattle.table.proofs.Preceding.{cell-one}
use Rattle.table.specs.Parts.{lowest_for}

-- intermediate: a yes row stays yes. One engine more takes nothing: the column precedes itself

less-self : (x : List ℕ) → less x x ≡ replicate (length x) 0
less-self x = rw (plus-zero x) at (less-plus x (replicate (length x) 0) (sym (length-replicate (length x) 0)))

module _ (y : System) (limits : keeps_limits y ≡ true) (c : ℕ) (small : c < columns y) where
  yes-next : (i : ℕ) → says_yes (cell_for y i c) ≡ true → says_yes (cell_for y (suc i) c) ≡ true
  yes-next i h =
      let x : List ℕ = load_of (ceilings_of y) c in
      predecessor-cell (fits_engine y) (ceilings_of y) i c c (omega (arith, (limits_of y limits).columns)) (record {
        dominated = within-refl x;
        difference_fits = rw (less-self x) (zeros-fit y (length x));
        yes_before = h;
        not_above = le_refl c;
      })

  yes-past : (d i : ℕ) → says_yes (cell_for y i c) ≡ true → says_yes (cell_for y (d + i) c) ≡ true
  yes-past zero i h = rw (zero-add i) h
  yes-past (suc d) i h = rw (suc-add d i) (yes-next (d + i) (yes-past d i h))

  yes-later : (i j : ℕ) → i ≤ j → says_yes (cell_for y i c) ≡ true → says_yes (cell_for y j c) ≡ true
  yes-later i j l h =
      let back : j - i + i ≡ j = omega arith in
      subst (λ (k : ℕ). says_yes (cell_for y k c) ≡ true) back (yes-past (j - i) i h)

-- intermediate: the lowest row of a system

row-le : (y : System) (r i c : ℕ) → i ≤ r → says_yes (cell_for y i c) ≡ true → lowest_for y r c ≤ i
row-le y r i c h says = lowest_row-le (fits_engine y) (ceilings_of y) r c i h says

row-says : (y : System) (r c : ℕ) → lowest_for y r c ≤ r → says_yes (cell_for y (lowest_for y r c) c) ≡ true
row-says y r c h = lowest_row-yes (fits_engine y) (ceilings_of y) r c h

pub row-at : (y : System) (r i c : ℕ) → lowest_for y r c ≡ i → i ≤ r → says_yes (cell_for y i c) ≡ true
row-at y r i c e h = subst (λ (k : ℕ). says_yes (cell_for y k c) ≡ true) e (row-says y r c (omega arith))

-- main: which rows say yes

pub row-most : (y : System) (r c : ℕ) → lowest_for y r c ≤ suc r
row-most y r c = lowest_row-most (fits_engine y) (ceilings_of y) r c

pub row-yes : (y : System) → keeps_limits y ≡ true → (r i c : ℕ) → c < columns y → i ≤ r → says_yes (cell_for y i c) ≡ leb (lowest_for y r c) i
row-yes y limits r i c small h = go (says_yes (cell_for y i c)) refl (leb (lowest_for y r c) i) refl
  where
    go : (b : Bool) → says_yes (cell_for y i c) ≡ b → (d : Bool) → leb (lowest_for y r c) i ≡ d → b ≡ d
    go true e true f = refl
    go false e false f = refl
    go true e false f = absurd (omega (arith, row-le y r i c h e, leb-false (lowest_for y r c) i f))
    go false e true f =
        let low = leb-true (lowest_for y r c) i f in
        absurd (not-both (yes-later y limits c small (lowest_for y r c) i low (row-says y r c (omega arith))) e)

-- row 1 says yes exactly where the load fits
pub row_fits : (y : System) → keeps_limits y ≡ true → (r c : ℕ) → c < columns y → 1 ≤ r → fits_engine y (load_of (ceilings_of y) c) ≡ leb (lowest_for y r c) 1
row_fits y limits r c small h = sym (go (fits_engine y (load_of (ceilings_of y) c))) ∙ rw (cell-one (fits_engine y) (ceilings_of y) c) at (row-yes y limits r 1 c small h)
  where
    go : (b : Bool) → says_yes (cond b 0 no_column) ≡ b
    go true = refl
    go false = refl

-- row 0 only at column 0
pub row_zero : (y : System) (r : ℕ) → lowest_for y r 0 ≡ 0
row_zero y r = omega (arith, row-le y r 0 0 (omega arith) (unfold cell in refl))

pub row-pos : (y : System) → keeps_limits y ≡ true → (r c : ℕ) → 0 < c → c < columns y → 1 ≤ lowest_for y r c
row-pos y limits r c past small = go (lowest_for y r c) refl
  where
    go : (i : ℕ) → lowest_for y r c ≡ i → 1 ≤ i
    go zero e = absurd (omega (arith, cell-zero-yes (fits_engine y) (ceilings_of y) c (row-at y r 0 c e (omega arith))))
    go (suc i) e = omega arith

-- main: rows past the lowest one change nothing

pub row_stays : (y : System) → keeps_limits y ≡ true → (r i c : ℕ) → c < columns y → i ≤ r → lowest_for y i c ≡ i → lowest_for y r c ≡ i
row_stays y limits r i c small h e =
    let most = row-le y r i c h (row-at y i i c e (le_refl i)) in
    omega (arith, most, row-le y i (lowest_for y r c) c most (row-says y r c (omega arith)))

pub row_cut : (y : System) (r i c : ℕ) → lowest_for y r c ≡ i → i ≤ r → lowest_for y i c ≡ i
row_cut y r i c e h =
    let most = row-le y i i c (le_refl i) (row-at y r i c e h) in
    omega (arith, most, row-le y r (lowest_for y i c) c (omega arith) (row-says y i c most))

-- main: the column that precedes at the lowest row. Had it a yes row before the one before, column c would have one before its lowest

pub chain_next : (y : System) → keeps_limits y ≡ true → (i c : ℕ) → c < columns y → lowest_for y (suc i) c ≡ suc i
    → (cell_for y (suc i) c < columns y) × (lowest_for y i (cell_for y (suc i) c) ≡ i)
chain_next y limits i c small e = (omega (arith, before.not_above), omega (arith, most, least))
  where
    p : ℕ
    p = cell_for y (suc i) c

    before : Predecessor (fits_engine y) (ceilings_of y) i c p
    before = cell-predecessor (fits_engine y) (ceilings_of y) i c (row-at y (suc i) (suc i) c e (le_refl (suc i)))

    most : lowest_for y i p ≤ i
    most = row-le y i i p (le_refl i) before.yes_before

    sooner : says_yes (cell_for y (suc (lowest_for y i p)) c) ≡ true
    sooner =
        predecessor-cell (fits_engine y) (ceilings_of y) (lowest_for y i p) c p (omega (arith, before.not_above, (limits_of y limits).columns)) (record {
          dominated = before.dominated;
          difference_fits = before.difference_fits;
          yes_before = row-says y i p most;
          not_above = before.not_above;
        })

    least : i ≤ lowest_for y i p
    least = omega (arith, row-le y (suc i) (suc (lowest_for y i p)) c (omega (arith, most)) sooner)

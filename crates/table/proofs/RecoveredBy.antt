-- The recovery is what document 01's "Recovery" says, read in two parts that show the cells: along the predecessors, since the predecessor at a column's row has the row before.
use Prim.Native.Nat.{ℕ, zero, suc, ◌+◌, ◌-◌, ◌≤◌, ◌<◌}
use mathlib.Core.Path.{◌≡◌, refl, sym, ap, ◌∙◌}
use mathlib.Core.Bool.{Bool, true, false, cond}
use mathlib.Core.List.{List, [], ◌∷◌}
use mathlib.Core.Logic.{◌↔◌, ◌⊎◌, inl, inr, ⊎_elim}
use native.Mathlib.Numerals.{add-one}
use native.Mathlib.Nat.{le_refl}
use native.Mathlib.Omega.{arith}
use borrow.Author.Tests.{leb-true, leb-false, le-leb, lt-leb, eqb-true}
use lib.ListN.{length, get_or}
use lib.Dec.{leb, eqb}
use Rattle.system.specs.declared.System.{System}
use Rattle.system.specs.Values.{ceilings_of}
use Rattle.system.specs.Limits.{columns, keeps_limits}
use Rattle.system.proofs.Laws.{Limits, limits-keep}
use Rattle.loads.specs.Load.{fits_engine, within, less}
use Rattle.loads.specs.Column.{column_of, load_of}
use Rattle.loads.proofs.Column.{column_of-lt}
use Rattle.partition.specs.Cell.{cell, lowest_row, recover, recovery}
use Rattle.partition.specs.ForSystem.{cell_for}
use Rattle.partition.specs.Lent.{Lent}
use Rattle.partition.specs.Plain.{columns_out}
use Rattle.partition.proofs.ForSystem.{length-ceilings}
use Rattle.partition.proofs.Plain.{columns-out, ceiling-out}
use Rattle.partition.proofs.Lists.{not-both}
use Rattle.partition.proofs.Rows.{lowest_row-le}
use Rattle.table.specs.Parts.{lowest_for}
use Rattle.table.specs.Meaning.{stride_after, column_no, count_in, row_of, predecessor_of, RecoveredBy}
use Rattle.table.proofs.LowestRows.{row-at, row-yes, row_zero, row_cut, chain_next}
use Rattle.table.proofs.Meaning.{no_cell, yes-cell, strided, six-column, get_or-less, six-loads}

module _ (fits : List ℕ → Bool) (ns : List ℕ) where
  -- the column at row j of a recovery that starts at row i, column c
  column_at : ℕ → ℕ → ℕ → ℕ
  column_at zero c j = c
  column_at (suc i) c j = cond (leb (suc i) j) c (column_at i (cell fits ns (suc i) c) j)

  at-start : (i c : ℕ) → column_at i c i ≡ c
  unfolding column_at
  at-start zero c = refl
  at-start (suc i) c = rw (le-leb (suc i) (suc i) (le_refl (suc i)))

  below-start : (i c j : ℕ) → j < suc i → column_at (suc i) c j ≡ column_at i (cell fits ns (suc i) c) j
  unfolding column_at
  below-start i c j h = rw (lt-leb (suc i) j h)

  same-or-less : (i j : ℕ) → j < suc i → (j ≡ i) ⊎ (j < i)
  same-or-less i j h = go (eqb j i) refl
    where
      go : (b : Bool) → eqb j i ≡ b → (j ≡ i) ⊎ (j < i)
      go true q = inl (eqb-true j i q)
      go false q = inr (omega (arith, borrow.Author.Tests.eqb-false j i q))

  goes_down : (i c j : ℕ) → j < i → column_at i c j ≡ cell fits ns (suc j) (column_at i c (suc j))
  goes_down zero c j h = absurd (omega arith)
  goes_down (suc i) c j h =
      below-start i c j h ∙
      ⊎_elim
      (λ (e : j ≡ i). rw e (at-start i p ∙ sym (ap (cell fits ns (suc i)) (at-start (suc i) c))))
      (λ (l : j < i). goes_down i p j l ∙ sym (ap (cell fits ns (suc j)) (below-start i c (suc j) (omega arith))))
      (same-or-less i j h)
    where
      p : ℕ
      p = cell fits ns (suc i) c

  later-kept : (i c k : ℕ) (later : List (List ℕ)) → get_or (recover fits ns i c later) (i + k) [] ≡ get_or later k []
  unfolding recover
  later-kept zero c k later = ap (λ (j : ℕ). get_or later j []) (omega arith)
  later-kept (suc i) c k later =
      let p = cell fits ns (suc i) c in
      let rest = less (load_of ns c) (load_of ns p) ∷ later in
      let on : suc i + k ≡ i + suc k = omega arith in
      ap (λ (j : ℕ). get_or (recover fits ns i p rest) j []) on ∙ later-kept i p (suc k) rest

  row-gets : (i c j : ℕ) (later : List (List ℕ)) → j < i → get_or (recover fits ns i c later) j [] ≡ less (load_of ns (column_at i c (suc j))) (load_of ns (column_at i c j))
  unfolding recover
  row-gets zero c j later h = absurd (omega arith)
  row-gets (suc i) c j later h =
      ⊎_elim last (λ (l : j < i). before (row-gets i (cell fits ns (suc i) c) j (less (load_of ns c) (load_of ns (cell fits ns (suc i) c)) ∷ later) l)) (same-or-less i j h)
    where
      p : ℕ
      p = cell fits ns (suc i) c

      rest : List (List ℕ)
      rest = less (load_of ns c) (load_of ns p) ∷ later

      last : j ≡ i → get_or (recover fits ns i p rest) j [] ≡ less (load_of ns (column_at (suc i) c (suc j))) (load_of ns (column_at (suc i) c j))
      last e =
          let on : j ≡ i + 0 = omega arith in
          ap (λ (k : ℕ). get_or (recover fits ns i p rest) k []) on
          ∙ later-kept i p 0 rest
          ∙ sym (ap (λ (k : ℕ). less (load_of ns (column_at (suc i) c (suc k))) (load_of ns (column_at (suc i) c k))) e
          ∙ ap (λ (a : ℕ). less (load_of ns a) (load_of ns (column_at (suc i) c i))) (at-start (suc i) c)
          ∙ ap (λ (a : ℕ). less (load_of ns c) (load_of ns a)) (below-start i c i (omega arith) ∙ at-start i p))

      before : get_or (recover fits ns i p rest) j [] ≡ less (load_of ns (column_at i p (suc j))) (load_of ns (column_at i p j))
          → get_or (recover fits ns i p rest) j [] ≡ less (load_of ns (column_at (suc i) c (suc j))) (load_of ns (column_at (suc i) c j))
      before gets = go (same-or-less i j h)
        where
          go : (j ≡ i) ⊎ (j < i) → get_or (recover fits ns i p rest) j [] ≡ less (load_of ns (column_at (suc i) c (suc j))) (load_of ns (column_at (suc i) c j))
          go (inl e) = last e
          go (inr l) =
              gets
              ∙ sym (ap (λ (a : ℕ). less (load_of ns a) (load_of ns (column_at (suc i) c j))) (below-start i c (suc j) (omega arith))
              ∙ ap (λ (a : ℕ). less (load_of ns (column_at i p (suc j))) (load_of ns a)) (below-start i c j h))

-- the column of a load, with the strides written out
pub start-no : (y : System) → Limits y → (x : List ℕ) → length x ≡ 6 → column_of (ceilings_of y) x ≡ column_no y (λ (t : ℕ). get_or x (t - 1) 0)
unfolding stride_after
start-no y limits x six =
    sym (six-column (ceilings_of y) x (length-ceilings y limits) six)
    ∙ ap (λ (n : ℕ → ℕ). strided n (λ (t : ℕ). get_or x (t - 1) 0)) (λ i t. ceiling-out y t i)

-- a row that says yes, while those below it say no
pub lowest-is : (y : System) (j c : ℕ) → (cell_for y j c ≡ 65535 → ⊥) → ((i : ℕ) → i < j → cell_for y i c ≡ 65535) → lowest_for y j c ≡ j
lowest-is y j c says none = go (leb j (lowest_for y j c)) refl
  where
    most : lowest_for y j c ≤ j
    most = lowest_row-le (fits_engine y) (ceilings_of y) j c j (le_refl j) (yes-cell (cell_for y j c) says)

    go : (b : Bool) → leb j (lowest_for y j c) ≡ b → lowest_for y j c ≡ j
    go true q = omega (arith, most, leb-true j (lowest_for y j c) q)
    go false q =
        let i = lowest_for y j c in
        absurd ((no_cell (cell_for y i c)).0 (none i (leb-false j i q)) (row-at y j i c refl most))

-- main: two parts that show the cells of rows 0 to `rows`, as filled ones do

module _ (y : System) (limits : Limits y) (rows : ℕ) (after : Lent)
    (cells : (i c : ℕ) → i ≤ rows → c < columns_out y → (cell_for y i c ≡ 65535) ↔ (i < row_of after c))
    (there : (c : ℕ) → 0 < c → c < columns_out y → row_of after c ≤ rows → predecessor_of after c ≡ cell_for y (row_of after c) c) where
  abbrev fits : List ℕ → Bool
  fits = fits_engine y

  abbrev ns : List ℕ
  ns = ceilings_of y

  same : columns_out y ≡ columns y
  same = columns-out y limits.six

  keeps : keeps_limits y ≡ true
  keeps = limits-keep y limits

  -- a column whose lowest yes row is row j shows it, and its predecessor is the cell

  pub shows-row : (j c : ℕ) → c < columns y → j ≤ rows → lowest_for y j c ≡ j → row_of after c ≡ j
  shows-row j c small few low = omega (arith, most (leb (row_of after c) j) refl, least (leb j (row_of after c)) refl)
    where
      wide : c < columns_out y
      wide = omega (arith, same)

      most : (b : Bool) → leb (row_of after c) j ≡ b → row_of after c ≤ j
      most true q = leb-true (row_of after c) j q
      most false q = absurd ((no_cell (cell_for y j c)).0 ((cells j c few wide).1 (leb-false (row_of after c) j q)) (row-at y j j c low (le_refl j)))

      least : (b : Bool) → leb j (row_of after c) ≡ b → j ≤ row_of after c
      least true q = leb-true j (row_of after c) q
      least false q =
          let i = row_of after c in
          let below : i < j = leb-false j i q in
          let no = row-yes y keeps j i c small (omega arith) ∙ lt-leb (lowest_for y j c) i (omega (arith, low)) in
          absurd (omega (arith, (cells i c (omega arith) wide).0 ((no_cell (cell_for y i c)).1 (λ says. not-both says no))))

  pub shows-cell : (i c : ℕ) → c < columns y → suc i ≤ rows → lowest_for y (suc i) c ≡ suc i → predecessor_of after c ≡ cell_for y (suc i) c
  shows-cell i c small few low = there c (past c low) (omega (arith, same)) (omega (arith, row)) ∙ ap (λ (j : ℕ). cell_for y j c) row
    where
      row : row_of after c ≡ suc i
      row = shows-row (suc i) c small few low

      past : (d : ℕ) → lowest_for y (suc i) d ≡ suc i → 0 < d
      past zero e = absurd (omega (arith, e, row_zero y (suc i)))
      past (suc d) e = omega arith

  -- and a column that shows a row has it as its lowest yes row
  pub lowest-shown : (j c : ℕ) → c < columns y → j ≤ rows → row_of after c ≡ j → lowest_for y j c ≡ j
  lowest-shown j c small few row = lowest-is y j c (λ z. absurd (omega (arith, (cells j c few wide).0 z))) (λ i h. (cells i c (omega arith) wide).1 (omega (arith, row)))
    where
      wide : c < columns_out y
      wide = omega (arith, same)

  -- along a recovery each column has its row as the lowest

  chain-at : (i c j : ℕ) → c < columns y → lowest_for y i c ≡ i → j ≤ i → (column_at fits ns i c j < columns y) × (lowest_for y j (column_at fits ns i c j) ≡ j)
  chain-at zero c j small low h =
      let none : j ≡ 0 = omega arith in
      rw (none, at-start fits ns 0 c) (small, low)
  chain-at (suc i) c j small low h =
      ⊎_elim
      (λ (e : j ≡ suc i). rw (e, at-start fits ns (suc i) c) (small, low))
      (λ (l : j < suc i). let next = chain_next y keeps i c small low in rw (below-start fits ns i c j l) (chain-at i (cell_for y (suc i) c) j next.0 next.1 (omega arith)))
      (same-or-less fits ns (suc i) j (omega arith))

  -- main
  module _ (x : List ℕ) (six : length x ≡ 6) (under : within x (ceilings_of y) ≡ true) where
    abbrev start : ℕ
    start = column_of (ceilings_of y) x

    abbrev used : ℕ
    used = lowest_row (fits_engine y) (ceilings_of y) rows start

    pub recovered-by : used ≤ rows
        → RecoveredBy y after used (λ (t : ℕ). get_or x (t - 1) 0) (λ (i t : ℕ). get_or (get_or (recovery (fits_engine y) (ceilings_of y) rows start) (i - 1) []) (t - 1) 0)
    unfolding recovery
    recovered-by few = record {
      column = column;
      starts = top ∙ start-no y limits x six;
      lowest_row = ap (row_of after) top ∙ shows-row used start low few lowest;
      down = λ i h.
          let (small, own) = chain-at used start (suc i) low lowest h in
          goes_down fits ns used start i h
          ∙ sym (shows-cell i (column (suc i)) small (omega arith) own)
          ∙ ap (λ (j : ℕ). predecessor_of after (column j)) (sym (add-one i));
      gets = λ i t h.
          let here : i + 1 - 1 ≡ i = omega arith in
          ap (λ (j : ℕ). get_or (get_or (recover fits ns used start []) j []) (t - 1) 0) here
          ∙ ap (λ (l : List ℕ). get_or l (t - 1) 0) (row-gets fits ns used start i [] h)
          ∙ get_or-less (load_of ns (column (suc i))) (load_of ns (column i)) (six-loads y limits (column (suc i)) ∙ sym (six-loads y limits (column i))) (t - 1)
          ∙ ap (λ (j : ℕ). count_in y (column j) t - count_in y (column i) t) (sym (add-one i));
    }
      where
        column : ℕ → ℕ
        column = column_at fits ns used start

        top : column used ≡ start
        top = at-start fits ns used start

        low : start < columns y
        low = column_of-lt ns x under

        lowest : lowest_for y used start ≡ used
        lowest = row_cut y rows used start refl few

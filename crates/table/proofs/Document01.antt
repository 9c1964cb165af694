-- The two parts keep what document 01's table of m+1 rows says: the lowest yes rows, the cells at these, and every recovery, since a recovery meets columns at their lowest yes rows alone.
-- No row of that table says yes at a load exactly where the load cannot be partitioned among as many engines.
use Prim.Native.Nat.{ℕ, zero, suc, ◌+◌, ◌-◌, ◌*◌, ◌≤◌, ◌<◌}
use mathlib.Core.Path.{◌≡◌, refl, sym, ap, subst, ◌∙◌}
use mathlib.Core.Bool.{Bool, true, false}
use mathlib.Core.List.{List}
use mathlib.Core.Logic.{◌↔◌}
use native.Mathlib.Numerals.{add-one}
use native.Mathlib.Nat.{le_refl, add-zero, mod-eq_of_lt, div-eq_of_lt, mul-add-div_right, mul-add-mod_self_right, add-mul, mul-le-mul_right}
use native.Mathlib.Omega.{arith}
use borrow.Author.Tests.{leb-true, leb-false, le-leb}
use lib.ListN.{length, get_or, drop, get_or-append}
use lib.Dec.{leb}
use Rattle.system.specs.declared.System.{System}
use Rattle.system.specs.Values.{ceilings_of}
use Rattle.system.specs.Limits.{type_limit, columns, keeps_limits}
use Rattle.system.proofs.Laws.{Limits, limits-keep, columns_of-pos}
use Rattle.loads.specs.Load.{within}
use Rattle.loads.specs.Column.{column_of}
use Rattle.loads.proofs.Column.{column_of-lt}
use Rattle.partition.specs.Assignment.{Assignment, among, every, engines_to}
use Rattle.partition.specs.Cell.{says_yes}
use Rattle.partition.specs.Shares.{distinct}
use Rattle.partition.specs.ForSystem.{FeasibleOn, cell_for, placeable}
use Rattle.partition.specs.Lent.{Lent}
use Rattle.partition.specs.Plain.{columns_out, LongEnough, Partition, Impossible}
use Rattle.partition.proofs.Lists.{not-both}
use Rattle.partition.proofs.ForSystem.{feasible-iff-placeable}
use Rattle.partition.proofs.Plain.{columns-out, impossible-out, feasible-out}
use Rattle.table.specs.Parts.{lowest_for, up_to}
use Rattle.table.specs.Table.{filled_to}
use Rattle.table.specs.Meaning.{column_no, row_of, predecessor_of, FilledMeans, RecoveredBy}
use Rattle.table.specs.Document01.{entry_of01, filled01, NoRow01, Recovered01, Keeps01}
use Rattle.table.proofs.Filled.{length-up_to, get_or-up_to}
use Rattle.table.proofs.LowestRows.{row-yes, chain_next}
use Rattle.table.proofs.Meaning.{no_cell, filled-means}
use Rattle.table.proofs.RecoveredBy.{start-no, lowest-is, shows-row, shows-cell, lowest-shown}

-- intermediate: where each cell stands in document 01's table

entry01-at : (y : System) (i c : ℕ) → c < columns y → entry_of01 y (i * columns y + c) ≡ cell_for y i c
entry01-at y i c h =
    rw (mul-add-div_right (columns_of-pos (ceilings_of y)) i c, mul-add-mod_self_right i (columns y) c, div-eq_of_lt h, mod-eq_of_lt h, add-zero i)

filled01-at : (y : System) (r : ℕ) (table : List ℕ) (i c : ℕ) → i ≤ r → c < columns y → get_or (filled01 y r table) (i * columns y + c) 0 ≡ cell_for y i c
filled01-at y r table i c h small =
    let n = (r + 1) * columns y in
    let k = i * columns y + c in
    let low : k < n = omega (arith, mul-le-mul_right (columns y) h, add-mul r 1 (columns y)) in
    let inside : k < length (up_to (entry_of01 y) n) = omega (arith, length-up_to (entry_of01 y) n) in
    get_or-append (up_to (entry_of01 y) n) (drop n table) 0 k inside ∙ get_or-up_to (entry_of01 y) n k low ∙ entry01-at y i c small

module _ (y : System) (limits : Limits y) (r : ℕ) (few : r ≤ y.engines) (table01 : List ℕ) (table : Lent) (long : LongEnough y table) where
  abbrev before : List ℕ
  before = filled01 y r table01

  abbrev after : Lent
  after = filled_to y r table

  keeps : keeps_limits y ≡ true
  keeps = limits-keep y limits

  same : columns_out y ≡ columns y
  same = columns-out y limits.six

  narrow : (c : ℕ) → c < columns_out y → c < columns y
  narrow c k = rw same at k

  filled : FilledMeans y r table after
  filled = filled-means y limits r table few long

  entry-is : (i c : ℕ) → i ≤ r → c < columns_out y → get_or before (i * columns_out y + c) 0 ≡ cell_for y i c
  entry-is i c h k = rw same (filled01-at y r table01 i c h (narrow c k))

  row-shown : (j c : ℕ) → c < columns y → j ≤ r → lowest_for y j c ≡ j → row_of after c ≡ j
  row-shown = shows-row y limits r after filled.cells filled.cell_there

  cell-shown : (i c : ℕ) → c < columns y → suc i ≤ r → lowest_for y (suc i) c ≡ suc i → predecessor_of after c ≡ cell_for y (suc i) c
  cell-shown = shows-cell y limits r after filled.cells filled.cell_there

  -- intermediate: the columns that a recovery meets

  module _ (column : ℕ → ℕ) (used : ℕ) (inside : used ≤ r) (small : column used < columns y) (lowest : lowest_for y used (column used) ≡ used)
      (steps : (i : ℕ) → i < used → column (suc i) < columns y → lowest_for y (suc i) (column (suc i)) ≡ suc i → column i ≡ cell_for y (suc i) (column (suc i))) where
    meets-from : (d i : ℕ) → i + d ≡ used → (column i < columns y) × (lowest_for y i (column i) ≡ i)
    meets-from zero i e =
        let last : i ≡ used = omega arith in
        rw last (small, lowest)
    meets-from (suc d) i e =
        let (low, own) = meets-from d (suc i) (omega arith) in
        let next = chain_next y keeps i (column (suc i)) low own in
        rw (steps i (omega arith) low own) next

    meets : (i : ℕ) → i ≤ used → (column i < columns y) × (lowest_for y i (column i) ≡ i)
    meets i h = let d : ℕ = used - i in meets-from d i (omega arith)

  -- main: every recovery is the same

  module _ (used : ℕ) (count : ℕ → ℕ) (row : ℕ → ℕ → ℕ) (inside : used ≤ r) (small : column_no y count < columns_out y) where
    in_table : RecoveredBy y after used count row → Recovered01 y before used count row
    in_table R = record {
      column = column;
      starts = R.starts;
      says = λ z. absurd (omega (arith, (filled.cells used (column used) inside wide).0 (sym (entry-is used (column used) inside wide) ∙ z), R.lowest_row));
      lowest_row = λ i h. entry-is i (column used) (omega arith) wide ∙ (filled.cells i (column used) (omega arith) wide).1 (omega (arith, R.lowest_row));
      down = λ i h.
          let (low, own) = meets column used inside (narrow (column used) wide) lowest steps (suc i) h in
          steps i h low own
          ∙ sym (entry-is (suc i) (column (suc i)) (omega arith) (omega (arith, same)))
          ∙ ap (λ (j : ℕ). get_or before (j * columns_out y + column j) 0) (sym (add-one i));
      gets = R.gets;
    }
      where
        column : ℕ → ℕ
        column = R.column

        wide : column used < columns_out y
        wide = omega (arith, R.starts)

        lowest : lowest_for y used (column used) ≡ used
        lowest = lowest-shown y limits r after filled.cells filled.cell_there used (column used) (narrow (column used) wide) inside R.lowest_row

        steps : (i : ℕ) → i < used → column (suc i) < columns y → lowest_for y (suc i) (column (suc i)) ≡ suc i → column i ≡ cell_for y (suc i) (column (suc i))
        steps i h low own =
            R.down i h ∙ ap (λ (j : ℕ). predecessor_of after (column j)) (add-one i) ∙ cell-shown i (column (suc i)) low (omega arith) own

    in_parts : Recovered01 y before used count row → RecoveredBy y after used count row
    in_parts R = record {
      column = column;
      starts = R.starts;
      lowest_row = row-shown used (column used) (narrow (column used) wide) inside lowest;
      down = λ i h.
          let (low, own) = meets column used inside (narrow (column used) wide) lowest steps (suc i) h in
          steps i h low own
          ∙ sym (cell-shown i (column (suc i)) low (omega arith) own)
          ∙ ap (λ (j : ℕ). predecessor_of after (column j)) (sym (add-one i));
      gets = R.gets;
    }
      where
        column : ℕ → ℕ
        column = R.column

        wide : column used < columns_out y
        wide = omega (arith, R.starts)

        lowest : lowest_for y used (column used) ≡ used
        lowest =
            lowest-is y used (column used) (λ z. R.says (entry-is used (column used) inside wide ∙ z))
            (λ i h. sym (entry-is i (column used) (omega arith) wide) ∙ R.lowest_row i h)

        steps : (i : ℕ) → i < used → column (suc i) < columns y → lowest_for y (suc i) (column (suc i)) ≡ suc i → column i ≡ cell_for y (suc i) (column (suc i))
        steps i h low own =
            R.down i h
            ∙ ap (λ (j : ℕ). get_or before (j * columns_out y + column j) 0) (add-one i)
            ∙ entry-is (suc i) (column (suc i)) (omega arith) (omega (arith, same))

  keeps-all : Keeps01 y r before after
  keeps-all = record {
    says = λ i c h k. rw (entry-is i c h k) (filled.cells i c h k);
    holds = λ c past k h. filled.cell_there c past k h ∙ sym (entry-is (row_of after c) c h k);
    recovers = λ used count row inside small. (in_table used count row inside small, in_parts used count row inside small);
  }

-- main: whatever both tables held before; document 01's is as long as it must be or not
pub keeps-01 : (y : System) → Limits y → (r : ℕ) → r ≤ y.engines → (table01 : List ℕ) (table : Lent) → LongEnough y table → Keeps01 y r (filled01 y r table01) (filled_to y r table)
keeps-01 y limits r few table01 table long = keeps-all y limits r few table01 table long

-- main: whether a row says yes at a load x within the ceilings, of count(t) instances of each type

module _ (y : System) (limits : Limits y) (x : List ℕ) (six : length x ≡ type_limit) (under : within x (ceilings_of y) ≡ true)
    (count : ℕ → ℕ) (counts : (t : ℕ) → 1 ≤ t → get_or x (t - 1) 0 ≡ count t) (table01 : List ℕ) where
  abbrev start : ℕ
  start = column_of (ceilings_of y) x

  start_small : start < columns y
  start_small = column_of-lt (ceilings_of y) x under

  start_is : start ≡ column_no y count
  start_is =
      start-no y limits x six
      ∙ rw (counts 1 (omega arith), counts 2 (omega arith), counts 3 (omega arith), counts 4 (omega arith), counts 5 (omega arith), counts 6 (omega arith))

  column-small : column_no y count < columns_out y
  column-small = omega (arith, start_is, start_small, columns-out y limits.six)

  -- with a row for each of the engines es; `E` says which they are

  module _ (es : List ℕ) (apart : distinct es ≡ true) (known : every (among (engines_to y.engines)) es ≡ true)
      (E : ℕ → Type 0) (says : (e : ℕ) → (among es e ≡ true) ↔ E e) (r : ℕ) (number : length es ≡ r) where
    entry : (i : ℕ) → i ≤ r → get_or (filled01 y r table01) (i * columns_out y + column_no y count) 0 ≡ cell_for y i start
    entry i h =
        subst (λ (c : ℕ). get_or (filled01 y r table01) (i * columns_out y + c) 0 ≡ cell_for y i start) start_is
        (rw (columns-out y limits.six) (filled01-at y r table01 i start h start_small))

    yes-is : (i : ℕ) → i ≤ r → says_yes (cell_for y i start) ≡ leb (lowest_for y r start) i
    yes-is i h = row-yes y (limits-keep y limits) r i start start_small h

    last-is : says_yes (cell_for y r start) ≡ placeable y es x
    last-is = yes-is r (le_refl r) ∙ ap (λ (n : ℕ). leb (lowest_for y n start) n) (sym number)

    none-yes : placeable y es x ≡ false → NoRow01 y r table01 count
    none-yes cannot i h =
        entry i h ∙ (no_cell (cell_for y i start)).1
        (λ yes-here.
        let low = leb-true (lowest_for y r start) i (sym (yes-is i h) ∙ yes-here) in
        not-both (yes-is r (le_refl r) ∙ le-leb (lowest_for y r start) r (omega arith)) (last-is ∙ cannot))

    some-yes : placeable y es x ≡ true → NoRow01 y r table01 count → ⊥
    some-yes can none = (no_cell (cell_for y r start)).0 (sym (entry r (le_refl r)) ∙ none r (le_refl r)) (last-is ∙ can)

    can-place : FeasibleOn y es x ↔ (placeable y es x ≡ true)
    can-place = feasible-iff-placeable y limits es apart x six under

    -- no row says yes exactly where the instances cannot be partitioned among the engines, and some row exactly where they can
    pub no-row-01 : Impossible y E count ↔ NoRow01 y r table01 count
    no-row-01 = ((λ none. there none (placeable y es x) refl), (λ none. cannot.0 (λ f. some-yes (can-place.0 f) none)))
      where
        cannot : (FeasibleOn y es x → ⊥) ↔ Impossible y E count
        cannot = impossible-out y limits.rule es apart known E says x six count counts

        there : Impossible y E count → (p : Bool) → placeable y es x ≡ p → NoRow01 y r table01 count
        there none true q = absurd (cannot.1 none (can-place.1 q))
        there none false q = none-yes q

    pub some-row-01 : ((χ : Assignment) × Partition y E count χ) ↔ (NoRow01 y r table01 count → ⊥)
    some-row-01 = ((λ room none. some-yes (can-place.0 (can.1 room)) none), (λ some. back some (placeable y es x) refl))
      where
        can : FeasibleOn y es x ↔ ((χ : Assignment) × Partition y E count χ)
        can = feasible-out y limits.rule es apart known E says x six count counts

        back : (NoRow01 y r table01 count → ⊥) → (p : Bool) → placeable y es x ≡ p → (χ : Assignment) × Partition y E count χ
        back some true q = can.0 (can-place.1 q)
        back some false q = absurd (some (none-yes q))

  -- where some row says yes, a recovery read in the two parts is one read in document 01's table

  module _ (r : ℕ) (few : r ≤ y.engines) (table : Lent) (long : LongEnough y table) (some : NoRow01 y r table01 count → ⊥) where
    kept : Keeps01 y r (filled01 y r table01) (filled_to y r table)
    kept = keeps-01 y limits r few table01 table long

    row_inside : (used : ℕ) → row_of (filled_to y r table) (column_no y count) ≡ used → used ≤ r
    row_inside used row = go (leb used r) refl
      where
        go : (p : Bool) → leb used r ≡ p → used ≤ r
        go true q = leb-true used r q
        go false q = absurd (some (λ i h. (kept.says i (column_no y count) h column-small).1 (omega (arith, row, leb-false used r q))))

    pub recovered-01 : (used : ℕ) (row : ℕ → ℕ → ℕ) → RecoveredBy y (filled_to y r table) used count row → Recovered01 y (filled01 y r table01) used count row
    recovered-01 used row R =
        (kept.recovers used count row (row_inside used (ap (row_of (filled_to y r table)) (sym R.starts) ∙ R.lowest_row)) column-small).0 R

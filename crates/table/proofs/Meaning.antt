-- Two filled parts say what request 2026-10 says of them, by document 01's cells and in plain words, and so do the calls that fill them.
use Prim.Native.Nat.{ℕ, zero, suc, ◌+◌, ◌-◌, ◌*◌, ◌≤◌, ◌<◌}
use mathlib.Core.Path.{◌≡◌, refl, sym, ap, subst, ◌∙◌}
use mathlib.Core.Bool.{Bool, true, false, cond, ◌&&◌, ◌||◌, and-true, false≢true}
use mathlib.Core.List.{List, [], ◌∷◌}
use mathlib.Core.Logic.{◌↔◌}
use native.Mathlib.Numerals.{add-one}
use native.Mathlib.Nat.{le_refl, zero-add, add-zero, suc_inj}
use native.Mathlib.Omega.{arith}
use borrow.Author.Tests.{eqb-true, eqb-false, eq-eqb, ne_eqb, leb-true, leb-false, le-leb, lt-leb, lt-ltb, le-ltb}
use lib.ListN.{length, get_or, length-map}
use lib.Dec.{leb, ltb, eqb}
use Rattle.system.specs.declared.System.{System}
use Rattle.system.specs.Outcome.{Answer, Outcome, Source, accepted, refused, from_input, outcome_of}
use Rattle.system.specs.declared.Kind.{Kind}
use Rattle.system.specs.Values.{ceilings_of}
use Rattle.system.specs.Limits.{type_limit, columns, keeps_limits}
use Rattle.system.specs.Layout.{Reading, read_card, opened, unread}
use Rattle.system.specs.Card.{Card, mixed, first_of, card_of}
use Rattle.system.proofs.Laws.{Limits, limits-keep, columns_of-pos, read-card-limits}
use Rattle.system.proofs.CardLaws.{first-columns}
use Rattle.loads.specs.Load.{fits_engine, within, less}
use Rattle.loads.specs.Column.{column_from, column_of, load_of}
use Rattle.loads.proofs.Order.{Below, none, more}
use Rattle.loads.proofs.Column.{length-load_of, load_of-below, column_of-load_of, load_of-difference, dominated-le}
use Rattle.partition.specs.Assignment.{among, every, engines_to, numbers_from}
use Rattle.partition.specs.Cell.{says_yes}
use Rattle.partition.specs.ForSystem.{cell_for}
use Rattle.partition.specs.Plain.{ceiling_no, columns_out, LongEnough, TooShort, Impossible}
use Rattle.partition.proofs.Lists.{distinct-engines_to, length-engines_to, among-engines_to, tested-among, not-both}
use Rattle.partition.proofs.ForSystem.{length-ceilings, ground}
use Rattle.partition.proofs.Cells.{cell-predecessor, cell-lowest}
use Rattle.partition.proofs.Theorems.{cell-yes-iff-feasible}
use Rattle.partition.proofs.Plain.{columns-out, ceiling-out, impossible-out}
use Rattle.partition.specs.Lent.{Lent}
use Rattle.table.specs.Parts.{lowest_for, row_at, predecessor_at}
use Rattle.table.specs.Pairs.{tried_at, Pair, cell_pairs, row_counted, pairs_counted, counted_of}
use Rattle.table.specs.Table.{long_enough, filled_to, fill_outcome, fill_table, fill_card_outcome, fill_card_table, columns_needed}
use Rattle.table.specs.Meaning.{count_in, stride_after, column_no, no_greater, row_of, predecessor_of, MayPrecede, FilledMeans, sum_below, tried_out, pairs_out, FillPromises, KeptPast, FillMixed, FillCall, NeedPromises}
use Rattle.table.proofs.Filled.{length-part_of, get_or-part_of, past-part_of}
use Rattle.table.proofs.Sums.{sum_same, sum-constant}
use Rattle.table.proofs.Pairs.{length-for_each, EndsAt, tried-counted, cell-ends}
use Rattle.table.proofs.Preceding.{cell-one}
use Rattle.table.proofs.LowestRows.{row-yes, row_zero, row-pos, row-at}
use Rattle.table.proofs.Counted.{for_each-those}
use Rattle.table.proofs.CountedBound.{counted-bound, counted-met}
use Rattle.table.proofs.Cards.{plain_known, mixed-known}
use Rattle.table.proofs.Room.{long-six, short-six, long-enough-out, too-short-out}

-- intermediate: a cell that says no

pub no_cell : (v : ℕ) → (v ≡ 65535) ↔ (says_yes v ≡ true → ⊥)
no_cell v = (there, back (eqb v 65535) refl)
  where
    there : v ≡ 65535 → says_yes v ≡ true → ⊥
    there e h = let q = eq-eqb v 65535 e in let z : false ≡ true = rw q at h in absurd (false≢true z)

    back : (b : Bool) → eqb v 65535 ≡ b → (says_yes v ≡ true → ⊥) → v ≡ 65535
    back true q h = eqb-true v 65535 q
    back false q h = absurd (h (rw q))

-- intermediate: a load less another, type by type, and a load below another

pub get_or-less : (x z : List ℕ) → length x ≡ length z → (i : ℕ) → get_or (less x z) i 0 ≡ get_or x i 0 - get_or z i 0
unfolding less
get_or-less [] [] l i = omega arith
get_or-less [] (b ∷ z) l i = absurd (omega arith)
get_or-less (a ∷ x) [] l i = absurd (omega arith)
get_or-less (a ∷ x) (b ∷ z) l zero = refl
get_or-less (a ∷ x) (b ∷ z) l (suc i) = get_or-less x z (suc_inj l) i

below_at : {x z : List ℕ} → Below x z → (i : ℕ) → get_or x i 0 ≤ get_or z i 0
below_at none i = le_refl 0
below_at (more h r) zero = h
below_at (more h r) (suc i) = below_at r i

pub yes-cell : (v : ℕ) → (v ≡ 65535 → ⊥) → says_yes v ≡ true
yes-cell v n = go (eqb v 65535) refl
  where
    go : (b : Bool) → eqb v 65535 ≡ b → says_yes v ≡ true
    go true q = absurd (n (eqb-true v 65535 q))
    go false q = rw q

-- intermediate: six tests of counts are one test of loads

six-tests : (p q r s t u : Bool) → (p && q && r && s && t && u) ≡ (p && (q && (r && (s && (t && (u && true))))))
six-tests false q r s t u = refl
six-tests true false r s t u = refl
six-tests true true false s t u = refl
six-tests true true true false t u = refl
six-tests true true true true false u = refl
six-tests true true true true true u = sym (and-true u)

six-counts : (x : List ℕ) → length x ≡ 6 → x ≡ get_or x 0 0 ∷ get_or x 1 0 ∷ get_or x 2 0 ∷ get_or x 3 0 ∷ get_or x 4 0 ∷ get_or x 5 0 ∷ []
six-counts [] l = absurd (omega arith)
six-counts (a ∷ []) l = absurd (omega arith)
six-counts (a ∷ b ∷ []) l = absurd (omega arith)
six-counts (a ∷ b ∷ c ∷ []) l = absurd (omega arith)
six-counts (a ∷ b ∷ c ∷ d ∷ []) l = absurd (omega arith)
six-counts (a ∷ b ∷ c ∷ d ∷ e ∷ []) l = absurd (omega arith)
six-counts (a ∷ b ∷ c ∷ d ∷ e ∷ f ∷ []) l = refl
six-counts (a ∷ b ∷ c ∷ d ∷ e ∷ f ∷ g ∷ x) l = absurd (omega arith)

six-within : (x z : List ℕ) → length x ≡ 6 → length z ≡ 6 →
    (leb (get_or x 0 0) (get_or z 0 0)
    && leb (get_or x 1 0) (get_or z 1 0)
    && leb (get_or x 2 0) (get_or z 2 0)
    && leb (get_or x 3 0) (get_or z 3 0)
    && leb (get_or x 4 0) (get_or z 4 0)
    && leb (get_or x 5 0) (get_or z 5 0))
    ≡ within x z
unfolding within
six-within x z l k =
    six-tests (leb (get_or x 0 0) (get_or z 0 0)) (leb (get_or x 1 0) (get_or z 1 0)) (leb (get_or x 2 0) (get_or z 2 0)) (leb (get_or x 3 0) (get_or z 3 0)) (leb (get_or x 4 0) (get_or z 4 0)) (leb (get_or x 5 0) (get_or z 5 0))
    ∙ sym (λ i. within (six-counts x l i) (six-counts z k i))

-- intermediate: the column of six counts, with the strides written out

abbrev pub strided : (ℕ → ℕ) → (ℕ → ℕ) → ℕ
strided n x =
    x 1 * 1
    + (x 2 * (1 * (n 1 + 1))
    + (x 3 * (1 * (n 1 + 1) * (n 2 + 1))
    + (x 4 * (1 * (n 1 + 1) * (n 2 + 1) * (n 3 + 1))
    + (x 5 * (1 * (n 1 + 1) * (n 2 + 1) * (n 3 + 1) * (n 4 + 1))
    + x 6 * (1 * (n 1 + 1) * (n 2 + 1) * (n 3 + 1) * (n 4 + 1) * (n 5 + 1))))))

pub six-column : (ns x : List ℕ) → length ns ≡ 6 → length x ≡ 6 → strided (λ (t : ℕ). get_or ns (t - 1) 0) (λ (t : ℕ). get_or x (t - 1) 0) ≡ column_of ns x
unfolding column_from
six-column ns x l k =
    let n : ℕ → ℕ = λ (t : ℕ). get_or ns (t - 1) 0 in
    rw (← (add-zero (get_or x 5 0 * (1 * (n 1 + 1) * (n 2 + 1) * (n 3 + 1) * (n 4 + 1) * (n 5 + 1)))))
    (sym (λ i. column_of (six-counts ns l i) (six-counts x k i)))

module _ (y : System) (limits : Limits y) where
  -- main: a cell is 65,535 exactly when its load cannot be partitioned among as many engines as its row says
  cell-says : (i c : ℕ) → i ≤ y.engines → c < columns y → (cell_for y i c ≡ 65535) ↔ Impossible y (λ (e : ℕ). (1 ≤ e) × (e ≤ i)) (count_in y c)
  cell-says i c few small =
      let yes = cell-yes-iff-feasible (fits_engine y) (ceilings_of y) (ground y limits) i c (engines_to i) small (distinct-engines_to i) (length-engines_to i) in
      let none = impossible-out y limits.rule (engines_to i) (distinct-engines_to i) inside (λ (e : ℕ). (1 ≤ e) × (e ≤ i)) (among-engines_to i)
      (load_of (ceilings_of y) c) (length-load_of (ceilings_of y) c ∙ length-ceilings y limits) (count_in y c) (λ t low. refl) in
      ((λ e. none.0 (λ f. (no_cell (cell_for y i c)).0 e (yes.1 f))), (λ n. (no_cell (cell_for y i c)).1 (λ h. none.1 n (yes.0 h))))
    where
      inside : every (among (engines_to y.engines)) (engines_to i) ≡ true
      inside =
          tested-among (among (engines_to y.engines)) (engines_to i)
          (λ e k. let b = (among-engines_to i e).0 k in (among-engines_to y.engines e).1 (b.0, omega (arith, b.1)))

  no-greater : (p c : ℕ) → no_greater y p c ≡ within (load_of (ceilings_of y) p) (load_of (ceilings_of y) c)
  no-greater p c = six-within (load_of (ceilings_of y) p) (load_of (ceilings_of y) c) (six p) (six c)
    where
      six : (q : ℕ) → length (load_of (ceilings_of y) q) ≡ 6
      six q = length-load_of (ceilings_of y) q ∙ length-ceilings y limits

  -- main: the columns as numbers

  pub six-loads : (c : ℕ) → length (load_of (ceilings_of y) c) ≡ 6
  six-loads c = length-load_of (ceilings_of y) c ∙ length-ceilings y limits

  column-no : (c : ℕ) → c < columns y → column_no y (count_in y c) ≡ c
  unfolding stride_after
  column-no c small =
      sym (ap (λ (n : ℕ → ℕ). strided n (count_in y c)) (λ i t. ceiling-out y t i))
      ∙ six-column (ceilings_of y) (load_of (ceilings_of y) c) (length-ceilings y limits) (six-loads c)
      ∙ column_of-load_of (ceilings_of y) c small

  count_under : (c t : ℕ) → count_in y c t ≤ ceiling_no y t
  count_under c t = rw (← (ceiling-out y t)) (below_at (load_of-below (ceilings_of y) c) (t - 1))

  -- main: the cells by the table itself

  -- what a column has more than one that may precede it fits exactly when one engine can hold it
  fits_out : (c p : ℕ) → c < columns y → p < columns y → within (load_of (ceilings_of y) p) (load_of (ceilings_of y) c) ≡ true
      → (fits_engine y (less (load_of (ceilings_of y) c) (load_of (ceilings_of y) p)) ≡ true) ↔ (Impossible y (λ (e : ℕ). (1 ≤ e) × (e ≤ 1)) (λ (t : ℕ). count_in y c t - count_in y p t) → ⊥)
  fits_out c p small smaller under = go (fits_engine y (less (load_of ns c) (load_of ns p))) refl
    where
      ns : List ℕ
      ns = ceilings_of y

      alone : ℕ → Type 0
      alone e = (1 ≤ e) × (e ≤ 1)

      difference : load_of ns (c - p) ≡ less (load_of ns c) (load_of ns p)
      difference = load_of-difference ns c p small smaller under

      counts : (t : ℕ) → count_in y (c - p) t ≡ count_in y c t - count_in y p t
      counts t = ap (λ (x : List ℕ). get_or x (t - 1) 0) difference ∙ get_or-less (load_of ns c) (load_of ns p) (six-loads c ∙ sym (six-loads p)) (t - 1)

      says : (cell_for y 1 (c - p) ≡ 65535) ↔ Impossible y alone (λ (t : ℕ). count_in y c t - count_in y p t)
      says =
          subst (λ (f : ℕ → ℕ). (cell_for y 1 (c - p) ≡ 65535) ↔ Impossible y alone f) (λ i t. counts t i)
          (cell-says 1 (c - p) limits.some-engine (omega arith))

      one : cell_for y 1 (c - p) ≡ cond (fits_engine y (less (load_of ns c) (load_of ns p))) 0 65535
      one = cell-one (fits_engine y) ns (c - p) ∙ ap (λ (x : List ℕ). cond (fits_engine y x) 0 65535) difference

      go : (b : Bool) → fits_engine y (less (load_of ns c) (load_of ns p)) ≡ b
          → (b ≡ true) ↔ (Impossible y alone (λ (t : ℕ). count_in y c t - count_in y p t) → ⊥)
      go true q = ((λ h n. let z : cell_for y 1 (c - p) ≡ 0 = rw q at one in absurd (omega (arith, z, says.1 n))), (λ h. refl))
      go false q = ((λ h. absurd (false≢true h)), (λ h. absurd (h (says.0 (rw q at one)))))

  -- main: the entries of filled parts

  same-columns : columns_out y ≡ columns y
  same-columns = columns-out y limits.six

  keeps : keeps_limits y ≡ true
  keeps = limits-keep y limits

  module _ (r : ℕ) (few : r ≤ y.engines) (c : ℕ) (small : c < columns y) where
    -- a row below the lowest says no
    no-below : (i : ℕ) → i ≤ r → i < lowest_for y r c → cell_for y i c ≡ 65535
    no-below i h l =
        (no_cell (cell_for y i c)).1
        (λ s. absurd (false≢true (sym (lt-leb (lowest_for y r c) i l) ∙ sym (row-yes y keeps r i c small h) ∙ s)))

    -- row i is below a column's row exactly when it says no there
    row_below : (i : ℕ) → i ≤ r → (cell_for y i c ≡ 65535) ↔ (i < row_at y r c)
    row_below i h = go (leb (lowest_for y r c) r) refl
      where
        says : says_yes (cell_for y i c) ≡ leb (lowest_for y r c) i
        says = row-yes y keeps r i c small h

        below-no : cell_for y i c ≡ 65535 → i < lowest_for y r c
        below-no e = back (leb (lowest_for y r c) i) refl
          where
            back : (b : Bool) → leb (lowest_for y r c) i ≡ b → i < lowest_for y r c
            back true q = absurd ((no_cell (cell_for y i c)).0 e (says ∙ q))
            back false q = leb-false (lowest_for y r c) i q

        go : (b : Bool) → leb (lowest_for y r c) r ≡ b → (cell_for y i c ≡ 65535) ↔ (i < cond b (lowest_for y r c) (y.engines + 1))
        go true q = (below-no, no-below i h)
        go false q = ((λ e. omega arith), (λ l. no-below i h (omega (arith, leb-false (lowest_for y r c) r q))))

    -- a row that there is, and none
    row-there : row_at y r c ≤ r → row_at y r c ≡ lowest_for y r c
    row-there = go (leb (lowest_for y r c) r)
      where
        go : (b : Bool) → cond b (lowest_for y r c) (y.engines + 1) ≤ r → cond b (lowest_for y r c) (y.engines + 1) ≡ lowest_for y r c
        go true h = refl
        go false h = absurd (omega arith)

    row-none : r < row_at y r c → (row_at y r c ≡ y.engines + 1) × (predecessor_at y r c ≡ 65535)
    row-none = go (leb (lowest_for y r c) r) refl (eqb c 0)
      where
        go : (b : Bool) → leb (lowest_for y r c) r ≡ b → (d : Bool) → r < cond b (lowest_for y r c) (y.engines + 1)
            → (cond b (lowest_for y r c) (y.engines + 1) ≡ y.engines + 1) × (cond d 65535 (cond b (cell_for y (lowest_for y r c) c) 65535) ≡ 65535)
        go true q d h = absurd (omega (arith, leb-true (lowest_for y r c) r q))
        go false q true h = (refl, refl)
        go false q false h = (refl, refl)

    predecessor-there : 0 < c → row_at y r c ≤ r → predecessor_at y r c ≡ cell_for y (row_at y r c) c
    predecessor-there past h =
        let low = row-there h in
        let here : lowest_for y r c ≤ r = omega (arith, low, h) in
        rw (ne_eqb c 0 (λ e. omega arith), le-leb (lowest_for y r c) r here)

  -- main: what parts say that hold these entries

  module _ (r : ℕ) (few : r ≤ y.engines) (after : Lent) (rows_hold : (c : ℕ) → c < columns y → row_of after c ≡ row_at y r c)
      (predecessors_hold : (c : ℕ) → c < columns y → predecessor_of after c ≡ predecessor_at y r c) where
    narrow : (c : ℕ) → c < columns_out y → c < columns y
    narrow c k = rw same-columns at k

    parts-cells : (i c : ℕ) → i ≤ r → c < columns_out y → (cell_for y i c ≡ 65535) ↔ (i < row_of after c)
    parts-cells i c h k = rw (rows_hold c (narrow c k)) (row_below r few c (narrow c k) i h)

    parts-there : (c : ℕ) → 0 < c → c < columns_out y → row_of after c ≤ r → predecessor_of after c ≡ cell_for y (row_of after c) c
    parts-there c past k h =
        rw (rows_hold c (narrow c k), predecessors_hold c (narrow c k)) (predecessor-there r few c (narrow c k) past (rw (rows_hold c (narrow c k)) at h))

    parts-says : (i c : ℕ) → i ≤ r → c < columns_out y → (i < row_of after c) ↔ Impossible y (λ (e : ℕ). (1 ≤ e) × (e ≤ i)) (count_in y c)
    parts-says i c h k =
        let cells = parts-cells i c h k in
        let says = cell-says i c (omega arith) (narrow c k) in
        ((λ l. says.0 (cells.1 l)), (λ n. cells.0 (says.1 n)))

    parts_none : (c : ℕ) → c < columns_out y → r < row_of after c → (row_of after c ≡ y.engines + 1) × (predecessor_of after c ≡ 65535)
    parts_none c k h = rw (rows_hold c (narrow c k), predecessors_hold c (narrow c k)) (row-none r few c (narrow c k) (rw (rows_hold c (narrow c k)) at h))

    parts-zero : (row_of after 0 ≡ 0) × (predecessor_of after 0 ≡ 65535)
    parts-zero =
        let some : 0 < columns y = columns_of-pos (ceilings_of y) in
        (rows_hold 0 some ∙ rw (row_zero y r, le-leb 0 r (omega arith)), predecessors_hold 0 some)

    -- a column past column 0 whose row is there has a row from 1, at which its predecessor is the cell
    parts-row : (c : ℕ) → 0 < c → c < columns_out y → row_of after c ≤ r → (i : ℕ) × (row_of after c ≡ suc i) × (says_yes (cell_for y (suc i) c) ≡ true) × (predecessor_of after c ≡ cell_for y (suc i) c)
    parts-row c past k h = go (row_of after c) refl
      where
        low : row_of after c ≡ lowest_for y r c
        low = rows_hold c (narrow c k) ∙ row-there r few c (narrow c k) (rw (rows_hold c (narrow c k)) at h)

        go : (i : ℕ) → row_of after c ≡ i → (j : ℕ) × (row_of after c ≡ suc j) × (says_yes (cell_for y (suc j) c) ≡ true) × (predecessor_of after c ≡ cell_for y (suc j) c)
        go zero e = absurd (omega (arith, low, row-pos y keeps r c past (narrow c k)))
        go (suc i) e = (i, e, row-at y r (suc i) c (sym low ∙ e) (omega arith), parts-there c past k h ∙ ap (λ (j : ℕ). cell_for y j c) e)

    parts-precedes : (c : ℕ) → 0 < c → c < columns_out y → row_of after c ≤ r → MayPrecede y after c (predecessor_of after c)
    parts-precedes c past k h =
        let (i, row, says, held) = parts-row c past k h in
        let p = cell_for y (suc i) c in
        let before = cell-predecessor (fits_engine y) (ceilings_of y) i c says in
        let inside : p < columns_out y = omega (arith, before.not_above) in
        subst (MayPrecede y after c) (sym held)
        (record {
          inside = inside;
          no_more = no-greater p c ∙ before.dominated;
          yes_before = earlier i p inside (omega arith) before.yes_before row;
          fits = (fits_out c p (narrow c k) (narrow p inside) before.dominated).0 before.difference_fits;
        })
      where
        -- row i says yes at p, so that the row of p is not above it
        earlier : (i p : ℕ) → p < columns_out y → i ≤ r → says_yes (cell_for y i p) ≡ true → row_of after c ≡ suc i → row_of after p < row_of after c
        earlier i p inside l says row = go (leb (row_of after p) i) refl
          where
            go : (b : Bool) → leb (row_of after p) i ≡ b → row_of after p < row_of after c
            go true q = omega (arith, row, leb-true (row_of after p) i q)
            go false q = absurd ((no_cell (cell_for y i p)).0 ((parts-cells i p l inside).1 (leb-false (row_of after p) i q)) says)

    parts-lowest : (c p : ℕ) → 0 < c → c < columns_out y → row_of after c ≤ r → MayPrecede y after c p → predecessor_of after c ≤ p
    parts-lowest c p past k h m =
        let (i, row, says, held) = parts-row c past k h in
        let inside = m.inside in
        let under = sym (no-greater p c) ∙ m.no_more in
        subst (λ (v : ℕ). v ≤ p) (sym held)
        (cell-lowest (fits_engine y) (ceilings_of y) i c p
        (record {
          dominated = under;
          difference_fits = (fits_out c p (narrow c k) (narrow p inside) under).1 m.fits;
          yes_before = yes-cell (cell_for y i p) (λ z. absurd (omega (arith, (parts-cells i p (omega arith) inside).0 z, m.yes_before, row)));
          not_above = dominated-le (ceilings_of y) c p (narrow c k) (narrow p inside) under;
        }))

  -- main: the whole table

  module _ (r : ℕ) (table : Lent) where
    filled-rows : (c : ℕ) → c < columns y → row_of (filled_to y r table) c ≡ row_at y r c
    filled-rows c small = get_or-part_of y (row_at y r) table.rows c small

    filled-predecessors : (c : ℕ) → c < columns y → predecessor_of (filled_to y r table) c ≡ predecessor_at y r c
    filled-predecessors c small = get_or-part_of y (predecessor_at y r) table.predecessors c small

  pub filled-means : (r : ℕ) (table : Lent) → r ≤ y.engines → LongEnough y table → FilledMeans y r table (filled_to y r table)
  filled-means r table few long =
      let after = filled_to y r table in
      let rows = filled-rows r table in
      let predecessors = filled-predecessors r table in
      record {
        cells = parts-cells r few after rows predecessors;
        cell_there = parts-there r few after rows predecessors;
        says = parts-says r few after rows predecessors;
        none = parts_none r few after rows predecessors;
        column_zero = parts-zero r few after rows predecessors;
        ceilings = count_under;
        numbered = λ c k. column-no c (rw same-columns at k);
        precedes = parts-precedes r few after rows predecessors;
        lowest = parts-lowest r few after rows predecessors;
        past = λ k h.
            let past : columns y ≤ k = rw same-columns at h in
            (past-part_of y (row_at y r) table.rows k past, past-part_of y (predecessor_at y r) table.predecessors k past);
        as_long = (length-part_of y (row_at y r) table.rows (rw same-columns at long.0), length-part_of y (predecessor_at y r) table.predecessors (rw same-columns at long.1));
      }

  -- main: the pairs tried, counted in the filled table

  -- of one cell, in a row from 1
  cell-counted : (r : ℕ) (table : Lent) (i c : ℕ) → r ≤ y.engines → i < r → c < columns y
      → length (cond (leb (i + 1) (lowest_for y r c)) (cell_pairs y (i + 1) c) []) ≡ sum_below (columns y) (tried_out y (filled_to y r table) (i + 1) c)
  cell-counted r table i c few h small =
      go (leb (i + 1) low) (eqb low (i + 1)) refl refl
      ∙ ap (λ (row : ℕ). sum_below (columns y) (shown row (predecessor_at y r c))) (sym (filled-rows r table c small))
      ∙ ap (λ (before : ℕ). sum_below (columns y) (shown (row_of (filled_to y r table) c) before)) (sym (filled-predecessors r table c small))
    where
      ns : List ℕ
      ns = ceilings_of y

      low : ℕ
      low = lowest_for y r c

      held : ℕ
      held = cell_for y (i + 1) c

      listed : length (cell_pairs y (i + 1) c) ≡ length (tried_at y (i + 1) c)
      listed = length-map {B = Pair} (tried_at y (i + 1) c) (λ (q : ℕ). record { row = i + 1; column = c; tried = q })

      ends : EndsAt ns c held
      ends = rw (add-one i) (cell-ends (fits_engine y) ns (omega (arith, limits.columns)) i c small)

      counted : length (cell_pairs y (i + 1) c) ≡ sum_below (columns y) (λ (p : ℕ). cond (within (load_of ns p) (load_of ns c) && leb p held) 1 0)
      counted = listed ∙ tried-counted ns c held ends

      -- by a row and a predecessor
      shown : ℕ → ℕ → ℕ → ℕ
      shown row before p = cond (leb (i + 1) row && no_greater y p c && (ltb (i + 1) row || leb p before)) 1 0

      -- a row below: nothing
      past : (row before : ℕ) → row < i + 1 → 0 ≡ sum_below (columns y) (shown row before)
      past row before l =
          omega (arith, sum_same (columns y) (shown row before) (λ (p : ℕ). 0) (λ p k. rw (lt-leb (i + 1) row l)), sum-constant (columns y) 0)

      -- a row above: all columns under c, none of them past 65,535
      all : (row before : ℕ) → i + 1 < row → held ≡ 65535 → length (cell_pairs y (i + 1) c) ≡ sum_below (columns y) (shown row before)
      all row before l e =
          counted ∙ sum_same (columns y) (λ (p : ℕ). cond (within (load_of ns p) (load_of ns c) && leb p held) 1 0) (shown row before)
          (λ p k. rw (le-leb p held (omega (arith, e, k, limits.columns)), le-leb (i + 1) row (omega arith), lt-ltb (i + 1) row l, no-greater p c))

      -- the row itself: up to the predecessor
      own : (row before : ℕ) → row ≡ i + 1 → before ≡ held → length (cell_pairs y (i + 1) c) ≡ sum_below (columns y) (shown row before)
      own row before e f =
          counted ∙ sum_same (columns y) (λ (p : ℕ). cond (within (load_of ns p) (load_of ns c) && leb p held) 1 0) (shown row before)
          (λ p k. rw (f, e, le-leb (i + 1) (i + 1) (omega arith), le-ltb (i + 1) (i + 1) (omega arith), no-greater p c))

      -- where the lowest row is there
      is_row : low ≤ r → row_at y r c ≡ low
      is_row l = rw (le-leb low r l)

      is-predecessor : low ≡ i + 1 → predecessor_at y r c ≡ held
      is-predecessor e =
          rw (ne_eqb c 0 (λ (z : c ≡ 0). omega (arith, ap (lowest_for y r) z, row_zero y r)), le-leb low r (omega (arith, e)))
          (ap (λ (j : ℕ). cell_for y j c) e)

      go : (b d : Bool) → leb (i + 1) low ≡ b → eqb low (i + 1) ≡ d → length (cond b (cell_pairs y (i + 1) c) []) ≡ sum_below (columns y) (shown (row_at y r c) (predecessor_at y r c))
      go false d q e =
          let below = leb-false (i + 1) low q in
          past (row_at y r c) (predecessor_at y r c) (omega (arith, is_row (omega arith)))
      go true true q e =
          let same = eqb-true low (i + 1) e in
          own (row_at y r c) (predecessor_at y r c) (is_row (omega (arith, same)) ∙ same) (is-predecessor same)
      go true false q e =
          let above : i + 1 < low = omega (arith, leb-true (i + 1) low q, eqb-false low (i + 1) e) in
          let no = no-below r few c small (i + 1) (omega arith) above in
          all (row_at y r c) (predecessor_at y r c) ((row_below r few c small (i + 1) (omega arith)).0 no) no

  pub pairs-counted : (r : ℕ) (table : Lent) → r ≤ y.engines → counted_of y r ≡ pairs_out y r (filled_to y r table)
  unfolding pairs_counted
  pairs-counted r table few =
      length-for_each (row_counted y r) 1 r
      ∙ subst (λ (width : ℕ). sum_below r (λ (i : ℕ). length (row_counted y r (1 + i))) ≡ sum_below r (shown_row width)) (sym same-columns)
      (sum_same r (λ (i : ℕ). length (row_counted y r (1 + i))) (shown_row (columns y)) (λ i h. in_row i h))
    where
      shown_row : ℕ → ℕ → ℕ
      shown_row width i = sum_below width (λ (c : ℕ). sum_below width (tried_out y (filled_to y r table) (i + 1) c))

      in_cell : ℕ → ℕ → List Pair
      in_cell i c = cond (leb i (lowest_for y r c)) (cell_pairs y i c) []

      in_row : (i : ℕ) → i < r → length (row_counted y r (1 + i)) ≡ shown_row (columns y) i
      in_row i h =
          let next : 1 + i ≡ i + 1 = omega arith in
          ap (λ (j : ℕ). length (row_counted y r j)) next
          ∙ ap length (for_each-those (λ (c : ℕ). leb (i + 1) (lowest_for y r c)) (cell_pairs y (i + 1)) (numbers_from 0 (columns y)))
          ∙ length-for_each (in_cell (i + 1)) 0 (columns y)
          ∙ sum_same (columns y) (λ (c : ℕ). length (in_cell (i + 1) (0 + c))) (λ (c : ℕ). sum_below (columns y) (tried_out y (filled_to y r table) (i + 1) c))
          (λ c small. ap (λ (d : ℕ). length (in_cell (i + 1) d)) (zero-add c) ∙ cell-counted r table i c few h small)

-- main: what the calls promise

same_number : (m n : ℕ) → accepted (m ∷ []) ≡ accepted (n ∷ []) → m ≡ n
same_number m n e = cc

clash : {A : Type 0} (o : Outcome) {s : Source} {n : ℕ} {ns : List ℕ} → o ≡ accepted ns → o ≡ refused s n → A
clash o p q = let z : ◌≡◌ {A = ℕ} 0 1 = cc in absurd (omega arith)

as_lent_lem : (x : Reading) (o : Outcome) {table after : Lent} → after ≡ fill_table x table → o ≡ fill_outcome x table → (s : Source) (n : ℕ) → o ≡ refused s n → after ≡ table
as_lent_lem (unread k) a left told s n o = left
as_lent_lem (opened y) a {table = table} {after = after} left told s n o = go (long_enough y table) refl
  where
    go : (b : Bool) → long_enough y table ≡ b → after ≡ table
    go true q = let yes : a ≡ accepted (counted_of y y.engines ∷ []) = told ∙ rw q in clash a yes o
    go false q = left ∙ rw q

-- the shortest parts that 11 passes, of six types
need-promises : (x : Reading) → ((y : System) → x ≡ opened y → length y.types ≡ type_limit) → (answer : Answer) → outcome_of answer ≡ columns_needed x → NeedPromises x answer
need-promises x six answer e = record {
  answers = e;
  refuses = λ n is. e ∙ ap columns_needed is;
  needs = λ y is. e ∙ ap columns_needed is ∙ ap (λ (c : ℕ). accepted (c ∷ [])) (sym (columns-out y (six y is)));
}

module _ (x : Reading) (known : (y : System) → x ≡ opened y → Limits y) (answer : Answer) where
  module _ (table after : Lent) (told : outcome_of answer ≡ fill_outcome x table) (left : after ≡ fill_table x table) where
    long-is : (y : System) → x ≡ opened y → LongEnough y table → long_enough y table ≡ true
    long-is y is h = (long-enough-out y table (limits-keep y (known y is))).1 h

    short-told : (y : System) → x ≡ opened y → long_enough y table ≡ false → (outcome_of answer ≡ refused from_input 11) × (after ≡ table)
    short-told y is q = (told ∙ ap (λ (r : Reading). fill_outcome r table) is ∙ rw q, left ∙ ap (λ (r : Reading). fill_table r table) is ∙ rw q)

    long-told : (y : System) → x ≡ opened y → long_enough y table ≡ true → (outcome_of answer ≡ accepted (counted_of y y.engines ∷ [])) × (after ≡ filled_to y y.engines table)
    long-told y is q =
        (told ∙ ap (λ (r : Reading). fill_outcome r table) is ∙ rw q, left ∙ ap (λ (r : Reading). fill_table r table) is ∙ rw (q, length-engines_to y.engines))

    then-table : (y : System) → x ≡ opened y → (b : Bool) → long_enough y table ≡ b → (outcome_of answer ≡ refused from_input 11) ↔ TooShort y table
    then-table y is true q =
        ((λ o. clash (outcome_of answer) (long-told y is q).0 o), (λ h. absurd (not-both q ((too-short-out y table (limits-keep y (known y is))).1 h))))
    then-table y is false q = ((λ o. (too-short-out y table (limits-keep y (known y is))).0 q), (λ h. (short-told y is q).0))

    -- a number that is answered is that of the pairs
    pairs-told : (y : System) (pairs : ℕ) → x ≡ opened y → outcome_of answer ≡ accepted (pairs ∷ []) → pairs ≡ counted_of y y.engines
    pairs-told y pairs is o = go (long_enough y table) refl
      where
        go : (b : Bool) → long_enough y table ≡ b → pairs ≡ counted_of y y.engines
        go true q = same_number pairs (counted_of y y.engines) (sym o ∙ (long-told y is q).0)
        go false q = clash (outcome_of answer) o (short-told y is q).0

    pub fill-promises : FillPromises x table answer after
    fill-promises = record {
      answers = told;
      leaves = left;
      file_first = λ n is. told ∙ ap (λ (r : Reading). fill_outcome r table) is;
      then_table = λ y is. then-table y is (long_enough y table) refl;
      fills = λ y is long.
          let done = long-told y is (long-is y is long) in
          rw done.1 (filled-means y (known y is) y.engines table (le_refl y.engines) long);
      counts = λ y is long.
          let done = long-told y is (long-is y is long) in
          done.0 ∙ ap (λ (pairs : ℕ). accepted (pairs ∷ [])) (pairs-counted y (known y is) y.engines table (le_refl y.engines) ∙ ap (pairs_out y y.engines) (sym done.1));
      bounded = λ y pairs is o. rw (pairs-told y pairs is o) (counted-bound y (limits-keep y (known y is)) y.engines (le_refl y.engines));
      met = λ y pairs is o nothing.
          ap (λ (n : ℕ). n + y.engines) (pairs-told y pairs is o) ∙ counted-met y (limits-keep y (known y is)) y.engines (le_refl y.engines) nothing;
      as_lent = λ s n o. as_lent_lem x (outcome_of answer) left told s n o;
    }

-- of two kinds: what a fill for the first leaves past the columns

module _ (y : System) (six : length y.types ≡ type_limit) (table : Lent) where
  past-columns : (c : ℕ) → columns_out y ≤ c → columns (first_of y) ≤ c
  past-columns c h = omega (arith, h, columns-out y six, first-columns y)

  pub kept-past : (r : ℕ) → long_enough y table ≡ true → KeptPast y table (filled_to (first_of y) r table)
  kept-past r long =
      let room = (long-six y table six).0 long in
      record {
        past = λ c h. (past-part_of (first_of y) (row_at (first_of y) r) table.rows c (past-columns c h), past-part_of (first_of y) (predecessor_at (first_of y) r) table.predecessors c (past-columns c h));
        as_long = (
          length-part_of (first_of y) (row_at (first_of y) r) table.rows (past-columns (length table.rows) room.0),
          length-part_of (first_of y) (predecessor_at (first_of y) r) table.predecessors (past-columns (length table.predecessors) room.1),
        );
      }

  pub kept_same : KeptPast y table table
  kept_same = record { past = λ c h. (refl, refl); as_long = (refl, refl) }

  fill-mixed : (k : Kind) (answer : Answer) (after : Lent) → outcome_of answer ≡ fill_card_outcome (mixed y k) table → after ≡ fill_card_table (mixed y k) table → FillMixed y table answer after
  fill-mixed k answer after told left = go (long_enough y table) refl
    where
      go : (b : Bool) → long_enough y table ≡ b → FillMixed y table answer after
      go true q =
          let yes : outcome_of answer ≡ accepted [] = told ∙ rw q in
          let done : after ≡ filled_to (first_of y) y.engines table = left ∙ rw q in
          record {
            then_table = ((λ o. clash (outcome_of answer) yes o), (λ h. absurd (not-both q ((short-six y table six).1 h))));
            accepts = λ h. yes;
            as_lent = λ s n o. clash (outcome_of answer) yes o;
            kept = rw done (kept-past y.engines q);
          }
      go false q =
          let none : outcome_of answer ≡ refused from_input 11 = told ∙ rw q in
          let same : after ≡ table = left ∙ rw q in
          record {
            then_table = ((λ o. (short-six y table six).0 q), (λ h. none));
            accepts = λ h. absurd (not-both ((long-six y table six).1 h) q);
            as_lent = λ s n o. same;
            kept = rw same kept_same;
          }

-- of a file
module _ (file : List ℕ) where
  pub file-needs : (a : Answer) → outcome_of a ≡ columns_needed (read_card file) → NeedPromises (read_card file) a
  file-needs a e = need-promises (read_card file) (λ y is. (read-card-limits file y is).six) a e

  pub file-fills : (a : Answer) (table after : Lent) → (outcome_of a ≡ fill_card_outcome (card_of (read_card file)) table) × (after ≡ fill_card_table (card_of (read_card file)) table) → FillCall (card_of (read_card file)) table a after
  file-fills a table after (told, left) = record {
    answers = told;
    leaves = left;
    one_kind = λ x is.
        fill-promises x (plain_known file x is) a table after (told ∙ ap (λ (c : Card). fill_card_outcome c table) is) (left ∙ ap (λ (c : Card). fill_card_table c table) is);
    two_kinds = λ y k is.
        fill-mixed y (mixed-known file y k is).six table k a after (told ∙ ap (λ (c : Card). fill_card_outcome c table) is) (left ∙ ap (λ (c : Card). fill_card_table c table) is);
  }

-- Laws of the lent part from engine to engine: the first row, what a pass makes of a row, and the last column of the last row, which is the number of good assignments.
use Prim.Native.Nat.{ℕ, zero, suc, ◌+◌, ◌-◌, ◌*◌, ◌^◌, ◌≤◌, ◌<◌}
use mathlib.Core.Path.{◌≡◌, refl, sym, ap, subst, ◌∙◌}
use mathlib.Core.List.{List, [], ◌∷◌}
use mathlib.Core.Bool.{Bool, true, false, and-false}
use native.Mathlib.Nat.{le_trans, le_refl, mul-zero, mul-one, one-mul, zero-mul, sub_self, pow-le-pow_left, pow-le-pow_right}
use native.Mathlib.Numerals.{add-one}
use native.Mathlib.Omega.{arith}
use borrow.Author.Tests.{eqb-true, eqb-false, ne_eqb, leb-true, leb-false}
use lib.ListN.{length, get_or, set, drop, length-set, length-drop, length-map}
use lib.Seq.{get_or-drop, get_or-set_same, get_or-set_other, ext_get_or}
use lib.Dec.{eqb, leb}
use Rattle.system.specs.declared.TaskType.{TaskType}
use Rattle.system.specs.declared.System.{System}
use Rattle.system.specs.Values.{ceilings_of}
use Rattle.system.specs.Limits.{columns}
use Rattle.system.proofs.Laws.{columns_of-pos}
use Rattle.loads.specs.Load.{holds_none, less, fits_engine}
use Rattle.loads.specs.Column.{load_of}
use Rattle.loads.proofs.Order.{Below, none, more}
use Rattle.loads.proofs.Column.{column_of-load_of, length-load_of, load_of-below, load_of-within, load-last}
use Rattle.partition.specs.Listing.{instances}
use Rattle.counting.specs.Counts.{greatest, good_count}
use Rattle.counting.specs.Tally.{sum_to, choose, bit, over_parts, tally, stride_at, over_columns}
use Rattle.counting.specs.Reach.{reach_of}
use Rattle.counting.specs.Walk.{held_ways, over_by, reach_by, Choices, SumIn, CountsIn, StridesOf, passed_cell, Passed, RowOf, Beyond}
use Rattle.counting.proofs.Sums.{sum_to-equal, sum_to-zero}
use Rattle.counting.proofs.Pascal.{choose-all}
use Rattle.counting.proofs.Totals.{over_parts-equal}
use Rattle.counting.proofs.Tallied.{good_count-tally, tally-within}
use Rattle.counting.proofs.Strides.{stride_at-zero, reach_of-column}
use Rattle.counting.proofs.Columns.{pass-cell}
use Rattle.counting.proofs.Walked.{over-strides, reach-strides, over_equal}

-- intermediate: counts of a load under another

pub below_at : {x y : List ℕ} → Below x y → (i : ℕ) → get_or x i 0 ≤ get_or y i 0
below_at none i = le_refl 0
below_at (more h r) zero = h
below_at (more h r) (suc i) = below_at r i

pub instance-le : (ns : List ℕ) (t : ℕ) → get_or ns t 0 ≤ instances ns
unfolding instances
instance-le [] t = omega arith
instance-le (n ∷ ns) zero = omega arith
instance-le (n ∷ ns) (suc t) = omega (arith, instance-le ns t)

-- main: with one engine

-- a sum whose terms are 0 but for the last
last-only : (n : ℕ) (f : ℕ → ℕ) → ((j : ℕ) → j < n → f j ≡ 0) → sum_to n f ≡ f n
unfolding sum_to
last-only zero f zeros = refl
last-only (suc n) f zeros = rw (sum_to-equal n f (λ (j : ℕ). 0) (λ j h. zeros j (omega arith)), sum_to-zero n) (omega arith)

all-zero : (x : List ℕ) → over_parts x (λ (z : List ℕ). 0) ≡ 0
unfolding over_parts
all-zero [] = refl
all-zero (n ∷ x) =
    sum_to-equal n (λ (j : ℕ). choose n j * over_parts x (λ (z : List ℕ). 0)) (λ (j : ℕ). 0) (λ j h. rw (all-zero x) (mul-zero (choose n j)))
    ∙ sum_to-zero n

-- a sum over loads whose terms are 0 where something is left
whole-only : (x : List ℕ) (s : List ℕ → ℕ) → ((z : List ℕ) → Below z x → holds_none (less x z) ≡ false → s z ≡ 0) → over_parts x s ≡ s x
unfolding over_parts holds_none less
whole-only [] s left = refl
whole-only (n ∷ x) s left =
    last-only n (λ (j : ℕ). choose n j * over_parts x (λ (z : List ℕ). s (j ∷ z))) fewer
    ∙ rw (choose-all n, whole-only x (λ (z : List ℕ). s (n ∷ z)) rest) (one-mul (s (n ∷ x)))
  where
    fewer : (j : ℕ) → j < n → choose n j * over_parts x (λ (z : List ℕ). s (j ∷ z)) ≡ 0
    fewer j h =
        let some : n - j ≡ 0 → ⊥ = λ e. omega arith in
        rw (over_parts-equal x (λ (z : List ℕ). s (j ∷ z)) (λ (z : List ℕ). 0) (λ z b. left (j ∷ z) (more (omega arith) b) (rw (ne_eqb (n - j) 0 some))), all-zero x)
        (mul-zero (choose n j))

    rest : (z : List ℕ) → Below z x → holds_none (less x z) ≡ false → s (n ∷ z) ≡ 0
    rest z b e = left (n ∷ z) (more (le_refl n) b) (rw e (and-false (eqb (n - n) 0)))

none_left : (x : List ℕ) → holds_none (less x x) ≡ true
unfolding holds_none less
none_left [] = refl
none_left (n ∷ x) = rw (sub_self n) (none_left x)

pub tally-one : (f : List ℕ → Bool) (x : List ℕ) → tally f 1 x ≡ bit (f x)
unfolding tally
tally-one f x =
    whole-only x (λ (z : List ℕ). bit (f z) * bit (holds_none (less x z))) (λ z b e. rw e (mul-zero (bit (f z))))
    ∙ rw (none_left x) (mul-one (bit (f x)))

-- main: one cell of a pass, where the columns up to it are as they were before the pass

module _ (y : System) (before part strides : List ℕ) (c : ℕ)
    (six : length (ceilings_of y) ≡ 6) (inside : c < columns y) (by : StridesOf y strides)
    (low : (k : ℕ) → k ≤ c → get_or part k 0 ≡ get_or before k 0) (high : (k : ℕ) → columns y ≤ k → get_or part k 0 ≡ get_or before k 0) where
  held_same : (p : ℕ) → held_ways part (columns y) c p ≡ held_ways before (columns y) c p
  held_same p = rw (low (c - p) (omega arith), high (columns y + p) (omega arith))

  cell-found : over_by strides (load_of (ceilings_of y) c) 6 0 (held_ways part (columns y) c) ≡ passed_cell y before c
  cell-found =
      over-strides (ceilings_of y) strides (load_of (ceilings_of y) c) 6 0 (held_ways part (columns y) c) by
      ∙ (λ i. over_columns (ceilings_of y) (load_of (ceilings_of y) c) 6 0 (λ (p : ℕ). held_same p i))

  cell-reach : reach_by strides (load_of (ceilings_of y) c) 6 ≡ c
  cell-reach =
      reach-strides (ceilings_of y) strides (load_of (ceilings_of y) c) 6 by
      ∙ ap (reach_of (ceilings_of y) (load_of (ceilings_of y) c)) (sym six)
      ∙ reach_of-column (ceilings_of y) (load_of (ceilings_of y) c)
      ∙ column_of-load_of (ceilings_of y) c inside

  cell-asks : (ways : List ℕ) → Choices ways → columns y + columns y ≤ length part → passed_cell y before c ≤ greatest →
      SumIn part ways (columns y) c (0 + reach_by strides (load_of (ceilings_of y) c) 6) (over_by strides (load_of (ceilings_of y) c) 6 0 (held_ways part (columns y) c))
  cell-asks ways chosen halves small = record { chosen = chosen; reach = omega (arith, cell-reach); inside = inside; halves = halves; small = rw cell-found small }

  counts-asked : length strides ≡ 6 → ((t : ℕ) → get_or (ceilings_of y) t 0 < 64) → CountsIn (load_of (ceilings_of y) c) strides 5
  counts-asked long few =
      record {
        some = omega arith;
        counted = rw (length-load_of (ceilings_of y) c, six) (omega arith);
        strided = rw long (omega arith);
        few = λ i h. omega (arith, below_at (load_of-below (ceilings_of y) c) i, few i);
        first = by 0 (omega arith) ∙ stride_at-zero (ceilings_of y);
      }

  -- the same of what the code has at hand
  pub cell-wanted : (ways x : List ℕ) (half : ℕ) → half ≡ columns y → x ≡ load_of (ceilings_of y) c → Choices ways → half + half ≤ length part → passed_cell y before c ≤ greatest → length strides ≡ 6 → ((t : ℕ) → get_or (ceilings_of y) t 0 < 64) →
      SumIn part ways half c (0 + reach_by strides x 6) (over_by strides x 6 0 (held_ways part half c)) × CountsIn x strides 5
  cell-wanted ways x half all load chosen halves small long few = rw (all, load) (cell-asks ways chosen (rw all at halves) small, counts-asked long few)

  pub cell-stored : (x : List ℕ) (half v : ℕ) → half ≡ columns y → x ≡ load_of (ceilings_of y) c → v ≡ over_by strides x 6 0 (held_ways part half c) → v ≡ passed_cell y before c
  cell-stored x half v all load e = e ∙ rw (all, load) cell-found

-- the part with that cell stored
module _ (y : System) (before part : List ℕ) (column v : ℕ) (some : 0 < column) (inside : column ≤ columns y) (room : columns y ≤ length part) (found : v ≡ passed_cell y before (column - 1)) where
  pub pass-cells : ((c : ℕ) → column ≤ c → c < columns y → get_or part c 0 ≡ passed_cell y before c) → (c : ℕ) → column - 1 ≤ c → c < columns y → get_or (set part (column - 1) v) c 0 ≡ passed_cell y before c
  pass-cells done c from below = go (eqb c (column - 1)) refl
    where
      go : (b : Bool) → eqb c (column - 1) ≡ b → get_or (set part (column - 1) v) c 0 ≡ passed_cell y before c
      go true p = let is = eqb-true c (column - 1) p in rw is (get_or-set_same part (column - 1) v 0 (omega arith) ∙ found)
      go false p = let other = eqb-false c (column - 1) p in get_or-set_other part (column - 1) c v 0 other ∙ done c (omega arith) below

  pub pass-lower : ((k : ℕ) → k < column → get_or part k 0 ≡ get_or before k 0) → (k : ℕ) → k < column - 1 → get_or (set part (column - 1) v) k 0 ≡ get_or before k 0
  pass-lower same k h = get_or-set_other part (column - 1) k v 0 (λ e. omega arith) ∙ same k (omega arith)

  pub pass-others : ((k : ℕ) → columns y ≤ k → get_or part k 0 ≡ get_or before k 0) → (k : ℕ) → columns y ≤ k → get_or (set part (column - 1) v) k 0 ≡ get_or before k 0
  pass-others same k h = get_or-set_other part (column - 1) k v 0 (λ e. omega arith) ∙ same k h

-- main: a pass makes the row for one engine more

module _ (y : System) (i : ℕ) (part : List ℕ) (six : length (ceilings_of y) ≡ 6) (row : RowOf y i part) where
  pub cell-tally : (c : ℕ) → c < columns y → passed_cell y part c ≡ tally (fits_engine y) (suc i) (load_of (ceilings_of y) c)
  cell-tally c h =
      over_equal ns x 6 0 c (held_ways part (columns y) c) (λ (p : ℕ). bit (fits_engine y (load_of ns p)) * tally (fits_engine y) i (load_of ns (c - p)))
      (λ q l. rw (row.bits q (omega arith), row.cells (c - q) (omega arith)))
      (omega (arith, reached))
      ∙ ap (λ (t : ℕ). over_columns ns x t 0 (λ (p : ℕ). bit (fits_engine y (load_of ns p)) * tally (fits_engine y) i (load_of ns (c - p)))) (sym six)
      ∙ pass-cell (fits_engine y) i ns x c (length-load_of ns c) (load_of-within ns c) (sym (column_of-load_of ns c h))
    where
      ns : List ℕ
      ns = ceilings_of y

      x : List ℕ
      x = load_of (ceilings_of y) c

      reached : reach_of (ceilings_of y) (load_of (ceilings_of y) c) 6 ≡ c
      reached = ap (reach_of (ceilings_of y) (load_of (ceilings_of y) c)) (sym six) ∙ reach_of-column (ceilings_of y) (load_of (ceilings_of y) c) ∙ column_of-load_of (ceilings_of y) c h

  pub cell-small : suc i ≤ y.engines → y.engines ^ instances (ceilings_of y) ≤ greatest → (c : ℕ) → c < columns y → passed_cell y part c ≤ greatest
  cell-small enough all c h =
      rw (cell-tally c h) (le_trans (tally-within (fits_engine y) (suc i) y.engines (load_of (ceilings_of y) c) (ceilings_of y) (omega arith) enough (load_of-within (ceilings_of y) c)) all)

  pub row_next : (after : List ℕ) → Passed y part after → RowOf y (suc i) after
  row_next after p =
      record {
        cells = λ c h. p.cells c h ∙ cell-tally c h;
        bits = λ c h. p.others (columns y + c) (omega arith) ∙ row.bits c h;
      }

pub passed-beyond : (y : System) (part after : List ℕ) → Passed y part after → Beyond y part after
passed-beyond y part after p =
    record {
      long = p.long;
      past =
          ext_get_or 0 (drop (2 * columns y) after) (drop (2 * columns y) part)
          (length-drop (2 * columns y) after ∙ ap (λ (n : ℕ). n - 2 * columns y) p.long ∙ sym (length-drop (2 * columns y) part))
          (λ i h. get_or-drop (2 * columns y) after i 0 ∙ p.others (2 * columns y + i) (omega arith) ∙ sym (get_or-drop (2 * columns y) part i 0));
    }

pub beyond-refl : (y : System) (part : List ℕ) → Beyond y part part
beyond-refl y part = record { long = refl; past = refl }

pub beyond-trans : {y : System} {a b c : List ℕ} → Beyond y a b → Beyond y b c → Beyond y a c
beyond-trans p q = record { long = q.long ∙ p.long; past = q.past ∙ p.past }

-- main: with two engines or more, few instances

pub few-instances : (m n : ℕ) → 2 ≤ m → m ^ n ≤ greatest → n < 64
few-instances m n two h = go (leb 64 n) refl
  where
    go : (b : Bool) → leb 64 n ≡ b → n < 64
    go false e = leb-false 64 n e
    go true e =
        let up : 2 ^ 64 ≤ 2 ^ n = pow-le-pow_right {n = 2} (omega arith) {i = 64} {j = n} (leb-true 64 n e) in
        absurd (omega (arith, up, pow-le-pow_left two n, h))

-- main: the last column of the row for all engines is the number of good assignments

pub count-found : (y : System) (i : ℕ) (part : List ℕ) → i ≡ y.engines → RowOf y i part → get_or part (columns y - 1) 0 ≡ good_count y
count-found y i part all row =
    let some = columns_of-pos (ceilings_of y) in
    row.cells (columns y - 1) (omega arith)
    ∙ rw (load-last (ceilings_of y), all) (sym (good_count-tally y))

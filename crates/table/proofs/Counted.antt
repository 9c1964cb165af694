-- Laws of the pairs that a fill of the two parts counts: column by column, and of one column by its lowest yes row.
use Prim.Native.Nat.{ℕ, zero, suc, ◌+◌, ◌-◌, ◌*◌, ◌≤◌, ◌<◌}
use mathlib.Core.Path.{◌≡◌, refl, sym, ap, ◌∙◌}
use mathlib.Core.List.{List, [], ◌∷◌, ◌++◌}
use mathlib.Core.Bool.{Bool, true, false, cond}
use native.Mathlib.Numerals.{add-one}
use native.Mathlib.Nat.{add-zero, zero-add, add-suc, zero-mul, suc-mul, mul-le-mul_left}
use native.Mathlib.Omega.{arith}
use borrow.Author.Tests.{eqb-true, not-false, le-leb, lt-leb}
use lib.ListN.{length, length-append, length-map}
use lib.Dec.{leb, eqb}
use Rattle.system.specs.declared.System.{System}
use Rattle.system.specs.Values.{ceilings_of}
use Rattle.system.specs.Limits.{columns_of, columns, column_limit, keeps_limits}
use Rattle.system.proofs.Laws.{limits_of}
use Rattle.loads.specs.Load.{fits_engine}
use Rattle.loads.specs.Column.{load_of}
use Rattle.loads.proofs.Column.{load_of-below}
use Rattle.partition.specs.Assignment.{numbers_from}
use Rattle.partition.specs.Cell.{no_column, says_yes}
use Rattle.partition.specs.ForSystem.{cell_for}
use Rattle.partition.proofs.Cells.{cell-predecessor}
use Rattle.table.specs.Pairs.{those, for_each, tried_at, Pair, cell_pairs, pairs_counted, counted_of}
use Rattle.table.specs.Under.{visited_to}
use Rattle.table.proofs.Candidates.{columns_of-le}
use Rattle.table.proofs.Pairs.{length-for_each-more, visited-own, tried-accepted, tried-all, tried-le, cell-ends}
use Rattle.table.specs.Parts.{lowest_for}
use Rattle.table.specs.Scan.{column_counted}
use Rattle.table.proofs.LowestRows.{row-yes, row-at}

-- intermediate: what is listed for each of a list

-- for those that pass, or for all with nothing for the others
pub for_each-those : {A : Type 0} (p : ℕ → Bool) (each : ℕ → List A) (l : List ℕ) → for_each (those p l) each ≡ for_each l (λ (a : ℕ). cond (p a) (each a) [])
unfolding those for_each
for_each-those p each [] = refl
for_each-those {A = A} p each (a ∷ l) = go (p a) (for_each-those p each l)
  where
    go : (b : Bool) → for_each (those p l) each ≡ for_each l (λ (i : ℕ). cond (p i) (each i) [])
        → for_each (cond b (a ∷ those p l) (those p l)) each ≡ cond b (each a) [] ++ for_each l (λ (i : ℕ). cond (p i) (each i) [])
    go true e = ap (λ (rest : List A). each a ++ rest) e
    go false e = e

for_each-nothing : (l : List ℕ) → length (for_each {A = Pair} l (λ (a : ℕ). [])) ≡ 0
unfolding for_each
for_each-nothing [] = refl
for_each-nothing (a ∷ l) = for_each-nothing l

-- their number adds up where it does for each
for_each-both : {A : Type 0} (f g h : ℕ → List A) → ((a : ℕ) → length (h a) ≡ length (f a) + length (g a)) → (l : List ℕ) → length (for_each l h) ≡ length (for_each l f) + length (for_each l g)
unfolding for_each
for_each-both f g h e [] = refl
for_each-both f g h e (a ∷ l) =
    omega (arith, length-append (f a) (for_each l f), length-append (g a) (for_each l g), length-append (h a) (for_each l h), e a, for_each-both f g h e l)

-- main: column by column

-- the pairs that are counted for the columns below k: listed row by row, as in the definition, with each row cut at column k
unfoldable pub counted_to : System → ℕ → ℕ → ℕ
counted_to y r k = length (for_each (numbers_from 1 r) (λ (i : ℕ). for_each (those (λ (c : ℕ). leb i (lowest_for y r c)) (numbers_from 0 k)) (cell_pairs y i)))

pub counted_to-none : (y : System) (r : ℕ) → counted_to y r 0 ≡ 0
unfolding counted_to numbers_from those for_each
counted_to-none y r = for_each-nothing (numbers_from 1 r)

pub counted_to-more : (y : System) (r k : ℕ) → counted_to y r (k + 1) ≡ counted_to y r k + column_counted y r k
unfolding counted_to
counted_to-more y r k = for_each-both (row_to k) (λ (i : ℕ). at i k) (row_to (k + 1)) more (numbers_from 1 r)
  where
    at : ℕ → ℕ → List Pair
    at i c = cond (leb i (lowest_for y r c)) (cell_pairs y i c) []

    row_to : ℕ → ℕ → List Pair
    row_to n i = for_each (those (λ (c : ℕ). leb i (lowest_for y r c)) (numbers_from 0 n)) (cell_pairs y i)

    listed : (n i : ℕ) → row_to n i ≡ for_each (numbers_from 0 n) (at i)
    listed n i = for_each-those (λ (c : ℕ). leb i (lowest_for y r c)) (cell_pairs y i) (numbers_from 0 n)

    more : (i : ℕ) → length (row_to (k + 1) i) ≡ length (row_to k i) + length (at i k)
    more i = rw (listed (k + 1) i, listed k i) (length-for_each-more (at i) 0 k ∙ ap (λ (c : ℕ). length (for_each (numbers_from 0 k) (at i)) + length (at i c)) (zero-add k))

pub counted_to-all : (y : System) (r : ℕ) → counted_to y r (columns y) ≡ counted_of y r
unfolding counted_to pairs_counted
counted_to-all y r = refl

-- intermediate: one column, row by row

module _ (y : System) (r c : ℕ) where
  abbrev ns : List ℕ
  ns = ceilings_of y

  abbrev x : List ℕ
  x = load_of ns c

  -- the pairs that are counted in row i, and in the rows 1 to n
  abbrev in_row : ℕ → List Pair
  in_row i = cond (leb i (lowest_for y r c)) (cell_pairs y i c) []

  abbrev in_rows : ℕ → ℕ
  in_rows n = length (for_each (numbers_from 1 n) in_row)

  in_rows-none : in_rows 0 ≡ 0
  unfolding for_each numbers_from
  in_rows-none = refl

  in_rows-more : (i : ℕ) → in_rows (suc i) ≡ in_rows i + length (in_row (suc i))
  in_rows-more i =
      let next : 1 + i ≡ i + 1 = omega arith in
      rw (← (add-one i)) (rw next at (length-for_each-more in_row 1 i))

  -- nothing past the lowest yes row
  in_rows-past : (n m : ℕ) → lowest_for y r c ≤ n → in_rows (n + m) ≡ in_rows n
  in_rows-past n zero h = ap in_rows (add-zero n)
  in_rows-past n (suc m) h =
      ap in_rows (add-suc n m)
      ∙ in_rows-more (n + m)
      ∙ rw (lt-leb (suc (n + m)) (lowest_for y r c) (omega arith)) (add-zero (in_rows (n + m)))
      ∙ in_rows-past n m h

  module _ (limits : keeps_limits y ≡ true) (small : c < columns y) where
    room : columns y ≤ no_column
    room = omega (arith, (limits_of y limits).columns)

    -- the pairs of one cell: all columns under it where it says no, those up to the one accepted where it says yes

    listed_tried : (i : ℕ) → length (cell_pairs y i c) ≡ length (tried_at y i c)
    listed_tried i = length-map {B = Pair} (tried_at y i c) (λ (q : ℕ). record { row = i; column = c; tried = q })

    tried-no : (i : ℕ) → says_yes (cell_for y (suc i) c) ≡ false → length (cell_pairs y (suc i) c) ≡ columns_of x
    tried-no i h =
        let p = cell_for y (suc i) c in
        listed_tried (suc i) ∙ tried-all ns c p (omega (arith, room, eqb-true p no_column (not-false (eqb p no_column) h))) ∙ visited-own ns c

    tried-yes : (i : ℕ) → says_yes (cell_for y (suc i) c) ≡ true → length (cell_pairs y (suc i) c) ≡ visited_to ns x (cell_for y (suc i) c + 1)
    tried-yes i h =
        let p = cell_for y (suc i) c in
        let before = cell-predecessor (fits_engine y) ns i c h in
        listed_tried (suc i) ∙ tried-accepted ns c p (omega (arith, before.not_above)) before.dominated

    tried-most : (i : ℕ) → length (cell_pairs y (suc i) c) ≤ columns_of x
    tried-most i = rw (listed_tried (suc i)) (tried-le ns c (cell_for y (suc i) c) (cell-ends (fits_engine y) ns room i c small))

    -- the rows below the lowest yes row say no
    says-no : (i : ℕ) → i ≤ r → i < lowest_for y r c → says_yes (cell_for y i c) ≡ false
    says-no i h low = row-yes y limits r i c small h ∙ lt-leb (lowest_for y r c) i low

    in_rows-no : (n : ℕ) → n ≤ r → n < lowest_for y r c → in_rows n ≡ n * columns_of x
    in_rows-no zero h low = in_rows-none ∙ sym (zero-mul (columns_of x))
    in_rows-no (suc n) h low =
        let here : length (in_row (suc n)) ≡ columns_of x = rw (le-leb (suc n) (lowest_for y r c) (omega arith)) (tried-no n (says-no (suc n) h low)) in
        omega (arith, in_rows-more n, here, in_rows-no n (omega arith) (omega arith), suc-mul n (columns_of x))

    in_rows-most : (n : ℕ) → in_rows n ≤ n * columns_of x
    in_rows-most zero = omega (arith, in_rows-none)
    in_rows-most (suc n) = omega (arith, in_rows-more n, here (leb (suc n) (lowest_for y r c)), in_rows-most n, suc-mul n (columns_of x))
      where
        here : (b : Bool) → length (cond b (cell_pairs y (suc n) c) []) ≤ columns_of x
        here true = tried-most n
        here false = omega arith

    in_rows-yes : (i : ℕ) → lowest_for y r c ≡ suc i → suc i ≤ r → in_rows r ≡ i * columns_of x + visited_to ns x (cell_for y (suc i) c + 1)
    in_rows-yes i e h =
        let rest : suc i + (r - suc i) ≡ r = omega arith in
        let here : length (in_row (suc i)) ≡ visited_to ns x (cell_for y (suc i) c + 1) = rw (le-leb (suc i) (lowest_for y r c) (omega arith)) (tried-yes i (row-at y r (suc i) c e h)) in
        omega (arith, ap in_rows rest, in_rows-past (suc i) (r - suc i) (omega arith), in_rows-more i, here, in_rows-no i (omega arith) (omega arith))

-- main: the pairs of a column, by its lowest yes row

pub counted-zero : (y : System) (r : ℕ) → lowest_for y r 0 ≡ 0 → column_counted y r 0 ≡ 0
counted-zero y r e = ap (in_rows y r 0) (sym (zero-add r)) ∙ in_rows-past y r 0 0 r (omega arith) ∙ in_rows-none y r 0

pub counted_none : (y : System) → keeps_limits y ≡ true → (r c : ℕ) → c < columns y → r < lowest_for y r c → column_counted y r c ≡ r * columns_of (load_of (ceilings_of y) c)
counted_none y limits r c small none = in_rows-no y r c limits small r (omega arith) none

pub counted-row : (y : System) → keeps_limits y ≡ true → (r c i : ℕ) → c < columns y → lowest_for y r c ≡ suc i → suc i ≤ r
    → column_counted y r c ≡ i * columns_of (load_of (ceilings_of y) c) + visited_to (ceilings_of y) (load_of (ceilings_of y) c) (cell_for y (suc i) c + 1)
counted-row y limits r c i small e h = in_rows-yes y r c limits small i e h

-- at most the columns under it in each row, which are few
pub counted-most : (y : System) → keeps_limits y ≡ true → (r c : ℕ) → c < columns y → column_counted y r c ≤ r * columns_of (load_of (ceilings_of y) c)
counted-most y limits r c small = in_rows-most y r c limits small r

pub counted-few : (y : System) → keeps_limits y ≡ true → (r c : ℕ) → c < columns y → column_counted y r c ≤ r * column_limit
counted-few y limits r c small =
    let few : columns_of (load_of (ceilings_of y) c) ≤ column_limit = omega (arith, columns_of-le (load_of-below (ceilings_of y) c), (limits_of y limits).columns) in
    omega (arith, counted-most y limits r c small, mul-le-mul_left r few)

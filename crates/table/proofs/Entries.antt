-- The entries of a column in both parts, by what is found for it: no row, row 1, or what one of two scans finds.
use Prim.Native.Nat.{ℕ, suc, ◌+◌, ◌-◌, ◌*◌, ◌≤◌, ◌<◌}
use mathlib.Core.Path.{◌≡◌, refl, sym, ap, ◌∙◌}
use mathlib.Core.List.{List}
use mathlib.Core.Bool.{Bool, true, false, not, cond, ◌&&◌}
use mathlib.Core.Logic.{◌⊎◌, inl, inr, ⊎_elim}
use native.Mathlib.Nat.{mul-le-mul}
use native.Mathlib.Omega.{arith}
use borrow.Author.Tests.{leb-true, leb-false, le-leb, lt-leb, eq-eqb, ne_eqb, not-true}
use lib.Dec.{leb, eqb}
use Rattle.std.proofs.Common.{Option, None, Some}
use Rattle.std.specs.Option.{is_some, unwrap_or}
use Rattle.system.specs.declared.System.{System}
use Rattle.system.specs.Values.{ceilings_of}
use Rattle.system.specs.Limits.{columns_of, columns, column_limit, keeps_limits}
use Rattle.system.proofs.Laws.{limits_of}
use Rattle.loads.specs.Load.{fits_engine}
use Rattle.loads.specs.Column.{load_of}
use Rattle.loads.proofs.Column.{length-load_of, load_of-below}
use Rattle.partition.specs.Cell.{no_column, says_yes, lowest}
use Rattle.partition.specs.ForSystem.{cell_for}
use Rattle.partition.proofs.Lists.{true-or-false}
use Rattle.table.specs.declared.Found.{Found}
use Rattle.table.specs.Under.{candidate, visited_to, found_at}
use Rattle.table.proofs.Candidates.{columns_of-le, some_but-number, some_but-some}
use Rattle.table.proofs.Preceding.{cell-one, found_first}
use Rattle.table.specs.declared.Entry.{Entry}
use Rattle.table.specs.Parts.{lowest_for}
use Rattle.table.specs.Scan.{most_below, seen_by, EntryWanted, ScansWanted, column_counted, entry_of}
use Rattle.table.proofs.LowestRows.{row-yes, row_fits, row_zero, row-pos}
use Rattle.table.proofs.OneLess.{most-none, most-zero, most-low, most-high, most-fits}
use Rattle.table.proofs.Scanned.{scanned-cell}
use Rattle.table.proofs.Counted.{counted_none, counted-row, counted-zero, counted-few}

-- intermediate

entry-path : {a b u v k l : ℕ} → a ≡ b → u ≡ v → k ≡ l → ◌≡◌ {A = Entry} (record { row = a; predecessor = u; counted = k }) (record { row = b; predecessor = v; counted = l })
entry-path p q s = λ i. record { row = p i; predecessor = q i; counted = s i }

-- those of a column without a row
abbrev none_of : System → ℕ → ℕ → Entry
none_of y r under = record { row = y.engines + 1; predecessor = no_column; counted = r * under }

-- where the test for row 1 is not passed
pub not_tested : (m r : ℕ) → (leb m 1 && leb 1 r) ≡ false → (r ≡ 0) ⊎ (2 ≤ m)
not_tested m r e =
    ⊎_elim (λ t. inl (omega (arith, leb-false 1 r (rw t at e)))) (λ t. inr (leb-false m 1 t)) (true-or-false (leb m 1))

-- main: by the lowest row

pub entry_zero : (y : System) (r : ℕ) → ◌≡◌ {A = Entry} (record { row = 0; predecessor = no_column; counted = 0 }) (entry_of y r 0)
entry_zero y r = entry-path (rw (row_zero y r, le-leb 0 r (omega arith))) refl (sym (counted-zero y r (row_zero y r)))

module _ (y : System) (r c : ℕ) (limits : keeps_limits y ≡ true) (inside : c < columns y) where
  -- no row says yes
  entry-none : (under : ℕ) → under ≡ columns_of (load_of (ceilings_of y) c) → r < lowest_for y r c →
      none_of y r under ≡ entry_of y r c
  entry-none under e h =
      entry-path
      (rw (lt-leb (lowest_for y r c) r h))
      (rw (lt-leb (lowest_for y r c) r h) (go (eqb c 0)))
      (rw e (sym (counted_none y limits r c inside h)))
    where
      go : (b : Bool) → no_column ≡ cond b no_column no_column
      go true = refl
      go false = refl

  -- row i + 1 is the lowest that does
  entry_row : 0 < c → (i p k : ℕ) → lowest_for y r c ≡ suc i → suc i ≤ r → p ≡ cell_for y (suc i) c
      → k ≡ i * columns_of (load_of (ceilings_of y) c) + visited_to (ceilings_of y) (load_of (ceilings_of y) c) (p + 1)
      → ◌≡◌ {A = Entry} (record { row = suc i; predecessor = p; counted = k }) (entry_of y r c)
  entry_row past i p k low h e s =
      entry-path
      (rw (low, le-leb (suc i) r h))
      (rw (ne_eqb c 0 (λ z. omega arith), low, le-leb (suc i) r h) e)
      (s ∙ rw e (sym (counted-row y limits r c i inside low h)))

-- main: what is wanted of a column past column 0

module _ {rows : List ℕ} {y : System} {r c : ℕ} {ns x : List ℕ} (wanted : EntryWanted rows y r c ns x) where
  abbrev load : List ℕ
  load = load_of (ceilings_of y) c

  -- few columns lie under its load
  pub few-under : columns_of x ≤ column_limit
  few-under = rw wanted.load (omega (arith, columns_of-le (load_of-below (ceilings_of y) c), (limits_of y wanted.filled.limits).columns))

  largest-is : (most : ℕ) → most ≡ most_below rows c 1 ns x → most_below rows c 1 (ceilings_of y) load ≡ most
  largest-is most e = sym (e ∙ rw (wanted.ceilings, wanted.load))

  -- where a load fits, every column less one instance has row 1 at most
  pub unfit-past-one : (most : ℕ) → most ≡ most_below rows c 1 ns x → 2 ≤ most → most ≤ r → fits_engine y x ≡ false
  unfit-past-one most largest two h =
      rw wanted.load (most-fits wanted.filled (rw (largest-is most largest) two) (rw (largest-is most largest) h))

  module _ (under : ℕ) (all : under ≡ columns_of x) where
    none_is : r < lowest_for y r c → none_of y r under ≡ entry_of y r c
    none_is h = entry-none y r c wanted.filled.limits wanted.filled.inside under (all ∙ ap columns_of wanted.load) h

    -- no row: without engines; where a column less one instance has none; one instance alone that does not fit
    pub no-engine : 0 < c → r ≡ 0 → none_of y r under ≡ entry_of y r c
    no-engine past z = none_is (omega (arith, row-pos y wanted.filled.limits r c past wanted.filled.inside))

    pub past-engines : (most : ℕ) → most ≡ most_below rows c 1 ns x → r < most → none_of y r under ≡ entry_of y r c
    past-engines most largest h = none_is (most-none wanted.filled (rw (largest-is most largest) h))

    pub one-unfit : (most : ℕ) → most ≡ most_below rows c 1 ns x → 0 < c → most ≡ 0 → fits_engine y x ≡ false → none_of y r under ≡ entry_of y r c
    one-unfit most largest past z f = none_is (most-zero wanted.filled past (largest-is most largest ∙ z) (rw wanted.load at f))

  -- a load that fits has row 1, from column 0
  pub one-fit : 0 < c → 1 ≤ r → fits_engine y x ≡ true → ◌≡◌ {A = Entry} (record { row = 1; predecessor = 0; counted = 1 }) (entry_of y r c)
  one-fit past some f =
      entry_row y r c wanted.filled.limits wanted.filled.inside past 0 0 1 low some (sym first) counted
    where
      fits : fits_engine y load ≡ true
      fits = rw wanted.load at f

      low : lowest_for y r c ≡ 1
      low =
          omega (
            arith,
            leb-true (lowest_for y r c) 1 (sym (row_fits y wanted.filled.limits r c wanted.filled.inside some) ∙ fits),
            row-pos y wanted.filled.limits r c past wanted.filled.inside,
          )

      first : cell_for y 1 c ≡ 0
      first = cell-one (fits_engine y) (ceilings_of y) c ∙ rw fits

      counted : 1 ≡ 0 * columns_of load + visited_to (ceilings_of y) load (0 + 1)
      counted = omega (arith, ap (λ (f : Found). f.tried) (found_first (ceilings_of y) load (length-load_of (ceilings_of y) c)))

-- main: by two scans

module _ {rows : List ℕ} {y : System} {r c : ℕ} {ns x : List ℕ} {most under : ℕ} (w : ScansWanted rows y r c ns x most under) where
  -- what a scan for row i + 1 finds
  abbrev scanned : ℕ → ℕ
  scanned i = lowest (candidate (seen_by rows i c) ns x) no_column (columns_of ns) 0

  to-limits : keeps_limits y ≡ true
  to-limits = w.wanted.filled.limits

  inside : c < columns y
  inside = w.wanted.filled.inside

  is-largest : most_below rows c 1 (ceilings_of y) (load_of (ceilings_of y) c) ≡ most
  is-largest = largest-is w.wanted most w.largest

  low : most ≤ lowest_for y r c
  low = omega (arith, is-largest, most-low w.wanted.filled (rw is-largest w.few))

  -- the column that a scan finds, 65,535 for none
  abbrev column : Found → ℕ
  column f = unwrap_or f.column no_column

  column-is : {f : Found} {p : ℕ} → f ≡ found_at ns x p → column f ≡ p
  column-is {p = p} s = ap column s ∙ some_but-number no_column p

  -- a scan for the row that is the lowest
  found-row : (i : ℕ) → lowest_for y r c ≡ suc i → suc i ≤ r → (f : Found) → f ≡ found_at ns x (scanned i)
      → ◌≡◌ {A = Entry} (record { row = suc i; predecessor = unwrap_or f.column no_column; counted = i * under + f.tried }) (entry_of y r c)
  found-row i e h f s =
      entry_row y r c to-limits inside w.past i (column f) (i * under + f.tried) e h is
      (rw w.all (ap (λ (k : ℕ). i * columns_of x + k) tried ∙ rw (w.wanted.ceilings, w.wanted.load)))
    where
      cells : scanned i ≡ cell_for y (suc i) c
      cells = scanned-cell w.wanted w.unfit i (omega arith) (omega arith)

      is : column f ≡ cell_for y (suc i) c
      is = column-is s ∙ cells

      says : says_yes (column f) ≡ true
      says = rw is (row-yes y to-limits r (suc i) c inside h ∙ le-leb (lowest_for y r c) (suc i) (omega arith))

      tried : f.tried ≡ visited_to ns x (column f + 1)
      tried =
          ap (λ (g : Found). g.tried) s
          ∙ rw (← (column-is s)) (rw (not-true (eqb (column f) no_column) says))

  -- the first scan says whether it is row `most`
  first_says : (f : Found) → f ≡ found_at ns x (scanned (most - 1)) → leb (lowest_for y r c) most ≡ is_some f.column
  first_says f s =
      let next : suc (most - 1) ≡ most = omega (arith, w.some) in
      let cells : scanned (most - 1) ≡ cell_for y most c =
      scanned-cell w.wanted w.unfit (most - 1) (omega (arith, w.some, w.few)) (omega (arith, w.some, low))
      ∙ ap (λ (k : ℕ). cell_for y k c) next in
      sym (row-yes y to-limits r most c inside w.few) ∙ ap says_yes (sym cells) ∙ sym (ap (λ (g : Found). is_some g.column) s ∙ some_but-some no_column (scanned (most - 1)))

  pub first_found : (f : Found) (p : ℕ) → f ≡ found_at ns x (scanned (most - 1)) → f.column ≡ Some p
      → ◌≡◌ {A = Entry} (record { row = most; predecessor = p; counted = (most - 1) * under + f.tried }) (entry_of y r c)
  first_found f p s some =
      let next : suc (most - 1) ≡ most = omega (arith, w.some) in
      let yes_at : leb (lowest_for y r c) most ≡ true = first_says f s ∙ ap is_some some in
      let is : lowest_for y r c ≡ suc (most - 1) = omega (arith, low, leb-true (lowest_for y r c) most yes_at, next) in
      ap (λ (k : ℕ). record { row = k; predecessor = p; counted = (most - 1) * under + f.tried }) (sym next)
      ∙ ap (λ (o : Option ℕ). record { row = suc (most - 1); predecessor = unwrap_or o no_column; counted = (most - 1) * under + f.tried }) (sym some)
      ∙ found-row (most - 1) is (omega (arith, next, w.few)) f s

  pub first-lost : (f : Found) → f ≡ found_at ns x (scanned (most - 1)) → f.column ≡ None → most < lowest_for y r c
  first-lost f s lost = leb-false (lowest_for y r c) most (first_says f s ∙ ap is_some lost)

  -- row 1 says no
  pub not-one : most ≤ 1 → most < lowest_for y r c
  not-one h =
      let unfit : fits_engine y (load_of (ceilings_of y) c) ≡ false = rw w.wanted.load at w.unfit in
      let past : 1 < lowest_for y r c =
      leb-false (lowest_for y r c) 1 (sym (row_fits y to-limits r c inside (omega (arith, w.some, w.few))) ∙ unfit) in
      omega (arith, past)

  pub last-lost : most < lowest_for y r c → most ≡ r
      → none_of y r under ≡ entry_of y r c
  last-lost h e = none_is w.wanted under w.all (omega arith)

  pub second-found : most < lowest_for y r c → (most ≡ r → ⊥) → (f : Found) → f ≡ found_at ns x (scanned most)
      → ◌≡◌ {A = Entry} (record { row = most + 1; predecessor = unwrap_or f.column no_column; counted = most * under + f.tried }) (entry_of y r c)
  second-found h other f s =
      let more : suc most ≤ r = omega (arith, w.few) in
      let high : lowest_for y r c ≤ most + 1 =
      rw (ap (λ (k : ℕ). k + 1) is-largest) at (most-high w.wanted.filled (rw is-largest w.some) (rw is-largest (omega (arith, more)))) in
      ap (λ (k : ℕ). record { row = k; predecessor = column f; counted = most * under + f.tried }) (omega arith)
      ∙ found-row most (omega (arith, h, high)) more f s

  -- main: the numbers stay small

  pub small-rows : (k : ℕ) → k ≤ most → k * under ≤ 16 * column_limit
  small-rows k h =
      let sixteen : k ≤ 16 = omega (arith, w.few, w.wanted.filled.few, (limits_of y to-limits).engines) in
      mul-le-mul {n₂ = 16} {m₂ = column_limit} sixteen (rw w.all (few-under w.wanted))

  pub small-counted : column_counted y r c ≤ 16 * column_limit
  small-counted =
      let sixteen : r ≤ 16 = omega (arith, w.wanted.filled.few, (limits_of y to-limits).engines) in
      omega (arith, counted-few y to-limits r c inside, sixteen)

-- The largest row L of a column less one instance: the column has no row where L is none; else its row is at least L, and at most L + 1 where that is a row.
-- One instance is a load of its own, so that column c less one instance is column c less the column of that load.
use Prim.Native.Nat.{ℕ, zero, suc, ◌+◌, ◌-◌, ◌*◌, ◌≤◌, ◌<◌}
use mathlib.Core.Path.{◌≡◌, refl, sym, ap, subst, ◌∙◌}
use mathlib.Core.List.{List, [], ◌∷◌}
use mathlib.Core.Bool.{Bool, true, false, cond, false≢true}
use mathlib.Core.Logic.{◌⊎◌, inl, inr, ⊎_elim}
use native.Mathlib.Nat.{le_refl, eq-zero-or-pos}
use native.Mathlib.Omega.{arith}
use borrow.Author.Tests.{leb-true, leb-false, eqb-false, ne_eqb}
use lib.ListN.{length, get_or, replicate, length-replicate}
use lib.Dec.{leb, eqb}
use Rattle.system.specs.declared.System.{System}
use Rattle.system.specs.Values.{ceilings_of}
use Rattle.system.specs.Limits.{columns_of}
use Rattle.system.proofs.Laws.{limits_of}
use Rattle.loads.specs.Load.{within, plus, less, holds_none, fits_engine}
use Rattle.loads.specs.Column.{column_from, column_of, load_of}
use Rattle.loads.proofs.Order.{Below, none, more, cons-path, within→below, below→within, below-trans, below_less, plus-less-below, plus_comm, less_zero, holds_none-zero}
use Rattle.loads.proofs.Column.{length-load_of, load_of-below, load_of-zero, load_of-column_of-below, column_of-lt, dominated-le, load_of-difference, holds_none-load_of}
use Rattle.loads.proofs.Laws.{fits-within}
use Rattle.partition.specs.Cell.{no_column, says_yes, cell}
use Rattle.partition.proofs.Lists.{not-both}
use Rattle.partition.proofs.Cells.{Predecessor, cell-predecessor, cell-zero-yes}
use Rattle.partition.proofs.Rows.{lowest_row-yes}
use Rattle.partition.proofs.Together.{rows-add, rows-part}
use Rattle.table.proofs.Candidates.{zeros-below}
use Rattle.table.specs.Parts.{lowest_for, row_at}
use Rattle.table.specs.Scan.{larger, most_below, RowsTo}
use Rattle.table.proofs.LowestRows.{row_fits, row_zero, row-pos}

-- intermediate: one instance as a load

-- a single 1 among zeros
data One : List ℕ → Type 0 where
  here : (k : ℕ) → One (1 ∷ replicate k 0)
  later : {u : List ℕ} → One u → One (0 ∷ u)

-- one that the load x has
record Instance (x : List ℕ) : Type 0 where
  unit : List ℕ
  one : One unit
  under : Below unit x

-- that is not no instance at all
one-some : {u : List ℕ} → One u → holds_none u ≡ true → ⊥
unfolding holds_none
one-some (here k) h = false≢true h
one-some (later one) h = one-some one h

-- a load has an instance, or none
instance-of : (x : List ℕ) → (holds_none x ≡ true) ⊎ Instance x
unfolding holds_none
instance-of [] = inl refl
instance-of (zero ∷ xs) =
    ⊎_elim inl
    (λ v. inr (record { unit = 0 ∷ v.unit; one = later v.one; under = more (le_refl 0) v.under }))
    (instance-of xs)
instance-of (suc x ∷ xs) =
    inr (record { unit = 1 ∷ replicate (length xs) 0; one = here (length xs); under = more {x = 1} {y = suc x} (omega arith) (zeros-below xs) })

below_none : (k : ℕ) {a : List ℕ} → Below a (replicate k 0) → a ≡ replicate k 0
below_none zero none = refl
below_none (suc k) (more h r) = cons-path (omega arith) (below_none k r)

-- a part of one instance is that instance, or nothing
under_one : {u a : List ℕ} → One u → Below a u → (a ≡ u) ⊎ (a ≡ replicate (length a) 0)
under_one (here k) (more {x = x} {xs = xs} h r) = go x h
  where
    rest : xs ≡ replicate k 0
    rest = below_none k r

    go : (x : ℕ) → x ≤ 1 → (x ∷ xs ≡ 1 ∷ replicate k 0) ⊎ (x ∷ xs ≡ 0 ∷ replicate (length xs) 0)
    go zero h = inr (cons-path refl (rest ∙ ap (λ (n : ℕ). replicate n 0) (sym (ap length rest ∙ length-replicate k 0))))
    go (suc x) h = inl (cons-path (omega arith) rest)
under_one (later one) (more h r) = ⊎_elim (λ e. inl (cons-path (omega arith) e)) (λ e. inr (cons-path (omega arith) e)) (under_one one r)

column_from-none : (s : ℕ) (ns : List ℕ) (k : ℕ) → column_from s ns (replicate k 0) ≡ 0
unfolding column_from
column_from-none s [] k = refl
column_from-none s (n ∷ ns) zero = refl
column_from-none s (n ∷ ns) (suc k) = omega (arith, column_from-none (s * (n + 1)) ns k)

-- the column of one instance is its type's stride
stride-here : (s n : ℕ) (ns : List ℕ) (k : ℕ) → column_from s (n ∷ ns) (1 ∷ replicate k 0) ≡ s
unfolding column_from
stride-here s n ns k = omega (arith, column_from-none (s * (n + 1)) ns k)

stride-later : (s n : ℕ) (ns u : List ℕ) → column_from s (n ∷ ns) (0 ∷ u) ≡ column_from (s * (n + 1)) ns u
unfolding column_from
stride-later s n ns u = omega arith

-- intermediate: a type's row against those of the later types, by the count x of its instances

abbrev widest : ℕ → ℕ → ℕ → ℕ
widest x a b = cond (eqb x 0) b (larger a b)

widest-first : (x a b : ℕ) → 1 ≤ x → a ≤ widest x a b
widest-first x a b h = rw (ne_eqb x 0 (λ e. omega arith)) (go (leb a b) refl)
  where
    go : (t : Bool) → leb a b ≡ t → a ≤ cond t b a
    go true e = leb-true a b e
    go false e = le_refl a

widest-later : (x a b : ℕ) → b ≤ widest x a b
widest-later x a b = go (eqb x 0) (leb a b) refl
  where
    go : (z t : Bool) → leb a b ≡ t → b ≤ cond z b (cond t b a)
    go true t e = le_refl b
    go false true e = le_refl b
    go false false e = let h = leb-false a b e in omega arith

widest-one : (x a b : ℕ) → (widest x a b ≡ b) ⊎ ((1 ≤ x) × (widest x a b ≡ a))
widest-one x a b = go (eqb x 0) (leb a b) refl
  where
    some : (x : ℕ) → (x ≡ 0 → ⊥) → 1 ≤ x
    some zero h = absurd (h refl)
    some (suc x) h = omega arith

    go : (z t : Bool) → eqb x 0 ≡ z → (cond z b (cond t b a) ≡ b) ⊎ ((1 ≤ x) × (cond z b (cond t b a) ≡ a))
    go true t e = inl refl
    go false true e = inl refl
    go false false e = inr (some x (eqb-false x 0 e), refl)

-- main: L is at least the row of every column less one instance, and is 0 or the row of one of them

most-each : (rows : List ℕ) (c s : ℕ) {u x ns : List ℕ} → One u → Below u x → Below x ns → get_or rows (c - column_from s ns u) 0 ≤ most_below rows c s ns x
unfolding most_below
most-each rows c s (here j) (more h r) (more {x = x} {y = n} {xs = xs} {ys = ns} k below) =
    rw (stride-here s n ns j) (widest-first x (get_or rows (c - s) 0) (most_below rows c (s * (n + 1)) ns xs) h)
most-each rows c s (later {u = u} one) (more h r) (more {x = x} {y = n} {xs = xs} {ys = ns} k below) =
    rw (stride-later s n ns u) (omega (arith, most-each rows c (s * (n + 1)) one r below, widest-later x (get_or rows (c - s) 0) (most_below rows c (s * (n + 1)) ns xs)))

-- the row of column c less this instance is L
abbrev Attained : List ℕ → ℕ → ℕ → List ℕ → List ℕ → Type 0
Attained rows c s ns x = (v : Instance x) × (get_or rows (c - column_from s ns v.unit) 0 ≡ most_below rows c s ns x)

most-some : (rows : List ℕ) (c s : ℕ) (ns x : List ℕ) → (most_below rows c s ns x ≡ 0) ⊎ Attained rows c s ns x
unfolding most_below
most-some rows c s [] x = inl refl
most-some rows c s (n ∷ ns) [] = inl refl
most-some rows c s (n ∷ ns) (x ∷ xs) = go (most-some rows c (s * (n + 1)) ns xs) (widest-one x first rest)
  where
    first : ℕ
    first = get_or rows (c - s) 0

    rest : ℕ
    rest = most_below rows c (s * (n + 1)) ns xs

    go : (rest ≡ 0) ⊎ Attained rows c (s * (n + 1)) ns xs → (widest x first rest ≡ rest) ⊎ ((1 ≤ x) × (widest x first rest ≡ first))
        → (widest x first rest ≡ 0) ⊎ Attained rows c s (n ∷ ns) (x ∷ xs)
    go a (inr b) =
        inr (record { unit = 1 ∷ replicate (length xs) 0; one = here (length xs); under = more b.0 (zeros-below xs) }, rw (stride-here s n ns (length xs)) (sym b.1))
    go (inl a) (inl b) = inl (b ∙ a)
    go (inr a) (inl b) =
        let v = a.0 in
        inr (record { unit = 0 ∷ v.unit; one = later v.one; under = more {x = 0} {y = x} (omega arith) v.under }, rw (stride-later s n ns v.unit) (a.1 ∙ sym b))

-- intermediate: column c less one instance that its load has

module _ (ns : List ℕ) (c : ℕ) (small : c < columns_of ns) (v : Instance (load_of ns c)) where
  abbrev d : ℕ
  d = column_of ns v.unit

  fine : Below v.unit ns
  fine = below-trans v.under (load_of-below ns c)

  unit-load : load_of ns d ≡ v.unit
  unit-load = load_of-column_of-below fine

  unit-small : d < columns_of ns
  unit-small = column_of-lt ns v.unit (below→within fine)

  unit-within : within (load_of ns d) (load_of ns c) ≡ true
  unit-within = rw unit-load (below→within v.under)

  -- it is not column 0
  unit-past : 0 < d
  unit-past =
      ⊎_elim
      (λ (e : d ≡ 0). absurd (one-some v.one (rw (sym unit-load ∙ ap (load_of ns) e ∙ load_of-zero ns) (holds_none-zero (length ns)))))
      (λ h. h)
      (eq-zero-or-pos d)

  unit-le : d ≤ c
  unit-le = dominated-le ns c d small unit-small unit-within

  less-before : c - d < c
  less-before = omega (arith, unit-past, unit-le)

  less-load : load_of ns (c - d) ≡ less (load_of ns c) v.unit
  less-load = load_of-difference ns c d small unit-small unit-within ∙ ap (less (load_of ns c)) unit-load

  less-under : Below (load_of ns (c - d)) (load_of ns c)
  less-under = rw less-load (below_less v.under)

  less-adds : plus (load_of ns (c - d)) (load_of ns d) ≡ load_of ns c
  less-adds = rw (less-load, unit-load) (plus_comm (less (load_of ns c) v.unit) v.unit ∙ plus-less-below v.under)

-- intermediate: a row that says yes at one instance tells that it fits, since what precedes it is itself or column 0

one-fits : (fits : List ℕ → Bool) (ns : List ℕ) (i c : ℕ) → One (load_of ns c) → says_yes (cell fits ns i c) ≡ true → fits (load_of ns c) ≡ true
one-fits fits ns zero c one h = absurd (one-some one (rw (cell-zero-yes fits ns c h, load_of-zero ns) (holds_none-zero (length ns))))
one-fits fits ns (suc i) c one h =
    ⊎_elim
    (λ e. subst (λ (x : List ℕ). fits x ≡ true) e (one-fits fits ns i p (subst One (sym e) one) before.yes_before))
    alone
    (under_one one under)
  where
    p : ℕ
    p = cell fits ns (suc i) c

    before : Predecessor fits ns i c p
    before = cell-predecessor fits ns i c h

    level : length (load_of ns p) ≡ length (load_of ns c)
    level = length-load_of ns p ∙ sym (length-load_of ns c)

    under : Below (load_of ns p) (load_of ns c)
    under = within→below (load_of ns p) (load_of ns c) level before.dominated

    alone : load_of ns p ≡ replicate (length (load_of ns p)) 0 → fits (load_of ns c) ≡ true
    alone e =
        subst (λ (x : List ℕ). fits x ≡ true) (ap (less (load_of ns c)) (e ∙ ap (λ (k : ℕ). replicate k 0) level) ∙ less_zero (load_of ns c)) before.difference_fits

-- intermediate: an entry of the row part is the lowest yes row, or past every row

module _ (y : System) (r p : ℕ) (few : r ≤ y.engines) where
  entry_row : row_at y r p ≤ r → lowest_for y r p ≡ row_at y r p
  entry_row = go (leb (lowest_for y r p) r) refl
    where
      go : (b : Bool) → leb (lowest_for y r p) r ≡ b → cond b (lowest_for y r p) (y.engines + 1) ≤ r → lowest_for y r p ≡ cond b (lowest_for y r p) (y.engines + 1)
      go true e h = refl
      go false e h = absurd (omega arith)

  entry-none : r < row_at y r p → r < lowest_for y r p
  entry-none = go (leb (lowest_for y r p) r) refl
    where
      go : (b : Bool) → leb (lowest_for y r p) r ≡ b → r < cond b (lowest_for y r p) (y.engines + 1) → r < lowest_for y r p
      go true e h = h
      go false e h = leb-false (lowest_for y r p) r e

-- main: the row of the column

module _ {y : System} {r c : ℕ} {rows : List ℕ} (to : RowsTo y r c rows) where
  abbrev ns : List ℕ
  ns = ceilings_of y

  abbrev x : List ℕ
  x = load_of ns c

  abbrev L : ℕ
  L = most_below rows c 1 ns x

  abbrev row_of : ℕ → ℕ
  row_of p = lowest_for y r p

  room : columns_of ns ≤ no_column
  room = omega (arith, (limits_of y to.limits).columns)

  -- a part of the load of a column needs no more rows than the column
  part-row : (p q : ℕ) → p < columns_of ns → q < columns_of ns → Below (load_of ns p) (load_of ns q) → row_of p ≤ row_of q
  part-row p q small_p small_q under = rows-part (fits_engine y) ns room r p q small_p small_q under (fits-within y)

  -- the column less one instance
  module _ (v : Instance (load_of (ceilings_of y) c)) where
    abbrev p : ℕ
    p = c - column_of ns v.unit

    before : p < c
    before = less-before ns c to.inside v

    small : p < columns_of ns
    small = omega (arith, before, to.inside)

    entry : get_or rows p 0 ≡ row_at y r p
    entry = to.holds p before

    not-above : row_of p ≤ row_of c
    not-above = part-row p c small to.inside (less-under ns c to.inside v)

    -- its entry is at most L
    low : row_at y r p ≤ L
    low = rw (← entry) (most-each rows c 1 v.one v.under (load_of-below ns c))

    row_low : L ≤ r → row_of p ≤ L
    row_low h = rw (entry_row y r p to.few (omega (arith, low))) low

  -- a column whose entry is L
  attained : 1 ≤ L → Attained rows c 1 ns x
  attained h = ⊎_elim (λ e. absurd (omega arith)) (λ a. a) (most-some rows c 1 ns x)

  attained-row : (a : Attained rows c 1 ns x) → L ≤ r → row_of (p a.0) ≡ L
  attained-row a h = let is = sym (entry a.0) ∙ a.1 in entry_row y r (p a.0) to.few (omega (arith, is)) ∙ is

  -- a part has no row
  pub most-none : r < L → r < row_of c
  most-none h =
      let a = attained (omega arith) in
      omega (arith, entry-none y r (p a.0) to.few (omega (arith, sym (entry a.0) ∙ a.1)), not-above a.0)

  -- a part has row L
  pub most-low : L ≤ r → L ≤ row_of c
  most-low h = ⊎_elim (λ e. omega arith) (λ a. omega (arith, attained-row a h, not-above a.0)) (most-some rows c 1 ns x)

  -- one instance alone that does not fit has no row
  pub most-zero : 0 < c → L ≡ 0 → fits_engine y x ≡ false → r < row_of c
  most-zero past zeroes unfit = ⊎_elim (λ h. absurd (omega (arith, holds_none-load_of ns c to.inside h))) alone (instance-of x)
    where
      alone : Instance x → r < row_of c
      alone v = go (leb (row_of c) r) refl
        where
          first : p v ≡ 0
          first =
              ⊎_elim (λ e. e)
              (λ h. absurd (omega (arith, row-pos y to.limits r (p v) h (small v), row_low v (omega arith))))
              (eq-zero-or-pos (p v))

          whole : column_of ns v.unit ≡ c
          whole = omega (arith, first, unit-le ns c to.inside v)

          one : One x
          one = subst One (sym (unit-load ns c to.inside v) ∙ ap (load_of ns) whole) v.one

          go : (b : Bool) → leb (row_of c) r ≡ b → r < row_of c
          go true e = absurd (not-both (one-fits (fits_engine y) ns (row_of c) c one (lowest_row-yes (fits_engine y) ns r c (leb-true (row_of c) r e))) unfit)
          go false e = leb-false (row_of c) r e

  -- an instance that is left where L is attained fits alone, and the column less that instance has at most row L
  pub most-high : 1 ≤ L → L + 1 ≤ r → row_of c ≤ L + 1
  most-high some few =
      let a = attained some in
      let is = attained-row a (omega arith) in
      ⊎_elim
      (λ h. absurd (omega (arith, is, ap row_of (holds_none-load_of ns (p a.0) (small a.0) h), row_zero y r)))
      (bound a is)
      (instance-of (load_of ns (p a.0)))
    where
      bound : (a : Attained rows c 1 ns x) → row_of (p a.0) ≡ L → Instance (load_of ns (p a.0)) → row_of c ≤ L + 1
      bound a is left = omega (arith, together, rest, single)
        where
          v : Instance x
          v = record { unit = left.unit; one = left.one; under = below-trans left.under (less-under ns c to.inside a.0) }

          q : ℕ
          q = column_of ns left.unit

          small_q : q < columns_of ns
          small_q = unit-small ns c to.inside v

          load : load_of ns q ≡ left.unit
          load = unit-load ns c to.inside v

          in_rows : row_of q ≤ r
          in_rows =
              omega (arith, part-row q (p a.0) small_q (small a.0) (subst (λ (u : List ℕ). Below u (load_of ns (p a.0))) (sym load) left.under), is)

          fit : fits_engine y (load_of ns q) ≡ true
          fit = one-fits (fits_engine y) ns (row_of q) q (subst One (sym load) left.one) (lowest_row-yes (fits_engine y) ns r q in_rows)

          single : row_of q ≤ 1
          single = leb-true (row_of q) 1 (sym (row_fits y to.limits r q small_q (omega arith)) ∙ fit)

          rest : row_of (p v) ≤ L
          rest = row_low v (omega arith)

          together : row_of c ≤ row_of (p v) + row_of q
          together = rows-add (fits_engine y) ns room r (p v) q c (small v) small_q to.inside (less-adds ns c to.inside v) (omega (arith, rest, single))

  -- a part does not fit
  pub most-fits : 2 ≤ L → L ≤ r → fits_engine y x ≡ false
  most-fits some few = go (fits_engine y x) refl
    where
      a : Attained rows c 1 ns x
      a = attained (omega arith)

      go : (b : Bool) → fits_engine y x ≡ b → b ≡ false
      go true e =
          let part = fits-within y (load_of ns (p a.0)) x (below→within (less-under ns c to.inside a.0)) e in
          absurd (omega (arith, attained-row a few, leb-true (row_of (p a.0)) 1 (sym (row_fits y to.limits r (p a.0) (small a.0) (omega arith)) ∙ part)))
      go false e = refl

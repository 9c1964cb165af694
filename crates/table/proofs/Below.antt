-- Laws of the loop that takes the largest row of a column less one instance: what the types from index i on give, and that the stride of a type in the load is at most the column.
use Prim.Native.Nat.{ℕ, ◌+◌, ◌-◌, ◌*◌, ◌≤◌, ◌<◌}
use mathlib.Core.Path.{◌≡◌, refl}
use mathlib.Core.List.{List}
use mathlib.Core.Bool.{true, false, cond}
use mathlib.Core.Logic.{⊎_elim}
use native.Mathlib.Nat.{mul-le-mul_right}
use native.Mathlib.Numerals.{add-one}
use native.Mathlib.Omega.{arith}
use borrow.Author.Tests.{leb-true, leb-false, le-leb, lt-leb, eq-eqb, ne_eqb}
use lib.ListN.{length, get_or, drop, drop_of_length-le}
use lib.Seq.{drop-cons}
use lib.Dec.{leb, eqb}
use Rattle.loads.specs.Column.{column_from}
use Rattle.partition.proofs.Lists.{true-or-false}
use Rattle.table.specs.Scan.{most_below, larger}

-- intermediate: the larger of two numbers

larger-up : (a b : ℕ) → a ≤ b → larger a b ≡ b
larger-up a b h = rw (le-leb a b h)

pub larger-down : (a b : ℕ) → b ≤ a → larger a b ≡ a
larger-down a b h = ⊎_elim (λ t. rw t (omega (arith, leb-true a b t))) (λ t. rw t) (true-or-false (leb a b))

-- a larger number may stand for a smaller one, and a smaller one may be left out
larger-rises : (m r l : ℕ) → m < r → larger r l ≡ larger m (larger r l)
larger-rises m r l h =
    ⊎_elim
    (λ t. rw (t, le-leb m l (omega (arith, leb-true r l t))))
    (λ t. rw (t, le-leb m r (omega arith)))
    (true-or-false (leb r l))

larger-stays : (m r l : ℕ) → r ≤ m → larger m l ≡ larger m (larger r l)
larger-stays m r l h =
    ⊎_elim
    (λ t. rw t)
    (λ t. rw (t, larger-down m r h, larger-down m l (omega (arith, leb-false r l t))))
    (true-or-false (leb r l))

-- main: the type at index i

module _ (rows : List ℕ) (c s m : ℕ) (ns xs : List ℕ) (i : ℕ) (hn : i < length ns) (hx : i < length xs) where
  abbrev pub later_types : ℕ
  later_types = most_below rows c (s * (get_or ns i 0 + 1)) (drop (i + 1) ns) (drop (i + 1) xs)

  abbrev types_from : ℕ
  types_from = most_below rows c s (drop i ns) (drop i xs)

  column-turn : column_from s (drop i ns) (drop i xs) ≡ get_or xs i 0 * s + column_from (s * (get_or ns i 0 + 1)) (drop (i + 1) ns) (drop (i + 1) xs)
  unfolding column_from
  column-turn = rw (add-one i, drop-cons ns i 0, drop-cons xs i 0)

  most-turn : types_from ≡ cond (eqb (get_or xs i 0) 0) later_types (larger (get_or rows (c - s) 0) later_types)
  unfolding most_below
  most-turn = rw (add-one i, drop-cons ns i 0, drop-cons xs i 0)

  -- what the types past it add to the column, and its own stride if it is in the load, are at most the column
  pub column-later : column_from s (drop i ns) (drop i xs) ≤ c → column_from (s * (get_or ns i 0 + 1)) (drop (i + 1) ns) (drop (i + 1) xs) ≤ c
  column-later h = omega (arith, column-turn)

  pub stride-inside : column_from s (drop i ns) (drop i xs) ≤ c → (get_or xs i 0 ≡ 0 → ⊥) → s ≤ c
  stride-inside h f = omega (arith, column-turn, mul-le-mul_right s (some (get_or xs i 0) f))
    where
      some : (x : ℕ) → (x ≡ 0 → ⊥) → 1 ≤ x
      some x g = omega arith

  -- it is not in the load; its row is larger than the largest so far; its row is not
  pub most-without : get_or xs i 0 ≡ 0 → larger m later_types ≡ larger m types_from
  most-without e = rw (most-turn, eq-eqb (get_or xs i 0) 0 e)

  pub most-rises : (get_or xs i 0 ≡ 0 → ⊥) → m < get_or rows (c - s) 0 → larger (get_or rows (c - s) 0) later_types ≡ larger m types_from
  most-rises f h = rw (most-turn, ne_eqb (get_or xs i 0) 0 f) (larger-rises m (get_or rows (c - s) 0) later_types h)

  pub most-stays : (get_or xs i 0 ≡ 0 → ⊥) → get_or rows (c - s) 0 ≤ m → larger m later_types ≡ larger m types_from
  most-stays f h = rw (most-turn, ne_eqb (get_or xs i 0) 0 f) (larger-stays m (get_or rows (c - s) 0) later_types h)

-- main: before the first type, and past the last

pub most-start : (l : ℕ) → larger 0 l ≡ l
most-start l = larger-up 0 l (omega arith)

pub most-end : (rows : List ℕ) (c s m : ℕ) (ns xs : List ℕ) (i : ℕ) → length ns ≤ i → m ≡ larger m (most_below rows c s (drop i ns) xs)
unfolding most_below
most-end rows c s m ns xs i h = rw (drop_of_length-le ns {i = i}, larger-down m 0 (omega arith))

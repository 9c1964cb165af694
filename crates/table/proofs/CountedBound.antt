-- How many pairs a fill of the two parts counts at most: the bound of request 2026-05, and that less one for each row where no type fits an empty engine.
use Prim.Native.Nat.{ℕ, zero, suc, ◌+◌, ◌-◌, ◌*◌, ◌≤◌, ◌<◌}
use mathlib.Core.Path.{◌≡◌, refl, ap, subst}
use mathlib.Core.Bool.{true}
use mathlib.Core.Logic.{⊎_elim}
use native.Mathlib.Numerals.{add-one}
use native.Mathlib.Nat.{mul-one, mul-add, eq-or-lt_of_le}
use native.Mathlib.Omega.{arith}
use Rattle.system.specs.declared.System.{System}
use Rattle.system.specs.Values.{ceilings_of}
use Rattle.system.specs.Limits.{columns_of, columns, keeps_limits}
use Rattle.system.proofs.Laws.{columns_of-pos, limits_of}
use Rattle.loads.specs.Column.{load_of}
use Rattle.table.specs.Meaning.{sum_below, bound_out, NoneFits}
use Rattle.table.proofs.Pairs.{visited-self, visited-le}
use Rattle.table.proofs.Bound.{bound-out, yes-at-zero}
use Rattle.table.specs.Parts.{lowest_for}
use Rattle.table.specs.Pairs.{counted_of}
use Rattle.table.specs.Scan.{column_counted}
use Rattle.table.proofs.LowestRows.{row-at, row-most, row_zero}
use Rattle.table.proofs.Counted.{counted_to, counted_to-none, counted_to-more, counted_to-all, counted-zero, counted_none, counted-most}

module _ (y : System) (limits : keeps_limits y ≡ true) (r : ℕ) where
  -- the columns under column c, and those under the columns below k together
  abbrev under : ℕ → ℕ
  under c = columns_of (load_of (ceilings_of y) c)

  abbrev under_to : ℕ → ℕ
  under_to k = sum_below k under

  bound-sum : bound_out y ≡ under_to (columns y)
  bound-sum = bound-out y (limits_of y limits).six

  column-more : (k : ℕ) → counted_to y r (suc k) ≡ counted_to y r k + column_counted y r k
  column-more k = rw (← (add-one k)) (counted_to-more y r k)

  -- intermediate: each column has at most the columns under it in each row

  to-bounded : (k : ℕ) → k ≤ columns y → counted_to y r k ≤ r * under_to k
  unfolding sum_below
  to-bounded zero h = omega (arith, counted_to-none y r)
  to-bounded (suc k) h = omega (arith, column-more k, to-bounded k (omega arith), counted-most y limits r k h, mul-add r (under_to k) (under k))

  bounded : counted_of y r ≤ r * bound_out y
  bounded = rw (bound-sum, ← (counted_to-all y r)) (to-bounded (columns y) (omega arith))

  -- intermediate: just as many where no type fits, but for column 0, which would have one in each row and is never counted

  -- column 0 alone is under itself
  under-zero : under 0 ≡ 1
  under-zero =
      let ns = ceilings_of y in
      omega (arith, visited-self ns 0 (columns_of-pos ns), visited-le ns (load_of ns 0) 1, columns_of-pos (load_of ns 0))

  module _ (nothing : NoneFits y) where
    -- column 0 alone has a row
    no_row : (c : ℕ) → 0 < c → c < columns y → r < lowest_for y r c
    no_row c some small =
        ⊎_elim
        (λ e. omega arith)
        (λ l. absurd (omega (arith, yes-at-zero y (limits_of y limits) nothing (lowest_for y r c) c small (row-at y r (lowest_for y r c) c refl (omega arith)))))
        (eq-or-lt_of_le (row-most y r c))

    to-met : (k : ℕ) → suc k ≤ columns y → counted_to y r (suc k) + r ≡ r * under_to (suc k)
    unfolding sum_below
    to-met zero h = omega (arith, column-more 0, counted_to-none y r, counted-zero y r (row_zero y r), ap (λ (u : ℕ). r * (0 + u)) under-zero, mul-one r)
    to-met (suc k) h =
        omega (
          arith,
          column-more (suc k),
          to-met k (omega arith),
          counted_none y limits r (suc k) h (no_row (suc k) (omega arith) h),
          mul-add r (under_to (suc k)) (under (suc k)),
        )

    met : counted_of y r + r ≡ r * bound_out y
    met =
        let all : suc (columns y - 1) ≡ columns y = omega (arith, columns_of-pos (ceilings_of y)) in
        rw (bound-sum, ← (counted_to-all y r)) (subst (λ (k : ℕ). counted_to y r k + r ≡ r * under_to k) all (to-met (columns y - 1) (omega arith)))

-- main: the bound of request 2026-05, for the rows of the engines in service

pub counted-bound : (y : System) → keeps_limits y ≡ true → (r : ℕ) → r ≤ y.engines → counted_of y r ≤ r * bound_out y
counted-bound y limits r few = bounded y limits r

pub counted-met : (y : System) → keeps_limits y ≡ true → (r : ℕ) → r ≤ y.engines → NoneFits y → counted_of y r + r ≡ r * bound_out y
counted-met y limits r few nothing = met y limits r nothing

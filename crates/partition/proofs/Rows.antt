-- The lowest row that says yes: no list of loads uses fewer engines, and recovery uses exactly as many.
use Prim.Native.Nat.{ℕ, suc, ◌≤◌, ◌<◌}
use mathlib.Core.Path.{◌≡◌, refl, ap, subst}
use mathlib.Core.List.{List, [], ◌∷◌}
use mathlib.Core.Bool.{Bool, true, false, not, cond, ◌&&◌}
use mathlib.Core.Logic.{◌⊎◌, ⊎_elim}
use native.Mathlib.Nat.{le_refl}
use native.Mathlib.Omega.{arith}
use borrow.Author.Tests.{leb-true, leb-false}
use lib.ListN.{length}
use lib.Dec.{leb}
use Rattle.system.specs.Limits.{columns_of}
use Rattle.loads.specs.Load.{holds_none, plus}
use Rattle.loads.specs.Column.{load_of}
use Rattle.loads.proofs.Order.{zero-plus, holds_none-is-zero}
use Rattle.partition.specs.Assignment.{every}
use Rattle.partition.specs.Cell.{no_column, says_yes, cell, lowest_row}
use Rattle.partition.specs.Shares.{sum_of, used_loads, Shares}
use Rattle.partition.proofs.Lowest.{Found, lowest-found, lowest-le}
use Rattle.partition.proofs.Cells.{length-sum_of, one-share, Split, split-shares, shares-cell}

-- intermediate: the loads that hold an instance

used_only : List (List ℕ) → List (List ℕ)
used_only [] = []
used_only (x ∷ loads) = cond (holds_none x) (used_only loads) (x ∷ used_only loads)

length-used_only : (loads : List (List ℕ)) → length (used_only loads) ≡ used_loads loads
unfolding used_only used_loads
length-used_only [] = refl
length-used_only (x ∷ loads) = go (holds_none x) (length-used_only loads)
  where
    go : (b : Bool) → length (used_only loads) ≡ used_loads loads → length (cond b (used_only loads) (x ∷ used_only loads)) ≡ cond b (used_loads loads) (suc (used_loads loads))
    go true e = e
    go false e = ap suc e

pub used_loads-le : (loads : List (List ℕ)) → used_loads loads ≤ length loads
unfolding used_loads
used_loads-le [] = le_refl 0
used_loads-le (x ∷ loads) = go (holds_none x) (used_loads-le loads)
  where
    go : (b : Bool) → used_loads loads ≤ length loads → cond b (used_loads loads) (suc (used_loads loads)) ≤ suc (length loads)
    go true h = omega arith
    go false h = omega arith

-- where as many are used as there are, each is
pub all-used : (loads : List (List ℕ)) → length loads ≤ used_loads loads → every (λ (x : List ℕ). not (holds_none x)) loads ≡ true
unfolding every used_loads
all-used [] h = refl
all-used (x ∷ loads) h = go (holds_none x) h (used_loads-le loads) (all-used loads)
  where
    go : (b : Bool) → suc (length loads) ≤ cond b (used_loads loads) (suc (used_loads loads)) → used_loads loads ≤ length loads → (length loads ≤ used_loads loads → every (λ (y : List ℕ). not (holds_none y)) loads ≡ true) → (not b && every (λ (y : List ℕ). not (holds_none y)) loads) ≡ true
    go true k l rest = absurd (omega arith)
    go false k l rest = rest (omega arith)

pub empty-share : (k : ℕ) (x ν : List ℕ) → length x ≡ k → length ν ≡ k → holds_none x ≡ true → plus x ν ≡ ν
empty-share k x ν l m h = rw (holds_none-is-zero x h, l, ← m) (zero-plus ν)

used-shares : (fits : List ℕ → Bool) (k : ℕ) (loads : List (List ℕ)) (ν : List ℕ) → Shares fits k loads ν → Shares fits k (used_only loads) ν
unfolding used_only
used-shares fits k [] ν s = s
used-shares fits k (x ∷ loads) ν s = subst (Shares fits k (cond (holds_none x) (used_only loads) (x ∷ used_only loads))) t.together (go (holds_none x) refl (used-shares fits k loads (sum_of k loads) t.rest))
  where
    t : Split fits k x loads ν
    t = split-shares fits k x loads ν s

    go : (b : Bool) → holds_none x ≡ b → Shares fits k (used_only loads) (sum_of k loads) → Shares fits k (cond b (used_only loads) (x ∷ used_only loads)) (plus x (sum_of k loads))
    go true e r = rw (empty-share k x (sum_of k loads) t.first_sized (length-sum_of k loads t.rest.sized) e) r
    go false e r = one-share fits k x (used_only loads) (sum_of k loads) t.first_sized t.first_fits r

-- main: the lowest row that says yes

module _ (fits : List ℕ → Bool) (ns : List ℕ) (m c : ℕ) where
  pub lowest_row-le : (i : ℕ) → i ≤ m → says_yes (cell fits ns i c) ≡ true → lowest_row fits ns m c ≤ i
  unfolding lowest_row
  lowest_row-le i h yes' = lowest-le (λ (r : ℕ). says_yes (cell fits ns r c)) (suc m) (suc m) 0 i yes' (omega arith) (omega arith)

  row-cases : (lowest_row fits ns m c ≡ suc m) ⊎ Found (λ (r : ℕ). says_yes (cell fits ns r c)) (suc m) (suc m) 0 (lowest_row fits ns m c)
  unfolding lowest_row
  row-cases = lowest-found (λ (r : ℕ). says_yes (cell fits ns r c)) (suc m) (suc m) 0

  pub lowest_row-most : lowest_row fits ns m c ≤ suc m
  lowest_row-most = ⊎_elim (λ e. omega arith) (λ f. omega (arith, f.to)) row-cases

  pub lowest_row-yes : lowest_row fits ns m c ≤ m → says_yes (cell fits ns (lowest_row fits ns m c) c) ≡ true
  lowest_row-yes h = ⊎_elim (λ e. absurd (omega arith)) (λ f. f.passes) row-cases

-- main: no loads that make up the column's load use fewer engines

module _ (fits : List ℕ → Bool) (ns : List ℕ) (room : columns_of ns ≤ no_column) (m c : ℕ) (small : c < columns_of ns) where
  pub used-row-yes : (loads : List (List ℕ)) → Shares fits (length ns) loads (load_of ns c) → says_yes (cell fits ns (used_loads loads) c) ≡ true
  used-row-yes loads s =
      rw (← (length-used_only loads))
      (shares-cell fits ns room (used_only loads) c small (used-shares fits (length ns) loads (load_of ns c) s))

  pub fewest-loads : (loads : List (List ℕ)) → Shares fits (length ns) loads (load_of ns c) → lowest_row fits ns m c ≤ used_loads loads
  fewest-loads loads s = go (leb (used_loads loads) m) refl
    where
      go : (b : Bool) → leb (used_loads loads) m ≡ b → lowest_row fits ns m c ≤ used_loads loads
      go true e = lowest_row-le fits ns m c (used_loads loads) (leb-true (used_loads loads) m e) (used-row-yes loads s)
      go false e = omega (arith, leb-false (used_loads loads) m e, lowest_row-most fits ns m c)

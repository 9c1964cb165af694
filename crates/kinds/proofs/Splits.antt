-- Laws of the split that costs least: the loop's turn, what two equal costs have in common, and that the costs read in the row parts of both kinds are those of the definition.
use Prim.Native.Nat.{ℕ, zero, suc, ◌+◌, ◌-◌, ◌≤◌, ◌<◌}
use mathlib.Core.Path.{◌≡◌, refl, sym, ap, ◌∙◌}
use mathlib.Core.List.{List}
use mathlib.Core.Bool.{Bool, true, false, cond}
use native.Mathlib.Nat.{le_refl}
use native.Mathlib.Numerals.{add-one}
use native.Mathlib.Omega.{arith}
use borrow.Author.Tests.{leb-false, lt-ltb, le-ltb}
use lib.Dec.{leb, ltb}
use Rattle.system.specs.declared.System.{System}
use Rattle.system.specs.Values.{ceilings_of}
use Rattle.system.specs.Limits.{columns_of, columns}
use Rattle.loads.specs.Load.{fits_engine}
use Rattle.partition.specs.Kinds.{fewest_in, rest_of, split_cost, least_at, best_split}
use Rattle.partition.proofs.Rows.{lowest_row-most}
use Rattle.table.specs.Parts.{row_at}
use Rattle.kinds.specs.Inner.{cost_of, cost_at, SplitIn, BothShow}

-- main: a turn of the search, where `least` is the cost of the best number before p, and `now` that of p; `next` and `then` are the best number and its cost after the turn

module _ (cost : ℕ → ℕ) (p best least now next then : ℕ) (before : best ≡ least_at cost p) (held : least ≡ cost best) (read : now ≡ cost p) where
  pub turn-taken : now < least → next ≡ p → then ≡ now → (next ≡ least_at cost (p + 1)) × (then ≡ cost next)
  unfolding least_at
  turn-taken h is_next is_then = (is_next ∙ rw (add-one p, ← before, lt-ltb (cost p) (cost best) (omega arith)), is_then ∙ read ∙ ap cost (sym is_next))

  pub turn-left : least ≤ now → next ≡ best → then ≡ least → (next ≡ least_at cost (p + 1)) × (then ≡ cost next)
  unfolding least_at
  turn-left h is_next is_then = (is_next ∙ rw (add-one p, ← before, le-ltb (cost p) (cost best) (omega arith)), is_then ∙ held ∙ ap cost (sym is_next))

-- main: what is found is one of the numbers, and only their costs matter

chosen-le : (b : Bool) (a f : ℕ) → a ≤ f → cond b f a ≤ f
chosen-le true a f h = le_refl f
chosen-le false a f h = h

least-le : (cost : ℕ → ℕ) (f : ℕ) → least_at cost f ≤ f
unfolding least_at
least-le cost zero = le_refl 0
least-le cost (suc f) = omega (arith, chosen-le (ltb (cost f) (cost (least_at cost f))) (least_at cost f) f (least-le cost f))

pub least-last : (cost : ℕ → ℕ) (f : ℕ) → least_at cost (suc f) ≤ f
unfolding least_at
least-last cost f = chosen-le (ltb (cost f) (cost (least_at cost f))) (least_at cost f) f (least-le cost f)

least-same : (cost other : ℕ → ℕ) (f : ℕ) → ((p : ℕ) → p < f → cost p ≡ other p) → least_at cost f ≡ least_at other f
unfolding least_at
least-same cost other zero h = refl
least-same cost other (suc f) h =
    let same = least-same cost other f (λ p l. h p (omega arith)) in
    rw (same, h f (le_refl (suc f)), h (least_at other f) (omega (arith, least-le other f)))

-- main: the row part holds the fewest engines of each column

pub row-fewest : (y : System) (c : ℕ) → row_at y y.engines c ≡ fewest_in y c
row-fewest y c = go (leb (fewest_in y c) y.engines) refl
  where
    go : (b : Bool) → leb (fewest_in y c) y.engines ≡ b → cond b (fewest_in y c) (y.engines + 1) ≡ fewest_in y c
    go true e = refl
    go false e = omega (arith, leb-false (fewest_in y c) y.engines e, lowest_row-most (fits_engine y) (ceilings_of y) y.engines c)

module _ {first second : System} {rows predecessors rows2 predecessors2 : List ℕ} (shows : BothShow first second rows predecessors rows2 predecessors2) (last : ℕ) (is_last : last + 1 ≡ columns first) where
  -- both kinds have the same columns
  pub as_many : columns second ≡ columns first
  as_many = ap columns_of shows.same_ceilings

  pub split-in : SplitIn rows rows2 last first.engines second.engines
  split-in = record {
    inside = omega (arith, shows.one.room_rows);
    inside2 = omega (arith, shows.other.room_rows, as_many);
    few = omega (arith, shows.few);
    few2 = omega (arith, shows.few);
  }

  cost-shown : (p : ℕ) → p < last + 1 → cost_at rows rows2 last first.engines second.engines p ≡ split_cost first second p
  unfolding cost_of split_cost
  cost-shown p small =
      let one = shows.one.rows_hold p (omega arith) ∙ row-fewest first p in
      let other = shows.other.rows_hold (last - p) (omega (arith, as_many)) ∙ row-fewest second (last - p) in
      let rest : last - p ≡ rest_of first p = omega arith in
      rw (one, other, rest)

  pub best-shown : least_at (cost_at rows rows2 last first.engines second.engines) (last + 1) ≡ best_split first second
  best-shown = least-same (cost_at rows rows2 last first.engines second.engines) (split_cost first second) (last + 1) cost-shown ∙ ap (least_at (split_cost first second)) is_last

  pub best-inside : best_split first second ≤ last
  best-inside = rw (← is_last, add-one last) (least-last (split_cost first second) last)

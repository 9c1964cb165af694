-- Request 2026-13, "Cards with two kinds of engine": the split of all instances that is taken costs least, what the cost of a split says, and the part that a split leaves to the second kind.
use Prim.Native.Nat.{ℕ, zero, suc, ◌+◌, ◌-◌, ◌*◌, ◌≤◌, ◌<◌}
use mathlib.Core.Path.{◌≡◌, refl, ap, ◌∙◌}
use mathlib.Core.List.{List}
use mathlib.Core.Bool.{Bool, true, false, cond, ◌&&◌}
use mathlib.Core.Logic.{⊎_elim}
use native.Mathlib.Nat.{eq-or-lt_of_le}
use native.Mathlib.Omega.{arith}
use borrow.Author.Tests.{leb-true, ltb-true, ltb-false, le-leb}
use lib.Dec.{leb, ltb}
use Rattle.system.specs.declared.System.{System}
use Rattle.system.specs.Values.{ceilings_of}
use Rattle.system.specs.Limits.{columns_of, columns}
use Rattle.system.proofs.Laws.{Limits, limits_of, columns_of-pos}
use Rattle.loads.specs.Load.{plus, less}
use Rattle.loads.specs.Column.{load_of}
use Rattle.loads.proofs.Order.{plus-less-below}
use Rattle.loads.proofs.Column.{load_of-below, load_of-within, load-last, load_of-difference}
use Rattle.partition.specs.Kinds.{fewest_in, rest_of, no_split, split_cost, least_at, best_split, KindsOf}

-- main: the split that is taken costs least

-- the least is at one of the numbers looked at
least_at-inside : (cost : ℕ → ℕ) (f : ℕ) → least_at cost f ≤ f - 1
unfolding least_at
least_at-inside cost zero = omega arith
least_at-inside cost (suc f) = go (ltb (cost f) (cost (least_at cost f))) (least_at-inside cost f)
  where
    go : (b : Bool) → least_at cost f ≤ f - 1 → cond b f (least_at cost f) ≤ suc f - 1
    go true h = omega arith
    go false h = omega arith

-- and none of these is below it
least_at-least : (cost : ℕ → ℕ) (f p : ℕ) → p < f → cost (least_at cost f) ≤ cost p
unfolding least_at
least_at-least cost zero p h = absurd (omega arith)
least_at-least cost (suc f) p h = go (ltb (cost f) (cost before)) refl (least_at-least cost f p)
  where
    before : ℕ
    before = least_at cost f

    up_to : (p < f → cost before ≤ cost p) → (n : ℕ) → n ≤ cost before → n ≤ cost f → n ≤ cost p
    up_to rest n a b =
        let low : p ≤ f = omega arith in
        ⊎_elim (λ e. rw e b) (λ l. omega (arith, rest l)) (eq-or-lt_of_le low)

    go : (b : Bool) → ltb (cost f) (cost before) ≡ b → (p < f → cost before ≤ cost p) → cost (cond b f before) ≤ cost p
    go true q rest = up_to rest (cost f) (omega (arith, ltb-true (cost f) (cost before) q)) (omega arith)
    go false q rest = up_to rest (cost before) (omega arith) (ltb-false (cost f) (cost before) q)

-- the split that is taken is that of a column
pub best-inside : (first second : System) → best_split first second < columns first
best-inside first second = omega (arith, least_at-inside (split_cost first second) (columns first), columns_of-pos (ceilings_of first))

-- and that of no other column costs less
pub best-least : (first second : System) (p : ℕ) → p < columns first → split_cost first second (best_split first second) ≤ split_cost first second p
best-least first second p h = least_at-least (split_cost first second) (columns first) p h

-- intermediate: what a split costs

module _ (first second : System) (p : ℕ) where
  abbrev ours : ℕ
  ours = fewest_in first p

  abbrev theirs : ℕ
  theirs = fewest_in second (rest_of first p)

  -- both kinds can hold their part
  pub cost-where-held : ours ≤ first.engines → theirs ≤ second.engines → split_cost first second p ≡ (ours + theirs) * 32 + theirs
  unfolding split_cost
  cost-where-held a b = rw (le-leb ours first.engines a, le-leb theirs second.engines b)

  -- only then does it cost less than `no_split`
  pub held-where-cheap : split_cost first second p < no_split → (ours ≤ first.engines) × (theirs ≤ second.engines)
  unfolding split_cost
  held-where-cheap h = go (leb ours first.engines) (leb theirs second.engines) refl refl h
    where
      go : (a b : Bool) → leb ours first.engines ≡ a → leb theirs second.engines ≡ b → cond (a && b) ((ours + theirs) * 32 + theirs) no_split < no_split → (ours ≤ first.engines) × (theirs ≤ second.engines)
      go true true q r h = (leb-true ours first.engines q, leb-true theirs second.engines r)
      go true false q r h = absurd (omega arith)
      go false b q r h = absurd (omega arith)

-- one number compares both: a and b engines cost no more than c and d
pub cheaper : (a b c d : ℕ) → d < 32 → (a + b) * 32 + b ≤ (c + d) * 32 + d → (a + b ≤ c + d) × (c + d ≡ a + b → b ≤ d)
cheaper a b c d small h = (omega arith, λ e. omega arith)

-- intermediate: the rest of a column

module _ (ns : List ℕ) (p : ℕ) (small : p < columns_of ns) where
  -- its load is what the column leaves of all instances
  pub load_of-rest : load_of ns (columns_of ns - 1 - p) ≡ less ns (load_of ns p)
  load_of-rest =
      load_of-difference ns (columns_of ns - 1) p (omega arith) small (rw (load-last ns) (load_of-within ns p))
      ∙ ap (λ (x : List ℕ). less x (load_of ns p)) (load-last ns)

  -- so that both together are all of them
  pub loads-whole : plus (load_of ns p) (load_of ns (columns_of ns - 1 - p)) ≡ ns
  loads-whole = rw load_of-rest (plus-less-below (load_of-below ns p))

-- what is assumed, as plain facts
module _ (first second : System) (kinds : KindsOf first second) where
  pub limits_first : Limits first
  limits_first = limits_of first kinds.first_keeps

  pub limits_second : Limits second
  limits_second = limits_of second kinds.second_keeps

  -- the rest of a column is a column of the second system, of the same load
  pub rest-small : (p : ℕ) → rest_of first p < columns second
  rest-small p = rw kinds.same_ceilings (omega (arith, columns_of-pos (ceilings_of first)))

  pub rest-load : (p : ℕ) → load_of (ceilings_of second) (rest_of first p) ≡ load_of (ceilings_of first) (rest_of first p)
  rest-load p = ap (λ (ns : List ℕ). load_of ns (rest_of first p)) kinds.same_ceilings

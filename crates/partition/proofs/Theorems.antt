-- The theorems of feasibility for callers, over any test `fits` that passes the empty load: what a cell says, what a recovery is, and that it uses the fewest engines.
use Prim.Native.Nat.{ℕ, ◌≤◌, ◌<◌}
use mathlib.Core.Path.{◌≡◌, sym, ap, subst, ◌∙◌}
use mathlib.Core.List.{List, []}
use mathlib.Core.Bool.{Bool, true, not}
use mathlib.Core.Logic.{◌↔◌}
use native.Mathlib.Nat.{add-zero}
use native.Mathlib.Omega.{arith}
use lib.ListN.{length, replicate, length-map}
use Rattle.system.specs.Limits.{columns_of}
use Rattle.loads.specs.Load.{holds_none}
use Rattle.loads.specs.Column.{load_of}
use Rattle.loads.proofs.Order.{plus-zero}
use Rattle.loads.proofs.Column.{length-load_of}
use Rattle.partition.specs.Assignment.{Assignment, load_on, assigned, every, good, Feasible, used_of, engines_to}
use Rattle.partition.specs.Cell.{says_yes, cell, lowest_row, recover, recovery}
use Rattle.partition.specs.Shares.{distinct, loads_on, Shares, Carried, Recovered, Assumed}
use Rattle.partition.proofs.Lists.{length-engines_to, distinct-engines_to}
use Rattle.partition.proofs.Shares.{good-shares, shares-carried, used_of-loads_on}
use Rattle.partition.proofs.Cells.{no-shares, recover-shares, length-recover, shares-cell}
use Rattle.partition.proofs.Rows.{used_loads-le, fewest-loads}
use Rattle.partition.proofs.Recovery.{length-recovery, recovery-shares, recovery-used, recovered}

-- intermediate

pub carried-feasible : {test : ℕ → List ℕ → Bool} {es : List ℕ} {loads : List (List ℕ)} {ν : List ℕ} → Carried test es loads ν → Feasible test es ν
carried-feasible a = record { mapping = a.mapping; assigns = a.assigns; is_good = a.is_good }

pub used_of-le : (es : List ℕ) (χ : Assignment) → used_of es χ ≤ length es
used_of-le es χ = rw (used_of-loads_on es χ, ← (length-map es (λ (e : ℕ). load_on e χ))) (used_loads-le (loads_on es χ))

module _ (fits : List ℕ → Bool) (ns : List ℕ) (ground : Assumed fits ns) where
  good-loads : (es : List ℕ) (χ : Assignment) (c : ℕ) → distinct es ≡ true → good (λ (e : ℕ). fits) es χ ≡ true → assigned χ ≡ load_of ns c → Shares fits (length ns) (loads_on es χ) (load_of ns c)
  good-loads es χ c d h a =
      subst (λ (z : ℕ). Shares fits z (loads_on es χ) (load_of ns c)) (sym (length-map χ length) ∙ ap length a ∙ length-load_of ns c)
      (subst (Shares fits (length χ) (loads_on es χ)) a (good-shares fits es χ d h))

  -- main: what a cell says

  -- a cell of row i says yes exactly when its load is i-feasible
  pub cell-yes-iff-feasible : (i c : ℕ) (es : List ℕ) → c < columns_of ns → distinct es ≡ true → length es ≡ i → (says_yes (cell fits ns i c) ≡ true) ↔ Feasible (λ (e : ℕ). fits) es (load_of ns c)
  cell-yes-iff-feasible i c es small d l = (there, back)
    where
      there : says_yes (cell fits ns i c) ≡ true → Feasible (λ (e : ℕ). fits) es (load_of ns c)
      there h =
          carried-feasible
          (shares-carried fits (length ns) es (recover fits ns i c []) (load_of ns c) d
          (length-recover fits ns i c [] ∙ add-zero i ∙ sym l)
          (subst (Shares fits (length ns) (recover fits ns i c [])) (rw (← (length-load_of ns c)) (plus-zero (load_of ns c)))
          (recover-shares fits ns i c [] (replicate (length ns) 0) h (no-shares fits (length ns)))))

      back : Feasible (λ (e : ℕ). fits) es (load_of ns c) → says_yes (cell fits ns i c) ≡ true
      back f =
          subst (λ (r : ℕ). says_yes (cell fits ns r c) ≡ true) (length-map es (λ (e : ℕ). load_on e f.mapping) ∙ l)
          (shares-cell fits ns ground.room (loads_on es f.mapping) c small (good-loads es f.mapping c d f.is_good f.assigns))

  -- main: the fewest engines

  -- every good assignment, to any number of engines, uses at least as many as the lowest yes row says
  pub fewest : (m c : ℕ) (es : List ℕ) (χ : Assignment) → c < columns_of ns → distinct es ≡ true → good (λ (e : ℕ). fits) es χ ≡ true → assigned χ ≡ load_of ns c → lowest_row fits ns m c ≤ used_of es χ
  fewest m c es χ small d h a =
      rw (used_of-loads_on es χ) (fewest-loads fits ns ground.room m c small (loads_on es χ) (good-loads es χ c d h a))

  -- recovery from the lowest yes row i gives i loads that fit and sum to the column's load, each with an instance
  pub recovery-loads : (m c : ℕ) → c < columns_of ns → lowest_row fits ns m c ≤ m → (length (recovery fits ns m c) ≡ lowest_row fits ns m c) × Shares fits (length ns) (recovery fits ns m c) (load_of ns c) × (every (λ (x : List ℕ). not (holds_none x)) (recovery fits ns m c) ≡ true)
  recovery-loads m c small found =
      (length-recovery fits ns m c, recovery-shares fits ns ground.room m c small found, recovery-used fits ns ground.room m c small found)

  -- that recovery, row i on the i-th of the engines es, is a good assignment to these
  pub recovery-good : (es : List ℕ) (c : ℕ) → distinct es ≡ true → c < columns_of ns → lowest_row fits ns (length es) c ≤ length es → Recovered fits ns es c
  recovery-good es c d small found = recovered fits ns ground.room es c small found ground.empty_fits d

  -- some row up to the number of engines says yes exactly when the load can be partitioned among them
  pub feasible-iff-row : (es : List ℕ) (c : ℕ) → distinct es ≡ true → c < columns_of ns → Feasible (λ (e : ℕ). fits) es (load_of ns c) ↔ (lowest_row fits ns (length es) c ≤ length es)
  feasible-iff-row es c d small = (there, back)
    where
      there : Feasible (λ (e : ℕ). fits) es (load_of ns c) → lowest_row fits ns (length es) c ≤ length es
      there f =
          omega (arith, fewest (length es) c es f.mapping small d f.is_good f.assigns, used_of-le es f.mapping)

      back : lowest_row fits ns (length es) c ≤ length es → Feasible (λ (e : ℕ). fits) es (load_of ns c)
      back h =
          let r = recovery-good es c d small h in
          record { mapping = r.mapping; assigns = r.assigns; is_good = r.is_good }

-- main: loads by engine are a good assignment

-- one load for each of the engines 1 to m
pub loads-carried : (fits : List ℕ → Bool) (k m : ℕ) (loads : List (List ℕ)) (ν : List ℕ) → length loads ≡ m → Shares fits k loads ν → Carried (λ (e : ℕ). fits) (engines_to m) loads ν
loads-carried fits k m loads ν l s = shares-carried fits k (engines_to m) loads ν (distinct-engines_to m) (l ∙ sym (length-engines_to m)) s

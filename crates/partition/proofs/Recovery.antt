-- Recovery: from the lowest yes row i it gives i loads that fit, each with an instance, which sum to the column's load; put on as many engines they are a good assignment.
use Prim.Native.Nat.{ℕ, zero, suc, ◌+◌, ◌-◌, ◌≤◌, ◌<◌}
use mathlib.Core.Path.{◌≡◌, refl, sym, ap, subst, ◌∙◌}
use mathlib.Core.List.{List, [], ◌∷◌, ◌++◌}
use mathlib.Core.Bool.{Bool, true, not}
use native.Mathlib.Nat.{add-zero}
use native.Mathlib.Omega.{arith}
use lib.ListN.{length, replicate, length-replicate, length-append, length-map}
use Rattle.system.specs.Limits.{columns_of}
use Rattle.loads.specs.Load.{holds_none, plus}
use Rattle.loads.specs.Column.{load_of}
use Rattle.loads.proofs.Order.{plus-zero, holds_none-zero}
use Rattle.loads.proofs.Column.{length-load_of}
use Rattle.partition.specs.Assignment.{every, load_on}
use Rattle.partition.specs.Cell.{no_column, lowest_row, recover, recovery}
use Rattle.partition.specs.Shares.{sum_of, used_loads, distinct, loads_on, row_on, Shares, Carried, Recovered}
use Rattle.partition.proofs.Shares.{shares-carried, good-parts}
use Rattle.partition.proofs.Engines.{row_on-padded, row_on-loads_on}
use Rattle.partition.proofs.Cells.{no-shares, one-share, recover-shares, length-recover, recover-append}
use Rattle.partition.proofs.Rows.{used_loads-le, all-used, lowest_row-yes, fewest-loads}

-- intermediate: empty engines

used_loads-padded : (loads : List (List ℕ)) (n k : ℕ) → used_loads (loads ++ replicate n (replicate k 0)) ≡ used_loads loads
unfolding used_loads
used_loads-padded [] zero k = refl
used_loads-padded [] (suc n) k = rw (holds_none-zero k) (used_loads-padded [] n k)
used_loads-padded (x ∷ loads) n k = rw (used_loads-padded loads n k)

zeros-plus : (k : ℕ) → plus (replicate k 0) (replicate k 0) ≡ replicate k 0
zeros-plus k = subst (λ (z : ℕ). plus (replicate k 0) (replicate z 0) ≡ replicate k 0) (length-replicate k 0) (plus-zero (replicate k 0))

empty-shares : (fits : List ℕ → Bool) (k n : ℕ) → fits (replicate k 0) ≡ true → Shares fits k (replicate n (replicate k 0)) (replicate k 0)
empty-shares fits k zero h = no-shares fits k
empty-shares fits k (suc n) h =
    subst (Shares fits k (replicate (suc n) (replicate k 0))) (zeros-plus k)
    (one-share fits k (replicate k 0) (replicate n (replicate k 0)) (replicate k 0) (length-replicate k 0) h (empty-shares fits k n h))

-- main: empty engines past the last one change nothing

pub sum_of-padded : (k n : ℕ) (loads : List (List ℕ)) → sum_of k (loads ++ replicate n (replicate k 0)) ≡ sum_of k loads
unfolding sum_of
sum_of-padded k n (x ∷ loads) = ap (plus x) (sum_of-padded k n loads)
sum_of-padded k zero [] = refl
sum_of-padded k (suc n) [] = ap (plus (replicate k 0)) (sum_of-padded k n []) ∙ zeros-plus k

-- main: how many loads there are

module _ (fits : List ℕ → Bool) (ns : List ℕ) (m c : ℕ) where
  pub length-recovery : length (recovery fits ns m c) ≡ lowest_row fits ns m c
  unfolding recovery
  length-recovery = length-recover fits ns (lowest_row fits ns m c) c [] ∙ add-zero (lowest_row fits ns m c)

module _ (fits : List ℕ → Bool) (ns : List ℕ) (room : columns_of ns ≤ no_column) (m c : ℕ) (small : c < columns_of ns) (found : lowest_row fits ns m c ≤ m) where
  same_load : plus (load_of ns c) (replicate (length ns) 0) ≡ load_of ns c
  same_load = rw (← (length-load_of ns c)) (plus-zero (load_of ns c))

  -- main: the loads of the rows up to the lowest yes row

  pub recovery-shares : Shares fits (length ns) (recovery fits ns m c) (load_of ns c)
  unfolding recovery
  recovery-shares =
      subst (Shares fits (length ns) (recover fits ns (lowest_row fits ns m c) c [])) same_load
      (recover-shares fits ns (lowest_row fits ns m c) c [] (replicate (length ns) 0) (lowest_row-yes fits ns m c found) (no-shares fits (length ns)))

  pub recovery-uses : used_loads (recovery fits ns m c) ≡ lowest_row fits ns m c
  recovery-uses =
      let loads = recovery fits ns m c in
      omega (arith, fewest-loads fits ns room m c small loads recovery-shares, used_loads-le loads, length-recovery fits ns m c)

  -- each of them holds an instance
  pub recovery-used : every (λ (x : List ℕ). not (holds_none x)) (recovery fits ns m c) ≡ true
  recovery-used = all-used (recovery fits ns m c) (omega (arith, recovery-uses, length-recovery fits ns m c))

  -- with empty rows behind them they are as many as one likes
  pub padded-shares : fits (replicate (length ns) 0) ≡ true → (n : ℕ) → Shares fits (length ns) (recovery fits ns m c ++ replicate n (replicate (length ns) 0)) (load_of ns c)
  unfolding recovery
  padded-shares empty_fits n =
      let later : List (List ℕ) = replicate n (replicate (length ns) 0) in
      let i = lowest_row fits ns m c in
      subst (λ (l : List (List ℕ)). Shares fits (length ns) l (load_of ns c)) (recover-append fits ns i c later)
      (subst (Shares fits (length ns) (recover fits ns i c later)) same_load
      (recover-shares fits ns i c later (replicate (length ns) 0) (lowest_row-yes fits ns m c found) (empty-shares fits (length ns) n empty_fits)))

-- main: a good assignment that recovery stands for, row i on the i-th of the engines es

module _ (fits : List ℕ → Bool) (ns : List ℕ) (room : columns_of ns ≤ no_column) (es : List ℕ) (c : ℕ) (small : c < columns_of ns) (found : lowest_row fits ns (length es) c ≤ length es) where
  pub recovered : fits (replicate (length ns) 0) ≡ true → distinct es ≡ true → Recovered fits ns es c
  recovered empty_fits d = record {
    mapping = carried.mapping;
    assigns = carried.assigns;
    is_good = carried.is_good;
    holds = at;
    uses = carried.uses ∙ used_loads-padded rows rest (length ns) ∙ recovery-uses fits ns room (length es) c small found;
  }
    where
      idle : List ℕ
      idle = replicate (length ns) 0

      rows : List (List ℕ)
      rows = recovery fits ns (length es) c

      rest : ℕ
      rest = length es - lowest_row fits ns (length es) c

      loads : List (List ℕ)
      loads = rows ++ replicate rest idle

      count : length loads ≡ length es
      count = length-append rows (replicate rest idle) ∙ rw (length-recovery fits ns (length es) c, length-replicate rest idle) (omega arith)

      carried : Carried (λ (e : ℕ). fits) es loads (load_of ns c)
      carried =
          shares-carried fits (length ns) es loads (load_of ns c) d count (padded-shares fits ns room (length es) c small found empty_fits rest)

      types : length carried.mapping ≡ length ns
      types = sym (length-map carried.mapping length) ∙ ap length carried.assigns ∙ length-load_of ns c

      at : (e : ℕ) → load_on e carried.mapping ≡ row_on idle es rows e
      at e =
          sym (row_on-loads_on es carried.mapping e (good-parts (λ (d : ℕ). fits) es carried.mapping carried.is_good).0)
          ∙ ap (λ (k : ℕ). row_on (replicate k 0) es (loads_on es carried.mapping) e) types
          ∙ ap (λ (l : List (List ℕ)). row_on idle es l e) carried.holds
          ∙ row_on-padded idle rest es rows e

-- Loads by engine: what it means that a list of loads, one for each engine, fits and makes up a whole load, and the assignment that such a list stands for.
use Rattle.std.specs.Prelude.{ℕ, suc, ◌≤◌, List, [], ◌∷◌, map, Bool, true, not, cond, ◌&&◌, ◌≡◌, length, replicate, eqb}
use Rattle.system.specs.Limits.{columns_of}
use Rattle.loads.specs.Load.{holds_none, plus}
use Rattle.loads.specs.Column.{load_of}
use Rattle.partition.specs.Assignment.{Assignment, load_on, assigned, among, every, good, used_of, engines_to}
use Rattle.partition.specs.Cell.{no_column, lowest_row, recovery}

-- no engine is named twice
unfoldable pub distinct : List ℕ → Bool
distinct [] = true
distinct (e ∷ es) = not (among es e) && distinct es

-- the loads of the engines es in order
abbrev pub loads_on : List ℕ → Assignment → List (List ℕ)
loads_on es χ = map (λ (e : ℕ). load_on e χ) es

-- all the loads together, each of k types
unfoldable pub sum_of : ℕ → List (List ℕ) → List ℕ
sum_of k [] = replicate k 0
sum_of k (x ∷ loads) = plus x (sum_of k loads)

-- how many of the loads hold an instance
unfoldable pub used_loads : List (List ℕ) → ℕ
used_loads [] = 0
used_loads (x ∷ loads) = cond (holds_none x) (used_loads loads) (suc (used_loads loads))

-- what engine e has where row i is on the i-th of the engines es: `none` where e is not one of them, or no row is left for it
unfoldable pub row_on : {A : Type 0} → A → List ℕ → List A → ℕ → A
row_on none [] rows e = none
row_on none (d ∷ es) [] e = none
row_on none (d ∷ es) (x ∷ rows) e = cond (eqb d e) x (row_on none es rows e)

-- of each of the engines 1 to `all`
abbrev pub on_engines : {A : Type 0} → A → ℕ → List ℕ → List A → List A
on_engines none all es rows = map (row_on none es rows) (engines_to all)

-- the loads, each of k types, all fit and sum to ν
pub record Shares (fits : List ℕ → Bool) (k : ℕ) (loads : List (List ℕ)) (ν : List ℕ) : Type 0 where
  pub sized : every (λ (x : List ℕ). eqb (length x) k) loads ≡ true
  pub all_fit : every fits loads ≡ true
  pub sums : sum_of k loads ≡ ν

-- a good assignment of ν to the engines es whose loads, engine by engine, are the given ones
pub record Carried (test : ℕ → List ℕ → Bool) (es : List ℕ) (loads : List (List ℕ)) (ν : List ℕ) : Type 0 where
  pub mapping : Assignment
  pub assigns : assigned mapping ≡ ν
  pub is_good : good test es mapping ≡ true
  pub holds : loads_on es mapping ≡ loads
  pub uses : used_of es mapping ≡ used_loads loads

-- what a recovery is, with row i on the i-th of the engines es: a good assignment of the column's load to them, engine by engine what its row says,
-- on as many engines as the lowest yes row says
pub record Recovered (fits : List ℕ → Bool) (ns es : List ℕ) (c : ℕ) : Type 0 where
  pub mapping : Assignment
  pub assigns : assigned mapping ≡ load_of ns c
  pub is_good : good (λ (e : ℕ). fits) es mapping ≡ true
  pub holds : (e : ℕ) → load_on e mapping ≡ row_on (replicate (length ns) 0) es (recovery fits ns (length es) c) e
  pub uses : used_of es mapping ≡ lowest_row fits ns (length es) c

-- all that the theorems assume: an empty engine fits, and no column has the number that says no
pub record Assumed (fits : List ℕ → Bool) (ns : List ℕ) : Type 0 where
  pub empty_fits : fits (replicate (length ns) 0) ≡ true
  pub room : columns_of ns ≤ no_column

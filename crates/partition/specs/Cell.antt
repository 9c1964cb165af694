-- The rows of document 01's "Table" as cells, the lowest yes row and the recovery, over any test `fits` of a load and the ceilings ns.
use Rattle.std.specs.Prelude.{ℕ, zero, suc, List, [], ◌∷◌, Bool, not, cond, ◌&&◌, eqb}
use Rattle.loads.specs.Load.{within, less}
use Rattle.loads.specs.Column.{load_of}

-- what a cell holds that says no
abbrev pub no_column : ℕ
no_column = 65535

abbrev pub says_yes : ℕ → Bool
says_yes c = not (eqb c no_column)

-- the lowest of a, a + 1, .. that passes, of f numbers; `none` if there is none
unfoldable pub lowest : (ℕ → Bool) → ℕ → ℕ → ℕ → ℕ
lowest p none zero a = none
lowest p none (suc f) a =
    let later = lowest p none f (suc a) in
    cond (p a) a later

-- column p may precede column c: no count of p's load is above that of c's, the row before says yes at p, and the difference fits.
-- Never source 001's max{0, ..}, by which a predecessor may hold more of a type than the load does
unfoldable pub precedes : (List ℕ → Bool) → List ℕ → (ℕ → ℕ) → ℕ → ℕ → Bool
precedes fits ns before c p =
    let yes_before = says_yes (before p) in
    let difference_fits = fits (less (load_of ns c) (load_of ns p)) in
    within (load_of ns p) (load_of ns c) && difference_fits && yes_before

-- the cell of row i, column c. A column that precedes c is at most c, so the search ends there
unfoldable pub cell : (List ℕ → Bool) → List ℕ → ℕ → ℕ → ℕ
cell fits ns zero c = cond (eqb c 0) 0 no_column
cell fits ns (suc i) c = lowest (precedes fits ns (cell fits ns i) c) no_column (suc c) 0

-- the lowest of the rows 0 to m that says yes at column c; m + 1 if there is none
unfoldable pub lowest_row : (List ℕ → Bool) → List ℕ → ℕ → ℕ → ℕ
lowest_row fits ns m c = lowest (λ (i : ℕ). says_yes (cell fits ns i c)) (suc m) (suc m) 0

-- document 01's recovery: row i gets the load less that of the cell's column, the rest is found the same way from row i - 1 at that column.
-- `later` are the loads of the rows past i
unfoldable pub recover : (List ℕ → Bool) → List ℕ → ℕ → ℕ → List (List ℕ) → List (List ℕ)
recover fits ns zero c later = later
recover fits ns (suc i) c later =
    let p = cell fits ns (suc i) c in
    recover fits ns i p (less (load_of ns c) (load_of ns p) ∷ later)

-- the recovery of column c, row by row: the load of row i is the i-th, up to the lowest of the rows 0 to m that says yes
unfoldable pub recovery : (List ℕ → Bool) → List ℕ → ℕ → ℕ → List (List ℕ)
recovery fits ns m c = recover fits ns (lowest_row fits ns m c) c []

-- Request 2026-05, "How long a fill may take", with 2026-10: the pairs that a fill tries, listed as the requests say them.
use Rattle.std.specs.Prelude.{ℕ, List, [], ◌∷◌, ◌++◌, map, Bool, cond, length, leb, eqb}
use Rattle.system.specs.declared.System.{System}
use Rattle.system.specs.Values.{ceilings_of}
use Rattle.system.specs.Limits.{columns_of, columns}
use Rattle.loads.specs.Load.{within}
use Rattle.loads.specs.Column.{load_of}
use Rattle.partition.specs.Assignment.{numbers_from}
use Rattle.partition.specs.ForSystem.{cell_for}
use Rattle.table.specs.Parts.{lowest_for}

-- those of a list that pass the test, in their order
unfoldable pub those : (ℕ → Bool) → List ℕ → List ℕ
those p [] = []
those p (a ∷ rest) = cond (p a) (a ∷ those p rest) (those p rest)

-- a list up to the entry that is `last`, which belongs to it; all of it where there is none
unfoldable pub up_to_one : ℕ → List ℕ → List ℕ
up_to_one last [] = []
up_to_one last (a ∷ rest) = a ∷ cond (eqb a last) [] (up_to_one last rest)

-- what `each` lists for every one of a list, one after another
unfoldable pub for_each : {A : Type 0} → List ℕ → (ℕ → List A) → List A
for_each {A = A} [] each = []
for_each {A = A} (a ∷ rest) each = each a ++ for_each rest each

-- the request's "columns with no greater count": those whose load has no count above that of column c, lowest first
abbrev pub columns_under : List ℕ → ℕ → List ℕ
columns_under ns c = those (λ (p : ℕ). within (load_of ns p) (load_of ns c)) (numbers_from 0 (columns_of ns))

-- "from the lowest up to the one accepted or to the last": a cell that says no holds 65,535, which is no column
abbrev pub tried_at : System → ℕ → ℕ → List ℕ
tried_at y i c = up_to_one (cell_for y i c) (columns_under (ceilings_of y) c)

-- a pair that was tried: in this row, a column and one that may precede it
pub record Pair : Type 0 where
  pub row : ℕ
  pub column : ℕ
  pub tried : ℕ

-- the pairs tried for a cell
abbrev pub cell_pairs : System → ℕ → ℕ → List Pair
cell_pairs y i c = map (λ (p : ℕ). record { row = i; column = c; tried = p }) (tried_at y i c)

-- "Pairs are counted only for columns without a row yet": while row i is filled, those whose lowest yes row is not below i.
-- Column 0 has row 0, so that it never counts
abbrev pub waiting : System → ℕ → ℕ → List ℕ
waiting y r i = those (λ (c : ℕ). leb i (lowest_for y r c)) (numbers_from 0 (columns y))

abbrev pub row_counted : System → ℕ → ℕ → List Pair
row_counted y r i = for_each (waiting y r i) (cell_pairs y i)

-- for each row from 1 to r
unfoldable pub pairs_counted : System → ℕ → List Pair
pairs_counted y r = for_each (numbers_from 1 r) (row_counted y r)

-- their number, which the fill reports
abbrev pub counted_of : System → ℕ → ℕ
counted_of y r = length (pairs_counted y r)

-- What the functions that fill the two parts rely on and promise. Inner contracts cite this; nothing here is part of a request.
use Rattle.std.specs.Prelude.{ℕ, zero, suc, ◌+◌, ◌-◌, ◌*◌, ◌≤◌, ◌<◌, List, [], ◌∷◌, Bool, true, false, cond, ◌&&◌, ◌≡◌, length, get_or, leb, eqb}
use Rattle.system.specs.declared.System.{System}
use Rattle.system.specs.Values.{ceilings_of}
use Rattle.system.specs.Limits.{columns_of, columns, column_limit, keeps_limits}
use Rattle.loads.specs.Load.{within, fits_engine}
use Rattle.loads.specs.Column.{column_of, load_of}
use Rattle.partition.specs.Assignment.{numbers_from}
use Rattle.partition.specs.Cell.{no_column}
use Rattle.table.specs.Pairs.{Pair, for_each, cell_pairs}
use Rattle.table.specs.declared.Entry.{Entry}
use Rattle.table.specs.Parts.{lowest_for, row_at, predecessor_at}

-- by the row part alone: the row of column p is at most `bound`, and that of the difference from column c at most 1
abbrev pub seen_by : List ℕ → ℕ → ℕ → ℕ → Bool
seen_by rows bound c p = leb (get_or rows p 0) bound && leb (get_or rows (c - p) 0) 1

-- the larger of two numbers
abbrev pub larger : ℕ → ℕ → ℕ
larger a b = cond (leb a b) b a

-- the largest row of column c less one instance, over the types that its load x has; s is the stride of the first type of the list
unfoldable pub most_below : List ℕ → ℕ → ℕ → List ℕ → List ℕ → ℕ
most_below rows c s [] xs = 0
most_below rows c s (n ∷ ns) [] = 0
most_below rows c s (n ∷ ns) (x ∷ xs) =
    let later = most_below rows c (s * (n + 1)) ns xs in
    cond (eqb x 0) later (larger (get_or rows (c - s) 0) later)

-- the entries that a run reads lie in the part
pub record RunIn (rows : List ℕ) (c from end : ℕ) : Type 0 where
  pub rising : from ≤ end
  pub few : end ≤ no_column
  pub reach : end ≤ c + 1
  pub inside : c < length rows

-- x is the load of column c, and the entries up to it lie in the part
pub record ScanIn (rows : List ℕ) (c : ℕ) (ns x : List ℕ) : Type 0 where
  pub under : within x ns ≡ true
  pub few : columns_of ns ≤ column_limit
  pub column : column_of ns x ≡ c
  pub inside : c < length rows

-- a part of what fits fits, by the row part alone: up to column c, where the row of a part passes 1, so does the row of the whole
abbrev pub PartsFit : List ℕ → ℕ → List ℕ → Type 0
PartsFit rows c ns = (p q : ℕ) → p ≤ q → q ≤ c → within (load_of ns p) (load_of ns q) ≡ true → 1 < get_or rows p 0 → 1 < get_or rows q 0

-- where the entries of column c are wanted: the columns before it have their rows, and its own row says none
pub record RowsTo (y : System) (r c : ℕ) (rows : List ℕ) : Type 0 where
  pub limits : keeps_limits y ≡ true
  pub few : r ≤ y.engines
  pub inside : c < columns y
  pub room : columns y ≤ length rows
  pub holds : (p : ℕ) → p < c → get_or rows p 0 ≡ row_at y r p
  pub none : get_or rows c 0 ≡ y.engines + 1

pub record EntryWanted (rows : List ℕ) (y : System) (r c : ℕ) (ns x : List ℕ) : Type 0 where
  pub filled : RowsTo y r c rows
  pub ceilings : ns ≡ ceilings_of y
  pub load : x ≡ load_of (ceilings_of y) c

-- where two scans find the entries: the load does not fit, and the largest row of column c less one instance is one from 1 to r
pub record ScansWanted (rows : List ℕ) (y : System) (r c : ℕ) (ns x : List ℕ) (most under : ℕ) : Type 0 where
  pub wanted : EntryWanted rows y r c ns x
  pub past : 0 < c
  pub largest : most ≡ most_below rows c 1 ns x
  pub some : 1 ≤ most
  pub few : most ≤ r
  pub unfit : fits_engine y x ≡ false
  pub all : under ≡ columns_of x

-- the pairs that are counted for column c, over all rows
abbrev pub column_counted : System → ℕ → ℕ → ℕ
column_counted y r c = length (for_each (numbers_from 1 r) (λ (i : ℕ). cond (leb i (lowest_for y r c)) (cell_pairs y i c) []))

-- the entries of column c in both parts, with these pairs
abbrev pub entry_of : System → ℕ → ℕ → Entry
entry_of y r c = record { row = row_at y r c; predecessor = predecessor_at y r c; counted = column_counted y r c }

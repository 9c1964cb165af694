-- The columns under a load, lowest first, as the code walks them. Inner contracts cite this; nothing here is part of document 01.
use Rattle.std.specs.Prelude.{ℕ, zero, suc, ◌+◌, ◌-◌, ◌*◌, List, [], ◌∷◌, Bool, cond, ◌&&◌, ◌≡◌, get_or, eqb, ltb, Option, None, Some}
use Rattle.system.specs.Limits.{columns_of, type_limit}
use Rattle.loads.specs.Load.{within}
use Rattle.loads.specs.Column.{load_of}
use Rattle.partition.specs.Cell.{no_column, lowest}
use Rattle.table.specs.declared.Found.{Found}

-- column p is one to visit, its load having no count above that of x, and passes the test
unfoldable pub candidate : (ℕ → Bool) → List ℕ → List ℕ → ℕ → Bool
candidate test ns x p = within (load_of ns p) x && test p

-- how many of the columns below b are ones to visit
unfoldable pub visited_to : List ℕ → List ℕ → ℕ → ℕ
visited_to ns x zero = 0
visited_to ns x (suc b) = visited_to ns x b + cond (within (load_of ns b) x) 1 0

-- the number p, where m says that there is none
abbrev pub some_but : ℕ → ℕ → Option ℕ
some_but m p = cond (eqb p m) None (Some p)

-- the column that is found, where 65,535 says that there is none
abbrev pub column_found : ℕ → Option ℕ
column_found p = some_but no_column p

-- what a search for a predecessor of the load x answers where it found column p, 65,535 for none: those tried are the columns to visit up to p, or all of them
abbrev pub found_at : List ℕ → List ℕ → ℕ → Found
found_at ns x p = record { column = column_found p; tried = visited_to ns x (cond (eqb p no_column) (columns_of ns) (p + 1)) }

-- the next counts after x, in order of columns, that are not above the tops: the first that is below its top rises, those before it become 0
unfoldable pub next_under : List ℕ → List ℕ → List ℕ
next_under [] xs = []
next_under (t ∷ ts) [] = []
next_under (t ∷ ts) (x ∷ xs) = cond (ltb x t) ((x + 1) ∷ xs) (0 ∷ next_under ts xs)

-- the index of the count that rises then; the number of tops where none does
unfoldable pub rises_at : List ℕ → List ℕ → ℕ
rises_at [] xs = 0
rises_at (t ∷ ts) [] = 0
rises_at (t ∷ ts) (x ∷ xs) = cond (ltb x t) 0 (suc (rises_at ts xs))

-- the index of the count that rises, of six types
abbrev pub index_risen : ℕ → Option ℕ
index_risen t = some_but type_limit t

-- for each type its stride less the columns that the counts before it take at their tops
unfoldable pub jumps_from : ℕ → ℕ → List ℕ → List ℕ → List ℕ
jumps_from stride passed [] ts = []
jumps_from stride passed (n ∷ ns) [] = []
jumps_from stride passed (n ∷ ns) (t ∷ ts) = (stride - passed) ∷ jumps_from (stride * (n + 1)) (passed + t * stride) ns ts

-- nothing passes in the first run of columns, those with some or none of the first type and nothing else
abbrev pub NoneInFirst : (ℕ → Bool) → List ℕ → Type 0
NoneInFirst test x = lowest test no_column (get_or x 0 0 + 1 - 0) 0 ≡ no_column

-- The column that stands for a load within the ceilings n(1), n(2), ..: document 01's "Table".
use Rattle.std.specs.Prelude.{ℕ, ◌+◌, ◌*◌, ◌/◌, ◌%◌, List, [], ◌∷◌}

-- the sum of count(t) × stride(t), where stride(t+1) = stride(t) × (n(t)+1)
unfoldable pub column_from : ℕ → List ℕ → List ℕ → ℕ
column_from stride [] xs = 0
column_from stride (n ∷ ns) [] = 0
column_from stride (n ∷ ns) (x ∷ xs) = x * stride + column_from (stride * (n + 1)) ns xs

-- "column = sum of count(t) × stride(t), where stride(1) = 1"
abbrev pub column_of : List ℕ → List ℕ → ℕ
column_of ns xs = column_from 1 ns xs

-- the load that a column stands for
unfoldable pub load_of : List ℕ → ℕ → List ℕ
load_of [] c = []
load_of (n ∷ ns) c = (c % (n + 1)) ∷ load_of ns (c / (n + 1))

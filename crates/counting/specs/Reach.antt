-- How far the columns go that a sum over columns visits.
use Rattle.std.specs.Prelude.{ℕ, zero, suc, ◌+◌, ◌*◌, List, get_or}
use Rattle.counting.specs.Tally.{stride_at}

-- the column of all instances of the types below index t: from column p, with the counts of these types still to be chosen, the last column visited is p +
-- reach_of ns x t
unfoldable pub reach_of : List ℕ → List ℕ → ℕ → ℕ
reach_of ns x zero = 0
reach_of ns x (suc t) = reach_of ns x t + get_or x t 0 * stride_at ns t

-- What the functions that split and join rely on and promise. Inner contracts cite this; nothing here is part of a request.
use Rattle.std.specs.Prelude.{ℕ, ◌+◌, ◌-◌, ◌*◌, ◌≤◌, ◌<◌, List, ◌++◌, true, cond, ◌&&◌, ◌≡◌, length, get_or, leb, Option, None, Some}
use Rattle.std.proofs.Math.Seq.{paste}
use Rattle.system.specs.declared.System.{System}
use Rattle.system.specs.Values.{ceilings_of}
use Rattle.system.specs.Limits.{engine_limit}
use Rattle.partition.specs.Assignment.{engines_to}
use Rattle.partition.specs.Kinds.{no_split, engines_after}
use Rattle.table.specs.declared.Placement.{Placement}
use Rattle.table.specs.Chain.{PartsShow}
use Rattle.kinds.specs.declared.Mixed.{Mixed}
use Rattle.kinds.specs.Mixing.{padded}

-- partition's `split_cost`, of the rows a and b that the two kinds' columns have, of m and n engines
unfoldable pub cost_of : ℕ → ℕ → ℕ → ℕ → ℕ
cost_of a b m n = cond (leb a m && leb b n) ((a + b) * 32 + b) no_split

-- by the row parts of both kinds, where column `last` is that of all instances
abbrev pub cost_at : List ℕ → List ℕ → ℕ → ℕ → ℕ → ℕ → ℕ
cost_at rows rows2 last m n p = cost_of (get_or rows p 0) (get_or rows2 (last - p) 0) m n

-- both row parts have these columns
pub record SplitIn (rows rows2 : List ℕ) (last m n : ℕ) : Type 0 where
  pub inside : last < length rows
  pub inside2 : last < length rows2
  pub few : m ≤ engine_limit
  pub few2 : n ≤ engine_limit

-- the parts of each kind show its entries
pub record BothShow (first second : System) (rows predecessors rows2 predecessors2 : List ℕ) : Type 0 where
  pub one : PartsShow first first.engines rows predecessors
  pub other : PartsShow second second.engines rows2 predecessors2
  pub same_ceilings : ceilings_of second ≡ ceilings_of first
  pub few : first.engines + second.engines ≤ engine_limit

-- two placements as one, m being the number of engines of the first kind; nothing, where one of them places nothing
unfoldable pub joined_placement : Option Placement → Option Placement → ℕ → Option Mixed
joined_placement None b m = None
joined_placement (Some a) None m = None
joined_placement (Some a) (Some b) m =
    Some (record { used = a.used + b.used; numbers = padded 0 (engines_to a.used ++ engines_after m b.used); loads = paste a.loads a.used b.loads b.used })

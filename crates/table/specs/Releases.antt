-- Request 2026-09 "over the table as it is": the fewest engines of two loads and of both, read in the rows of a filled table.
use Rattle.std.specs.Prelude.{ℕ, ◌≤◌, List, ◌≡◌}
use Rattle.system.specs.declared.System.{System}
use Rattle.partition.specs.Lent.{Lent}
use Rattle.partition.specs.Releases.{Bounds, TogetherAtMost, instances_in, AddsWithin}
use Rattle.table.specs.Meaning.{column_no, row_of}

-- k is the lowest of the rows 0 to r that says yes at the column of count(t) instances of each type
pub record LowestYes (y : System) (r : ℕ) (table : Lent) (count : ℕ → ℕ) (k : ℕ) : Type 0 where
  pub within : k ≤ r
  pub says : row_of table (column_no y count) ≡ k

-- where two loads add up within the ceilings and have such rows, which together are at most all rows past row 0, both together have one, within the bounds
abbrev pub TableReleases : System → ℕ → Lent → Type 0
TableReleases y r table =
    (a b both : List ℕ) (first second : ℕ) → AddsWithin y a b both → LowestYes y r table (instances_in a) first → LowestYes y r table (instances_in b) second
    → TogetherAtMost first second r
    → (together : ℕ) × LowestYes y r table (instances_in both) together × Bounds first second together

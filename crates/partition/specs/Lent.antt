-- What is lent to a call that fills the table (request 2026-10): two parts of 16-bit numbers, for each column its lowest yes row and the predecessor at that
-- row.
use Rattle.std.specs.Prelude.{ℕ, List}

pub record Lent : Type 0 where
  pub rows : List ℕ
  pub predecessors : List ℕ

abbrev pub lent : List ℕ → List ℕ → Lent
lent rows predecessors = record { rows = rows; predecessors = predecessors }

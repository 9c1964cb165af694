-- Request 2026-09 on a board: "the engines in service" of the two releases are those of 1 to m without a mark, and the rows are those by which the board is
-- filled and packed.
use Rattle.std.specs.Prelude.{ℕ, ◌≡◌, ◌↔◌, length}
use Rattle.partition.specs.Releases.{Serving, On, RowIsFewest, TwoReleases}
use Rattle.board.specs.declared.Board.{Board}
use Rattle.board.specs.Boards.{engines_of}
use Rattle.board.specs.Words.{EngineIn, serving_all}

pub record BoardReleases (b : Board) : Type 0 where
  pub serving : Serving b.system (engines_of b)
  pub exactly : (e : ℕ) → On (engines_of b) e ↔ EngineIn b e
  pub number : length (engines_of b) ≡ serving_all b
  pub rows : RowIsFewest b.system (engines_of b)
  pub together : TwoReleases b.system (engines_of b)

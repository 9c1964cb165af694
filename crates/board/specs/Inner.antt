-- Words of the proofs, for the contracts of inner functions alone: what is known of a call once its checks have passed. No reader of the calls needs them.
use Rattle.std.specs.Prelude.{ℕ, true, ◌≡◌}
use Rattle.board.specs.declared.Board.{Board}
use Rattle.board.specs.Truth.{true_board}
use Rattle.board.specs.Calls.{known_type, known_engine, under_ceiling}

-- a newcomer that the checks let through: the board is true, and the type is one of the system's, below its ceiling
pub record CheckedNewcomer (b : Board) (t : ℕ) : Type 0 where
  pub is_true : true_board b ≡ true
  pub known : known_type b.system t ≡ true
  pub below : under_ceiling b t ≡ true

-- a true board, and the number of one of its engines
pub record OnEngine (b : Board) (e : ℕ) : Type 0 where
  pub is_true : true_board b ≡ true
  pub known : known_engine b.system e ≡ true

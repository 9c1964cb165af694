-- The truth test decides.
use mathlib.Core.Path.{sym, ◌∙◌}
use Rattle.board_code.proofs.checks.board_check.Goals as goal

pub returns-then-true_board : goal.returns-then-true_board
returns-then-true_board c = rw (sym c.true_board.ensures.value ∙ c.if-true_board.true)

pub returns : goal.returns
returns c = rw (sym c.true_board.ensures.value ∙ c.if-true_board.false)

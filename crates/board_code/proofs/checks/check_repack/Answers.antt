-- The checks in order: where one fails the call is refused with its number, where all before it passed the next decides.
use Rattle.std.proofs.Common.{Err}
use mathlib.Core.Path.{◌≡◌, ap, sym, ◌∙◌}
use borrow.Author.Rules.{rules}
use Rattle.system.specs.Outcome.{from_state, checked_of}
use Rattle.system.proofs.Checks.{check-passed, fails-and_then, passes-and_then}
use Rattle.board.specs.Truth.{true_board}
use Rattle.board.specs.Calls.{check_repack}
use Rattle.board.proofs.Ready.{columns-most}
use Rattle.board_code.proofs.checks.check_repack.Goals as goal

pub returns-in_err-board_check : goal.returns-in_err-board_check
unfolding check_repack
returns-in_err-board_check c =
    let told : c.from_residual.result ≡ Err c.in_err-board_check.field-0.0 = search rules in
    ap checked_of told ∙ fails-and_then c.in_err-board_check.field-0.0 _ _ (ap checked_of (sym c.in_err-board_check.was) ∙ c.board_check.ensures)

pub table_check-requires : goal.table_check-requires
table_check-requires c =
    columns-most c.args.b (check-passed (true_board c.args.b) from_state 20 (ap checked_of (sym c.in_ok-board_check.was) ∙ c.board_check.ensures))

pub returns : goal.returns
unfolding check_repack
returns c = passes-and_then _ _ _ (ap checked_of (sym c.in_ok-board_check.was) ∙ c.board_check.ensures) c.table_check.ensures

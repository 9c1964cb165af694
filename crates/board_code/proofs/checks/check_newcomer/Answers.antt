-- The checks in order: where one fails the call is refused with its number, where all before it passed the next decides.
use Rattle.std.proofs.Common.{Err}
use mathlib.Core.Path.{◌≡◌, ap, sym, ◌∙◌}
use borrow.Author.Rules.{rules}
use Rattle.system.specs.Outcome.{from_input, from_state, checked_of}
use Rattle.system.proofs.Checks.{check-passed, fails-and_then, passes-and_then}
use Rattle.board.specs.Truth.{true_board}
use Rattle.board.specs.Calls.{known_type, check_newcomer}
use Rattle.board.proofs.Ready.{columns-most}
use Rattle.board_code.proofs.checks.check_newcomer.Goals as goal

pub returns-in_err-board_check : goal.returns-in_err-board_check
unfolding check_newcomer
returns-in_err-board_check c =
    let told : c.from_residual.result ≡ Err c.in_err-board_check.field-0.0 = search rules in
    ap checked_of told ∙ fails-and_then c.in_err-board_check.field-0.0 _ _ (ap checked_of (sym c.in_err-board_check.was) ∙ c.board_check.ensures)

pub returns-in_err-type_check : goal.returns-in_err-type_check
unfolding check_newcomer
returns-in_err-type_check c =
    let told : c.from_residual-in_err-type_check.result ≡ Err c.in_err-type_check.field-0.0 = search rules in
    ap checked_of told ∙ passes-and_then _ _ _ (ap checked_of (sym c.in_ok-board_check.was) ∙ c.board_check.ensures)
    (fails-and_then c.in_err-type_check.field-0.0 _ _ (ap checked_of (sym c.in_err-type_check.was) ∙ c.type_check.ensures))

pub table_check-requires : goal.table_check-requires
table_check-requires c =
    columns-most c.args.b (check-passed (true_board c.args.b) from_state 20 (ap checked_of (sym c.in_ok-board_check.was) ∙ c.board_check.ensures))

pub returns-in_err-table_check : goal.returns-in_err-table_check
unfolding check_newcomer
returns-in_err-table_check c =
    let told : c.from_residual-in_err-table_check.result ≡ Err c.in_err-table_check.field-0.0 = search rules in
    ap checked_of told ∙ passes-and_then _ _ _ (ap checked_of (sym c.in_ok-board_check.was) ∙ c.board_check.ensures)
    (passes-and_then _ _ _ (ap checked_of (sym c.in_ok-type_check.was) ∙ c.type_check.ensures)
    (fails-and_then c.in_err-table_check.field-0.0 _ _ (ap checked_of (sym c.in_err-table_check.was) ∙ c.table_check.ensures)))

pub ceiling_check-requires : goal.ceiling_check-requires
ceiling_check-requires c =
    let a = c.args in (
      check-passed (true_board a.b) from_state 20 (ap checked_of (sym c.in_ok-board_check.was) ∙ c.board_check.ensures),
      check-passed (known_type a.b.system a.t) from_input 13 (ap checked_of (sym c.in_ok-type_check.was) ∙ c.type_check.ensures),
    )

pub returns : goal.returns
unfolding check_newcomer
returns c =
    passes-and_then _ _ _ (ap checked_of (sym c.in_ok-board_check.was) ∙ c.board_check.ensures)
    (passes-and_then _ _ _ (ap checked_of (sym c.in_ok-type_check.was) ∙ c.type_check.ensures)
    (passes-and_then _ _ _ (ap checked_of (sym c.in_ok-table_check.was) ∙ c.table_check.ensures) c.ceiling_check.ensures))

-- The checks in order: where one fails the call is refused with its number, where all before it passed the next decides.
use Rattle.std.proofs.Common.{Err}
use mathlib.Core.Path.{◌≡◌, ap, sym, ◌∙◌}
use borrow.Author.Rules.{rules}
use Rattle.system.specs.Outcome.{from_input, from_state, checked_of}
use Rattle.system.proofs.Checks.{check-passed, fails-and_then, passes-and_then}
use Rattle.board.specs.Truth.{true_board}
use Rattle.board.specs.Calls.{known_engine, check_withdraw}
use Rattle.board_code.proofs.checks.check_withdraw.Goals as goal

pub returns-in_err-board_check : goal.returns-in_err-board_check
unfolding check_withdraw
returns-in_err-board_check c =
    let told : c.from_residual.result ≡ Err c.in_err-board_check.field-0.0 = search rules in
    ap checked_of told ∙ fails-and_then c.in_err-board_check.field-0.0 _ _ (ap checked_of (sym c.in_err-board_check.was) ∙ c.board_check.ensures)

pub returns-in_err-engine_check : goal.returns-in_err-engine_check
unfolding check_withdraw
returns-in_err-engine_check c =
    let told : c.from_residual-in_err-engine_check.result ≡ Err c.in_err-engine_check.field-0.0 = search rules in
    ap checked_of told ∙ passes-and_then _ _ _ (ap checked_of (sym c.in_ok-board_check.was) ∙ c.board_check.ensures)
    (fails-and_then c.in_err-engine_check.field-0.0 _ _ (ap checked_of (sym c.in_err-engine_check.was) ∙ c.engine_check.ensures))

pub state_check-requires : goal.state_check-requires
state_check-requires c =
    let a = c.args in record {
      is_true = check-passed (true_board a.b) from_state 20 (ap checked_of (sym c.in_ok-board_check.was) ∙ c.board_check.ensures);
      known = check-passed (known_engine a.b.system a.e) from_input 14 (ap checked_of (sym c.in_ok-engine_check.was) ∙ c.engine_check.ensures);
    }

pub returns-in_err-state_check : goal.returns-in_err-state_check
unfolding check_withdraw
returns-in_err-state_check c =
    let told : c.from_residual-in_err-state_check.result ≡ Err c.in_err-state_check.field-0.0 = search rules in
    ap checked_of told ∙ passes-and_then _ _ _ (ap checked_of (sym c.in_ok-board_check.was) ∙ c.board_check.ensures)
    (passes-and_then _ _ _ (ap checked_of (sym c.in_ok-engine_check.was) ∙ c.engine_check.ensures)
    (fails-and_then c.in_err-state_check.field-0.0 _ _ (ap checked_of (sym c.in_err-state_check.was) ∙ c.state_check.ensures)))

pub empty_check-requires : goal.empty_check-requires
empty_check-requires c =
    let a = c.args in record {
      is_true = check-passed (true_board a.b) from_state 20 (ap checked_of (sym c.in_ok-board_check.was) ∙ c.board_check.ensures);
      known = check-passed (known_engine a.b.system a.e) from_input 14 (ap checked_of (sym c.in_ok-engine_check.was) ∙ c.engine_check.ensures);
    }

pub returns : goal.returns
unfolding check_withdraw
returns c =
    passes-and_then _ _ _ (ap checked_of (sym c.in_ok-board_check.was) ∙ c.board_check.ensures)
    (passes-and_then _ _ _ (ap checked_of (sym c.in_ok-engine_check.was) ∙ c.engine_check.ensures)
    (passes-and_then _ _ _ (ap checked_of (sym c.in_ok-state_check.was) ∙ c.state_check.ensures) c.empty_check.ensures))

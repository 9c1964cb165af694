-- The checks in order: where one fails the call is refused with its number, where all before it passed the next decides.
use Rattle.std.proofs.Common.{Err}
use mathlib.Core.Path.{◌≡◌, ap, sym, ◌∙◌}
use borrow.Author.Rules.{rules}
use Rattle.system.specs.Outcome.{from_input, from_state, checked_of}
use Rattle.system.proofs.Checks.{check-passed, fails-and_then, passes-and_then}
use Rattle.board.specs.Truth.{true_board}
use Rattle.board.specs.Calls.{known_type, known_engine, check_retire}
use Rattle.board_code.proofs.checks.check_retire.Goals as goal

pub returns-in_err-board_check : goal.returns-in_err-board_check
unfolding check_retire
returns-in_err-board_check c =
    let told : c.from_residual.result ≡ Err c.in_err-board_check.field-0.0 = search rules in
    ap checked_of told ∙ fails-and_then c.in_err-board_check.field-0.0 _ _ (ap checked_of (sym c.in_err-board_check.was) ∙ c.board_check.ensures)

pub returns-in_err-type_check : goal.returns-in_err-type_check
unfolding check_retire
returns-in_err-type_check c =
    let told : c.from_residual-in_err-type_check.result ≡ Err c.in_err-type_check.field-0.0 = search rules in
    ap checked_of told ∙ passes-and_then _ _ _ (ap checked_of (sym c.in_ok-board_check.was) ∙ c.board_check.ensures)
    (fails-and_then c.in_err-type_check.field-0.0 _ _ (ap checked_of (sym c.in_err-type_check.was) ∙ c.type_check.ensures))

pub returns-in_err-engine_check : goal.returns-in_err-engine_check
unfolding check_retire
returns-in_err-engine_check c =
    let told : c.from_residual-in_err-engine_check.result ≡ Err c.in_err-engine_check.field-0.0 = search rules in
    ap checked_of told ∙ passes-and_then _ _ _ (ap checked_of (sym c.in_ok-board_check.was) ∙ c.board_check.ensures)
    (passes-and_then _ _ _ (ap checked_of (sym c.in_ok-type_check.was) ∙ c.type_check.ensures)
    (fails-and_then c.in_err-engine_check.field-0.0 _ _ (ap checked_of (sym c.in_err-engine_check.was) ∙ c.engine_check.ensures)))

pub held_check-requires : goal.held_check-requires
held_check-requires c =
    let a = c.args in (
      record {
        is_true = check-passed (true_board a.b) from_state 20 (ap checked_of (sym c.in_ok-board_check.was) ∙ c.board_check.ensures);
        known = check-passed (known_engine a.b.system a.e) from_input 14 (ap checked_of (sym c.in_ok-engine_check.was) ∙ c.engine_check.ensures);
      },
      check-passed (known_type a.b.system a.t) from_input 13 (ap checked_of (sym c.in_ok-type_check.was) ∙ c.type_check.ensures),
    )

pub returns : goal.returns
unfolding check_retire
returns c =
    passes-and_then _ _ _ (ap checked_of (sym c.in_ok-board_check.was) ∙ c.board_check.ensures)
    (passes-and_then _ _ _ (ap checked_of (sym c.in_ok-type_check.was) ∙ c.type_check.ensures)
    (passes-and_then _ _ _ (ap checked_of (sym c.in_ok-engine_check.was) ∙ c.engine_check.ensures) c.held_check.ensures))

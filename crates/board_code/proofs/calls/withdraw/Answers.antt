-- Refused by the checks, or the engine goes out of service.
use mathlib.Core.Path.{refl, ap, sym, ◌∙◌}
use mathlib.Core.List.{[]}
use Rattle.system.specs.Outcome.{outcome_of, checked_of}
use Rattle.partition.specs.Lent.{lent}
use Rattle.board.specs.Calls.{check_withdraw, withdraw_of}
use Rattle.board.proofs.Ready.{engine-in}
use Rattle.board.proofs.Exits.{checks-fail, checks-pass, withdraw-passed}
use Rattle.board.proofs.Promises.{withdraw-promises}
use Rattle.board_code.proofs.calls.withdraw.Goals as goal

pub returns-in-Err : goal.returns-in-Err
unfolding withdraw_of
returns-in-Err c =
    let a = c.args in
    let p = withdraw-promises a.b a.e c.refuse.result
    (checks-fail a.b (lent [] []) _ c.refuse.result (check_withdraw a.b a.e) c.in-Err.why
    (ap checked_of (sym c.in-Err.is) ∙ c.check_withdraw.ensures)
    c.refuse.ensures.0
    c.refuse.ensures.1) in
    record { does = p.0; withdraw_promises = p.1 }

pub move_engine-requires : goal.move_engine-requires
move_engine-requires c =
    let on = withdraw-passed c.args.b c.args.e (ap checked_of (sym c.in_default.is) ∙ c.check_withdraw.ensures) in
    engine-in _ on.is_true _ on.known

pub returns : goal.returns
unfolding withdraw_of
returns c =
    let a = c.args in
    let p = withdraw-promises a.b a.e c.move_engine.result
    (checks-pass a.b (lent [] []) _ c.move_engine.result (check_withdraw a.b a.e) (lent [] [])
    (ap checked_of (sym c.in_default.is) ∙ c.check_withdraw.ensures)
    (record { answer = ap outcome_of c.move_engine.ensures.0; board = c.move_engine.ensures.1; table = refl })) in
    record { does = p.0; withdraw_promises = p.1 }

-- Refused by the checks, or one instance leaves.
use mathlib.Core.Path.{refl, ap, sym, ◌∙◌}
use mathlib.Core.List.{[]}
use Rattle.system.specs.Outcome.{outcome_of, checked_of}
use Rattle.partition.specs.Lent.{lent}
use Rattle.board.specs.Calls.{check_retire, retire_of}
use Rattle.board.proofs.Exits.{checks-fail, checks-pass, leaver-passed}
use Rattle.board.proofs.Promises.{retire-promises}
use Rattle.board_code.proofs.calls.retire.Goals as goal

pub returns-in-Err : goal.returns-in-Err
unfolding retire_of
returns-in-Err c =
    let a = c.args in
    let p = retire-promises a.b a.t a.e c.refuse.result
    (checks-fail a.b (lent [] []) _ c.refuse.result (check_retire a.b a.t a.e) c.in-Err.why
    (ap checked_of (sym c.in-Err.is) ∙ c.check_retire.ensures)
    c.refuse.ensures.0
    c.refuse.ensures.1) in
    record { does = p.0; retire_promises = p.1 }

pub leave-requires : goal.leave-requires
leave-requires c = leaver-passed _ _ _ (ap checked_of (sym c.in_default.is) ∙ c.check_retire.ensures)

pub returns : goal.returns
unfolding retire_of
returns c =
    let a = c.args in
    let p = retire-promises a.b a.t a.e c.leave.result
    (checks-pass a.b (lent [] []) _ c.leave.result (check_retire a.b a.t a.e) (lent [] [])
    (ap checked_of (sym c.in_default.is) ∙ c.check_retire.ensures)
    (record { answer = ap outcome_of c.leave.ensures.0; board = c.leave.ensures.1; table = refl })) in
    record { does = p.0; retire_promises = p.1 }

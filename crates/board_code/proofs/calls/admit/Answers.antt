-- Refused by the checks; or the place that the search came to decides: no engine, or the engine that the newcomer joins.
use mathlib.Core.Path.{◌≡◌, ap, sym, ◌∙◌}
use lib.ListN.{length}
use Rattle.system.specs.Outcome.{passes, checked_of}
use Rattle.partition.specs.Lent.{lent}
use Rattle.board.specs.Calls.{check_newcomer, first_engine, admit_of}
use Rattle.board.proofs.Exits.{checks-fail, checks-pass, newcomer-passed, newcomer-long, found-takes, admitted-joins, admitted-nowhere}
use Rattle.board.proofs.Promises.{admit-promises}
use Rattle.board_code.proofs.calls.admit.Goals as goal

pub returns-in-Err : goal.returns-in-Err
unfolding admit_of
returns-in-Err c =
    let a = c.args in
    let table = lent a.rows.now a.predecessors.now in
    let p = admit-promises a.b a.t table c.refuse.result table
    (checks-fail a.b table _ c.refuse.result (check_newcomer a.b a.t (length a.rows.now) (length a.predecessors.now)) c.in-Err.why
    (ap checked_of (sym c.in-Err.is) ∙ c.check_newcomer.ensures)
    c.refuse.ensures.0
    c.refuse.ensures.1) in
    record { does = p.0; admit_promises = p.1 }

pub first_engine-requires : goal.first_engine-requires
first_engine-requires c =
    newcomer-passed _ _ (lent c.args.rows.now c.args.predecessors.now) (ap checked_of (sym c.in_default.is) ∙ c.check_newcomer.ensures)

pub no_engine-requires : goal.no_engine-requires
no_engine-requires c =
    let a = c.args in
    let table = lent a.rows.now a.predecessors.now in
    let passed : passes ≡ check_newcomer a.b a.t (length a.rows.now) (length a.predecessors.now) =
    ap checked_of (sym c.in_default.is) ∙ c.check_newcomer.ensures in
    (newcomer-passed a.b a.t table passed, newcomer-long a.b a.t table passed)

pub returns-in_default-first_engine : goal.returns-in_default-first_engine
unfolding admit_of
returns-in_default-first_engine c =
    let a = c.args in
    let table = lent a.rows.now a.predecessors.now in
    let n = c.no_engine in
    let after = lent n.new.rows n.new.predecessors in
    let p = admit-promises a.b a.t table n.result after
    (checks-pass a.b table _ n.result (check_newcomer a.b a.t (length a.rows.now) (length a.predecessors.now)) after
    (ap checked_of (sym c.in_default.is) ∙ c.check_newcomer.ensures)
    (admitted-nowhere a.b a.t table (first_engine a.b a.t) n.result after
    (sym c.in_default-first_engine.is ∙ c.first_engine.ensures)
    n.ensures)) in
    record { does = p.0; admit_promises = p.1 }

pub join-requires : goal.join-requires
join-requires c =
    let a = c.args in
    let n = newcomer-passed a.b a.t (lent a.rows.now a.predecessors.now) (ap checked_of (sym c.in_default.is) ∙ c.check_newcomer.ensures) in
    let t = found-takes a.b a.t c.in-Some.e n.is_true (sym c.in-Some.is ∙ c.first_engine.ensures) in
    (n, t.0, t.1)

pub returns : goal.returns
unfolding admit_of
returns c =
    let a = c.args in
    let table = lent a.rows.now a.predecessors.now in
    let p = admit-promises a.b a.t table c.join.result table
    (checks-pass a.b table _ c.join.result (check_newcomer a.b a.t (length a.rows.now) (length a.predecessors.now)) table
    (ap checked_of (sym c.in_default.is) ∙ c.check_newcomer.ensures)
    (admitted-joins a.b a.t table (first_engine a.b a.t) c.join.result c.in-Some.e
    (sym c.in-Some.is ∙ c.first_engine.ensures)
    c.join.ensures.0
    c.join.ensures.1)) in
    record { does = p.0; admit_promises = p.1 }

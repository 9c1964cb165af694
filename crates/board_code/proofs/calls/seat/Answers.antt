-- Refused by the checks, or all with the newcomer is seated anew.
use mathlib.Core.Path.{◌≡◌, ap, subst, sym, ◌∙◌}
use mathlib.Core.List.{List}
use mathlib.Core.Bool.{true}
use Prim.Native.Nat.{ℕ}
use lib.ListN.{length}
use Rattle.system.specs.Values.{ceilings_of}
use Rattle.loads.specs.Load.{within}
use Rattle.system.specs.Outcome.{passes, checked_of}
use Rattle.partition.specs.Lent.{lent}
use Rattle.board.specs.Calls.{check_newcomer, reseated, seat_of, Does}
use Rattle.board.proofs.Ready.{newcomer-within}
use Rattle.board.proofs.Exits.{checks-fail, checks-pass, newcomer-passed, newcomer-long}
use Rattle.board.proofs.Promises.{seat-promises}
use Rattle.board_code.proofs.calls.seat.Goals as goal

pub returns-in-Err : goal.returns-in-Err
unfolding seat_of
returns-in-Err c =
    let a = c.args in
    let table = lent a.rows.now a.predecessors.now in
    let p = seat-promises a.b a.t table c.refuse.result table
    (checks-fail a.b table _ c.refuse.result (check_newcomer a.b a.t (length a.rows.now) (length a.predecessors.now)) c.in-Err.why
    (ap checked_of (sym c.in-Err.is) ∙ c.check_newcomer.ensures)
    c.refuse.ensures.0
    c.refuse.ensures.1) in
    record { does = p.0; seat_promises = p.1 }

pub with_newcomer-counts-requires : goal.with_newcomer-counts-requires
with_newcomer-counts-requires c =
    newcomer-passed _ _ (lent c.args.rows.now c.args.predecessors.now) (ap checked_of (sym c.in_default.is) ∙ c.check_newcomer.ensures)

pub reseat-requires : goal.reseat-requires
reseat-requires c =
    let a = c.args in
    let table = lent a.rows.now a.predecessors.now in
    let passed : passes ≡ check_newcomer a.b a.t (length a.rows.now) (length a.predecessors.now) =
    ap checked_of (sym c.in_default.is) ∙ c.check_newcomer.ensures in
    let n = newcomer-passed a.b a.t table passed in (
      n.is_true,
      newcomer-long a.b a.t table passed,
      subst (λ (x : List ℕ). within x (ceilings_of a.b.system) ≡ true) (sym c.with_newcomer-counts.ensures) (newcomer-within a.b a.t n),
    )

pub returns : goal.returns
unfolding seat_of
returns c =
    let a = c.args in
    let table = lent a.rows.now a.predecessors.now in
    let r = c.reseat in
    let after = lent r.new.rows r.new.predecessors in
    let p = seat-promises a.b a.t table r.result after
    (checks-pass a.b table _ r.result (check_newcomer a.b a.t (length a.rows.now) (length a.predecessors.now)) after
    (ap checked_of (sym c.in_default.is) ∙ c.check_newcomer.ensures)
    (subst (λ (x : List ℕ). Does (reseated a.b x table) r.result after) c.with_newcomer-counts.ensures r.ensures)) in
    record { does = p.0; seat_promises = p.1 }

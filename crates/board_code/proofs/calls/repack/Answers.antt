-- Refused by the checks, or what stands is seated anew.
use mathlib.Core.Path.{◌≡◌, ap, subst, sym, ◌∙◌}
use mathlib.Core.List.{List}
use mathlib.Core.Bool.{true}
use Prim.Native.Nat.{ℕ}
use lib.ListN.{length}
use Rattle.system.specs.Values.{ceilings_of}
use Rattle.loads.specs.Load.{within}
use Rattle.system.specs.Outcome.{checked_of}
use Rattle.partition.specs.Lent.{lent}
use Rattle.board.specs.Calls.{check_repack, reseated, repack_of, Does}
use Rattle.board.proofs.Ready.{true-within}
use Rattle.board.proofs.Exits.{checks-fail, checks-pass, repack-passed}
use Rattle.board.proofs.Promises.{repack-promises}
use Rattle.board_code.proofs.calls.repack.Goals as goal

pub returns-in-Err : goal.returns-in-Err
unfolding repack_of
returns-in-Err c =
    let a = c.args in
    let table = lent a.rows.now a.predecessors.now in
    let p = repack-promises a.b table c.refuse.result table
    (checks-fail a.b table _ c.refuse.result (check_repack a.b (length a.rows.now) (length a.predecessors.now)) c.in-Err.why
    (ap checked_of (sym c.in-Err.is) ∙ c.check_repack.ensures)
    c.refuse.ensures.0
    c.refuse.ensures.1) in
    record { does = p.0; repack_promises = p.1 }

pub standing_counts-counts-requires : goal.standing_counts-counts-requires
standing_counts-counts-requires c =
    (repack-passed c.args.b (lent c.args.rows.now c.args.predecessors.now) (ap checked_of (sym c.in_default.is) ∙ c.check_repack.ensures)).0

pub reseat-requires : goal.reseat-requires
reseat-requires c =
    let a = c.args in
    let p = repack-passed a.b (lent a.rows.now a.predecessors.now) (ap checked_of (sym c.in_default.is) ∙ c.check_repack.ensures) in (
      p.0,
      p.1,
      subst (λ (x : List ℕ). within x (ceilings_of a.b.system) ≡ true) (sym c.standing_counts-counts.ensures) (true-within a.b p.0),
    )

pub returns : goal.returns
unfolding repack_of
returns c =
    let a = c.args in
    let table = lent a.rows.now a.predecessors.now in
    let r = c.reseat in
    let after = lent r.new.rows r.new.predecessors in
    let p = repack-promises a.b table r.result after
    (checks-pass a.b table _ r.result (check_repack a.b (length a.rows.now) (length a.predecessors.now)) after
    (ap checked_of (sym c.in_default.is) ∙ c.check_repack.ensures)
    (subst (λ (x : List ℕ). Does (reseated a.b x table) r.result after) c.standing_counts-counts.ensures r.ensures)) in
    record { does = p.0; repack_promises = p.1 }

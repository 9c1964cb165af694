-- Each way out is the one that the call is defined to take there (the laws of FromBoard), from what the callees ensure; a call that is the one defined keeps what is promised.
use Rattle.std.proofs.Common.{Err}
use Prim.Native.Nat.{ℕ}
use mathlib.Core.Path.{◌≡◌, sym, ap, ap₂, subst, ◌∙◌}
use mathlib.Core.List.{List}
use mathlib.Core.Bool.{true}
use native.Mathlib.Omega.{arith}
use borrow.Author.Rules.{rules}
use Rattle.system.specs.Values.{ceilings_of}
use Rattle.system.specs.Outcome.{checked_of}
use Rattle.loads.specs.Load.{within}
use Rattle.partition.specs.Lent.{lent}
use Rattle.table.specs.Table.{filled, placement}
use Rattle.board.specs.Boards.{engines_of}
use Rattle.board.specs.Calls.{with_newcomer}
use Rattle.board.proofs.Places.{engines-count}
use Rattle.board.proofs.Ready.{engines-most, may-place, newcomer-within}
use Rattle.board.proofs.Exits.{newcomer-passed, newcomer-long}
use Rattle.causes.proofs.FromBoard.{promises-of, checks-give, cause-gives, cause-found}
use Rattle.causes_code.proofs.calls.why_no_room.Goals as goal

-- 20, 13, 11, 21
pub returns-in_err-check_newcomer : goal.returns-in_err-check_newcomer
returns-in_err-check_newcomer c =
    let table = lent c.args.rows.now c.args.predecessors.now in
    let told : c.from_residual.result ≡ Err c.in_err-check_newcomer.field-0.0 = search rules in
    rw told (promises-of c.args.b c.args.t table (Err c.in_err-check_newcomer.field-0.0) _ (checks-give c.args.b c.args.t table c.in_err-check_newcomer.field-0.0 (ap checked_of (sym c.in_err-check_newcomer.was) ∙ c.check_newcomer.ensures)))

-- the checks have passed
pub engines_of-engines-requires : goal.engines_of-engines-requires
engines_of-engines-requires c =
    (newcomer-passed c.args.b c.args.t (lent c.args.rows.now c.args.predecessors.now) (ap checked_of (sym c.in_ok-check_newcomer.was) ∙ c.check_newcomer.ensures)).is_true

pub with_newcomer-counts-requires : goal.with_newcomer-counts-requires
with_newcomer-counts-requires c =
    newcomer-passed c.args.b c.args.t (lent c.args.rows.now c.args.predecessors.now) (ap checked_of (sym c.in_ok-check_newcomer.was) ∙ c.check_newcomer.ensures)

pub place-found-requires : goal.place-found-requires
place-found-requires c =
    let table = lent c.args.rows.now c.args.predecessors.now in
    let on = c.engines_of-engines in
    let newcomer = newcomer-passed c.args.b c.args.t table (ap checked_of (sym c.in_ok-check_newcomer.was) ∙ c.check_newcomer.ensures) in
    may-place c.args.b newcomer.is_true on.result _ table on.ensures.0 on.ensures.1
    (newcomer-long c.args.b c.args.t table (ap checked_of (sym c.in_ok-check_newcomer.was) ∙ c.check_newcomer.ensures))
    (subst (λ (x : List ℕ). within x (ceilings_of c.args.b.system) ≡ true) (sym c.with_newcomer-counts.ensures) (newcomer-within c.args.b c.args.t newcomer))

pub cause_of-requires : goal.cause_of-requires
cause_of-requires c =
    let newcomer = newcomer-passed c.args.b c.args.t (lent c.args.rows.now c.args.predecessors.now) (ap checked_of (sym c.in_ok-check_newcomer.was) ∙ c.check_newcomer.ensures) in
    omega (arith, c.engines_of-engines.ensures.0, engines-count c.args.b, engines-most c.args.b newcomer.is_true)

-- the cause: the parts are filled, and tell whether all with the newcomer can be placed
pub returns : goal.returns
returns c =
    let table = lent c.args.rows.now c.args.predecessors.now in
    let y = c.args.b.system in
    let parts_are : lent c.place-found.new.rows c.place-found.new.predecessors ≡ filled y (engines_of c.args.b) table
    = c.place-found.ensures.0 ∙ ap (λ (es : List ℕ). filled y es table) c.engines_of-engines.ensures.1 in
    let placement-is : c.place-found.result ≡ placement y (engines_of c.args.b) (with_newcomer c.args.b c.args.t)
    = c.place-found.ensures.1 ∙ ap₂ (placement y) c.engines_of-engines.ensures.1 c.with_newcomer-counts.ensures in
    promises-of c.args.b c.args.t table _ _
    (cause-gives c.args.b c.args.t table (ap checked_of (sym c.in_ok-check_newcomer.was) ∙ c.check_newcomer.ensures) _
    (cause-found c.args.b c.args.t _ _ c.place-found.result (rw c.is_some.ensures at c.cause_of.ensures) c.engines_of-engines.ensures.0 c.with_newcomer-counts.ensures placement-is)
    _ parts_are)

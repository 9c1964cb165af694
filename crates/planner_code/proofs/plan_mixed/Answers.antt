-- `planner_code::plan_mixed`. Each way out is the one that the plan is defined to take there (the laws of MixedPlans), from what the callees ensure of what is lent, of the card's two systems and of the placement.
use Rattle.std.proofs.Common.{Err, arith, rules}
use mathlib.Core.Path.{◌≡◌, sym, ap, ap₂, ◌∙◌}
use Rattle.std.specs.Result.{result_ok}
use Rattle.system.specs.declared.System.{System}
use Rattle.system.specs.Card.{first_of}
use Rattle.system.specs.Outcome.{checked_of}
use Rattle.system.proofs.Laws.{card-of}
use Rattle.system.proofs.CardLaws.{both-engines}
use Rattle.partition.specs.Lent.{Lent, lent}
use Rattle.table.specs.Table.{filled_to}
use Rattle.kinds.specs.Mixing.{mixed_placement}
use Rattle.planner.proofs.Exits.{refused-by}
use Rattle.planner.proofs.MixedPlans.{mixed-lent, may-mix, mixed-none, mixed-placed}
use Rattle.planner_code.proofs.plan_mixed.Goals as goal

pub overflow_add-y : goal.overflow_add-y
overflow_add-y c = omega (arith, both-engines c.args.y c.args.k c.requires.limits c.requires.second)

pub lent_check-requires : goal.lent_check-requires
lent_check-requires c = (card-of _ c.requires.limits).columns

-- 11 or 15
pub returns-in_err-lent_check : goal.returns-in_err-lent_check
returns-in_err-lent_check c =
    let parts = lent c.args.rows.now c.args.predecessors.now in
    let told : c.from_residual.result ≡ Err c.in_err-lent_check.field-0.0 = search rules in
    rw told (mixed-lent c.args.y c.args.k c.requires parts c.args.room _ (ap checked_of (sym c.in_err-lent_check.was) ∙ c.lent_check.ensures))

pub place_mixed-requires : goal.place_mixed-requires
place_mixed-requires c =
    let parts = lent c.args.rows.now c.args.predecessors.now in
    let passed = ap checked_of (sym c.in_ok-lent_check.was) ∙ c.lent_check.ensures in
    rw (c.first_kind-first.ensures, c.second_kind-second.ensures) (may-mix c.args.y c.args.k c.requires parts c.args.room passed)

-- all instances are placed: what the table and the placement are
table_is : (y first : System) (parts after : Lent) → first ≡ first_of y → after ≡ filled_to first first.engines parts → after ≡ filled_to (first_of y) y.engines parts
table_is y first parts after is e = e ∙ ap (λ (z : System). filled_to z z.engines parts) is

pub returns-in_err-placed : goal.returns-in_err-placed
returns-in_err-placed c =
    let parts = lent c.args.rows.now c.args.predecessors.now in
    let passed = ap checked_of (sym c.in_ok-lent_check.was) ∙ c.lent_check.ensures in
    let p = c.place_mixed in
    let is = p.ensures.1 ∙ ap₂ mixed_placement c.first_kind-first.ensures c.second_kind-second.ensures in
    let none = refused-by _ _ (sym c.ok_or.ensures.value ∙ c.in_err-placed.was) in
    let told : c.from_residual-in_err-placed.result ≡ Err c.in_err-placed.field-0.0 = search rules in
    rw (told, none.1, table_is c.args.y c.first_kind-first.result parts _ c.first_kind-first.ensures p.ensures.0)
    (mixed-none c.args.y c.args.k c.requires parts c.args.room passed (none.0 ∙ is))

pub returns : goal.returns
returns c =
    let parts = lent c.args.rows.now c.args.predecessors.now in
    let passed = ap checked_of (sym c.in_ok-lent_check.was) ∙ c.lent_check.ensures in
    let p = c.place_mixed in
    let is = p.ensures.1 ∙ ap₂ mixed_placement c.first_kind-first.ensures c.second_kind-second.ensures in
    rw (table_is c.args.y c.first_kind-first.result parts _ c.first_kind-first.ensures p.ensures.0)
    (mixed-placed c.args.y c.args.k c.requires parts c.args.room passed _ (sym (c.ok_or.ensures.ok_part ∙ ap result_ok c.in_ok-placed.was) ∙ is))

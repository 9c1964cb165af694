-- A check of the table that failed is the answer, one that passed leaves it to the list.
use Rattle.std.proofs.Common.{Err, rules}
use mathlib.Core.Path.{◌≡◌, sym, ap, ◌∙◌}
use lib.Dec.{leb}
use Rattle.system.specs.Outcome.{from_input, checked_of, check}
use Rattle.system.proofs.Checks.{fails-and_then, passes-and_then}
use Rattle.planner_code.proofs.lent_check.Goals as goal

pub returns-in_err-table_check : goal.returns-in_err-table_check
returns-in_err-table_check c =
    let told : c.from_residual.result ≡ Err c.in_err-table_check.field-0.0 = search rules in
    let failed = ap checked_of (sym c.in_err-table_check.was) ∙ c.table_check.ensures in
    rw told (fails-and_then _ _ (check (leb c.args.engines c.args.room) from_input 15) failed)

pub returns : goal.returns
returns c =
    let passed = ap checked_of (sym c.in_ok-table_check.was) ∙ c.table_check.ensures in
    passes-and_then _ (check (leb c.args.engines c.args.room) from_input 15) _ passed c.list_check.ensures

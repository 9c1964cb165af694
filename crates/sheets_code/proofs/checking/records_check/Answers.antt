-- The checks in order: where one fails the sheet is refused with its number, where all before it passed the next decides.
use Rattle.std.proofs.Common.{Err}
use mathlib.Core.Path.{◌≡◌, ap, sym, ◌∙◌}
use borrow.Author.Rules.{rules}
use Rattle.system.specs.Outcome.{checked_of}
use Rattle.system.proofs.Checks.{fails-and_then, passes-and_then}
use Rattle.sheets.specs.Checking.{records_check}
use Rattle.sheets_code.proofs.checking.records_check.Goals as goal

pub returns-in_err-layout_check : goal.returns-in_err-layout_check
unfolding records_check
returns-in_err-layout_check c =
    let told : c.from_residual.result ≡ Err c.in_err-layout_check.field-0.0 = search rules in
    ap checked_of told ∙ fails-and_then c.in_err-layout_check.field-0.0 _ _ (ap checked_of (sym c.in_err-layout_check.was) ∙ c.layout_check.ensures)

pub returns-in_err-sums_check : goal.returns-in_err-sums_check
unfolding records_check
returns-in_err-sums_check c =
    let told : c.from_residual-in_err-sums_check.result ≡ Err c.in_err-sums_check.field-0.0 = search rules in
    ap checked_of told ∙ passes-and_then _ _ _ (ap checked_of (sym c.in_ok-layout_check.was) ∙ c.layout_check.ensures)
    (fails-and_then c.in_err-sums_check.field-0.0 _ _ (ap checked_of (sym c.in_err-sums_check.was) ∙ c.sums_check.ensures))

pub returns : goal.returns
unfolding records_check
returns c =
    passes-and_then _ _ _ (ap checked_of (sym c.in_ok-layout_check.was) ∙ c.layout_check.ensures)
    (passes-and_then _ _ _ (ap checked_of (sym c.in_ok-sums_check.was) ∙ c.sums_check.ensures) c.totals_check.ensures)

-- The numbers of the table are small.
use mathlib.Core.Path.{ap}
use native.Mathlib.Omega.{arith}
use Rattle.sheets.specs.declared.SheetRule.{SheetRule}
use Rattle.sheets.specs.Sheet.{body_size}
use Rattle.sheets.proofs.Sizes.{rule-small}
use Rattle.sheets_code.proofs.rules.body_size.Goals as goal

pub overflow_mul-result : goal.overflow_mul-result
overflow_mul-result c =
    let start = c in
    let small = rule-small start.args.row start.args.k start.requires.0 start.requires.1 in
    rw c.rule_at-rule.ensures (omega (arith, small.1))

pub overflow_add-result : goal.overflow_add-result
overflow_add-result c =
    let start = c in
    let small = rule-small start.args.row start.args.k start.requires.0 start.requires.1 in
    rw c.rule_at-rule.ensures (omega (arith, small.0, small.1))

pub returns : goal.returns
returns c = ap (λ (r : SheetRule). body_size r c.args.k) c.rule_at-rule.ensures

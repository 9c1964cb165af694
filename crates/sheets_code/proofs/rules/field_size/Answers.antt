-- The head, then the body.
use native.Mathlib.Omega.{arith}
use Rattle.sheets.proofs.Sizes.{rule-small}
use Rattle.sheets_code.proofs.rules.field_size.Goals as goal

pub overflow_add-result : goal.overflow_add-result
overflow_add-result c =
    let start = c in
    let small = rule-small start.args.row start.args.k start.requires.0 start.requires.1 in
    rw c.body_size.ensures (omega (arith, small.0, small.1))

-- `field_size`: a rule's body is short.
use native.Mathlib.Omega.{arith}
use Rattle.writer_code.proofs.Steps.{body-short}
use Rattle.writer_code.proofs.field_size.Goals as goal

pub overflow_add-result : goal.overflow_add-result
overflow_add-result c =
    let short = body-short c.args.tag c.rule_of.ensures c.in-Some.is in
    omega arith

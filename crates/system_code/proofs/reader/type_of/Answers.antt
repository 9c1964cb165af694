-- `reader::type_of` meets its contract: the type that was read is that of the body.
use mathlib.Core.Path.{◌∙◌}
use Rattle.system.specs.Values.{task_of, with_type}
use Rattle.system.specs.Limits.{type_fault}
use Rattle.system.specs.Layout.{type_from}
use Rattle.system.proofs.Within.{handed_on}
use Rattle.system_code.proofs.Goes.{fault_read, passed_read}
use Rattle.system_code.proofs.reader.type_of.Goals as goal

pub returns-in_err-type_fault : goal.returns-in_err-type_fault
unfolding type_from
returns-in_err-type_fault c =
    handed_on _ c.from_residual.ensures.1 (fault_read _ (λ i. type_fault ((c.task_of-t.ensures ∙ (λ j. task_of (c.four_bytes.ensures j) (c.four_bytes-2.ensures j) (c.two_bytes.ensures j))) i)) c.in_err-type_fault.ensures)

pub returns : goal.returns
unfolding type_from
returns c =
    passed_read (λ i. type_fault ((c.task_of-t.ensures ∙ (λ j. task_of (c.four_bytes.ensures j) (c.four_bytes-2.ensures j) (c.two_bytes.ensures j))) i)) (c.with_type.ensures ∙ (λ i. with_type ((c.task_of-t.ensures ∙ (λ j. task_of (c.four_bytes.ensures j) (c.four_bytes-2.ensures j) (c.two_bytes.ensures j))) i) c.args.y)) c.in_ok-type_fault.ensures

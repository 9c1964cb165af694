-- `reader::data_of` meets its contract: the number that was read is that of the body; the last type with it is judged.
use mathlib.Core.Path.{◌∙◌}
use Rattle.system.specs.Values.{with_data, with_last}
use Rattle.system.specs.Limits.{type_fault}
use Rattle.system.specs.Layout.{data_from}
use Rattle.system.proofs.Within.{handed_on}
use Rattle.system_code.proofs.Goes.{fault_read, passed_read}
use Rattle.system_code.proofs.reader.data_of.Goals as goal

pub returns-in_err-type_fault : goal.returns-in_err-type_fault
unfolding data_from
returns-in_err-type_fault c =
    handed_on _ c.from_residual.ensures.1 (fault_read _ (λ i. type_fault ((c.with_data-t.ensures ∙ (λ j. with_data (c.four_bytes.ensures j) (c.last_type.ensures j))) i)) c.in_err-type_fault.ensures)

pub returns : goal.returns
unfolding data_from
returns c =
    passed_read (λ i. type_fault ((c.with_data-t.ensures ∙ (λ j. with_data (c.four_bytes.ensures j) (c.last_type.ensures j))) i)) (c.with_last.ensures ∙ (λ i. with_last ((c.with_data-t.ensures ∙ (λ j. with_data (c.four_bytes.ensures j) (c.last_type.ensures j))) i) c.args.y)) c.in_ok-type_fault.ensures

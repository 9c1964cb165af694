-- `reader::second_of` meets its contract: the numbers that were read are those of the body.
use mathlib.Core.Path.{◌∙◌}
use Rattle.system.specs.Values.{with_second}
use Rattle.system.specs.Limits.{kind_fault}
use Rattle.system.specs.Layout.{second_from}
use Rattle.system.proofs.Within.{handed_on}
use Rattle.system_code.proofs.Goes.{fault_read, passed_read}
use Rattle.system_code.proofs.reader.second_of.Goals as goal

pub returns-in_err-kind_fault : goal.returns-in_err-kind_fault
unfolding second_from
returns-in_err-kind_fault c =
    let n = c.byte_at-n.ensures in
    let time = c.four_bytes-time.ensures in
    let memory = c.four_bytes-memory.ensures in
    handed_on _ c.from_residual.ensures.1 (fault_read _ (λ i. kind_fault c.args.y.engines (n i) (time i) (memory i)) c.in_err-kind_fault.ensures)

pub returns : goal.returns
unfolding second_from
returns c =
    let n = c.byte_at-n.ensures in
    let time = c.four_bytes-time.ensures in
    let memory = c.four_bytes-memory.ensures in
    passed_read (λ i. kind_fault c.args.y.engines (n i) (time i) (memory i)) (c.with_second.ensures ∙ (λ i. with_second (n i) (time i) (memory i) c.args.y)) c.in_ok-kind_fault.ensures

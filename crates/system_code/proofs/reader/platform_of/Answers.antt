-- `reader::platform_of` meets its contract: the numbers that were read are those of the body.
use mathlib.Core.Path.{◌∙◌}
use Rattle.system.specs.Values.{with_platform}
use Rattle.system.specs.Limits.{platform_fault}
use Rattle.system.specs.Layout.{platform_from}
use Rattle.system.proofs.Within.{handed_on}
use Rattle.system_code.proofs.Goes.{fault_read, passed_read}
use Rattle.system_code.proofs.reader.platform_of.Goals as goal

pub returns-in_err-platform_fault : goal.returns-in_err-platform_fault
unfolding platform_from
returns-in_err-platform_fault c =
    let m = c.byte_at-m.ensures in
    let rule = c.byte_at-rule.ensures in
    let time = c.four_bytes-time.ensures in
    let memory = c.four_bytes-memory.ensures in
    handed_on _ c.from_residual.ensures.1 (fault_read _ (λ i. platform_fault (m i) (rule i) (time i) (memory i)) c.in_err-platform_fault.ensures)

pub returns : goal.returns
unfolding platform_from
returns c =
    let m = c.byte_at-m.ensures in
    let rule = c.byte_at-rule.ensures in
    let time = c.four_bytes-time.ensures in
    let memory = c.four_bytes-memory.ensures in
    passed_read (λ i. platform_fault (m i) (rule i) (time i) (memory i)) (c.with_platform.ensures ∙ (λ i. with_platform (m i) (rule i) (time i) (memory i) c.args.y)) c.in_ok-platform_fault.ensures

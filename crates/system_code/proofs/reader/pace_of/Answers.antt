-- `reader::pace_of` meets its contract: the numbers that were read are those of the body; with u of the last type they are judged, and they go into it.
use mathlib.Core.Path.{◌∙◌}
use Rattle.std.proofs.Common.{Some}
use Rattle.system.specs.Values.{with_pace, with_last}
use Rattle.system.specs.Limits.{pace_fault}
use Rattle.system.specs.Layout.{pace_from}
use Rattle.system.proofs.Within.{handed_on}
use Rattle.system_code.proofs.Goes.{fault_read, passed_read}
use Rattle.system_code.proofs.reader.pace_of.Goals as goal

pub returns-in_err-pace_fault : goal.returns-in_err-pace_fault
unfolding pace_from
returns-in_err-pace_fault c =
    let run = c.four_bytes-run.ensures in
    let period = c.four_bytes-period.ensures in
    let last = c.last_type-last.ensures in
    handed_on _ c.from_residual.ensures.1 (fault_read _ (λ i. pace_fault c.args.y.timecap (last i).time (Some (record { run = run i; period = period i }))) c.in_err-pace_fault.ensures)

pub returns : goal.returns
unfolding pace_from
returns c =
    let run = c.four_bytes-run.ensures in
    let period = c.four_bytes-period.ensures in
    let last = c.last_type-last.ensures in
    passed_read (λ i. pace_fault c.args.y.timecap (last i).time (Some (record { run = run i; period = period i }))) (c.with_last.ensures ∙ (λ i. with_last ((c.with_pace.ensures ∙ (λ j. with_pace (run j) (period j) (last j))) i) c.args.y)) c.in_ok-pace_fault.ensures

-- `reader::costs_of` meets its contract: the numbers that were read are those of the body; they are judged, and they go into the last type.
use mathlib.Core.Path.{◌∙◌}
use Rattle.std.proofs.Common.{Some}
use Rattle.system.specs.Values.{with_costs, with_last}
use Rattle.system.specs.Limits.{costs_fault}
use Rattle.system.specs.Layout.{costs_from}
use Rattle.system.proofs.Within.{handed_on}
use Rattle.system_code.proofs.Goes.{fault_read, passed_read}
use Rattle.system_code.proofs.reader.costs_of.Goals as goal

pub returns-in_err-costs_fault : goal.returns-in_err-costs_fault
unfolding costs_from
returns-in_err-costs_fault c =
    let time = c.four_bytes-time.ensures in
    let memory = c.four_bytes-memory.ensures in
    handed_on _ c.from_residual.ensures.1 (fault_read _ (λ i. costs_fault (Some (record { time = time i; memory = memory i }))) c.in_err-costs_fault.ensures)

pub returns : goal.returns
unfolding costs_from
returns c =
    let time = c.four_bytes-time.ensures in
    let memory = c.four_bytes-memory.ensures in
    passed_read (λ i. costs_fault (Some (record { time = time i; memory = memory i }))) (c.with_last.ensures ∙ (λ i. with_last ((c.with_costs.ensures ∙ (λ j. with_costs (time j) (memory j) (c.last_type.ensures j))) i) c.args.y)) c.in_ok-costs_fault.ensures

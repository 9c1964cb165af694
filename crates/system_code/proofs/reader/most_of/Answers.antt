-- `reader::most_of` meets its contract: the number that was read is that of the body; it is judged, and it goes into the last type.
use mathlib.Core.Path.{◌∙◌}
use Rattle.std.proofs.Common.{Some}
use Rattle.system.specs.Values.{with_most, with_last}
use Rattle.system.specs.Limits.{most_fault}
use Rattle.system.specs.Layout.{most_from}
use Rattle.system.proofs.Within.{handed_on}
use Rattle.system_code.proofs.Goes.{fault_read, passed_read}
use Rattle.system_code.proofs.reader.most_of.Goals as goal

pub returns-in_err-most_fault : goal.returns-in_err-most_fault
unfolding most_from
returns-in_err-most_fault c =
    let q = c.two_bytes-q.ensures in
    handed_on _ c.from_residual.ensures.1 (fault_read _ (λ i. most_fault (Some (q i))) c.in_err-most_fault.ensures)

pub returns : goal.returns
unfolding most_from
returns c =
    let q = c.two_bytes-q.ensures in
    passed_read (λ i. most_fault (Some (q i))) (c.with_last.ensures ∙ (λ i. with_last ((c.with_most.ensures ∙ (λ j. with_most (q j) (c.last_type.ensures j))) i) c.args.y)) c.in_ok-most_fault.ensures

-- `reader::end_of` meets its contract: the tests pick the case, one after the other.
use mathlib.Core.Path.{refl}
use Rattle.system.specs.Limits.{kinds_fault, columns_fault}
use Rattle.system.specs.Layout.{end_of}
use Rattle.system.proofs.Within.{first_refused, then_second}
use Rattle.system.proofs.Within.{handed_on}
use Rattle.system_code.proofs.Goes.{fault_read, passed_read}
use Rattle.system_code.proofs.reader.end_of.Goals as goal

pub returns-then-last-y : goal.returns-then-last-y
unfolding end_of
returns-then-last-y c = rw c.if-last-y.true

pub returns-in_err-kinds_fault : goal.returns-in_err-kinds_fault
unfolding end_of
returns-in_err-kinds_fault c =
    let y = c.args.y in
    rw c.if-last-y.false
    (handed_on _ c.from_residual.ensures.1 (fault_read _ refl (first_refused (kinds_fault y) (columns_fault y.types) _ c.in_err-kinds_fault.ensures)))

pub returns-in_err-columns_fault : goal.returns-in_err-columns_fault
unfolding end_of
returns-in_err-columns_fault c =
    let y = c.args.y in
    rw c.if-last-y.false
    (handed_on _ c.from_residual-in_err-columns_fault.ensures.1
    (fault_read _ refl (then_second (kinds_fault y) (columns_fault y.types) _ c.in_ok-kinds_fault.ensures c.in_err-columns_fault.ensures)))

pub returns : goal.returns
unfolding end_of
returns c =
    let y = c.args.y in
    rw c.if-last-y.false (passed_read refl refl (then_second (kinds_fault y) (columns_fault y.types) _ c.in_ok-kinds_fault.ensures c.in_ok-columns_fault.ensures))

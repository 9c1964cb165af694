-- `reader::card_of` meets its contract: where a field is refused the file is, and after any other one the reading goes on.
use native.Mathlib.Omega.{arith}
use mathlib.Core.Path.{sym, ap, ◌∙◌}
use Rattle.system.specs.Layout.{read_result}
use Rattle.system.proofs.Within.{handed_on}
use Rattle.system_code.proofs.Goes.{reached-start, reached-typed, reached-end, reached-refused, next-is, next-inside, reached-next}
use Rattle.system_code.proofs.reader.card_of.Goals as goal

pub loop-c-init : goal.loop-c-init
loop-c-init c = reached-start c.blank_system-y.ensures

pub field_of-requires : goal.field_of-requires
field_of-requires c = reached-typed c.loop-c.invariant

pub returns-in_err-y : goal.returns-in_err-y
returns-in_err-y c = handed_on _ c.from_residual.ensures.1 (reached-refused c.loop-c.invariant c.loop-c-test.true c.in_err-y.ensures)

pub loop-c-smaller : goal.loop-c-smaller
loop-c-smaller c =
    let r = c.loop-c.invariant in
    let on = next-is r c.loop-c-test.true c.in_ok-y.ensures c.next_at-c.ensures in
    let inside = next-inside r c.loop-c-test.true c.in_ok-y.ensures c.next_at-c.ensures in
    omega (arith, on, inside)

pub loop-c-preserved : goal.loop-c-preserved
loop-c-preserved c = reached-next c.loop-c.invariant c.loop-c-test.true c.in_ok-y.ensures c.next_at-c.ensures c.tag_at-last.ensures

pub returns : goal.returns
returns c = c.end_of.ensures ∙ ap read_result (sym (reached-end c.loop-c.invariant c.loop-c-test.false))

-- The first test that refuses decides.
use Rattle.system.proofs.Within.{handed_on, first_refused, then_second}
use Rattle.making.specs.Making.{numbers_fault, power_fault, recipe_fault}
use Rattle.making_code.proofs.limits.recipe_fault.Goals as goal

pub returns-in_err-numbers_fault : goal.returns-in_err-numbers_fault
unfolding recipe_fault
returns-in_err-numbers_fault c =
    let w = c.args.w in
    handed_on _ c.from_residual.ensures.1 (first_refused (numbers_fault w) (power_fault w) _ c.in_err-numbers_fault.ensures)

pub returns : goal.returns
unfolding recipe_fault
returns c =
    let w = c.args.w in
    then_second (numbers_fault w) (power_fault w) _ c.in_ok-numbers_fault.ensures c.power_fault.ensures

-- The code is the definition, shift by shift.
use mathlib.Core.Path.{refl}
use Rattle.making.specs.Generator.{step_one, step_two, step_three, step}
use Rattle.making_code.proofs.generator.step.Goals as goal

pub returns : goal.returns
unfolding step step_one step_two step_three
returns c = refl

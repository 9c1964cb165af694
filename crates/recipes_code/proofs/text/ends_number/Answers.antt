-- The tests are the definition's.
use mathlib.Core.Path.{refl}
use Rattle.recipes.specs.Digits.{ends_number}
use Rattle.recipes_code.proofs.text.ends_number.Goals as goal

pub returns : goal.returns
unfolding ends_number
returns c = refl

-- The tests are the definition's.
use Rattle.recipes.specs.Digits.{takes_digit}
use Rattle.recipes_code.proofs.text.takes_digit.Goals as goal

pub returns : goal.returns
unfolding takes_digit
returns c = rw c.is_ascii_digit.ensures.value

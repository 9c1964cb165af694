-- The number is set at its place.
use Rattle.recipes.specs.Digits.{stored}
use Rattle.recipes_code.proofs.text.stored.Goals as goal

pub returns : goal.returns
unfolding stored
returns c = rw (c.held.ensures, c.begun.ensures)

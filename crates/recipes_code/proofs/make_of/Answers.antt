-- `make_of`: by whether the text was read to its end.
use mathlib.Core.Path.{subst}
use Rattle.buffer.specs.Written.{Written}
use Rattle.making.specs.declared.Recipe.{Recipe}
use Rattle.recipes.specs.Output.{recipe_text}
use Rattle.recipes_code.proofs.Exits.{other-promised, seven-promised}
use Rattle.recipes_code.proofs.make_of.Goals as goal

pub returns-then-passed-ne-NUMBERS : goal.returns-then-passed-ne-NUMBERS
returns-then-passed-ne-NUMBERS c = other-promised c.args.text.now c.read_numbers-passed.ensures c.if-passed-ne-NUMBERS.true c.write_not_seven.ensures

pub returns : goal.returns
returns c =
    seven-promised c.args.text.now c.read_numbers-passed.ensures c.if-passed-ne-NUMBERS.false
    (subst (λ (w : Recipe). Written (recipe_text w) c.args.out.now c.write_made.new.out c.write_made.result) c.recipe_of.ensures c.write_made.ensures)

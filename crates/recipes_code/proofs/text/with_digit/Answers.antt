-- By the test's two cases.
use borrow.Author.Tests.{lt-ltb, le-ltb}
use Rattle.recipes.specs.Digits.{with_digit}
use Rattle.recipes_code.proofs.text.with_digit.Goals as goal

pub returns-then-digit-p : goal.returns-then-digit-p
unfolding with_digit
returns-then-digit-p c = rw (lt-ltb _ _ c.if-digit-p.true)

pub returns : goal.returns
unfolding with_digit
returns c = rw (le-ltb _ _ c.if-digit-p.false)

-- By the kinds of byte: a digit, one that ends a number, any other.
use mathlib.Core.Path.{◌≡◌, sym, ◌∙◌}
use mathlib.Core.Bool.{true, false}
use native.Mathlib.Omega.{arith}
use Rattle.recipes.specs.Digits.{takes_digit, ends_number, step}
use Rattle.recipes.proofs.Bytes.{digit-parts, end-place}
use Rattle.recipes_code.proofs.text.step.Goals as goal

pub overflow_sub-b : goal.overflow_sub-b
overflow_sub-b c = (digit-parts c.args.p c.args.b (sym c.takes_digit.ensures ∙ c.if-takes_digit.true)).0

pub with_digit-requires : goal.with_digit-requires
with_digit-requires c = omega (arith, (digit-parts c.args.p c.args.b (sym c.takes_digit.ensures ∙ c.if-takes_digit.true)).1)

pub returns-then-takes_digit : goal.returns-then-takes_digit
unfolding step
returns-then-takes_digit c =
    let digit : takes_digit c.args.p c.args.b ≡ true = sym c.takes_digit.ensures ∙ c.if-takes_digit.true in
    rw digit c.with_digit.ensures

pub stored-requires : goal.stored-requires
stored-requires c = end-place c.args.p c.args.b (sym c.ends_number.ensures ∙ c.if-ends_number.true)

pub returns-then-ends_number : goal.returns-then-ends_number
unfolding step
returns-then-ends_number c =
    let no_digit : takes_digit c.args.p c.args.b ≡ false = sym c.takes_digit.ensures ∙ c.if-takes_digit.false in
    let ends : ends_number c.args.p c.args.b ≡ true = sym c.ends_number.ensures ∙ c.if-ends_number.true in
    rw (no_digit, ends) c.stored.ensures

pub returns : goal.returns
unfolding step
returns c =
    let no_digit : takes_digit c.args.p c.args.b ≡ false = sym c.takes_digit.ensures ∙ c.if-takes_digit.false in
    let no_end : ends_number c.args.p c.args.b ≡ false = sym c.ends_number.ensures ∙ c.if-ends_number.false in
    rw (no_digit, no_end) c.broken.ensures

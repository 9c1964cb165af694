-- The blank system with the recipe's numbers.
use mathlib.Core.Path.{ap}
use Rattle.system.specs.Values.{with_platform}
use Rattle.system.specs.declared.System.{System}
use Rattle.making.specs.Making.{drawn_to}
use Rattle.making_code.proofs.drawn.drawn_platform.Goals as goal

pub returns : goal.returns
unfolding drawn_to
returns c = ap (λ (y : System). with_platform c.args.w.engines c.args.w.rule c.args.w.timecap c.args.w.memorycap y) c.blank_system.ensures

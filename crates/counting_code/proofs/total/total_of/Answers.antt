-- A system that keeps the limits has at least one engine.
use mathlib.Core.Path.{ap, ◌∙◌}
use Rattle.system.proofs.Laws.{limits_of}
use Rattle.counting.specs.Walk.{power_of}
use Rattle.counting_code.proofs.total.total_of.Goals as goal

pub power-requires : goal.power-requires
power-requires c = let start = c in (limits_of start.args.y start.requires).some-engine

pub returns : goal.returns
returns c = c.power.ensures ∙ ap (power_of c.args.y.engines) c.instances_of.ensures

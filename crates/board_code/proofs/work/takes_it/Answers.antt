-- The load with the newcomer, tested.
use mathlib.Core.Path.{ap, ◌∙◌}
use Rattle.loads.specs.Load.{fits_engine}
use Rattle.board_code.proofs.work.takes_it.Goals as goal

pub returns : goal.returns
returns c = c.fits_engine.ensures ∙ ap (fits_engine c.args.b.system) c.load_with.ensures

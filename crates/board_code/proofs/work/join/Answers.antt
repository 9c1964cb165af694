-- The engine's load with the newcomer, which fits it, put on it.
use mathlib.Core.Path.{refl, ap, ◌∙◌}
use Rattle.loads.specs.Load.{fits_engine}
use Rattle.board.specs.Boards.{with_load}
use Rattle.board.proofs.Ready.{engine-in}
use Rattle.board_code.proofs.work.join.Goals as goal

pub load_with-counts-requires : goal.load_with-counts-requires
load_with-counts-requires c = (c.requires.0, c.requires.1)

pub with_load-requires : goal.with_load-requires
with_load-requires c =
    let start = c in
    let on = start.requires.1 in
    let range = engine-in start.args.b on.is_true start.args.e on.known in
    (range.0, range.1, ap (fits_engine start.args.b.system) c.load_with-counts.ensures ∙ start.requires.2)

pub returns : goal.returns
returns c =
    let a = c.args in
    (refl, c.with_load.ensures ∙ ap (with_load a.b a.e) c.load_with-counts.ensures)

-- A load with one instance less fits where the load did.
use Prim.Native.Nat.{◌-◌}
use mathlib.Core.Path.{refl, ap, ◌∙◌}
use Rattle.loads.specs.Load.{fits_engine}
use Rattle.loads.proofs.Laws.{fits-one-less}
use Rattle.board.specs.Boards.{load_at, with_load}
use Rattle.board.proofs.Ready.{engine-in, load_fits}
use Rattle.board_code.proofs.work.leave.Goals as goal

pub with_load-requires : goal.with_load-requires
with_load-requires c =
    let a = c.args in
    let on = c.requires.0 in
    let range = engine-in a.b on.is_true a.e on.known in (
      range.0,
      range.1,
      ap (fits_engine a.b.system) c.load_without-counts.ensures
          ∙ fits-one-less a.b.system (a.t - 1) (load_at a.b a.e) (load_fits a.b on.is_true a.e on.known),
    )

pub returns : goal.returns
returns c =
    let a = c.args in
    (refl, c.with_load.ensures ∙ ap (with_load a.b a.e) c.load_without-counts.ensures)

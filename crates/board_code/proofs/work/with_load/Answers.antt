-- One engine's record replaced by the one that `engine_with` makes.
use Prim.Native.Nat.{◌-◌}
use mathlib.Core.Path.{ap}
use lib.ListN.{set}
use Rattle.loads.specs.declared.EngineLoad.{EngineLoad}
use Rattle.board.specs.declared.Board.{Board}
use Rattle.board_code.proofs.work.with_load.Goals as goal

pub returns : goal.returns
returns c =
    let a = c.args in
    let made : EngineLoad → Board = λ (l : EngineLoad). record { system = a.b.system; loads = set a.b.loads (a.e - 1) l; marks = a.b.marks } in
    ap made c.engine_with.ensures

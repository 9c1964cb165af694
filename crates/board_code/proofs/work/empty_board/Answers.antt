-- Sixteen idle engines, none of them marked.
use mathlib.Core.Path.{ap}
use mathlib.Core.Bool.{false}
use lib.ListN.{replicate}
use Rattle.loads.specs.declared.EngineLoad.{EngineLoad}
use Rattle.board.specs.declared.Board.{Board}
use Rattle.board_code.proofs.work.empty_board.Goals as goal

pub returns : goal.returns
returns c =
    let made : EngineLoad → Board = λ (l : EngineLoad). record { system = c.args.y; loads = replicate 16 l; marks = replicate 16 false } in
    ap made c.idle_engine.ensures

-- The system that the file reads as, with nothing standing.
use mathlib.Core.Path.{◌≡◌, ap, ◌∙◌}
use Rattle.system.specs.Layout.{read_file}
use Rattle.board.specs.Boards.{empty_board, opened_board}
use Rattle.board.proofs.Exits.{opened-board}
use Rattle.board.proofs.Promises.{open-means}
use Rattle.board_code.proofs.calls.open_board.Goals as goal

pub returns : goal.returns
returns c =
    let read = c.read_system-opened.ensures in
    let file = c.args.file.now in
    let board : c.empty_board.result ≡ opened_board (read_file file) = c.empty_board.ensures ∙ ap empty_board read.system ∙ opened-board (read_file file) in
    record { opens = record { answer = read.answer; board = board }; open_means = open-means file _ _ read.answer board }

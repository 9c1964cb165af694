-- `open_board`: the board of a file that does not read is blank.
use Rattle.clients.proofs.Plainly.{nothing-opened}
use Rattle.clients.proofs.boards.open_board.Goals as goal

pub returns : goal.returns
returns c =
    let e = c.open_board.ensures in
    record {
      opens = e.opens;
      open_means = e.open_means;
      by_index = nothing-opened _ _ e.opens.board;
    }

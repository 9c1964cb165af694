-- `repack`: what is said of 11, and of the board at a refusal, is the record's own.
use Rattle.clients.proofs.Plainly.{board-kept}
use Rattle.clients.proofs.boards.repack.Goals as goal

pub returns : goal.returns
returns c =
    let e = c.repack.ensures in
    record {
      does = e.does;
      repack_promises = e.repack_promises;
      board_says11 = (e.repack_promises.order.then_table, board-kept _ _ _ _ e.repack_promises.demand1);
    }

-- `restore`: what is said of 14 is the record's own.
use Rattle.clients.proofs.Plainly.{board-kept}
use Rattle.clients.proofs.boards.restore.Goals as goal

pub returns : goal.returns
returns c =
    let e = c.restore.ensures in
    record {
      does = e.does;
      restore_promises = e.restore_promises;
      says14 = (e.restore_promises.order.then_engine, board-kept _ _ _ _ e.restore_promises.demand1);
    }

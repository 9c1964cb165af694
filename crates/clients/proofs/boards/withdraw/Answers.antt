-- `withdraw`: what is said of 14 is the record's own.
use Rattle.clients.proofs.Plainly.{board-kept}
use Rattle.clients.proofs.boards.withdraw.Goals as goal

pub returns : goal.returns
returns c =
    let e = c.withdraw.ensures in
    record {
      does = e.does;
      withdraw_promises = e.withdraw_promises;
      says14 = (e.withdraw_promises.order.then_engine, board-kept _ _ _ _ e.withdraw_promises.demand1);
    }

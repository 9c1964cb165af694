-- `retire`: what is said of 13 and 14 is the record's own.
use Rattle.clients.proofs.Plainly.{board-kept}
use Rattle.clients.proofs.boards.retire.Goals as goal

pub returns : goal.returns
returns c =
    let e = c.retire.ensures in
    record {
      does = e.does;
      retire_promises = e.retire_promises;
      says13 = (e.retire_promises.order.then_type, (λ is_type is_true. e.retire_promises.order.then_engine is_true is_type), board-kept _ _ _ _ e.retire_promises.demand1);
    }

-- `admit`: what is said of 13 and 11 is the record's own.
use Rattle.clients.proofs.Plainly.{board-kept}
use Rattle.clients.proofs.boards.admit.Goals as goal

pub returns : goal.returns
returns c =
    let e = c.admit.ensures in
    record {
      does = e.does;
      admit_promises = e.admit_promises;
      says13 = (e.admit_promises.order.then_type, (λ is_type is_true. e.admit_promises.order.then_table is_true is_type), board-kept _ _ _ _ e.admit_promises.demand1);
    }

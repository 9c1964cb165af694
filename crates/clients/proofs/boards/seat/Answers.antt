-- `seat`: what is said of 13 and 11 is the record's own.
use Rattle.clients.proofs.Plainly.{board-kept}
use Rattle.clients.proofs.boards.seat.Goals as goal

pub returns : goal.returns
returns c =
    let e = c.seat.ensures in
    record {
      does = e.does;
      seat_promises = e.seat_promises;
      says13 = (e.seat_promises.order.then_type, (λ is_type is_true. e.seat_promises.order.then_table is_true is_type), board-kept _ _ _ _ e.seat_promises.demand1);
    }

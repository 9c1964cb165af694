-- `why_no_room`: what is said of 13 and 11 is the record's own.
use Rattle.clients.proofs.boards.why_no_room.Goals as goal

pub returns : goal.returns
returns c =
    let e = c.why_no_room.ensures in
    record {
      room_cause_promises = e;
      says13 = (e.order.then_type, (λ is_type is_true. e.order.then_table is_true is_type));
    }

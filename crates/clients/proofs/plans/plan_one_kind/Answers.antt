-- `plan_one_kind`: what is said of 11 is the record's own.
use Rattle.clients.proofs.plans.plan_one_kind.Goals as goal

pub returns : goal.returns
returns c =
    let e = c.plan_one_kind.ensures in
    record {
      plan_promises = e;
      says11 = e.order.then_table;
    }

-- `plan_list`: what is said of 11, 12 and 15 holds of one kind of engine and of two.
use Rattle.clients.proofs.Wide.{list-eleven, list-fifteen, list-twelve}
use Rattle.clients.proofs.Keeps.{list-keeps}
use Rattle.clients.proofs.plans.plan_list.Goals as goal

pub returns : goal.returns
returns c =
    let e = c.plan_list.ensures in
    record {
      list_call = e;
      says11 = (list-eleven _ _ _ _ _ _ _ e, list-fifteen _ _ _ _ _ _ _ e);
      says12 = list-twelve _ _ _ _ _ _ _ e;
      list_keeps = list-keeps _ _ _ _ _ _ e;
    }

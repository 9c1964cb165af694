-- `plan_of`: what is said of 11 and 12 holds of one kind of engine and of two.
use Rattle.clients.proofs.Wide.{plan-eleven, plan-twelve}
use Rattle.clients.proofs.Keeps.{plan-keeps}
use Rattle.clients.proofs.plans.plan_of.Goals as goal

pub returns : goal.returns
returns c =
    let e = c.plan_of.ensures in
    record {
      plan_call = e;
      says11 = plan-eleven _ _ _ _ _ _ e;
      says12 = plan-twelve _ _ _ _ _ _ e;
      plan_keeps = plan-keeps _ _ _ _ _ e;
    }

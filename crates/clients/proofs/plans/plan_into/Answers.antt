-- `plan_into`: what is said of 11, 12 and 15 holds of one kind of engine and of two.
use Rattle.clients.proofs.Wide.{list-eleven, list-fifteen, list-twelve}
use Rattle.clients.proofs.Keeps.{list-keeps}
use Rattle.clients.proofs.plans.plan_into.Goals as goal

pub returns : goal.returns
returns c =
    let e = c.plan_into.ensures in
    (e, list-eleven _ _ _ _ _ _ _ e, list-fifteen _ _ _ _ _ _ _ e, list-twelve _ _ _ _ _ _ _ e, list-keeps _ _ _ _ _ _ e)

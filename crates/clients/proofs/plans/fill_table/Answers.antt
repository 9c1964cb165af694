-- `fill_table`: what is said of 11 holds of one kind of engine and of two.
use Rattle.clients.proofs.Wide.{fill-eleven}
use Rattle.clients.proofs.plans.fill_table.Goals as goal

pub returns : goal.returns
returns c =
    let e = c.fill_table.ensures in
    record {
      fill_call = e;
      says11 = fill-eleven _ _ _ _ _ e;
    }

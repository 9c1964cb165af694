-- `check_sheet`: what is said of 11 and of right sheets is the record's own.
use Rattle.clients.proofs.texts.check_sheet.Goals as goal

pub returns : goal.returns
returns c =
    let e = c.check_sheet.ensures in
    record {
      check_promises = e;
      says11 = (e.order.then_table, λ y opens long also. e.exactly y opens (long, also));
    }

-- `count_assignments`: where 38 is said, and the entries past those of the columns.
use Rattle.clients.proofs.Kept.{count_kept}
use Rattle.clients.proofs.boards.count_assignments.Goals as goal

pub returns : goal.returns
returns c =
    let e = c.count_assignments.ensures in
    record {
      count_promises = e;
      says38 = count_kept e;
    }

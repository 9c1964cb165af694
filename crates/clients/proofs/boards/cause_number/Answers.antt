-- `cause_number`: each cause has the number that the request gives it.
use Rattle.clients.proofs.Plainly.{cause-numbered}
use Rattle.clients.proofs.boards.cause_number.Goals as goal

pub returns : goal.returns
returns c =
    let e = c.cause_number.ensures in
    record {
      value = e;
      numbered_as_asked = cause-numbered _ _ e;
    }

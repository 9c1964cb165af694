-- `check_of`: the bytes in the buffer tell what the text tells.
use Rattle.clients.proofs.Told.{check-told}
use Rattle.clients.proofs.programs.check_of.Goals as goal

pub returns : goal.returns
returns c =
    let e = c.check_of.ensures in
    record {
      check_promises = e;
      kept_past_text = check-told e;
    }

-- `tight_of`: the bytes in the buffer tell what the text tells.
use Rattle.clients.proofs.Told.{tight-told}
use Rattle.clients.proofs.programs.tight_of.Goals as goal

pub returns : goal.returns
returns c =
    let e = c.tight_of.ensures in
    record {
      tight_promises = e;
      kept_past_text = tight-told e;
    }

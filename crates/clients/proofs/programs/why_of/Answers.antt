-- `why_of`: the bytes in the buffer tell what the text tells.
use Rattle.clients.proofs.Told.{why-told}
use Rattle.clients.proofs.programs.why_of.Goals as goal

pub returns : goal.returns
returns c =
    let e = c.why_of.ensures in
    record {
      why_promises = e;
      kept_past_text = why-told e;
    }

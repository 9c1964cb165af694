-- `write_refusal`: the bytes in the buffer tell what the text tells.
use Rattle.clients.proofs.Told.{refusal-told}
use Rattle.clients.proofs.texts.write_refusal.Goals as goal

pub returns : goal.returns
returns c =
    let e = c.write_refusal.ensures in
    record {
      refusal_promises = e;
      kept_past_text = refusal-told e;
    }

-- `watch_of`: the bytes in the buffer tell what the text tells.
use Rattle.clients.proofs.Told.{watch-told}
use Rattle.clients.proofs.programs.watch_of.Goals as goal

pub returns : goal.returns
returns c =
    let e = c.watch_of.ensures in
    record {
      watch_promises = e;
      kept_past_text = watch-told e;
    }

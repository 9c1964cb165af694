-- `sheet_of`: the bytes in the buffer tell what the text tells.
use Rattle.clients.proofs.Told.{sheet-told}
use Rattle.clients.proofs.programs.sheet_of.Goals as goal

pub returns : goal.returns
returns c =
    let e = c.sheet_of.ensures in
    record {
      sheet_promises = e;
      kept_past_text = sheet-told e;
    }

-- `write_listing`: the bytes in the buffer tell what the text tells.
use Rattle.clients.proofs.Told.{plan-told}
use Rattle.clients.proofs.texts.write_listing.Goals as goal

pub returns : goal.returns
returns c =
    let e = c.write_listing.ensures in
    record {
      write_listing_promises = e;
      kept_past_text = plan-told e;
    }

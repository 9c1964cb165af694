-- `listing_of`: the bytes in the buffer tell what the text tells.
use Rattle.clients.proofs.Told.{listing-told, listing-same}
use Rattle.clients.proofs.programs.listing_of.Goals as goal

pub returns : goal.returns
returns c =
    let e = c.listing_of.ensures in
    record {
      text_promises = e;
      kept_past_text = ((listing-told e).0, (listing-told e).1, listing-same e);
    }

-- `listing`: the bytes in the buffer tell what the text tells, `refused 11` too.
use Rattle.clients.proofs.Told.{lent-told, lent-eleven, lent_same}
use Rattle.clients.proofs.texts.listing.Goals as goal

pub returns : goal.returns
returns c =
    let e = c.listing.ensures in
    record {
      listing_promises = e;
      kept_past_text = lent-told e;
      says11 = lent-eleven e;
      lists_its_plan = lent_same e;
    }

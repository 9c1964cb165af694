-- `make_of`: the bytes in the buffer tell what the text tells.
use Rattle.clients.proofs.Told.{make-told}
use Rattle.clients.proofs.programs.make_of.Goals as goal

pub returns : goal.returns
returns c =
    let e = c.make_of.ensures in
    record {
      recipe_promises = e;
      kept_past_text = make-told e;
    }

-- `make_file`: where 30 is said, and the bytes past the file.
use Rattle.clients.proofs.Kept.{made_kept}
use Rattle.clients.proofs.files.make_file.Goals as goal

pub returns : goal.returns
returns c =
    let e = c.make_file.ensures in
    record {
      make_promises = e;
      says30 = made_kept e;
    }

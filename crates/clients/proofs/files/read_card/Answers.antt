-- `read_card`: what it hands out, in plain words.
use Rattle.clients.proofs.Read.{reads-plainly}
use Rattle.clients.proofs.files.read_card.Goals as goal

pub returns : goal.returns
returns c =
    let e = c.read_card.ensures in
    record {
      reads = e;
      reads_plainly = reads-plainly _ _ e;
    }

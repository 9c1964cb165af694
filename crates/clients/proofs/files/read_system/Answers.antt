-- `read_system`: what it hands out, in plain words.
use Rattle.clients.proofs.Read.{reads-plainly}
use Rattle.clients.proofs.files.read_system.Goals as goal

pub returns : goal.returns
returns c =
    let e = c.read_system.ensures in
    record {
      reads = e;
      reads_plainly = reads-plainly _ _ e;
    }

-- `blank_system`: every number of it is 0.
use Rattle.clients.proofs.Plainly.{nothing_read}
use Rattle.clients.proofs.files.blank_system.Goals as goal

pub returns : goal.returns
returns c =
    let e = c.blank_system.ensures in
    record {
      value = e;
      nothing_read = nothing_read _ e;
    }

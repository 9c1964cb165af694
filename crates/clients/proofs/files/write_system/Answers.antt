-- `write_system`: where 30 is said, and the bytes past the file.
use Rattle.clients.proofs.Kept.{system-kept}
use Rattle.clients.proofs.files.write_system.Goals as goal

pub returns : goal.returns
returns c =
    let e = c.write_system.ensures in
    record {
      write_promises = e;
      writes_in_order = system-kept e;
    }

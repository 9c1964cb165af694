-- `body_part`: the part, in plain words.
use Rattle.clients.proofs.Read.{part-plainly}
use Rattle.clients.proofs.files.body_part.Goals as goal

pub returns : goal.returns
returns c = let e = c.body_part.ensures in record { result_value = e; part_plainly = part-plainly _ _ _ _ e }

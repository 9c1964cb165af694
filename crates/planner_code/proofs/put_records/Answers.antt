-- The first records take the place of those that stood there; the later ones are as they were.
use Rattle.planner_code.proofs.put_records.Goals as goal

pub returns : goal.returns
returns c = rw c.copy_from_slice.ensures.after

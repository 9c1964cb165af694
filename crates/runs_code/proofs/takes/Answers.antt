-- The two parts of the test.
use Rattle.runs_code.proofs.takes.Goals as goal

pub returns : goal.returns
returns c = rw c.due_before-other.ensures

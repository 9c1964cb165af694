-- The test is that of the definition; where it is not met the number is 15.
use borrow.Author.Tests.{le-leb, lt-leb}
use Rattle.planner_code.proofs.list_check.Goals as goal

pub returns-then-engines-room : goal.returns-then-engines-room
returns-then-engines-room c = rw (le-leb _ _ c.if-engines-room.true)

pub returns : goal.returns
returns c = rw (lt-leb _ _ c.if-engines-room.false)

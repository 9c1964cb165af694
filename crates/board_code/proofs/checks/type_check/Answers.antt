-- The test of the branch is that of the definition.
use Rattle.board_code.proofs.checks.type_check.Goals as goal

pub returns-then-t-y : goal.returns-then-t-y
returns-then-t-y c = rw c.if-t-y.true

pub returns : goal.returns
returns c = rw c.if-t-y.false

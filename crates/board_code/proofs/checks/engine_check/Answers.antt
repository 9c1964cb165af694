-- The test of the branch is that of the definition.
use Rattle.board_code.proofs.checks.engine_check.Goals as goal

pub returns-then-e-y : goal.returns-then-e-y
returns-then-e-y c = rw c.if-e-y.true

pub returns : goal.returns
returns c = rw c.if-e-y.false

-- The test of the branch picks the case of the definition.
use borrow.Author.Tests.{lt-ltb, le-ltb}
use Rattle.board_code.proofs.state.true_at.Goals as goal

pub returns-then-i-y : goal.returns-then-i-y
returns-then-i-y c = rw (lt-ltb _ _ c.if-i-y.true) c.true_engine.ensures

pub returns : goal.returns
returns c = rw (le-ltb _ _ c.if-i-y.false) c.zero_engine.ensures

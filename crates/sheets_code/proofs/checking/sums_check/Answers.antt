-- By the board's test of its engines.
use Rattle.sheets_code.proofs.checking.sums_check.Goals as goal

pub returns-then-true_loads : goal.returns-then-true_loads
returns-then-true_loads c = rw (← c.true_loads.ensures, c.if-true_loads.true)

pub returns : goal.returns
returns c = rw (← c.true_loads.ensures, c.if-true_loads.false)

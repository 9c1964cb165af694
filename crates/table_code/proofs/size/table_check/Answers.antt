-- The test is that of the definition; where it is not met the number is 11.
use Rattle.table_code.proofs.size.table_check.Goals as goal

pub returns-then-columns-rows : goal.returns-then-columns-rows
returns-then-columns-rows c = rw (← c.columns_of-columns.ensures, c.if-columns-rows.true)

pub returns : goal.returns
returns c = rw (← c.columns_of-columns.ensures, c.if-columns-rows.false)

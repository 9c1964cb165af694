-- The measure is the row, which falls by one at each call.
use Rattle.table_code.proofs.chain.+recover.Given as goal

abbrev pub decreases-recover : goal.decreases-recover
decreases-recover l = l.row

-- `dirty_parts`: each entry that a closure was called for is what it gives.
use Rattle.std.proofs.Common.{rules}
use Rattle.trial_records.proofs.dirty_parts.Goals as goal

pub returns-clause-rows : goal.returns-clause-rows
returns-clause-rows g c = λ i within. let (p, q, called) = c.of.ensures.rows.at i 0 within in search rules

pub returns-clause-predecessors : goal.returns-clause-predecessors
returns-clause-predecessors g c = λ i within. let (p, q, called) = c.of.ensures.predecessors.at i 0 within in search rules

-- `write_answer`: the line of each kind of answer.
use Rattle.answers.proofs.Lines.{line-of-refusal}
use Rattle.answers_code.proofs.write_answer.Goals as goal

pub returns-in-Ok : goal.returns-in-Ok
returns-in-Ok c = rw c.in-Ok.is c.write_right.ensures

pub returns-in-Err : goal.returns-in-Err
returns-in-Err c = rw (c.in-Err.is, ← line-of-refusal _) c.write_refusal.ensures.written

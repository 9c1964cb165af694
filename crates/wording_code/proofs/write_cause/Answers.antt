-- `write_cause`: one of the lines is put at place 0.
use native.Mathlib.Omega.{arith}
use Rattle.buffer.proofs.Laws.{written}
use Rattle.wording.specs.Line.{cause_line}
use Rattle.wording_code.proofs.write_cause.Goals as goal

pub returns-in-Possible : goal.returns-in-Possible
unfolding cause_line
returns-in-Possible c = rw c.in-Possible.is (written (omega (arith, c.put_bytes.ensures.next)) c.put_bytes.auto.out c.put_bytes.ensures)

pub returns-in-NoEngine : goal.returns-in-NoEngine
unfolding cause_line
returns-in-NoEngine c = rw c.in-NoEngine.is (written (omega (arith, c.put_bytes-in-NoEngine.ensures.next)) c.put_bytes-in-NoEngine.auto.out c.put_bytes-in-NoEngine.ensures)

pub returns-in-OneTooLarge : goal.returns-in-OneTooLarge
unfolding cause_line
returns-in-OneTooLarge c = rw c.in-OneTooLarge.is c.write_type.ensures

pub returns-in-TooMuchTime : goal.returns-in-TooMuchTime
unfolding cause_line
returns-in-TooMuchTime c = rw c.in-TooMuchTime.is (written (omega (arith, c.put_bytes-in-TooMuchTime.ensures.next)) c.put_bytes-in-TooMuchTime.auto.out c.put_bytes-in-TooMuchTime.ensures)

pub returns-in-TooMuchMemory : goal.returns-in-TooMuchMemory
unfolding cause_line
returns-in-TooMuchMemory c = rw c.in-TooMuchMemory.is (written (omega (arith, c.put_bytes-in-TooMuchMemory.ensures.next)) c.put_bytes-in-TooMuchMemory.auto.out c.put_bytes-in-TooMuchMemory.ensures)

pub returns-in-TooManyReplicas : goal.returns-in-TooManyReplicas
unfolding cause_line
returns-in-TooManyReplicas c = rw c.in-TooManyReplicas.is (written (omega (arith, c.put_bytes-in-TooManyReplicas.ensures.next)) c.put_bytes-in-TooManyReplicas.auto.out c.put_bytes-in-TooManyReplicas.ensures)

pub returns-in-NoArrangement : goal.returns-in-NoArrangement
unfolding cause_line
returns-in-NoArrangement c = rw c.in-NoArrangement.is (written (omega (arith, c.put_bytes-in-NoArrangement.ensures.next)) c.put_bytes-in-NoArrangement.auto.out c.put_bytes-in-NoArrangement.ensures)

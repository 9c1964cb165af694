-- By whether a deadline is missed.
use native.Mathlib.Omega.{arith}
use Rattle.timeline_code.proofs.lines.put_missed.Goals as goal

pub returns-in-None : goal.returns-in-None
returns-in-None c =
    let put = c in
    (rw put.in-None.is put.put_bytes.ensures, omega (arith, put.put_bytes.ensures.next))

pub returns-in-Some : goal.returns-in-Some
returns-in-Some c =
    let put = c in
    (rw put.in-Some.is put.put_missed_at.ensures.0, put.put_missed_at.ensures.1)

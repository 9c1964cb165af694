-- By whether the job arrives now.
use native.Mathlib.Omega.{arith}
use borrow.Author.Tests.{eq-eqb, ne_eqb}
use Rattle.buffer.proofs.Laws.{puts_none}
use Rattle.timeline_code.proofs.lines.put_arrival.Goals as goal

pub returns-then-j-time : goal.returns-then-j-time
returns-then-j-time c =
    let put = c in
    let test = put in
    let start = test in
    (rw (eq-eqb start.args.j.due start.args.time test.if-j-time.true) put.put_due.ensures.0, put.put_due.ensures.1)

pub returns : goal.returns
returns c =
    let start = c in
    (rw (ne_eqb start.args.j.due start.args.time c.if-j-time.false) (puts_none start.args.at start.args.out.now), omega arith)

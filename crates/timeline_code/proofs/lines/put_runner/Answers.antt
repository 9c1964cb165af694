-- By whether somebody runs.
use Prim.Native.Nat.{◌≤◌}
use native.Mathlib.Omega.{arith}
use lib.ListN.{length}
use borrow.Author.Tests.{eq-eqb, ne_eqb}
use Rattle.buffer.proofs.Laws.{puts_then}
use Rattle.timeline_code.proofs.lines.put_runner.Goals as goal

pub returns-then-place-all : goal.returns-then-place-all
returns-then-place-all c =
    let put = c in
    let test = put in
    let start = test in
    (rw (eq-eqb start.args.place start.args.all test.if-place-all.true) put.put_bytes.ensures, omega (arith, put.put_bytes.ensures.next))

pub returns : goal.returns
returns c =
    let named = c in
    let put = named in
    let test = put in
    let start = test in
    let room : start.args.at ≤ length start.args.out.now = omega (arith, start.requires) in
    (rw (ne_eqb start.args.place start.args.all test.if-place-all.false) (puts_then room put.put_bytes-runs.ensures named.put_name.ensures.0), omega (arith, put.put_bytes-runs.ensures.next, named.put_name.ensures.1))

-- `put_head`: what the table has for the tag picks the case; the tag, then the length of the body, which is short.
use Prim.Native.Nat.{◌≤◌}
use native.Mathlib.Omega.{arith}
use lib.ListN.{length}
use Rattle.buffer.proofs.Laws.{puts_then, puts_none}
use Rattle.writer_code.proofs.Steps.{body-short}
use Rattle.writer_code.proofs.put_head.Goals as goal

pub returns-in_default : goal.returns-in_default
returns-in_default c =
    let args = c.args in
    let found = c.rule_of.ensures in
    rw (← found, c.in_default.is) (puts_none args.at args.out.now)

pub overflow_cast-rule : goal.overflow_cast-rule
overflow_cast-rule c =
    let short = body-short c.args.tag c.rule_of.ensures c.in-Some.is in
    record { fits = short }

pub returns : goal.returns
returns c =
    let room : c.args.at ≤ length c.args.out.now = omega (arith, c.requires) in
    rw (← c.rule_of.ensures, c.in-Some.is) (puts_then room c.put_byte-next.ensures c.put_two.ensures)

-- `put_costs`: nothing where u and s on the second kind are not given; else the head, then u and s.
use Prim.Native.Nat.{◌≤◌}
use native.Mathlib.Omega.{arith}
use lib.ListN.{length}
use Rattle.system.specs.Rules.{rule_of}
use Rattle.buffer.proofs.Laws.{puts_then, puts_none}
use Rattle.writer.specs.File.{field_bytes}
use Rattle.writer.proofs.Bytes.{costs-some}
use Rattle.writer_code.proofs.put_costs.Goals as goal

pub returns-in_default : goal.returns-in_default
returns-in_default c =
    let args = c.args in
    rw c.in_default.is (puts_none args.at args.out.now)

pub put_head-headed-requires : goal.put_head-headed-requires
put_head-headed-requires c =
    omega (arith, c.requires, costs-some c.args.there c.in-Some.is)

pub put_four-timed-requires : goal.put_four-timed-requires
unfolding rule_of
put_four-timed-requires c =
    omega (arith, c.requires, costs-some c.args.there c.in-Some.is, c.put_head-headed.ensures.next, c.put_head-headed.auto.out)

pub put_four-requires : goal.put_four-requires
unfolding rule_of
put_four-requires c =
    omega (
      arith,
      c.requires,
      costs-some c.args.there c.in-Some.is,
      c.put_head-headed.ensures.next,
      c.put_head-headed.auto.out,
      c.put_four-timed.ensures.next,
      c.put_four-timed.auto.out,
    )

pub returns : goal.returns
unfolding field_bytes rule_of
returns c =
    let room : c.args.at ≤ length c.args.out.now = omega (arith, c.requires) in
    rw c.in-Some.is (puts_then room (puts_then room c.put_head-headed.ensures c.put_four-timed.ensures) c.put_four.ensures)

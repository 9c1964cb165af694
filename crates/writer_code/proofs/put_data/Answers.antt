-- `put_data`: nothing for a d of 0; else the head, then d.
use Prim.Native.Nat.{◌≤◌}
use native.Mathlib.Omega.{arith}
use lib.ListN.{length}
use borrow.Author.Tests.{eq-eqb, ne_eqb}
use Rattle.system.specs.Rules.{rule_of}
use Rattle.buffer.proofs.Laws.{puts_then, puts_none}
use Rattle.writer.specs.File.{field_bytes}
use Rattle.writer.proofs.Bytes.{data-some}
use Rattle.writer_code.proofs.put_data.Goals as goal

pub returns-then-d-eq0 : goal.returns-then-d-eq0
returns-then-d-eq0 c =
    let args = c.args in
    rw (eq-eqb args.d 0 c.if-d-eq0.true) (puts_none args.at args.out.now)

pub put_head-headed-requires : goal.put_head-headed-requires
put_head-headed-requires c =
    omega (arith, c.requires, data-some c.args.d c.if-d-eq0.false)

pub put_four-requires : goal.put_four-requires
unfolding rule_of
put_four-requires c =
    omega (arith, c.requires, data-some c.args.d c.if-d-eq0.false, c.put_head-headed.ensures.next, c.put_head-headed.auto.out)

pub returns : goal.returns
unfolding field_bytes rule_of
returns c =
    let room : c.args.at ≤ length c.args.out.now = omega (arith, c.requires) in
    rw (ne_eqb c.args.d 0 c.if-d-eq0.false) (puts_then room c.put_head-headed.ensures c.put_four.ensures)

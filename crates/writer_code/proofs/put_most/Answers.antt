-- `put_most`: nothing for a q that is not given; else the head, then q.
use Rattle.std.proofs.Common.{Option, ℕ}
use Prim.Native.Nat.{◌≤◌}
use mathlib.Core.Path.{ap, ◌∙◌}
use native.Mathlib.Omega.{arith}
use lib.ListN.{length}
use Rattle.system.specs.Rules.{rule_of}
use Rattle.buffer.proofs.Laws.{puts_then, puts_none}
use Rattle.writer.specs.File.{field_bytes, most_bytes}
use Rattle.writer.proofs.Bytes.{most-some}
use Rattle.writer_code.proofs.put_most.Goals as goal

pub returns-in_default : goal.returns-in_default
returns-in_default c =
    let args = c.args in
    rw c.in_default.is (puts_none args.at args.out.now)

pub put_head-headed-requires : goal.put_head-headed-requires
put_head-headed-requires c =
    omega (arith, c.requires, ap (λ (m : Option ℕ). length (most_bytes m)) c.in-Some.is ∙ most-some _)

pub put_two-requires : goal.put_two-requires
unfolding rule_of
put_two-requires c =
    omega (arith, c.requires, ap (λ (m : Option ℕ). length (most_bytes m)) c.in-Some.is ∙ most-some _, c.put_head-headed.ensures.next, c.put_head-headed.auto.out)

pub returns : goal.returns
unfolding field_bytes rule_of
returns c =
    let room : c.args.at ≤ length c.args.out.now = omega (arith, c.requires) in
    rw c.in-Some.is (puts_then room c.put_head-headed.ensures c.put_two.ensures)

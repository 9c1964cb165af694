-- `put_type`: the head, then u, s and n, and then d, q, C and T, and u and s on the second kind.
use Prim.Native.Nat.{◌≤◌}
use mathlib.Core.List.{◌++◌, append_assoc}
use native.Mathlib.Omega.{arith}
use lib.ListN.{length}
use borrow.Author.Rules.{rules}
use Rattle.system.specs.Rules.{rule_of}
use Rattle.buffer.proofs.Laws.{puts_then}
use Rattle.writer.specs.File.{field_bytes, data_bytes, most_bytes, pace_bytes, costs_bytes}
use Rattle.writer.proofs.Bytes.{type-size}
use Rattle.writer_code.proofs.put_type.Goals as goal

pub put_head-headed-requires : goal.put_head-headed-requires
unfolding field_bytes rule_of
put_head-headed-requires c = search rules

pub put_four-timed-requires : goal.put_four-timed-requires
unfolding field_bytes rule_of
put_four-timed-requires c = search rules

pub put_four-stored-requires : goal.put_four-stored-requires
unfolding field_bytes rule_of
put_four-stored-requires c = search rules

pub put_two-limited-requires : goal.put_two-limited-requires
unfolding field_bytes rule_of
put_two-limited-requires c = search rules

pub put_data-loaded-requires : goal.put_data-loaded-requires
unfolding field_bytes rule_of
put_data-loaded-requires c =
    omega (
      arith,
      c.requires,
      type-size c.args.t,
      c.put_head-headed.ensures.next,
      c.put_four-timed.ensures.next,
      c.put_four-stored.ensures.next,
      c.put_two-limited.ensures.next,
    )

pub put_most-kept-requires : goal.put_most-kept-requires
unfolding field_bytes rule_of
put_most-kept-requires c =
    omega (
      arith,
      c.requires,
      type-size c.args.t,
      c.put_head-headed.ensures.next,
      c.put_four-timed.ensures.next,
      c.put_four-stored.ensures.next,
      c.put_two-limited.ensures.next,
      c.put_data-loaded.ensures.next,
    )

pub put_pace-paced-requires : goal.put_pace-paced-requires
unfolding field_bytes rule_of
put_pace-paced-requires c =
    omega (
      arith,
      c.requires,
      type-size c.args.t,
      c.put_head-headed.ensures.next,
      c.put_four-timed.ensures.next,
      c.put_four-stored.ensures.next,
      c.put_two-limited.ensures.next,
      c.put_data-loaded.ensures.next,
      c.put_most-kept.ensures.next,
    )

pub put_costs-requires : goal.put_costs-requires
unfolding field_bytes rule_of
put_costs-requires c =
    omega (
      arith,
      c.requires,
      type-size c.args.t,
      c.put_head-headed.ensures.next,
      c.put_four-timed.ensures.next,
      c.put_four-stored.ensures.next,
      c.put_two-limited.ensures.next,
      c.put_data-loaded.ensures.next,
      c.put_most-kept.ensures.next,
      c.put_pace-paced.ensures.next,
    )

pub returns : goal.returns
unfolding field_bytes rule_of
returns c =
    let room : c.args.at ≤ length c.args.out.now = omega (arith, c.requires) in
    let costs = puts_then room (puts_then room c.put_head-headed.ensures c.put_four-timed.ensures) c.put_four-stored.ensures in
    let kept = puts_then room (puts_then room (puts_then room costs c.put_two-limited.ensures) c.put_data-loaded.ensures) c.put_most-kept.ensures in
    let t = c.args.t in
    let last = append_assoc (most_bytes t.most) (pace_bytes t.pace) (costs_bytes t.there) in
    let all = append_assoc (data_bytes t.data) (most_bytes t.most ++ pace_bytes t.pace) (costs_bytes t.there) in
    let first = append_assoc (data_bytes t.data) (most_bytes t.most) (pace_bytes t.pace) in
    rw (← last, ← all, ← first) (puts_then room (puts_then room kept c.put_pace-paced.ensures) c.put_costs.ensures)

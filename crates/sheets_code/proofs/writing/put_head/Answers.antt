-- `put_head`: the tag, then the length of the body, which is short.
use Prim.Native.Nat.{◌≤◌}
use native.Mathlib.Omega.{arith}
use lib.ListN.{length}
use Rattle.buffer.proofs.Laws.{puts_then}
use Rattle.sheets.proofs.Sizes.{rule-small}
use Rattle.sheets_code.proofs.writing.put_head.Goals as goal

pub overflow_cast-body_size : goal.overflow_cast-body_size
overflow_cast-body_size c =
    let start = c in
    let small = rule-small start.args.row start.args.k start.requires.0 start.requires.1 in
    record { fits = rw c.body_size.ensures (omega (arith, small.0, small.1)) }

pub returns : goal.returns
returns c =
    let sized = c in
    let tagged = sized in
    let ruled = tagged in
    let start = ruled in
    let room : start.args.at ≤ length start.args.out.now = omega (arith, start.requires.2) in
    puts_then room (rw ruled.rule_at-rule.ensures at tagged.put_byte-next.ensures) (rw sized.body_size.ensures at sized.put_two.ensures)

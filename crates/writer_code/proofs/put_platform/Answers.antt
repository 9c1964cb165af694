-- `put_platform`: the head, then m, rule, U and S.
use Prim.Native.Nat.{zero-le}
use borrow.Author.Rules.{rules}
use Rattle.system.specs.Rules.{rule_of}
use Rattle.buffer.proofs.Laws.{puts_then}
use Rattle.writer.specs.File.{field_bytes}
use Rattle.writer_code.proofs.put_platform.Goals as goal

pub put_byte-counted-requires : goal.put_byte-counted-requires
unfolding rule_of
put_byte-counted-requires c = search rules

pub put_byte-ruled-requires : goal.put_byte-ruled-requires
unfolding rule_of
put_byte-ruled-requires c = search rules

pub put_four-timed-requires : goal.put_four-timed-requires
unfolding rule_of
put_four-timed-requires c = search rules

pub put_four-requires : goal.put_four-requires
unfolding rule_of
put_four-requires c = search rules

pub returns : goal.returns
unfolding rule_of field_bytes
returns c =
    let first = puts_then zero-le c.put_head-headed.ensures c.put_byte-counted.ensures in
    puts_then zero-le (puts_then zero-le (puts_then zero-le first c.put_byte-ruled.ensures) c.put_four-timed.ensures) c.put_four.ensures

-- `put_numbered`: without a number, the word and the byte after it; otherwise what the call inside put, the last number and that byte.
use Prim.Native.Nat.{◌-◌, ◌≤◌}
use native.Mathlib.Omega.{arith}
use lib.ListN.{length, take, drop}
use lib.Seq.{length-take-le}
use Rattle.listing.proofs.Laws.{words, named_end, numbered-end}
use Rattle.listing_code.proofs.+put_numbered.Goals as goal

pub returns-then-count-eq0 : goal.returns-then-count-eq0
returns-then-count-eq0 t c =
    let args = c.args in
    (named_end (take args.size (drop args.start words)) args.numbers.now args.end c.if-count-eq0.true (omega arith) c.put_word-named.ensures.0 c.put_byte.ensures, omega (arith, c.put_byte.ensures.next))

pub returns : goal.returns
returns t c =
    let args = c.args in
    let ns = args.numbers.now in
    let room : args.at ≤ length args.out.now = omega arith in
    let fewer = length-take-le (length ns - 1) ns (omega arith) in
    (numbered-end (take args.size (drop args.start words)) ns (length ns - 1) args.end (omega arith) room c.put_numbered-next.ensures.0 c.put_number-told.ensures.0 c.put_byte-2.ensures, omega (arith, fewer, c.put_byte-2.ensures.next))

-- The line has 4,096 bytes, and the buffer more.
use mathlib.Core.Path.{◌≡◌, sym}
use native.Mathlib.Omega.{arith}
use lib.ListN.{length}
use lib.Seq.{length-take-le}
use borrow.Author.Rules.{rules}
use Rattle.timeline_code.proofs.put_line.Goals as goal

pub slice_bounds-line-end : goal.slice_bounds-line-end
slice_bounds-line-end c =
    let start = c in
    let l : length start.args.line ≡ 4096 = search rules in
    omega (arith, l, start.requires.0)

pub slice_bounds-put_bytes-end : goal.slice_bounds-put_bytes-end
slice_bounds-put_bytes-end c =
    let start = c in
    sym (length-take-le start.args.size start.args.line start.requires.0)

pub put_bytes-requires : goal.put_bytes-requires
put_bytes-requires c =
    let start = c in
    let l : length start.args.line ≡ 4096 = search rules in
    omega (arith, l, start.requires.0, start.requires.1, length-take-le start.args.size start.args.line start.requires.0)

pub returns : goal.returns
returns c =
    let put = c in
    let start = put in
    let l : length start.args.line ≡ 4096 = search rules in
    (put.put_bytes.ensures, omega (arith, put.put_bytes.ensures.next, l, start.requires.0, length-take-le start.args.size start.args.line start.requires.0))

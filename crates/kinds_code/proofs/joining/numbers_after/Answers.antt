-- `numbers_after`: the answers.
use mathlib.Core.Path.{◌≡◌, ◌∙◌}
use native.Mathlib.Omega.{arith}
use borrow.Author.Rules.{rules}
use lib.ListN.{length}
use lib.Seq.{paste-zero}
use Rattle.system.specs.Limits.{engine_limit}
use Rattle.partition.specs.Assignment.{numbers_from}
use Rattle.partition.proofs.Lists.{length-numbers_from}
use Rattle.kinds.proofs.Padded.{paste_more, get_or-numbers_from}
use Rattle.kinds_code.proofs.joining.numbers_after.Goals as goal

pub loop-i-init : goal.loop-i-init
loop-i-init c = (omega arith, paste-zero c.args.numbers c.args.at (numbers_from c.args.from c.args.count))

pub overflow_add-to : goal.overflow_add-to
overflow_add-to c = omega (arith, c.requires)

pub overflow_add-both : goal.overflow_add-both
overflow_add-both c = omega (arith, c.requires)

pub offset_bounds-both-to : goal.offset_bounds-both-to
offset_bounds-both-to c = omega (arith, c.requires)

pub bounds-both-to : goal.bounds-both-to
bounds-both-to c = omega (arith, c.requires)

pub overflow_step-i : goal.overflow_step-i
overflow_step-i c = omega (arith, c.requires)

pub loop-i-preserved : goal.loop-i-preserved
loop-i-preserved c =
    let here = c.loop-i in
    let start = c in
    let numbers = numbers_from start.args.from start.args.count in
    let sixteen : length start.args.numbers ≡ engine_limit = search rules in
    let number = get_or-numbers_from start.args.from start.args.count here.i (omega arith) in (
      omega arith,
      rw (here.invariant.1, ← number)
          (paste_more start.args.numbers start.args.at numbers here.i 0 (omega (arith, sixteen, start.requires)) (omega (arith, length-numbers_from start.args.from start.args.count))),
    )

pub returns : goal.returns
returns c =
    let here = c.loop-i in
    let all : here.i ≡ c.args.count = omega (arith, here.invariant.0) in
    here.invariant.1 ∙ rw all

-- The numbers are those of both (`both-numbers`).
use mathlib.Core.Path.{ap}
use Rattle.kinds.specs.Inner.{joined_placement}
use Rattle.kinds.proofs.Padded.{both-numbers}
use Rattle.kinds_code.proofs.joining.joined.Goals as goal

pub returns : goal.returns
unfolding joined_placement
returns c =
    let front = c.numbers_after-front in
    let numbers = c.numbers_after-numbers in
    let first = c.args.first in
    let second = c.args.second in
    let same = both-numbers first.used second.used c.args.m front.result numbers.result c.requires.0 front.ensures numbers.ensures in
    rw (same, c.loads_after.ensures)

-- The tests are the definition's, one after the other.
use Rattle.system.specs.Limits.{platform_fault}
use Rattle.system.proofs.Within.{passed_as}
use Rattle.making.specs.Making.{numbers_fault}
use Rattle.making_code.proofs.limits.numbers_fault.Goals as goal

pub returns-then-not-some-platform : goal.returns-then-not-some-platform
unfolding numbers_fault
returns-then-not-some-platform c =
    let w = c.args.w in
    rw (← passed_as (platform_fault w.engines w.rule w.timecap w.memorycap) c.is_ok-platform.ensures.value c.platform_fault.ensures, c.if-not-some-platform.true)

pub returns : goal.returns
unfolding numbers_fault
returns c =
    let w = c.args.w in
    rw (← passed_as (platform_fault w.engines w.rule w.timecap w.memorycap) c.is_ok-platform.ensures.value c.platform_fault.ensures, c.if-not-some-platform.false)

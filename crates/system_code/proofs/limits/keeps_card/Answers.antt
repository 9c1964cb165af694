-- `limits::keeps_card` meets its contract: its flags are the tests of `keeps_card`.
use mathlib.Core.Bool.{and_assoc}
use Rattle.system.specs.Limits.{platform_fault, columns_fault, paces_fault, second_fault, kinds_fault, keeps_card}
use Rattle.system.proofs.Within.{passed_as}
use Rattle.system_code.proofs.limits.keeps_card.Goals as goal

pub returns : goal.returns
unfolding keeps_card
returns c =
    let y = c.args.y in
    rw (
      passed_as (platform_fault y.engines y.rule y.timecap y.memorycap) c.is_ok-platform.ensures.value c.platform_fault.ensures,
      c.types_keep.ensures,
      passed_as (columns_fault y.types) c.is_ok.ensures.value c.columns_fault.ensures,
      passed_as (paces_fault y.timecap y.typecount y.types) c.is_ok-run.ensures.value c.paces_fault.ensures,
      passed_as (second_fault y.engines y.second) c.is_ok-2.ensures.value c.second_fault.ensures,
      passed_as (kinds_fault y) c.is_ok-3.ensures.value c.kinds_fault.ensures,
    ) (simp and_assoc)

-- `system_fault`: the first test that refuses decides.
use mathlib.Core.Path.{ap, ◌∙◌}
use Rattle.system.specs.declared.System.{System}
use Rattle.system.specs.Outcome.{within}
use Rattle.system.specs.Values.{cleared}
use Rattle.system.specs.Limits.{platform_fault, second_fault, kinds_fault}
use Rattle.system.proofs.Within.{handed_on, first_refused, then_second}
use Rattle.writer.specs.Writing.{or_else, count_fault, engines_fault, types_limits, system_fault}
use Rattle.writer_code.proofs.system_fault.Goals as goal

pub returns-in_err-count_fault : goal.returns-in_err-count_fault
unfolding system_fault
returns-in_err-count_fault c =
    let y = c.args.y in
    let equipped = engines_fault (platform_fault y.engines y.rule y.timecap y.memorycap) (second_fault y.engines y.second) in
    let limits = types_limits y.timecap (cleared y).types in
    let built = or_else equipped limits in
    handed_on _ c.from_residual.ensures.1 (first_refused (count_fault y.typecount) (or_else (kinds_fault y) built) _ c.in_err-count_fault.ensures)

pub returns-in_err-kinds_fault : goal.returns-in_err-kinds_fault
unfolding system_fault
returns-in_err-kinds_fault c =
    let y = c.args.y in
    let equipped = engines_fault (platform_fault y.engines y.rule y.timecap y.memorycap) (second_fault y.engines y.second) in
    let limits = types_limits y.timecap (cleared y).types in
    let built = or_else equipped limits in
    handed_on _ c.from_residual-in_err-kinds_fault.ensures.1
    (then_second (count_fault y.typecount) (or_else (kinds_fault y) built) _ c.in_ok-count_fault.ensures
    (first_refused (kinds_fault y) built _ c.in_err-kinds_fault.ensures))

pub returns-in_err-engines_fault : goal.returns-in_err-engines_fault
unfolding system_fault
returns-in_err-engines_fault c =
    let y = c.args.y in
    let equipped = engines_fault (platform_fault y.engines y.rule y.timecap y.memorycap) (second_fault y.engines y.second) in
    let limits = types_limits y.timecap (cleared y).types in
    let built = or_else equipped limits in
    handed_on _ c.from_residual-in_err-engines_fault.ensures.1
    (then_second (count_fault y.typecount) (or_else (kinds_fault y) built) _ c.in_ok-count_fault.ensures
    (then_second (kinds_fault y) built _ c.in_ok-kinds_fault.ensures (first_refused equipped limits _ c.in_err-engines_fault.ensures)))

pub returns : goal.returns
unfolding system_fault
returns c =
    let y = c.args.y in
    let equipped = engines_fault (platform_fault y.engines y.rule y.timecap y.memorycap) (second_fault y.engines y.second) in
    let limits = types_limits y.timecap (cleared y).types in
    let built = or_else equipped limits in
    then_second (count_fault y.typecount) (or_else (kinds_fault y) built) _ c.in_ok-count_fault.ensures
    (then_second (kinds_fault y) built _ c.in_ok-kinds_fault.ensures
    (then_second equipped limits _ c.in_ok-engines_fault.ensures
    (c.types_limits.ensures ∙ ap (λ (z : System). within (types_limits y.timecap z.types)) c.cleared.ensures)))

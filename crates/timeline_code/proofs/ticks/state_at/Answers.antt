-- `state_at`: the answers.
use mathlib.Core.Path.{◌≡◌}
use native.Mathlib.Omega.{arith}
use lib.ListN.{take}
use Rattle.timeline.proofs.Laws.{state-first, state-next}
use Rattle.timeline_code.proofs.ticks.state_at.Goals as goal

pub loop-now-init : goal.loop-now-init
loop-now-init c = (omega arith, λ js e. state-first js _ e)

pub loop-now-preserved : goal.loop-now-preserved
loop-now-preserved c =
    let turn = c.loop-now in
    (omega arith, λ js e. state-next turn.now js _ _ (turn.invariant.1 js e) c.one_tick-tick.ensures.next_value)

pub returns : goal.returns
returns c =
    let turn = c.loop-now in
    let a = c.args in
    let end : turn.now ≡ a.time = omega arith in
    rw end at (turn.invariant.1 (take a.count a.jobs) c.started-state.ensures)

-- One law for each answer, in their order.
use mathlib.Core.Bool.{◌&&◌}
use lib.Dec.{leb}
use Rattle.runs.specs.Run.{job_limit}
use Rattle.deadlines.specs.Engine.{few_ticks, few_enough}
use Rattle.deadlines_code.proofs.Steps.{first-fails, second-fails, neither-fails}
use mathlib.Core.Path.{ap}
use mathlib.Core.Bool.{not}
use Rattle.deadlines_code.proofs.run_check.Goals as goal

pub returns-then-not-all_paced : goal.returns-then-not-all_paced
returns-then-not-all_paced c =
    let a = c.args in
    rw (← c.all_paced.ensures) (first-fails c.all_paced.result (few_enough a.counts a.ticks) 44 45 (ap not c.if-not-all_paced.true))

pub returns-then-not-instances-ticks : goal.returns-then-not-instances-ticks
returns-then-not-instances-ticks c =
    let a = c.args in
    rw (← c.all_paced.ensures, ← c.instances.ensures) (second-fails c.all_paced.result (leb c.instances.result job_limit && few_ticks a.ticks) 44 45 (ap not c.if-not-all_paced.false) (ap not c.if-not-instances-ticks.true))

pub returns : goal.returns
returns c =
    let a = c.args in
    rw (← c.all_paced.ensures, ← c.instances.ensures) (neither-fails c.all_paced.result (leb c.instances.result job_limit && few_ticks a.ticks) 44 45 (ap not c.if-not-all_paced.false) (ap not c.if-not-instances-ticks.false))

-- `planner_code::plan_records`: the plan of `plan_for`, with its numbers and loads as records.
use mathlib.Core.Path.{ap₂, ◌∙◌}
use Rattle.planner.specs.Plan.{records_with}
use Rattle.planner_code.proofs.plan_records.Goals as goal

pub returns : goal.returns
returns c =
    let p = rw (← c.plan_from-plan.ensures) at c.plan_for.ensures.whole in
    record { answer = p.answers; used = p.uses; records = c.records_of.ensures ∙ ap₂ records_with p.numbers p.places; left = p.leaves_table }

-- `planner_code::refused_plan`: the numbers are 1 to 16, and every engine is the idle one.
use Rattle.partition.specs.Assignment.{numbers_from}
use Rattle.planner_code.proofs.refused_plan.Goals as goal

pub returns : goal.returns
unfolding numbers_from
returns c = rw c.idle_engine.ensures

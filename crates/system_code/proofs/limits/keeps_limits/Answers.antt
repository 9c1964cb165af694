-- `limits::keeps_limits` meets its contract: its two tests are those of `keeps_limits`.
use Rattle.system.specs.Limits.{keeps_limits}
use Rattle.system_code.proofs.Steps.{none_is_one}
use Rattle.system_code.proofs.limits.keeps_limits.Goals as goal

pub returns : goal.returns
unfolding keeps_limits
returns c = rw (c.keeps_card.ensures, none_is_one _ c.args.y.second c.is_none.ensures)

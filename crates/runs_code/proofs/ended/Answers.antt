-- Each way out is one case of the definition.
use mathlib.Core.Path.{◌∙◌}
use Rattle.runs.specs.Run.{run_from}
use Rattle.runs_code.proofs.ended.Goals as goal

pub returns-then-late : goal.returns-then-late
unfolding run_from
returns-then-late c = c.missed_at.ensures ∙ rw (← c.late.ensures, c.if-late.true)

pub returns : goal.returns
unfolding run_from
returns c = rw (← c.late.ensures, c.if-late.false)

-- By the totals and the ceilings.
use mathlib.Core.Path.{sym, ◌∙◌}
use Rattle.sheets_code.proofs.checking.totals_check.Goals as goal

pub returns-then-totals_match : goal.returns-then-totals_match
returns-then-totals_match c = rw (← c.total-sum.ensures, sym c.totals_match.ensures ∙ c.if-totals_match.true)

pub returns : goal.returns
returns c = rw (← c.total-sum.ensures, sym c.totals_match.ensures ∙ c.if-totals_match.false)

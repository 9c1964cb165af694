-- The engine's load decides.
use mathlib.Core.Path.{sym, ap, ◌∙◌}
use Rattle.loads.specs.Load.{holds_none}
use Rattle.board.proofs.Ready.{engine-in}
use Rattle.board_code.proofs.checks.empty_check.Goals as goal

pub load_at-counts-requires : goal.load_at-counts-requires
load_at-counts-requires c = engine-in c.args.b c.requires.is_true c.args.e c.requires.known

pub returns-then-holds_none : goal.returns-then-holds_none
returns-then-holds_none c = rw (ap holds_none (sym c.load_at-counts.ensures) ∙ sym c.holds_none.ensures ∙ c.if-holds_none.true)

pub returns : goal.returns
returns c = rw (ap holds_none (sym c.load_at-counts.ensures) ∙ sym c.holds_none.ensures ∙ c.if-holds_none.false)

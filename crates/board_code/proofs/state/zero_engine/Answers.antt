-- The three tests; six counts is what an array has.
use mathlib.Core.Path.{◌≡◌}
use lib.ListN.{length}
use borrow.Author.Tests.{eq-eqb}
use Rattle.system.specs.Limits.{type_limit}
use borrow.Author.Rules.{rules}
use Rattle.board_code.proofs.state.zero_engine.Goals as goal

pub returns : goal.returns
returns c =
    let l : length c.args.l.counts ≡ type_limit = search rules in
    rw (eq-eqb _ _ l, c.holds_none.ensures)

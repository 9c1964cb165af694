-- The three tests at the sums that the callees ensure; six counts is what an array has.
use mathlib.Core.Path.{◌≡◌}
use lib.ListN.{length}
use borrow.Author.Tests.{eq-eqb}
use Rattle.system.specs.Limits.{type_limit}
use borrow.Author.Rules.{rules}
use Rattle.board_code.proofs.state.true_engine.Goals as goal

pub returns : goal.returns
returns c =
    let a = c.args in
    let l : length a.l.counts ≡ type_limit = search rules in
    rw (eq-eqb _ _ l, c.sums_of-sums.ensures, c.fits_engine.ensures)

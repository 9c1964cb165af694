-- The first of the six types that passes the test.
use Rattle.std.proofs.Common.{rules, arith}
use mathlib.Core.Path.{refl}
use borrow.Author.Tests.{tests}
use Rattle.std.proofs.lemmas.Iterator.{YieldsList-from_range}
use Rattle.std.proofs.lemmas.Iterator.Search.{find_from_yields_List}
use Rattle.causes.specs.Causes.{unfit_at, lowest_unfit}
use Rattle.causes_code.proofs.Steps.{found-lowest}
use Rattle.causes_code.proofs.facts.lowest_unfit.Goals as goal

pub returns : goal.returns
unfolding lowest_unfit
returns c =
    found-lowest (unfit_at c.args.y c.args.counts) 6 1 c.find.result (omega arith)
    (find_from_yields_List (unfit_at c.args.y c.args.counts) _ _ c.find.result c.find.ensures.ran (YieldsList-from_range 1 7 6 (cc) refl) (λ x b q k. search (rules, tests)))

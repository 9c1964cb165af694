-- Those of the sixteen engines that hold an instance, counted.
use Rattle.std.proofs.Common.{rules, arith}
use mathlib.Core.Path.{◌≡◌, ◌∙◌}
use mathlib.Core.Bool.{not}
use borrow.Author.Tests.{tests}
use lib.ListN.{length}
use Rattle.std.proofs.lemmas.Iterator.{YieldsList-from_slice}
use Rattle.std.proofs.lemmas.Iterator.Consumers.{YieldsList-from_filter, count_from_yields_List}
use Rattle.loads.specs.declared.EngineLoad.{EngineLoad}
use Rattle.loads.specs.Load.{holds_none}
use Rattle.sheets.specs.Sheet.{used_in}
use Rattle.sheets.proofs.Sizes.{used-few}
use Rattle.sheets_code.proofs.Steps.{used-filter}
use Rattle.sheets_code.proofs.rules.used_engines.Goals as goal

pub returns : goal.returns
returns c =
    let ls = c.args.loads in
    let n : length ls ≡ 16 = search rules in
    let all : c.count.result ≡ used_in ls =
    count_from_yields_List c.filter.result c.count.result c.count.ensures.ran
    (YieldsList-from_filter _ (λ (l : EngineLoad). not (holds_none l.counts)) (YieldsList-from_slice ls cc) c.filter.ensures.closure (λ x r q k. search (rules, tests)))
    ∙ used-filter ls in
    (all, omega (arith, used-few ls))

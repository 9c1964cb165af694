-- `limits::kinds_agree` meets its contract: the chain asks it of each of the first k types.
use Rattle.std.proofs.Common.{rules}
use borrow.Author.Tests.{tests}
use mathlib.Core.Path.{◌∙◌}
use Rattle.std.proofs.lemmas.Iterator.{YieldsList-from_slice, YieldsList-from_take}
use Rattle.std.proofs.lemmas.Iterator.Search.{all_from_yields_List}
use Rattle.system_code.proofs.Steps.{kind_agrees, kinds-listed}
use Rattle.system_code.proofs.limits.kinds_agree.Goals as goal

pub returns : goal.returns
returns c =
    let a = c.args in
    all_from_yields_List (kind_agrees a.one) _ _ _ c.all.ensures.ran (YieldsList-from_take a.k (YieldsList-from_slice a.types cc) c.take.ensures.count) (λ x b q k. search (rules, tests))
    ∙ kinds-listed a.one a.k a.types

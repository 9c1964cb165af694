-- `apart`: what `all` answers is the definition, in the library's word.
use Prim.Native.Nat.{ℕ}
use mathlib.Core.Path.{◌∙◌}
use borrow.Author.Rules.{rules}
use borrow.Author.Tests.{tests}
use Rattle.std.proofs.lemmas.Iterator.{YieldsList-from_slice, YieldsList-from_zip}
use Rattle.std.proofs.lemmas.Iterator.Search.{all_from_yields_List}
use Rattle.system.specs.declared.TaskType.{TaskType}
use Rattle.loads.specs.Load.{apart_at}
use Rattle.loads.proofs.Steps.{apart-listed}
use Rattle.loads_code.proofs.apart.Goals as goal

pub returns : goal.returns
returns c =
    all_from_yields_List (λ (p : TaskType × ℕ). apart_at p.0.most p.1) c.all.new.self _ _ c.all.ensures.ran
    (YieldsList-from_zip (YieldsList-from_slice c.args.types (cc)) (YieldsList-from_slice c.args.counts (cc)))
    (λ x b q k. search (rules, tests))
    ∙ apart-listed c.args.types c.args.counts

-- One test for each type and its count.
use Rattle.std.proofs.Common.{rules}
use Prim.Native.Nat.{ℕ}
use mathlib.Core.Path.{◌∙◌}
use mathlib.Core.Bool.{◌||◌}
use borrow.Author.Tests.{tests}
use lib.Dec.{eqb}
use Rattle.std.proofs.lemmas.Iterator.{YieldsList-from_slice, YieldsList-from_zip}
use Rattle.std.proofs.lemmas.Iterator.Search.{all_from_yields_List}
use Rattle.system.specs.declared.TaskType.{TaskType}
use Rattle.deadlines.specs.Engine.{paced_type}
use Rattle.deadlines_code.proofs.Steps.{paced-zip}
use Rattle.deadlines_code.proofs.all_paced.Goals as goal

pub returns : goal.returns
returns c =
    all_from_yields_List (λ (p : TaskType × ℕ). eqb p.1 0 || paced_type p.0) c.all.new.self _ _ c.all.ensures.ran
    (YieldsList-from_zip (YieldsList-from_slice c.args.types cc) (YieldsList-from_slice c.args.counts cc)) (λ x b q k. search (rules, tests))
    ∙ paced-zip c.args.types c.args.counts

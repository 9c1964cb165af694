-- One test for each type and its count.
use Rattle.std.proofs.Common.{rules}
use Prim.Native.Nat.{ℕ}
use mathlib.Core.Path.{◌∙◌}
use borrow.Author.Tests.{tests}
use Rattle.std.proofs.lemmas.Iterator.{YieldsList-from_slice, YieldsList-from_zip}
use Rattle.std.proofs.lemmas.Iterator.Search.{any_from_yields_List}
use Rattle.system.specs.declared.TaskType.{TaskType}
use Rattle.causes.specs.Causes.{over_most}
use Rattle.causes_code.proofs.Steps.{short-zip}
use Rattle.causes_code.proofs.facts.replicas_short.Goals as goal

pub returns : goal.returns
returns c =
    any_from_yields_List (λ (p : TaskType × ℕ). over_most c.args.engines p.0.most p.1) c.any.new.self _ _ c.any.ensures.ran
    (YieldsList-from_zip (YieldsList-from_slice c.args.types cc) (YieldsList-from_slice c.args.counts cc)) (λ x b q k. search (rules, tests))
    ∙ short-zip c.args.engines c.args.types c.args.counts

-- One test for each of the jobs.
use Rattle.std.proofs.Common.{rules}
use mathlib.Core.Path.{◌∙◌}
use borrow.Author.Tests.{tests}
use lib.ListN.{take}
use Rattle.std.proofs.lemmas.Iterator.{YieldsList-from_slice}
use Rattle.std.proofs.lemmas.Iterator.Search.{any_from_yields_List}
use Rattle.runs.specs.Run.{late_job}
use Rattle.runs_code.proofs.Passes.{late-listed}
use Rattle.runs_code.proofs.late.Goals as goal

pub returns : goal.returns
returns c =
    let a = c.args in
    any_from_yields_List (late_job a.now) _ _ _ c.any.ensures.ran (YieldsList-from_slice (take a.count a.jobs) cc) (λ x b q k. search (rules, tests))
    ∙ late-listed a.now (take a.count a.jobs)

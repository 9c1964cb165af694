-- One test for each total and its type.
use Rattle.std.proofs.Common.{rules, arith}
use Prim.Native.Nat.{ℕ}
use mathlib.Core.Path.{◌≡◌, ◌∙◌}
use borrow.Author.Tests.{tests}
use lib.ListN.{length}
use lib.Dec.{eqb}
use Rattle.std.proofs.lemmas.Iterator.{YieldsList-from_slice, YieldsList-from_zip}
use Rattle.std.proofs.lemmas.Iterator.Search.{all_from_yields_List}
use Rattle.system.specs.declared.TaskType.{TaskType}
use Rattle.sheets_code.proofs.Steps.{totals-zip}
use Rattle.sheets_code.proofs.checking.totals_match.Goals as goal

pub returns : goal.returns
returns c =
    let a = c.args in
    let ls : length a.sum ≡ 6 = search rules in
    let lt : length a.types ≡ 6 = search rules in
    all_from_yields_List (λ (p : ℕ × TaskType). eqb p.0 p.1.ceiling) c.all.new.self _ _ c.all.ensures.ran (YieldsList-from_zip (YieldsList-from_slice a.sum cc) (YieldsList-from_slice a.types cc)) (λ x b q k. search (rules, tests))
    ∙ totals-zip a.sum a.types (omega arith)

-- One test for each engine, by its index.
use Rattle.std.proofs.Common.{rules}
use Prim.Native.Nat.{ℕ}
use mathlib.Core.Path.{◌∙◌}
use borrow.Author.Tests.{tests}
use Rattle.std.proofs.lemmas.Iterator.{YieldsList-from_slice}
use Rattle.std.proofs.lemmas.Iterator.Consumers.{YieldsList-from_enumerate}
use Rattle.std.proofs.lemmas.Iterator.Search.{all_from_yields_List}
use Rattle.loads.specs.declared.EngineLoad.{EngineLoad}
use Rattle.board.specs.Truth.{engine_true}
use Rattle.board_code.proofs.Chains.{true-all}
use Rattle.board_code.proofs.state.true_loads.Goals as goal

pub returns : goal.returns
returns c =
    let a = c.args in
    all_from_yields_List (λ (p : ℕ × EngineLoad). engine_true a.y p.0 p.1) _ _ _ c.all.ensures.ran (YieldsList-from_enumerate (YieldsList-from_slice a.loads cc) cc) (λ x b q k. search (rules, tests))
    ∙ true-all a.y a.loads

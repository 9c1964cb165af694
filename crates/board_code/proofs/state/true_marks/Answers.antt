-- One test for each engine's number; sixteen marks is what an array has.
use Rattle.std.proofs.Common.{rules}
use mathlib.Core.Path.{◌≡◌, refl, ◌∙◌}
use borrow.Author.Tests.{tests, eq-eqb}
use lib.ListN.{length}
use Rattle.std.proofs.lemmas.Iterator.{YieldsList-from_range}
use Rattle.std.proofs.lemmas.Iterator.Search.{all_from_yields_List}
use Rattle.board.specs.Truth.{mark_true, true_marks}
use Rattle.board_code.proofs.Chains.{every-range}
use Rattle.board_code.proofs.state.true_marks.Goals as goal

pub returns : goal.returns
unfolding true_marks
returns c =
    let b = c.args.b in
    let l : length b.marks ≡ 16 = search rules in
    rw (eq-eqb _ _ l)
    (all_from_yields_List (mark_true b) _ _ _ c.all.ensures.ran (YieldsList-from_range 1 17 16 (cc) refl) (λ x b q k. search (rules, tests)) ∙ every-range (mark_true b) 1 16)

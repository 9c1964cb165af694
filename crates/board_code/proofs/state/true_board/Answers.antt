-- The five tests; sixteen engines is what an array has.
use mathlib.Core.Path.{◌≡◌}
use mathlib.Core.Bool.{and-true}
use lib.ListN.{length}
use borrow.Author.Tests.{eq-eqb}
use borrow.Author.Rules.{rules}
use Rattle.system.specs.Limits.{keeps_limits}
use Rattle.loads.proofs.Steps.{length-mapped}
use Rattle.board.specs.Truth.{true_board}
use Rattle.board.proofs.TrueMeans.{truth-told}
use Rattle.board_code.proofs.state.true_board.Goals as goal

-- a promise of two clauses, from the pair
both : {A B : Type 0} → A × B → record { value : A; variant : B }
both p = record { value = p.0; variant = p.1 }

pub returns : goal.returns
unfolding true_board
returns c =
    let b = c.args.b in
    let l : length b.loads ≡ 16 = search (rules, length-mapped) in
    both
    (truth-told b _
    (rw (
      eq-eqb _ _ l,
      and-true (keeps_limits b.system),
      c.keeps_limits.ensures,
      c.true_loads.ensures,
      c.under_ceilings.ensures,
      c.total-sum.ensures,
      c.true_marks.ensures,
    )))

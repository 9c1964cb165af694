-- `first_engine`: the answers.
use Prim.Native.Nat.{ℕ, ◌<◌}
use mathlib.Core.Path.{◌≡◌, sym, subst, ◌∙◌}
use mathlib.Core.List.{List}
use mathlib.Core.Bool.{true}
use native.Mathlib.Omega.{arith}
use lib.ListN.{length, get_or}
use Rattle.partition.specs.Assignment.{among}
use Rattle.partition.proofs.Lists.{every-among, every-get_or}
use Rattle.table.specs.Chain.{listed}
use Rattle.board.specs.declared.Board.{Board}
use Rattle.board.specs.Boards.{engines_of}
use Rattle.board.specs.Truth.{true_board}
use Rattle.board.specs.Calls.{takes}
use Rattle.board.specs.Inner.{OnEngine}
use Rattle.board.proofs.Steps.{first-stop, first-turn, first-end}
use Rattle.board.proofs.Ready.{on-engine}
use Rattle.board_code.proofs.work.first_engine.Goals as goal

pub engines_of-engines-requires : goal.engines_of-engines-requires
engines_of-engines-requires c = c.requires.is_true

-- each engine of the list is one of the board's
on : (b : Board) (h : true_board b ≡ true) (es : List ℕ) (same : es ≡ engines_of b) (i : ℕ) → i < length es → OnEngine b (get_or es i 0)
on b h es same i k =
    subst (λ (l : List ℕ). i < length l → OnEngine b (get_or l i 0)) (sym same)
    (λ small. on-engine b h (get_or (engines_of b) i 0) (every-get_or (among (engines_of b)) (engines_of b) 0 i (every-among (engines_of b)) small)) k

pub takes_it-requires : goal.takes_it-requires
takes_it-requires c =
    let f = c.engines_of-engines in
    (c.requires, on c.args.b c.requires.is_true (listed f.result) f.ensures.1 c.loop-e.e-index c.loop-e-test.true)

pub returns-then-takes_it : goal.returns-then-takes_it
returns-then-takes_it c =
    sym (first-stop (takes c.args.b c.args.t) (listed c.engines_of-engines.result) c.loop-e.e-index c.loop-e-test.true (sym c.takes_it.ensures ∙ c.if-takes_it.true)) ∙ c.loop-e.invariant

pub loop-e-preserved : goal.loop-e-preserved
loop-e-preserved c =
    sym (first-turn (takes c.args.b c.args.t) (listed c.engines_of-engines.result) c.loop-e.e-index c.loop-e-test.true (sym c.takes_it.ensures ∙ c.if-takes_it.false)) ∙ c.loop-e.invariant

pub returns : goal.returns
returns c = sym (first-end (takes c.args.b c.args.t) (listed c.engines_of-engines.result) c.loop-e.e-index (omega arith)) ∙ c.loop-e.invariant

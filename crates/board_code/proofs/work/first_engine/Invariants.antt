-- The loop's invariant: the first of the engines left that takes the newcomer is the first of all.
use mathlib.Core.Path.{◌≡◌}
use lib.ListN.{drop}
use Rattle.board.specs.Calls.{takes, first_of, first_engine}
use Rattle.board_code.proofs.work.first_engine.Given as goal

abbrev pub invariant-loop-e : goal.invariant-loop-e
invariant-loop-e l = first_of (takes l.fn.b l.fn.t) (drop l.e-index l.e-items) ≡ first_engine l.fn.b l.fn.t

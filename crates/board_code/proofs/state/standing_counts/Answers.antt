-- On a true board every total is within its ceiling, which is below the columns' limit.
use Prim.Native.Nat.{ℕ}
use mathlib.Core.Path.{◌≡◌, ap, ◌∙◌}
use mathlib.Core.List.{List}
use lib.ListN.{get_or}
use native.Mathlib.Omega.{arith}
use Rattle.board.specs.Boards.{standing}
use Rattle.board.proofs.Ready.{standing-small}
use Rattle.board_code.proofs.state.standing_counts.Goals as goal

pub narrowed-requires : goal.narrowed-requires
narrowed-requires c = λ t.
    let start = c in
    let same : get_or c.total.result t 0 ≡ get_or (standing start.args.b) t 0 = ap (λ (x : List ℕ). get_or x t 0) c.total.ensures in
    omega (arith, standing-small start.args.b start.requires t)

pub returns : goal.returns
returns c = c.narrowed.ensures ∙ c.total.ensures

-- The newcomer's type is one of six, and what stands of it is far below 16 bits.
use Prim.Native.Nat.{ℕ, ◌-◌}
use mathlib.Core.Path.{◌≡◌, ap, ◌∙◌}
use mathlib.Core.List.{List}
use lib.ListN.{get_or}
use native.Mathlib.Omega.{arith}
use Rattle.loads.specs.Load.{one_more}
use Rattle.board.specs.Boards.{standing}
use Rattle.board.proofs.Ready.{newcomer-range, standing-small}
use Rattle.board_code.proofs.work.with_newcomer.Goals as goal

pub standing_counts-counts-requires : goal.standing_counts-counts-requires
standing_counts-counts-requires c = c.requires.is_true

pub overflow_sub-t : goal.overflow_sub-t
overflow_sub-t c = (newcomer-range c.args.b c.args.t c.requires).0

pub one_more-requires : goal.one_more-requires
one_more-requires c =
    let a = c.args in
    let j = a.t - 1 in
    let range = newcomer-range a.b a.t c.requires in
    let same : get_or c.standing_counts-counts.result j 0 ≡ get_or (standing a.b) j 0 = ap (λ (x : List ℕ). get_or x j 0) c.standing_counts-counts.ensures in
    (omega arith, omega (arith, standing-small a.b c.requires.is_true j))

pub returns : goal.returns
returns c = c.one_more.ensures ∙ ap (one_more (c.args.t - 1)) c.standing_counts-counts.ensures

-- The newcomer's type is one of six, and its count on the engine is at most what stands of it, which is far below 16 bits.
use Prim.Native.Nat.{ℕ, ◌-◌}
use mathlib.Core.Path.{◌≡◌, ap, ◌∙◌}
use mathlib.Core.List.{List}
use lib.ListN.{get_or}
use native.Mathlib.Omega.{arith}
use Rattle.loads.specs.Load.{one_more}
use Rattle.board.specs.Boards.{load_at}
use Rattle.board.proofs.Ready.{engine-in, newcomer-range, load-small, standing-small}
use Rattle.board_code.proofs.work.load_with.Goals as goal

pub load_at-counts-requires : goal.load_at-counts-requires
load_at-counts-requires c = let on = c.requires.1 in engine-in c.args.b on.is_true c.args.e on.known

pub overflow_sub-t : goal.overflow_sub-t
overflow_sub-t c = (newcomer-range c.args.b c.args.t c.requires.0).0

pub one_more-requires : goal.one_more-requires
one_more-requires c =
    let a = c.args in
    let on = c.requires.1 in
    let j = a.t - 1 in
    let range = newcomer-range a.b a.t c.requires.0 in
    let same : get_or c.load_at-counts.result j 0 ≡ get_or (load_at a.b a.e) j 0 = ap (λ (x : List ℕ). get_or x j 0) c.load_at-counts.ensures in
    (omega arith, omega (arith, load-small a.b on.is_true a.e on.known j, standing-small a.b on.is_true j))

pub returns : goal.returns
returns c = c.one_more.ensures ∙ ap (one_more (c.args.t - 1)) c.load_at-counts.ensures

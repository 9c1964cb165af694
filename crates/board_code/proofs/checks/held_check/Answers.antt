-- The count of the type at t - 1 on the engine, tested.
use Prim.Native.Nat.{ℕ, ◌-◌, ◌<◌}
use mathlib.Core.Path.{◌≡◌}
use mathlib.Core.Bool.{true}
use native.Mathlib.Omega.{arith}
use borrow.Author.Tests.{le-leb, lt-leb}
use Rattle.board.specs.declared.Board.{Board}
use Rattle.board.specs.Truth.{true_board}
use Rattle.board.specs.Calls.{known_type}
use Rattle.board.proofs.Ready.{engine-in, type-range}
use Rattle.board_code.proofs.checks.held_check.Goals as goal

in-range : (b : Board) (t : ℕ) → true_board b ≡ true → known_type b.system t ≡ true → t - 1 < 6
in-range b t h known = let r = type-range b h t known in omega arith

pub overflow_sub-i : goal.overflow_sub-i
overflow_sub-i c = (type-range c.args.b c.requires.0.is_true c.args.t c.requires.1).0

pub load_at-counts-requires : goal.load_at-counts-requires
load_at-counts-requires c = let on = c.requires.0 in engine-in c.args.b on.is_true c.args.e on.known

pub offset_bounds-counts-i : goal.offset_bounds-counts-i
offset_bounds-counts-i c = omega (arith, in-range c.args.b c.args.t c.requires.0.is_true c.requires.1)

pub bounds-counts-i : goal.bounds-counts-i
bounds-counts-i c = in-range c.args.b c.args.t c.requires.0.is_true c.requires.1

pub returns-then-counts-i-ge1 : goal.returns-then-counts-i-ge1
returns-then-counts-i-ge1 c = rw (le-leb 1 _ (rw c.load_at-counts.ensures at c.if-counts-i-ge1.true))

pub returns : goal.returns
returns c = rw (lt-leb 1 _ (rw c.load_at-counts.ensures at c.if-counts-i-ge1.false))

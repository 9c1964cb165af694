-- What stands of the type at t - 1 against its ceiling.
use Prim.Native.Nat.{ℕ, ◌-◌, ◌<◌}
use mathlib.Core.Path.{◌≡◌, ap, ap₂, sym, ◌∙◌}
use mathlib.Core.List.{List}
use mathlib.Core.Bool.{true}
use native.Mathlib.Omega.{arith}
use borrow.Author.Tests.{lt-ltb, le-ltb}
use lib.ListN.{get_or, get_or-map}
use lib.Dec.{ltb}
use Rattle.system.specs.declared.TaskType.{TaskType}
use Rattle.system.specs.Values.{no_task}
use Rattle.board.specs.declared.Board.{Board}
use Rattle.board.specs.Boards.{standing}
use Rattle.board.specs.Truth.{true_board}
use Rattle.board.specs.Calls.{known_type, under_ceiling}
use Rattle.board.proofs.Ready.{type-range}
use Rattle.board_code.proofs.checks.ceiling_check.Goals as goal

in-range : (b : Board) (t : ℕ) → true_board b ≡ true → known_type b.system t ≡ true → t - 1 < 6
in-range b t h known = let r = type-range b h t known in omega arith

-- the test of the code is that of the definition
same_test : (b : Board) (t : ℕ) (counts : List ℕ) → counts ≡ standing b → ltb (get_or counts (t - 1) 0) (get_or b.system.types (t - 1) no_task).ceiling ≡ under_ceiling b t
same_test b t counts e = ap₂ ltb (ap (λ (x : List ℕ). get_or x (t - 1) 0) e) (sym (get_or-map (λ (x : TaskType). x.ceiling) b.system.types (t - 1) no_task))

pub overflow_sub-i : goal.overflow_sub-i
overflow_sub-i c = (type-range c.args.b c.requires.0 c.args.t c.requires.1).0

pub offset_bounds-b-i : goal.offset_bounds-b-i
offset_bounds-b-i c = omega (arith, in-range c.args.b c.args.t c.requires.0 c.requires.1)

pub bounds-b-i : goal.bounds-b-i
bounds-b-i c = in-range c.args.b c.args.t c.requires.0 c.requires.1

pub offset_bounds-counts-i : goal.offset_bounds-counts-i
offset_bounds-counts-i c = omega (arith, in-range c.args.b c.args.t c.requires.0 c.requires.1)

pub bounds-counts-i : goal.bounds-counts-i
bounds-counts-i c = in-range c.args.b c.args.t c.requires.0 c.requires.1

pub returns-then-counts-i : goal.returns-then-counts-i
returns-then-counts-i c =
    let a = c.args in
    rw (sym (same_test a.b a.t _ c.standing_counts-counts.ensures) ∙ lt-ltb _ _ c.if-counts-i.true)

pub returns : goal.returns
returns c =
    let a = c.args in
    rw (sym (same_test a.b a.t _ c.standing_counts-counts.ensures) ∙ le-ltb _ _ c.if-counts-i.false)

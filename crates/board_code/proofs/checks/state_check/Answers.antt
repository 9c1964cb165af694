-- The mark and the state wanted are compared.
use Prim.Native.Nat.{ℕ}
use mathlib.Core.Path.{◌≡◌, refl, sym, ap, ◌∙◌}
use mathlib.Core.Bool.{Bool, true, false, cond, not, beq}
use Rattle.board.specs.declared.Board.{Board}
use Rattle.board.specs.Boards.{marked}
use Rattle.board.specs.Calls.{movable}
use Rattle.board.proofs.Ready.{engine-in}
use Rattle.board_code.proofs.checks.state_check.Goals as goal

pub marked-requires : goal.marked-requires
marked-requires c = engine-in c.args.b c.requires.is_true c.args.e c.requires.known

-- one of the two is so, and not the other
differs : (out mark : Bool) → cond out (not mark) mark ≡ not (beq mark out)
differs true true = refl
differs true false = refl
differs false true = refl
differs false false = refl

wanted : (b : Board) (e : ℕ) (out mark : Bool) → mark ≡ marked b e → movable b e out ≡ cond out (not mark) mark
wanted b e out mark is = ap (λ (m : Bool). cond out (not m) m) (sym is)

pub returns-then-marked-out : goal.returns-then-marked-out
returns-then-marked-out c = rw (wanted c.args.b c.args.e c.args.out c.marked.result c.marked.ensures ∙ differs c.args.out c.marked.result ∙ c.if-marked-out.true)

pub returns : goal.returns
returns c = rw (wanted c.args.b c.args.e c.args.out c.marked.result c.marked.ensures ∙ differs c.args.out c.marked.result ∙ c.if-marked-out.false)

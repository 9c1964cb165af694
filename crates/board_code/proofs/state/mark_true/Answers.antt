-- The mark decides; where it is set, the engine's number and its load do.
use mathlib.Core.Path.{◌≡◌, sym, ◌∙◌}
use mathlib.Core.Bool.{true, false}
use Rattle.board.specs.Boards.{marked}
use Rattle.board_code.proofs.state.mark_true.Goals as goal

pub returns-then-marked : goal.returns-then-marked
returns-then-marked c =
    let a = c.args in
    let set_here : marked a.b.now a.e ≡ true = sym c.marked.ensures ∙ c.if-marked.true in
    rw (set_here, c.holds_none.ensures, c.load_at-counts.ensures)

pub returns : goal.returns
returns c =
    let a = c.args in
    let clear : marked a.b.now a.e ≡ false = sym c.marked.ensures ∙ c.if-marked.false in
    rw clear

-- The placement's two cases are those of the definition.
use Prim.Native.Nat.{ℕ}
use mathlib.Core.Path.{refl, ap, ◌∙◌}
use mathlib.Core.List.{List}
use Rattle.partition.specs.Lent.{lent}
use Rattle.table.specs.Table.{filled, placement}
use Rattle.board.proofs.Ready.{may-place}
use Rattle.board.proofs.Exits.{reseated-placed, reseated-none}
use Rattle.board_code.proofs.work.reseat.Goals as goal

pub engines_of-requires : goal.engines_of-requires
engines_of-requires c = c.requires.0

pub place-requires : goal.place-requires
place-requires c =
    let a = c.args in
    let on = c.engines_of in
    may-place a.b c.requires.0 on.result _ (lent a.rows.now a.predecessors.now) on.ensures.0 on.ensures.1 c.requires.1 c.requires.2

pub returns-in_default : goal.returns-in_default
returns-in_default c =
    let a = c.args in
    let p = c.place in
    let on = c.engines_of.ensures.1 in
    let parts = lent a.rows.now a.predecessors.now in
    reseated-none a.b a.counts p.result (p.ensures.1 ∙ ap (λ (es : List ℕ). placement a.b.system es a.counts) on) parts _ _
    (p.ensures.0 ∙ ap (λ (es : List ℕ). filled a.b.system es parts) on)
    c.in_default.is
    c.refuse.ensures.0
    c.refuse.ensures.1

pub returns : goal.returns
returns c =
    let a = c.args in
    let p = c.place in
    let on = c.engines_of.ensures.1 in
    let parts = lent a.rows.now a.predecessors.now in
    reseated-placed a.b a.counts p.result (p.ensures.1 ∙ ap (λ (es : List ℕ). placement a.b.system es a.counts) on) parts _ _
    (p.ensures.0 ∙ ap (λ (es : List ℕ). filled a.b.system es parts) on)
    _
    c.in-Some.is
    refl
    refl

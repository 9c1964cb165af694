-- Whether all with the newcomer can be placed decides between 23 and 24.
use Prim.Native.Nat.{ℕ}
use mathlib.Core.Path.{◌≡◌, ap, ap₂, subst, sym, ◌∙◌}
use mathlib.Core.List.{List}
use mathlib.Core.Bool.{true, false}
use Rattle.system.specs.Values.{ceilings_of}
use Rattle.loads.specs.Load.{within}
use Rattle.partition.specs.Lent.{lent}
use Rattle.table.specs.Table.{filled, placement}
use Rattle.board.proofs.Ready.{may-place, newcomer-within}
use Rattle.board.proofs.Exits.{crowded-by}
use Rattle.board_code.proofs.work.no_engine.Goals as goal

pub engines_of-engines-requires : goal.engines_of-engines-requires
engines_of-engines-requires c = c.requires.0.is_true

pub place-found-requires : goal.place-found-requires
place-found-requires c =
    let s = c in
    let b = s.args.b in
    let on = c.engines_of-engines in
    let parts = lent s.args.rows.now s.args.predecessors.now in
    may-place b s.requires.0.is_true on.result _ parts on.ensures.0 on.ensures.1 s.requires.1
    (subst (λ (x : List ℕ). within x (ceilings_of b.system) ≡ true) (sym c.with_newcomer-counts.ensures) (newcomer-within b s.args.t s.requires.0))

pub returns-then-is_some : goal.returns-then-is_some
returns-then-is_some c =
    let s = c in
    let a = s.args in
    let p = c.place-found in
    let parts = lent a.rows.now a.predecessors.now in
    let on = c.engines_of-engines.ensures.1 in
    let same = c.with_newcomer-counts.ensures in
    crowded-by a.b a.t p.result (p.ensures.1 ∙ ap₂ (placement a.b.system) on same) parts _ _ true (sym c.is_some.ensures ∙ c.if-is_some.true) (p.ensures.0 ∙ ap (λ (es : List ℕ). filled a.b.system es parts) on)
    c.refuse.ensures.0
    c.refuse.ensures.1

pub returns : goal.returns
returns c =
    let s = c in
    let a = s.args in
    let p = c.place-found in
    let parts = lent a.rows.now a.predecessors.now in
    let on = c.engines_of-engines.ensures.1 in
    let same = c.with_newcomer-counts.ensures in
    crowded-by a.b a.t p.result (p.ensures.1 ∙ ap₂ (placement a.b.system) on same) parts _ _ false (sym c.is_some.ensures ∙ c.if-is_some.false) (p.ensures.0 ∙ ap (λ (es : List ℕ). filled a.b.system es parts) on)
    c.refuse-2.ensures.0
    c.refuse-2.ensures.1

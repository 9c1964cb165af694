-- `drawn_system`: each turn draws one type more, and after the last they are all drawn.
use Rattle.system.specs.declared.System.{System}
use Prim.Native.Nat.{ℕ}
use mathlib.Core.Path.{◌≡◌, refl, sym, ap, ◌∙◌}
use native.Mathlib.Numerals.{add-one}
use native.Mathlib.Omega.{arith}
use Rattle.making.specs.Generator.{step, value_after}
use Rattle.making.specs.Making.{drawn_from, drawn_to}
use Rattle.making.proofs.Turns.{drawn-count, drawn-more, value-more}
use Rattle.making_code.proofs.drawn.drawn_system.Goals as goal

pub loop-t-init : goal.loop-t-init
unfolding value_after
loop-t-init c = (omega arith, refl, c.drawn_platform-y.ensures, refl)

pub draw_type-draw-requires : goal.draw_type-draw-requires
draw_type-draw-requires c = c.requires

pub offset_bounds-y-t : goal.offset_bounds-y-t
offset_bounds-y-t c =
    omega (arith, c.requires.few)

pub bounds-y-t : goal.bounds-y-t
bounds-y-t c =
    omega (arith, c.requires.few)

pub loop-t-preserved : goal.loop-t-preserved
loop-t-preserved c =
    let here = c.loop-t in
    let w = c.args.w in
    let drawn = c.draw_type-draw.ensures in
    let count : here.t ≡ here.y.typecount = sym (ap (λ (y : System). y.typecount) here.invariant.2 ∙ drawn-count w here.t) in
    let task = drawn.task ∙ ap (drawn_from w) here.invariant.3 in
    let next = drawn-more w here.y (rw count at here.invariant.2) (rw count at task) in
    (omega arith, refl, rw (add-one here.t, count) next, drawn.value ∙ ap (λ (x : ℕ). step (step (step x))) here.invariant.3 ∙ value-more w here.t)

pub returns : goal.returns
returns c =
    let here = c.loop-t in
    let all : here.t ≡ c.args.w.typecount = omega arith in
    here.invariant.2 ∙ ap (drawn_to c.args.w) all

-- `pass`: the answers.
use Prim.Native.Nat.{ℕ, ◌+◌, ◌-◌, ◌≤◌, ◌<◌}
use mathlib.Core.Bool.{true}
use mathlib.Core.Path.{◌≡◌, refl, ◌∙◌}
use native.Mathlib.Omega.{arith}
use borrow.Author.Rules.{rules}
use lib.ListN.{length, get_or, length-set, length-map}
use Rattle.system.specs.declared.TaskType.{TaskType}
use Rattle.system.specs.Values.{ceilings_of}
use Rattle.system.specs.declared.System.{System}
use Rattle.system.specs.Limits.{keeps_limits, columns}
use Rattle.system.proofs.Laws.{limits_of}
use Rattle.counting.proofs.Rows.{cell-wanted, cell-stored, pass-cells, pass-lower, pass-others}
use Rattle.counting_code.proofs.passes.pass.Goals.{In-loop-column}
use Rattle.counting_code.proofs.passes.pass.Goals as goal

pub strides_of-strides-requires : goal.strides_of-strides-requires
strides_of-strides-requires c = c.requires.limits

pub loop-column-init : goal.loop-column-init
loop-column-init c =
    let start = c in
    let is = start.requires.all in
    (omega arith, refl, (λ k h l. absurd (omega arith)), (λ k h. refl), (λ k h. refl))

-- the column lies in the first half
room : (c : In-loop-column) → let here = c.loop-column in (0 < here.column) × (here.column ≤ columns c.args.y) × (columns c.args.y ≤ length here.part)
room c =
    let here = c.loop-column in
    let start = c in
    (omega arith, here.invariant.0, rw here.invariant.1 (omega (arith, start.requires.halves, start.requires.all)))

six-ceilings : (y : System) → keeps_limits y ≡ true → length (ceilings_of y) ≡ 6
six-ceilings y h = length-map y.types (λ (t : TaskType). t.ceiling) ∙ (limits_of y h).six

-- the columns up to this one are as they were
lower : (c : In-loop-column) (k : ℕ) → k ≤ c.loop-column.column - 1 → get_or c.loop-column.part k 0 ≡ get_or c.args.part.now k 0
lower c k h = c.loop-column.invariant.3 k (omega (arith, room c))

pub over_types-requires : goal.over_types-requires
over_types-requires c =
    let at = c in
    let here = at.loop-column in
    let start = at in
    let a = start.args in
    let p = start.requires in
    let strides = at.strides_of-strides.result in
    let ls : length strides ≡ 6 = search rules in
    let inside : here.column - 1 < columns a.y = omega (arith, room (goal.at.over_types-requires c).In-loop-column) in
    let halves : a.columns + a.columns ≤ length here.part = rw here.invariant.1 p.halves in
    cell-wanted a.y a.part.now here.part strides (here.column - 1) (six-ceilings a.y start.requires.limits) inside at.strides_of-strides.ensures (lower (goal.at.over_types-requires c).In-loop-column) here.invariant.4
    a.ways.now c.load_of.result a.columns p.all c.load_of.ensures p.chosen halves (p.small (here.column - 1) inside) ls p.few

pub offset_bounds-part-column : goal.offset_bounds-part-column
offset_bounds-part-column c = omega (arith, room (goal.at.offset_bounds-part-column c).In-loop-column)

pub bounds-part-column : goal.bounds-part-column
bounds-part-column c = omega (arith, room (goal.at.bounds-part-column c).In-loop-column)

pub loop-column-preserved : goal.loop-column-preserved
loop-column-preserved c =
    let at = c in
    let here = at.loop-column in
    let start = at in
    let a = start.args in
    let r = room (goal.at.loop-column-preserved c).In-loop-column in
    let v = c.over_types.result in
    let stored = cell-stored a.y a.part.now here.part at.strides_of-strides.result (here.column - 1) (six-ceilings a.y start.requires.limits) (omega arith) at.strides_of-strides.ensures (lower (goal.at.loop-column-preserved c).In-loop-column) here.invariant.4
    c.load_of.result a.columns v start.requires.all c.load_of.ensures c.over_types.ensures in (
      omega arith,
      length-set here.part (here.column - 1) v ∙ here.invariant.1,
      pass-cells a.y a.part.now here.part here.column v r.0 r.1 r.2 stored here.invariant.2,
      pass-lower a.y a.part.now here.part here.column v r.0 r.1 r.2 stored here.invariant.3,
      pass-others a.y a.part.now here.part here.column v r.0 r.1 r.2 stored here.invariant.4,
    )

pub shape_of-part : goal.shape_of-part
shape_of-part c = c.loop-column.invariant.1

pub returns : goal.returns
returns c =
    let here = c.loop-column in
    record { long = here.invariant.1; cells = λ k h. here.invariant.2 k (omega arith) h; others = here.invariant.4 }

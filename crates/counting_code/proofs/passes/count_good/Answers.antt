-- `count_good`: the answers.
use Prim.Native.Nat.{ℕ, ◌-◌, ◌≤◌, ◌<◌}
use mathlib.Core.Path.{◌≡◌, refl, sym, ap, subst, ◌∙◌}
use mathlib.Core.Bool.{true}
use native.Mathlib.Numerals.{add-one}
use native.Mathlib.Omega.{arith}
use lib.ListN.{length, get_or, length-map}
use Rattle.system.specs.declared.TaskType.{TaskType}
use Rattle.system.specs.Values.{ceilings_of}
use Rattle.system.specs.declared.System.{System}
use Rattle.system.specs.Limits.{keeps_limits, column_limit}
use Rattle.system.proofs.Laws.{limits_of, columns_of-pos}
use Rattle.partition.specs.Listing.{instances}
use Rattle.counting.specs.Walk.{RowOf, Beyond}
use Rattle.counting.proofs.Rows.{instance-le, few-instances, cell-small, row_next, passed-beyond, beyond-refl, beyond-trans, count-found}
use Rattle.counting_code.proofs.passes.count_good.Goals.{Joined-y-gt1, then-y-gt1+else-loop-e-test, else-y-gt1}
use Rattle.counting_code.proofs.passes.count_good.Goals as goal

six-ceilings : (y : System) → keeps_limits y ≡ true → length (ceilings_of y) ≡ 6
six-ceilings y h = length-map y.types (λ (t : TaskType). t.ceiling) ∙ (limits_of y h).six

pub first_row-requires : goal.first_row-requires
first_row-requires c = c.requires

pub loop-e-init : goal.loop-e-init
loop-e-init c =
    let row = c.first_row in
    (omega arith, omega arith, row.ensures.0, beyond-refl c.args.y row.new.part)

pub slice_bounds-pass-end : goal.slice_bounds-pass-end
slice_bounds-pass-end c = sym c.chosen-ways.ensures.long

pub pass-requires : goal.pass-requires
pass-requires c =
    let at = c in
    let here = at.loop-e in
    let start = c in
    let p = start.requires in
    let y = start.args.y in
    let row = c.first_row.ensures in
    let long : length here.part ≡ length start.args.part.now = here.invariant.3.long ∙ row.1.long in
    let next : here._e < y.engines = c.loop-e-test.true in
    let few : instances (ceilings_of y) < 64 = few-instances y.engines (instances (ceilings_of y)) (omega arith) p.small in
    record {
      limits = p.limits;
      all = p.all;
      halves = rw long p.halves;
      chosen = at.chosen-ways.ensures;
      few = λ t. omega (arith, instance-le (ceilings_of y) t);
      small = cell-small y here._e here.part (six-ceilings y p.limits) here.invariant.2 next p.small;
    }

pub loop-e-preserved : goal.loop-e-preserved
loop-e-preserved c =
    let here = c.loop-e in
    let start = c in
    let y = start.args.y in
    let pass = c.pass in (
      omega arith,
      omega arith,
      subst (λ (n : ℕ). RowOf y n pass.new.part) (sym (add-one here._e)) (row_next y here._e here.part (six-ceilings y c.requires.limits) here.invariant.2 pass.new.part pass.ensures),
      beyond-trans here.invariant.3 (passed-beyond y here.part pass.new.part pass.ensures),
    )

-- the row for all engines
last_row : (c : Joined-y-gt1) →
    let a = c.args in
    RowOf a.y a.y.engines c.if-y-gt1.part × Beyond a.y a.part.now c.if-y-gt1.part
last_row c =
    let y = c.args.y in
    let row = c.first_row in
    let some = (limits_of y c.requires.limits).some-engine in
    elim c.if-y-gt1.branch [
      | then-y-gt1+else-loop-e-test v ↦ let all : v.loop-e._e ≡ y.engines = omega (arith, v.loop-e.invariant.1, v.loop-e-test.false) in
          rw v.part-is (subst (λ (n : ℕ). RowOf y n v.loop-e.part) all v.loop-e.invariant.2, beyond-trans row.ensures.1 v.loop-e.invariant.3)
      | else-y-gt1 v ↦ let one : 1 ≡ y.engines = omega (arith, v.if-y-gt1.false) in
          rw v.part-is (subst (λ (n : ℕ). RowOf y n row.new.part) one row.ensures.0, row.ensures.1)
    ]

-- the entry that is read
read-inside : (c : Joined-y-gt1) →
    let a = c.args in
    (1 ≤ a.columns) × (a.columns ≤ column_limit) × (a.columns ≤ length c.if-y-gt1.part)
read-inside c =
    let p = c.requires in
    let some = columns_of-pos (ceilings_of c.args.y) in
    let few = (limits_of c.args.y p.limits).columns in
    (omega (arith, p.all), omega (arith, p.all), rw (last_row c).1.long (omega (arith, p.halves)))

pub overflow_sub-result : goal.overflow_sub-result
overflow_sub-result c = (read-inside c).0

pub offset_bounds-part-columns : goal.offset_bounds-part-columns
offset_bounds-part-columns c = omega (arith, read-inside c)

pub bounds-part-columns : goal.bounds-part-columns
bounds-part-columns c = omega (arith, read-inside (goal.at.bounds-part-columns c).Joined-y-gt1)

pub shape_of-part : goal.shape_of-part
shape_of-part c = (last_row (goal.at.shape_of-part c).Joined-y-gt1).1.long

pub returns : goal.returns
returns c =
    let start = c in
    let y = start.args.y in
    let row = last_row (goal.at.returns c).Joined-y-gt1 in
    (ap (λ (n : ℕ). get_or c.if-y-gt1.part (n - 1) 0) start.requires.all ∙ count-found y y.engines c.if-y-gt1.part refl row.0, row.1)

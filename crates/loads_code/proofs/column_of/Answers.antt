-- `column_of`: the answers.
use Prim.Native.Nat.{ℕ, ◌*◌, ◌^◌, ◌≤◌}
use mathlib.Core.Path.{◌≡◌, ap, ap₂, ◌∙◌}
use mathlib.Core.List.{List}
use lib.ListN.{length}
use native.Mathlib.Nat.{zero-add, one-mul, mul-le-mul, mul_assoc, le-mul_of_pos_right}
use native.Mathlib.Omega.{arith}
use borrow.Author.Rules.{rules}
use Rattle.std.proofs.lemmas.Slice.Zip.{either_empty_from_Zip}
use Rattle.std.specs.Iterator.Adapters.{zip_first, zip_second}
use Rattle.std.specs.Slice.Iter.{iter_rest}
use Rattle.system.specs.declared.TaskType.{TaskType}
use Rattle.system.specs.Limits.{type_limit, columns_of, column_limit}
use Rattle.system.proofs.Laws.{columns_of-pos}
use Rattle.loads.specs.Column.{column_of}
use Rattle.loads.proofs.Steps.{length-mapped, ceilings, column-more, column-done, columns-more}
use Rattle.loads_code.proofs.column_of.Goals.{After-base-stride, After-wide}
use Rattle.loads_code.proofs.column_of.Goals as goal

pub loop-task-init : goal.loop-task-init
loop-task-init c =
    let s = c.into_iter-task-iterator.result in
    let a = c.args in
    let lt : length a.y.types ≡ type_limit = search (rules, length-mapped) in
    let ts : iter_rest (zip_first s) ≡ a.y.types = cc in
    let xs : iter_rest (zip_second s) ≡ a.counts = cc in
    let long = ap length ts in (
      search rules,
      search rules,
      omega (arith, long),
      one-mul _ ∙ ap (λ (us : List TaskType). columns_of (ceilings us)) ts,
      zero-add _ ∙ ap₂ (λ (us : List TaskType) (ns : List ℕ). column_of (ceilings us) ns) ts xs,
    )

-- a stride is at most the columns
stride-small : (us : List TaskType) (stride columns : ℕ) → stride * columns_of (ceilings us) ≡ columns → columns ≤ column_limit → stride ≤ column_limit
stride-small us stride columns e h = omega (arith, le-mul_of_pos_right stride (columns_of-pos (ceilings us)))

-- so what one type adds is small
term-small : (c : After-wide) → c.wide.result * c.loop-task.stride ≤ 2 ^ 16 * column_limit
term-small c =
    let here = c.loop-task in
    mul-le-mul {n₂ = 2 ^ 16} (omega arith) (stride-small (iter_rest (zip_first here.task-iterator)) here.stride _ here.invariant.3 c.requires)

term-small-2 : (c : After-base-stride) → c.wide.result * c.loop-task.stride ≤ 2 ^ 16 * column_limit
term-small-2 c =
    let here = c.loop-task in
    mul-le-mul {n₂ = 2 ^ 16} (omega arith) (stride-small (iter_rest (zip_first here.task-iterator)) here.stride _ here.invariant.3 c.requires)

-- and the next stride is one too
next-stride : (c : After-base-stride) → c.loop-task.stride * c.base-stride.result * columns_of (ceilings (iter_rest (zip_first c.next.new.self))) ≡ columns_of (ceilings c.args.y.types)
next-stride c =
    rw (c.base-stride.ensures, mul_assoc, ← (columns-more _ _ _ c.in-Some.ensures.steps.0)) c.loop-task.invariant.3

pub overflow_mul-column : goal.overflow_mul-column
overflow_mul-column c = record { fits = omega (arith, term-small c) }

pub overflow_add-column : goal.overflow_add-column
overflow_add-column c = record { fits = omega (arith, term-small c, ap length c.in-Some.ensures.steps.0) }

pub overflow_mul-stride : goal.overflow_mul-stride
overflow_mul-stride c =
    record { fits = omega (arith, stride-small (iter_rest (zip_first c.next.new.self)) (c.loop-task.stride * c.base-stride.result) _ (next-stride c) c.requires) }

pub loop-task-preserved : goal.loop-task-preserved
loop-task-preserved c =
    let here = c.loop-task in
    let (first, second) = c.in-Some.ensures.steps in (
      search rules,
      search rules,
      omega (arith, term-small-2 c, ap length first),
      next-stride c,
      rw (c.base-stride.ensures, c.wide.ensures.0) (omega (arith, column-more here.stride _ _ _ _ _ _ first second)),
    )

pub returns : goal.returns
returns c =
    let s = c.loop-task.task-iterator in
    let over = either_empty_from_Zip s c.next.new.self c.next.result c.in-None.is c.next.ensures.steps in
    omega (arith, column-done c.loop-task.stride (iter_rest (zip_first s)) (iter_rest (zip_second s)) over)

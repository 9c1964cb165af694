-- `sums_of`: the answers.
use native.Mathlib.Omega.{arith}
use native.Mathlib.Nat.{zero-add}
use mathlib.Core.Path.{◌≡◌, ap, ap₂, ◌∙◌}
use Prim.Native.Nat.{ℕ}
use lib.ListN.{length}
use borrow.Author.Rules.{rules}
use Rattle.std.proofs.lemmas.Slice.Zip.{either_empty_from_Zip}
use Rattle.std.specs.Iterator.Adapters.{zip_first, zip_second}
use Rattle.std.specs.Slice.Iter.{iter_rest}
use Rattle.system.specs.declared.TaskType.{TaskType}
use Rattle.system.specs.Limits.{type_limit}
use Rattle.loads.specs.Load.{time_at, time_of, memory_at, memory_of}
use Rattle.loads.proofs.Steps.{length-mapped, sum-more, sum-done}
use Rattle.loads_code.proofs.sums_of.Goals as goal

pub loop-task-init : goal.loop-task-init
loop-task-init c =
    let s = c.into_iter-task-iterator.result in
    let a = c.args in
    let lt : length a.y.types ≡ type_limit = search (rules, length-mapped) in
    let ts : iter_rest (zip_first s) ≡ a.y.types = cc in
    let xs : iter_rest (zip_second s) ≡ a.counts = cc in
    let long = ap length ts in (
      search rules,
      search rules,
      omega (arith, long),
      omega (arith, long),
      zero-add _ ∙ ap₂ time_of ts xs,
      zero-add _ ∙ ap₂ (memory_of a.y.rule) ts xs,
    )

pub overflow_add-time : goal.overflow_add-time
overflow_add-time c = record { fits = omega (arith, ap length c.in-Some.ensures.steps.0) }

pub overflow_add-memory : goal.overflow_add-memory
overflow_add-memory c = record { fits = omega (arith, ap length c.in-Some.ensures.steps.0) }

pub loop-task-preserved : goal.loop-task-preserved
loop-task-preserved c =
    let (first, second) = c.in-Some.ensures.steps in
    let more = ap length first in
    let step : (each : TaskType → ℕ → ℕ) → _ = λ each. sum-more each _ _ _ _ _ _ first second in (
      search rules,
      search rules,
      omega (arith, more),
      omega (arith, more),
      omega (arith, step time_at),
      omega (arith, step (memory_at c.args.y.rule)),
    )

pub returns : goal.returns
returns c =
    let s = c.loop-task.task-iterator in
    let over = either_empty_from_Zip s c.next.new.self c.next.result c.in-None.is c.next.ensures.steps in
    let done : (each : TaskType → ℕ → ℕ) → _ = λ each. sum-done each (iter_rest (zip_first s)) (iter_rest (zip_second s)) over in
    let time : c.loop-task.time ≡ time_of c.args.y.types c.args.counts = omega (arith, done time_at) in
    let memory : c.loop-task.memory ≡ memory_of c.args.y.rule c.args.y.types c.args.counts = omega (arith, done (memory_at c.args.y.rule)) in
    λ j. record { time = time j; memory = memory j }

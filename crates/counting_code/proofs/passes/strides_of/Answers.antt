-- `strides_of`: the answers.
use Prim.Native.Nat.{◌+◌, ◌*◌, ◌≤◌}
use mathlib.Core.Path.{◌≡◌, refl, sym, ◌∙◌}
use native.Mathlib.Nat.{le_trans}
use native.Mathlib.Numerals.{add-one}
use native.Mathlib.Omega.{arith}
use lib.ListN.{length, length-set}
use Rattle.system.specs.Limits.{column_limit}
use Rattle.system.proofs.Laws.{limits_of}
use Rattle.loads.proofs.Steps.{ceilings}
use Rattle.counting.specs.Tally.{stride_at}
use Rattle.counting.proofs.Strides.{stride_at-zero, stride_at-suc, stride_at-le}
use Rattle.counting.proofs.Turns.{set-turn, ceiling-at}
use Rattle.counting_code.proofs.passes.strides_of.Goals.{After-wide}
use Rattle.counting_code.proofs.passes.strides_of.Goals as goal

pub loop-t-init : goal.loop-t-init
loop-t-init c = (omega arith, refl, sym (stride_at-zero (ceilings c.args.y.types)), λ i h. absurd (omega arith))

-- the next stride, which is at most the columns
next-stride : (c : After-wide) →
    let here = c.loop-t in
    let ts = c.args.y.types in
    (here.stride * (c.wide.result + 1) ≡ stride_at (ceilings ts) (here.t + 1)) × (here.stride * (c.wide.result + 1) ≤ column_limit)
next-stride c =
    let here = c.loop-t in
    let start = c in
    let ts = start.args.y.types in
    let e : here.stride * (c.wide.result + 1) ≡ stride_at (ceilings ts) (here.t + 1) =
    rw (c.wide.ensures.0, here.invariant.2, ← (ceiling-at ts here.t), add-one here.t) (sym (stride_at-suc (ceilings ts) here.t)) in
    (e, rw e (le_trans (stride_at-le (ceilings ts) (here.t + 1)) (limits_of start.args.y start.requires).columns))

pub overflow_mul-stride : goal.overflow_mul-stride
overflow_mul-stride c = record { fits = omega (arith, next-stride c) }

pub loop-t-preserved : goal.loop-t-preserved
loop-t-preserved c =
    let here = c.loop-t in
    let ts = c.args.y.types in
    let ls : length here.strides ≡ 6 = here.invariant.1 in (
      omega arith,
      length-set here.strides here.t here.stride ∙ ls,
      (next-stride c).0,
      set-turn (stride_at (ceilings ts)) here.strides here.t here.stride (omega arith) here.invariant.2 here.invariant.3,
    )

pub returns : goal.returns
returns c =
    let here = c.loop-t in
    λ t h. here.invariant.3 t (omega arith)

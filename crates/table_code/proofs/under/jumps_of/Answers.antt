-- `jumps_of`: the answers.
use Prim.Native.Nat.{◌+◌, ◌-◌, ◌*◌, ◌≤◌, ◌<◌}
use mathlib.Core.Path.{◌≡◌, refl, sym, ◌∙◌}
use native.Mathlib.Nat.{one-mul, le_trans}
use native.Mathlib.Omega.{arith}
use borrow.Author.Rules.{rules}
use lib.ListN.{length, get_or, drop, length-set}
use Rattle.system.specs.Limits.{columns_of, column_limit}
use Rattle.loads.proofs.Order.{within→below}
use Rattle.loads.proofs.Steps.{filled-turn, filled-end}
use Rattle.table.proofs.Stepping.{jumps-turn, jumps-end, next-stride, next-stride-le, next-passed}
use Rattle.table_code.proofs.under.jumps_of.Goals.{After-wide, After-wide-in-loop-t}
use Rattle.table_code.proofs.under.jumps_of.Goals as goal

pub loop-t-init : goal.loop-t-init
loop-t-init c = (omega arith, refl, omega arith, one-mul _, refl)

-- what the next type's stride is, and that the counts up to it take less
stride-next : (c : After-wide) → c.loop-t.t < 6 →
    let here = c.loop-t in
    let a = c.args in
    let n = get_or a.ceilings here.t 0 in
    (here.stride * (n + 1) * columns_of (drop (here.t + 1) a.ceilings) ≡ columns_of a.ceilings)
    × (here.stride * (n + 1) ≤ column_limit)
    × (here.passed + get_or a.tops here.t 0 * here.stride < here.stride * (n + 1))
stride-next c h =
    let here = c.loop-t in
    let a = c.args in
    let ln : length a.ceilings ≡ 6 = search rules in
    let lt : length a.tops ≡ 6 = search rules in
    let inside : here.t < length a.ceilings = omega arith in
    let under = within→below a.tops a.ceilings (lt ∙ sym ln) c.requires.0 in (
      next-stride a.ceilings a.tops here.t here.stride here.passed inside here.invariant.3,
      le_trans (next-stride-le a.ceilings a.tops here.t here.stride here.passed inside here.invariant.3) c.requires.1,
      next-passed a.ceilings a.tops here.t here.stride here.passed inside here.invariant.3 under here.invariant.2,
    )

-- what the next type's stride is, and that the counts up to it take less
stride-next-2 : (c : After-wide-in-loop-t) → c.loop-t.t < 6 →
    let here = c.loop-t in
    let a = c.args in
    let n = get_or a.ceilings here.t 0 in
    (here.stride * (n + 1) * columns_of (drop (here.t + 1) a.ceilings) ≡ columns_of a.ceilings)
    × (here.stride * (n + 1) ≤ column_limit)
    × (here.passed + get_or a.tops here.t 0 * here.stride < here.stride * (n + 1))
stride-next-2 c h =
    let here = c.loop-t in
    let a = c.args in
    let ln : length a.ceilings ≡ 6 = search rules in
    let lt : length a.tops ≡ 6 = search rules in
    let inside : here.t < length a.ceilings = omega arith in
    let under = within→below a.tops a.ceilings (lt ∙ sym ln) c.requires.0 in (
      next-stride a.ceilings a.tops here.t here.stride here.passed inside here.invariant.3,
      le_trans (next-stride-le a.ceilings a.tops here.t here.stride here.passed inside here.invariant.3) c.requires.1,
      next-passed a.ceilings a.tops here.t here.stride here.passed inside here.invariant.3 under here.invariant.2,
    )

pub overflow_mul-passed : goal.overflow_mul-passed
overflow_mul-passed c = rw c.wide.ensures.0 (record { fits = omega (arith, stride-next c (omega arith)) })

pub overflow_add-passed : goal.overflow_add-passed
overflow_add-passed c = rw c.wide.ensures.0 (record { fits = omega (arith, stride-next c (omega arith)) })

pub overflow_mul-stride : goal.overflow_mul-stride
overflow_mul-stride c = rw c.wide-in-loop-t.ensures.0 (record { fits = omega (arith, stride-next-2 c (omega arith)) })

pub loop-t-preserved : goal.loop-t-preserved
loop-t-preserved c =
    let here = c.loop-t in
    let a = c.args in
    let ln : length a.ceilings ≡ 6 = search rules in
    let lt : length a.tops ≡ 6 = search rules in
    let lj : length here.jumps ≡ 6 = here.invariant.1 in
    let next = stride-next-2 c (omega arith) in
    rw (c.wide.ensures.0, c.wide-in-loop-t.ensures.0) (
      omega arith,
      length-set here.jumps here.t (here.stride - here.passed) ∙ lj,
      next.2,
      next.0,
      filled-turn here.jumps _ here.t (here.stride - here.passed) (omega arith)
          ∙ rw (← (jumps-turn here.stride here.passed a.ceilings a.tops here.t (omega arith) (omega arith))) here.invariant.4,
    )

pub returns : goal.returns
returns c =
    let here = c.loop-t in
    let a = c.args in
    let ln : length a.ceilings ≡ 6 = search rules in
    let lj : length here.jumps ≡ 6 = here.invariant.1 in
    sym (filled-end here.jumps _ here.t (omega arith) (jumps-end here.stride here.passed a.ceilings (drop here.t a.tops) here.t (omega arith)))
    ∙ here.invariant.4

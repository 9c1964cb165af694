-- `columns_under`: the answers.
use Prim.Native.Nat.{◌+◌, ◌*◌, ◌≤◌, ◌<◌}
use mathlib.Core.Path.{◌≡◌, sym, ◌∙◌}
use native.Mathlib.Nat.{one-mul, mul-one, le_trans}
use native.Mathlib.Omega.{arith}
use borrow.Author.Rules.{rules}
use lib.ListN.{length, get_or, drop, drop_of_length-le}
use Rattle.system.specs.Limits.{columns_of, column_limit}
use Rattle.table.proofs.Stepping.{next-stride, next-stride-le}
use Rattle.table_code.proofs.under.columns_under.Goals.{After-wide}
use Rattle.table_code.proofs.under.columns_under.Goals as goal

-- the next product
next-product : (c : After-wide) → c.loop-count.count-index < 6 →
    let here = c.loop-count in
    let load = c.args.load in
    (here.columns * (get_or load here.count-index 0 + 1) * columns_of (drop (here.count-index + 1) load) ≡ columns_of load)
    × (here.columns * (get_or load here.count-index 0 + 1) ≤ column_limit)
next-product c h =
    let here = c.loop-count in
    let load = c.args.load in
    let inside : here.count-index < length load = omega (arith, here.invariant.1) in (
      next-stride load load here.count-index here.columns 0 inside here.invariant.2,
      le_trans (next-stride-le load load here.count-index here.columns 0 inside here.invariant.2) c.requires,
    )

pub loop-count-init : goal.loop-count-init
loop-count-init c = (omega arith, search rules, one-mul (columns_of c.args.load))

pub overflow_mul-columns : goal.overflow_mul-columns
overflow_mul-columns c = rw c.wide.ensures.0 (record { fits = omega (arith, next-product c (omega arith)) })

pub loop-count-preserved : goal.loop-count-preserved
loop-count-preserved c = rw c.wide.ensures.0 (omega arith, c.loop-count.invariant.1, (next-product c (omega arith)).0)

pub returns : goal.returns
unfolding columns_of
returns c =
    let here = c.loop-count in
    let load = c.args.load in
    let past : length load ≤ here.count-index = omega (arith, here.invariant.1) in
    sym (mul-one here.columns) ∙ rw (drop_of_length-le load {i = here.count-index}) at here.invariant.2

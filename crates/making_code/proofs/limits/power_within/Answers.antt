-- `power_within`: each turn makes the next power where it is within the limit; where it is not, no later one is.
use Prim.Native.Nat.{◌+◌, ◌*◌, ◌^◌, ◌≤◌}
use mathlib.Core.Path.{◌≡◌, refl, sym}
use native.Mathlib.Nat.{pow-zero, pow-suc, div-le_self}
use native.Mathlib.Numerals.{add-one}
use native.Mathlib.Omega.{arith}
use borrow.Author.Tests.{le-leb}
use Rattle.system.specs.Limits.{column_limit}
use Rattle.making.proofs.Turns.{next_past, next_small, power-past}
use Rattle.making_code.proofs.limits.power_within.Goals.{Else-most-product}
use Rattle.making_code.proofs.limits.power_within.Goals as goal

pub loop-t-init : goal.loop-t-init
loop-t-init c = (omega arith, refl, sym (pow-zero _), omega arith, omega arith)

pub returns-then-most-product : goal.returns-then-most-product
returns-then-most-product c =
    let here = c.loop-t in
    let a = c.args in
    let over = next_past a.top here.product here.invariant.3 (omega arith) in
    sym (power-past (a.top + 1) a.times here._t (omega arith) (omega arith) (rw here.invariant.2 at over))

-- the next product
next-within : (c : Else-most-product) → c.loop-t.product * (c.args.top + 1) ≤ column_limit
next-within c =
    let here = c.loop-t in
    next_small c.args.top here.product here.invariant.3 (omega arith)

pub overflow_add-product : goal.overflow_add-product
overflow_add-product c = omega (arith, div-le_self column_limit c.loop-t.product)

pub overflow_mul-product : goal.overflow_mul-product
overflow_mul-product c = record { fits = omega (arith, next-within c) }

pub loop-t-preserved : goal.loop-t-preserved
loop-t-preserved c =
    let here = c.loop-t in
    let a = c.args in
    (omega arith, here.invariant.1, rw (add-one here._t, pow-suc (a.top + 1) here._t, here.invariant.2), omega arith, next-within c)

pub returns : goal.returns
returns c =
    let here = c.loop-t in
    let a = c.args in
    let all : here._t ≡ a.times = omega arith in
    sym (le-leb ((a.top + 1) ^ a.times) column_limit (rw (here.invariant.2, all) at here.invariant.4))

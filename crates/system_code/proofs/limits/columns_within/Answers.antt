-- `columns_within`: the answers.
use Prim.Native.Nat.{◌+◌, ◌*◌, ◌≤◌, ◌<◌}
use native.Mathlib.Omega.{arith}
use native.Mathlib.Nat.{one-mul, mul-le-mul, lt_of_le_of_lt}
use borrow.Author.Rules.{rules}
use mathlib.Core.Path.{◌≡◌}
use lib.ListN.{length, get_or, drop}
use lib.Dec.{lit<}
use Rattle.system.specs.Values.{no_task}
use Rattle.system.specs.Limits.{column_limit, type_limit}
use Rattle.system_code.proofs.Steps.{left, columns-step, columns-end, columns-over}
use Rattle.system_code.proofs.limits.columns_within.Goals as goal

pub loop-t-init : goal.loop-t-init
loop-t-init c = (search rules, one-mul (left c.args.types))

pub overflow_mul-product : goal.overflow_mul-product
overflow_mul-product c =
    let p = c.loop-t.product in
    let n = (get_or c.args.types c.loop-t.t-index no_task).ceiling in
    let small : p ≤ column_limit = c.loop-t.invariant.0 in
    let fits : n < 65536 = search rules in
    record { fits = lt_of_le_of_lt (mul-le-mul {n₁ = p} {m₁ = n + 1} {n₂ = column_limit} {m₂ = 65536} small (omega arith)) (lit< tt) }

pub returns-then-product-gt-COLUMN_LIMIT : goal.returns-then-product-gt-COLUMN_LIMIT
returns-then-product-gt-COLUMN_LIMIT c =
    let l = c.loop-t in
    let ts = c.args.types in
    let six : length ts ≡ type_limit = search rules in
    columns-over (drop (l.t-index + 1) ts) (l.product * ((get_or ts l.t-index no_task).ceiling + 1)) (left ts) c.if-product-gt-COLUMN_LIMIT.true
    (columns-step ts l.t-index l.product (left ts) no_task (omega arith) l.invariant.1)

pub loop-t-preserved : goal.loop-t-preserved
loop-t-preserved c =
    let l = c.loop-t in
    let ts = c.args.types in
    let six : length ts ≡ type_limit = search rules in
    (c.if-product-gt-COLUMN_LIMIT.false, columns-step ts l.t-index l.product (left ts) no_task (omega arith) l.invariant.1)

pub returns : goal.returns
returns c =
    let l = c.loop-t in
    let ts = c.args.types in
    let six : length ts ≡ type_limit = search rules in
    columns-end ts l.t-index l.product (left ts) (omega arith) l.invariant.0 l.invariant.1

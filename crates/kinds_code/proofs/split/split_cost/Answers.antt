-- Both branches are those of the definition. With at most 16 engines of each kind the cost is far below 65,535.
use native.Mathlib.Omega.{arith}
use borrow.Author.Tests.{leb-true}
use Prim.Native.Nat.{◌≤◌}
use lib.Dec.{leb}
use Rattle.system.proofs.Laws.{and_parts}
use Rattle.kinds.specs.Inner.{cost_of}
use Rattle.kinds_code.proofs.split.split_cost.Goals.{Then-a-m}
use Rattle.kinds_code.proofs.split.split_cost.Goals as goal

-- both rows are rows of their kind
rows_in : (c : Then-a-m) → (c.args.a ≤ c.args.m) × (c.args.b ≤ c.args.n)
rows_in c =
    let start = c.args in
    let both = and_parts (leb start.a start.m) (leb start.b start.n) c.if-a-m.true in
    (leb-true start.a start.m both.0, leb-true start.b start.n both.1)

pub overflow_add-result : goal.overflow_add-result
overflow_add-result c = omega (arith, rows_in c, c.requires)

pub overflow_mul-result : goal.overflow_mul-result
overflow_mul-result c = omega (arith, rows_in c, c.requires)

pub overflow_add-result-then-a-m : goal.overflow_add-result-then-a-m
overflow_add-result-then-a-m c = omega (arith, rows_in c, c.requires)

pub returns-then-a-m : goal.returns-then-a-m
unfolding cost_of
returns-then-a-m c = rw c.if-a-m.true

pub returns : goal.returns
unfolding cost_of
returns c = rw c.if-a-m.false

-- One law for each way: by the tests on the count and on the rule. A count is below 2^16, s and d are below 2^32.
use Prim.Native.Nat.{◌+◌, ◌*◌, ◌≤◌, ◌^◌}
use mathlib.Core.Path.{◌≡◌, ◌∙◌}
use native.Mathlib.Nat.{mul-le-mul}
use native.Mathlib.Omega.{arith}
use borrow.Author.Tests.{eq-eqb, ne_eqb}
use Rattle.loads_code.proofs.memory_at.Goals.{After-struct_known-then-rule-eq0-1}
use Rattle.loads_code.proofs.memory_at.Goals as goal

small : (c : After-struct_known-then-rule-eq0-1) → c.args.count * (c.args.task.memory + c.args.task.data) ≤ 2 ^ 49
small c = mul-le-mul {n₂ = 2 ^ 16} {m₂ = 2 ^ 33} (omega arith) (omega arith)

pub returns-then-count-eq0 : goal.returns-then-count-eq0
returns-then-count-eq0 c = (rw (eq-eqb _ _ c.if-count-eq0.true), omega arith)

pub overflow_mul-result : goal.overflow_mul-result
overflow_mul-result c = record { fits = omega (arith, small c) }

pub returns-then-rule-eq0 : goal.returns-then-rule-eq0
returns-then-rule-eq0 c =
    (simp (ne_eqb _ _ c.if-count-eq0.false, eq-eqb _ _ c.if-rule-eq0.true), small c)

pub returns : goal.returns
returns c =
    let start = c in
    let both : start.args.task.memory + c.cost.result ≡ start.args.task.memory + start.args.count * start.args.task.data = omega arith in
    (both ∙ simp (ne_eqb _ _ c.if-count-eq0.false, ne_eqb _ _ c.if-rule-eq0.false), omega arith)

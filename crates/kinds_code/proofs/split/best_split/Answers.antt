-- `best_split`: the answers.
use Prim.Native.Nat.{◌+◌}
use mathlib.Core.Path.{◌≡◌, refl, ◌∙◌}
use native.Mathlib.Omega.{arith}
use Rattle.partition.specs.Kinds.{least_at}
use Rattle.kinds.specs.Inner.{cost_at}
use Rattle.kinds.proofs.Splits.{turn-taken, turn-left}
use Rattle.kinds_code.proofs.split.best_split.Goals.{then-cost-least, else-cost-least}
use Rattle.kinds_code.proofs.split.best_split.Goals as goal

pub cost_at-least-requires : goal.cost_at-least-requires
cost_at-least-requires c = (c.requires, omega arith)

pub overflow_add-p-end : goal.overflow_add-p-end
overflow_add-p-end c = omega (arith, c.requires.inside)

pub loop-p-init : goal.loop-p-init
loop-p-init c = unfold least_at in (omega arith, refl, c.cost_at-least.ensures)

pub cost_at-cost-requires : goal.cost_at-cost-requires
cost_at-cost-requires c = (c.requires, omega arith)

pub loop-p-preserved : goal.loop-p-preserved
loop-p-preserved c =
    let start = c.args in
    let here = c.loop-p in
    let cost = cost_at start.rows.now start.rows2.now start.last start.m start.n in
    let now = c.cost_at-cost in
    let turned : (c.if-cost-least.best ≡ least_at cost (here.p + 1)) × (c.if-cost-least.least ≡ cost c.if-cost-least.best) =
    elim c.if-cost-least.branch [
      | then-cost-least w ↦ turn-taken cost here.p here.best here.least now.result c.if-cost-least.best c.if-cost-least.least here.invariant.1 here.invariant.2 now.ensures w.if-cost-least.true w.best-is w.least-is
      | else-cost-least w ↦ turn-left cost here.p here.best here.least now.result c.if-cost-least.best c.if-cost-least.least here.invariant.1 here.invariant.2 now.ensures w.if-cost-least.false w.best-is w.least-is
    ] in
    (omega arith, turned.0, turned.1)

pub returns : goal.returns
returns c =
    let here = c.loop-p in
    let all : here.p ≡ c.args.last + 1 = omega (arith, here.invariant.0) in
    here.invariant.1 ∙ rw all

-- `step`: the answers.
use mathlib.Core.Path.{◌≡◌, sym, ◌∙◌}
use native.Mathlib.Omega.{arith}
use borrow.Author.Rules.{rules}
use lib.ListN.{length, get_or, length-set}
use mir.Syntax.{w16}
use mir.Val.{Fits}
use Rattle.system.specs.Limits.{type_limit}
use Rattle.table.proofs.Candidates.{is-found, is-nothing}
use Rattle.table.proofs.Stepping.{step-rise, step-turn, step_end}
use Rattle.table_code.proofs.under.step.Goals as goal

pub overflow_add-counts : goal.overflow_add-counts
overflow_add-counts c =
    let a = c.args in
    let here = c.loop-t in
    let f : Fits w16 (get_or a.tops here.t 0) = search rules in
    omega (arith, c.if-count-tops.true)

pub returns-then-count-tops : goal.returns-then-count-tops
returns-then-count-tops c =
    let a = c.args in
    let here = c.loop-t in
    let lt : length a.tops ≡ 6 = search rules in
    let now = step-rise a.tops here.counts here.t (omega arith) (omega arith) c.if-count-tops.true in
    (now.0 ∙ here.invariant.2, is-found {m = type_limit} (omega (arith, now.1, here.invariant.3)) (λ z. omega arith))

pub loop-t-preserved : goal.loop-t-preserved
loop-t-preserved c =
    let a = c.args in
    let here = c.loop-t in
    let lt : length a.tops ≡ 6 = search rules in
    let now = step-turn a.tops here.counts here.t (omega arith) (omega arith) c.if-count-tops.false in (
      omega arith,
      length-set here.counts here.t 0 ∙ here.invariant.1,
      now.0 ∙ here.invariant.2,
      omega (arith, now.1, here.invariant.3),
    )

pub returns : goal.returns
returns c =
    let a = c.args in
    let here = c.loop-t in
    let lt : length a.tops ≡ 6 = search rules in
    let now = step_end a.tops here.counts here.t (omega arith) (omega arith) in
    (sym now.0 ∙ here.invariant.2, is-nothing {m = type_limit} (omega (arith, now.1, here.invariant.3)))

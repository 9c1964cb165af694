-- `name_at`: the answers.
use Prim.Native.Nat.{◌+◌}
use mathlib.Core.Path.{◌≡◌, refl, sym, ◌∙◌}
use native.Mathlib.Omega.{arith}
use lib.ListN.{length, get_or}
use mir.Syntax.{w16}
use mir.Val.{Fits}
use Rattle.timeline.proofs.Laws.{kind-here, kind-on, kind-past, number-here, number-on, number_past}
use borrow.Author.Rules.{rules}
use Rattle.timeline_code.proofs.lines.name_at.Goals as goal

pub loop-t-init : goal.loop-t-init
loop-t-init c = (omega arith, refl, refl)

pub overflow_add-result-then-left-count : goal.overflow_add-result-then-left-count
overflow_add-result-then-left-count c =
    let f : Fits w16 (get_or c.args.counts c.loop-t.t 0) = search rules in
    omega arith

pub returns-then-left-count : goal.returns-then-left-count
returns-then-left-count c =
    let here = c.loop-t in
    let counts = c.args.counts in
    let l : length counts ≡ 6 = search rules in (
      sym (kind-here counts here.t (here.t + 1) here.left (omega arith) c.if-left-count.true) ∙ here.invariant.1,
      sym (number-here counts here.t here.left (omega arith) c.if-left-count.true) ∙ here.invariant.2,
    )

pub loop-t-preserved : goal.loop-t-preserved
loop-t-preserved c =
    let here = c.loop-t in
    let counts = c.args.counts in
    let l : length counts ≡ 6 = search rules in (
      omega arith,
      sym (kind-on counts here.t (here.t + 1) here.left (omega arith) c.if-left-count.false) ∙ here.invariant.1,
      sym (number-on counts here.t here.left (omega arith) c.if-left-count.false) ∙ here.invariant.2,
    )

pub returns : goal.returns
returns c =
    let here = c.loop-t in
    let counts = c.args.counts in
    let l : length counts ≡ 6 = search rules in (
      sym (kind-past counts here.t (here.t + 1) here.left (omega arith)) ∙ here.invariant.1,
      sym (number_past counts here.t here.left (omega arith)) ∙ here.invariant.2,
    )

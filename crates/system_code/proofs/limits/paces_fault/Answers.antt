-- `paces_fault`: the answers.
use Prim.Native.Nat.{ℕ, ◌≤◌, ◌<◌}
use borrow.Author.Rules.{rules}
use mathlib.Core.Path.{◌≡◌, refl, ap, ◌∙◌}
use lib.ListN.{length, take}
use Rattle.system.specs.Values.{no_task}
use Rattle.system.specs.Limits.{type_limit}
use Rattle.system.specs.Outcome.{within}
use Rattle.system.proofs.Within.{handed_on, item_refused, item_passed, items_passed}
use Rattle.system_code.proofs.Steps.{paced, paces-first}
use Rattle.system_code.proofs.limits.paces_fault.Goals as goal

pub loop-t-init : goal.loop-t-init
loop-t-init c = refl

pub returns-in_err-pace_fault : goal.returns-in_err-pace_fault
returns-in_err-pace_fault c =
    let a = c.args in
    let l = c.loop-t in
    let ts = take c.min.result a.types in
    let six : length a.types ≡ type_limit = search rules in
    let inside : l.t-index < length ts = c.loop-t-test.true in
    handed_on _ c.from_residual.ensures.1
    (item_refused (paced a.timecap) ts l.t-index l.invariant no_task _ inside c.in_err-pace_fault.ensures
    ∙ ap (λ (n : ℕ). within n) (paces-first a.timecap a.k c.min.result a.types six c.min.ensures))

pub loop-t-preserved : goal.loop-t-preserved
loop-t-preserved c =
    let a = c.args in
    let l = c.loop-t in
    item_passed (paced a.timecap) (take c.min.result a.types) l.t-index l.invariant no_task c.loop-t-test.true c.in_ok-pace_fault.ensures

pub returns : goal.returns
returns c =
    let a = c.args in
    let l = c.loop-t in
    let ts = take c.min.result a.types in
    let six : length a.types ≡ type_limit = search rules in
    let past : length ts ≤ l.t-index = c.loop-t-test.false in
    items_passed (paced a.timecap) ts l.t-index l.invariant past
    ∙ ap (λ (n : ℕ). within n) (paces-first a.timecap a.k c.min.result a.types six c.min.ensures)

-- `mosts_fault`: the first q at fault decides; past the last there is none.
use Prim.Native.Nat.{ℕ}
use native.Mathlib.Omega.{arith}
use borrow.Author.Rules.{rules}
use mathlib.Core.Path.{◌≡◌, refl, ap, ◌∙◌}
use lib.ListN.{length}
use Rattle.system.specs.Values.{no_task}
use Rattle.system.specs.Limits.{type_limit}
use Rattle.system.specs.Outcome.{within}
use Rattle.system.proofs.Within.{handed_on, item_refused, item_passed, items_passed}
use Rattle.writer_code.proofs.Steps.{most_said}
use Rattle.writer_code.proofs.Steps.{mosts-listed}
use Rattle.writer_code.proofs.mosts_fault.Goals as goal

pub loop-t-init : goal.loop-t-init
loop-t-init c = refl

pub returns-in_err-most_fault : goal.returns-in_err-most_fault
returns-in_err-most_fault c =
    let ts = c.args.types in
    let l = c.loop-t in
    let six : length ts ≡ type_limit = search rules in
    handed_on _ c.from_residual.ensures.1
    (item_refused most_said ts l.t-index l.invariant no_task _ (omega arith) c.in_err-most_fault.ensures ∙ ap (λ (n : ℕ). within n) (mosts-listed ts))

pub loop-t-preserved : goal.loop-t-preserved
loop-t-preserved c =
    let ts = c.args.types in
    let l = c.loop-t in
    let six : length ts ≡ type_limit = search rules in
    item_passed most_said ts l.t-index l.invariant no_task (omega arith) c.in_ok-most_fault.ensures

pub returns : goal.returns
returns c =
    let ts = c.args.types in
    let l = c.loop-t in
    let six : length ts ≡ type_limit = search rules in
    items_passed most_said ts l.t-index l.invariant (omega arith) ∙ ap (λ (n : ℕ). within n) (mosts-listed ts)

-- `power`: the answers.
use Rattle.std.proofs.Common.{None}
use Prim.Native.Nat.{ℕ, ◌^◌}
use mathlib.Core.Path.{◌≡◌, sym, ap, ◌∙◌}
use native.Mathlib.Nat.{pow-zero, pow-suc}
use native.Mathlib.Numerals.{add-one}
use native.Mathlib.Omega.{arith}
use borrow.Author.Rules.{rules}
use Rattle.counting.proofs.Turns.{power-within, power-past}
use Rattle.counting_code.proofs.total.power.Goals as goal

pub loop-k-init : goal.loop-k-init
loop-k-init c = (omega arith, sym (pow-zero c.args.base), omega arith)

pub returns-in_err-value : goal.returns-in_err-value
returns-in_err-value c =
    let here = c.loop-k in
    let a = c.args in
    let told : c.from_residual.result ≡ None = search rules in
    let past = rw c.in_err-value.was at c.checked_mul.ensures in
    told ∙ power-past a.base a.times here._k c.requires (omega arith) (rw (← here.invariant.1) (omega (arith, past)))

pub loop-k-preserved : goal.loop-k-preserved
loop-k-preserved c =
    let here = c.loop-k in
    let a = c.args in
    let made = c.in_ok-value.ensures in
    (omega arith, made.1 ∙ rw (add-one here._k, pow-suc a.base here._k, here.invariant.1), omega (arith, made.0, made.1))

pub returns : goal.returns
returns c =
    let here = c.loop-k in
    let a = c.args in
    let all : here._k ≡ a.times = omega arith in
    let is : here.value ≡ a.base ^ a.times = here.invariant.1 ∙ ap (λ (n : ℕ). a.base ^ n) all in
    rw is (power-within a.base a.times (rw is at here.invariant.2))

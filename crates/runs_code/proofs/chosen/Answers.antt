-- `chosen`: the answers.
use borrow.Author.Rules.{rules}
use Prim.Native.Nat.{◌+◌, ◌-◌, ◌<◌}
use mathlib.Core.Path.{◌≡◌, refl, sym, ◌∙◌}
use mathlib.Core.Bool.{true, false, not, ◌&&◌}
use native.Mathlib.Nat.{zero-add}
use native.Mathlib.Omega.{arith}
use lib.ListN.{length, get_or, take, drop}
use Rattle.runs.specs.Run.{job_limit, no_job, pending, due_before, chosen}
use Rattle.runs.proofs.Steps.{choice-start, choice-turn}
use Rattle.runs_code.proofs.chosen.Goals as goal

pub loop-i-init : goal.loop-i-init
loop-i-init c =
    let a = c.args in
    let l : length a.jobs ≡ job_limit = search rules in
    (omega arith, choice-start a.jobs a.count (omega arith), λ (h : a.count < a.count). absurd (omega arith))

pub loop-i-preserved-then-takes : goal.loop-i-preserved-then-takes
loop-i-preserved-then-takes c =
    let a = c.args in
    let i = c.loop-i.i in
    let best = c.loop-i.best in
    let l : length a.jobs ≡ job_limit = search rules in
    let t : i - 1 + 1 ≡ i = omega arith in
    let e : best ≡ i - 1 + 1 + chosen (drop (i - 1 + 1) (take a.count a.jobs)) = rw t c.loop-i.invariant.1 in
    let p : (pending (get_or a.jobs (i - 1) no_job) && not (due_before a.count best c.loop-i.due (get_or a.jobs (i - 1) no_job).due)) ≡ true =
    sym c.takes.ensures ∙ c.if-takes.true in
    (omega arith, choice-turn a.jobs a.count (omega arith) (i - 1) best c.loop-i.due true (omega arith) e c.loop-i.invariant.2 p, λ _. refl)

pub loop-i-preserved : goal.loop-i-preserved
loop-i-preserved c =
    let a = c.args in
    let i = c.loop-i.i in
    let best = c.loop-i.best in
    let l : length a.jobs ≡ job_limit = search rules in
    let t : i - 1 + 1 ≡ i = omega arith in
    let e : best ≡ i - 1 + 1 + chosen (drop (i - 1 + 1) (take a.count a.jobs)) = rw t c.loop-i.invariant.1 in
    let p : (pending (get_or a.jobs (i - 1) no_job) && not (due_before a.count best c.loop-i.due (get_or a.jobs (i - 1) no_job).due)) ≡ false =
    sym c.takes.ensures ∙ c.if-takes.false in
    (omega arith, choice-turn a.jobs a.count (omega arith) (i - 1) best c.loop-i.due false (omega arith) e c.loop-i.invariant.2 p, c.loop-i.invariant.2)

pub returns : goal.returns
returns c =
    let a = c.args in
    let i = c.loop-i.i in
    let z : i ≡ 0 = omega arith in
    let e : c.loop-i.best ≡ 0 + chosen (drop 0 (take a.count a.jobs)) = rw z at c.loop-i.invariant.1 in
    e ∙ zero-add _

-- `started`: the answers.
use borrow.Author.Rules.{rules}
use mathlib.Core.Path.{◌≡◌, refl, sym, ap, ◌∙◌}
use Prim.Native.Nat.{ℕ}
use mathlib.Core.List.{◌++◌}
use lib.ListN.{length, take, drop}
use lib.Seq.{length-take-le, take-append_seam}
use native.Mathlib.Omega.{arith}
use Rattle.runs.specs.Run.{job_limit, no_job, started_job}
use Rattle.runs_code.proofs.Passes.{started-map, passed-turn, passed-all}
use Rattle.runs_code.proofs.started.Goals as goal

pub loop-j-init : goal.loop-j-init
loop-j-init c = refl

pub loop-j-preserved : goal.loop-j-preserved
loop-j-preserved c =
    let a = c.args in
    let l = c.loop-j in
    passed-turn started_job l.j-index (take a.count a.jobs) l.j-items no_job c.job_of.result c.loop-j-test.true l.invariant c.job_of.ensures

pub returns : goal.returns
returns c =
    let a = c.args in
    let l = c.loop-j in
    let all : length a.jobs ≡ job_limit = search rules in
    let same : length l.j-items ≡ a.count = l.auto.j-items ∙ length-take-le a.count a.jobs (omega arith) in
    ap (λ (n : ℕ). take n (l.j-items ++ drop a.count a.jobs)) (sym same)
    ∙ take-append_seam l.j-items _
    ∙ l.invariant
    ∙ passed-all started_job l.j-index (take a.count a.jobs) c.loop-j-test.false
    ∙ started-map (take a.count a.jobs)

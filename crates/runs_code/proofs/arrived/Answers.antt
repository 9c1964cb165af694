-- `arrived`: the answers.
use borrow.Author.Rules.{rules}
use mathlib.Core.Path.{◌≡◌, refl, sym, ap, ◌∙◌}
use Prim.Native.Nat.{ℕ}
use mathlib.Core.List.{◌++◌}
use lib.ListN.{length, take, drop}
use lib.Seq.{length-take-le, take-append_seam}
use native.Mathlib.Omega.{arith}
use Rattle.runs.specs.Run.{job_limit, no_job, arrived_job}
use Rattle.runs_code.proofs.Passes.{arrived-map, passed-turn, passed-all}
use Rattle.runs_code.proofs.arrived.Goals as goal

pub loop-j-init : goal.loop-j-init
loop-j-init c = refl

pub loop-j-preserved : goal.loop-j-preserved
loop-j-preserved c =
    let a = c.args in
    let l = c.loop-j in
    passed-turn (arrived_job a.now) l.j-index (take a.count a.jobs) l.j-items no_job c.arrived_job.result c.loop-j-test.true l.invariant c.arrived_job.ensures

pub returns : goal.returns
returns c =
    let a = c.args in
    let l = c.loop-j in
    let all : length a.jobs ≡ job_limit = search rules in
    let same : length l.j-items ≡ a.count = l.auto.j-items ∙ length-take-le a.count a.jobs (omega arith) in
    ap (λ (n : ℕ). take n (l.j-items ++ drop a.count a.jobs)) (sym same)
    ∙ take-append_seam l.j-items _
    ∙ l.invariant
    ∙ passed-all (arrived_job a.now) l.j-index (take a.count a.jobs) c.loop-j-test.false
    ∙ arrived-map a.now (take a.count a.jobs)

-- With a job at the place it is set; with none all stay.
use mathlib.Core.Path.{◌≡◌, ap, ◌∙◌}
use native.Mathlib.Omega.{arith}
use lib.ListN.{length, set, take}
use Rattle.runs.specs.declared.Job.{Job}
use Rattle.runs.specs.Run.{job_limit}
use Rattle.runs.proofs.Steps.{worked-here, worked-none}
use borrow.Author.Rules.{rules}
use Rattle.runs_code.proofs.worked_at.Goals as goal

pub returns-then-at-count : goal.returns-then-at-count
returns-then-at-count c =
    let a = c.args in
    let l : length a.jobs ≡ job_limit = search rules in
    ap (λ (j : Job). take a.count (set a.jobs a.at j)) c.worked_job.ensures ∙ worked-here a.jobs a.count a.at (omega arith) (omega arith)

pub returns-else-at-count : goal.returns-else-at-count
returns-else-at-count c =
    let a = c.args in
    let l : length a.jobs ≡ job_limit = search rules in
    worked-none a.jobs a.count a.at (omega arith) (omega arith)

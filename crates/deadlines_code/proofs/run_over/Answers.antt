-- Refused as the check says, or the run of the jobs: then there are few enough of them, and of ticks.
use Rattle.std.proofs.Common.{Err}
use mathlib.Core.Path.{◌≡◌, ap, sym, ◌∙◌}
use native.Mathlib.Omega.{arith}
use borrow.Author.Rules.{rules}
use Rattle.system.specs.Outcome.{checked_of}
use Rattle.deadlines_code.proofs.Steps.{passes-few, over-fails, over_runs}
use Rattle.deadlines_code.proofs.run_over.Goals as goal

pub returns-in_err-run_check : goal.returns-in_err-run_check
returns-in_err-run_check c =
    let a = c.args in
    let told : c.from_residual.result ≡ Err c.in_err-run_check.field-0.0 = search rules in
    rw told (over-fails a.y a.counts a.ticks c.in_err-run_check.field-0.0 (rw c.in_err-run_check.was at c.run_check.ensures))

pub jobs_of-jobs-requires : goal.jobs_of-jobs-requires
jobs_of-jobs-requires c =
    let a = c.args in
    (passes-few a.y.types a.counts a.ticks (ap checked_of (sym c.in_ok-run_check.was) ∙ c.run_check.ensures)).0

pub overflow_cast-ticks : goal.overflow_cast-ticks
overflow_cast-ticks c =
    let a = c.args in
    omega (arith, (passes-few a.y.types a.counts a.ticks (ap checked_of (sym c.in_ok-run_check.was) ∙ c.run_check.ensures)).1)

pub run_of-requires : goal.run_of-requires
run_of-requires c =
    let a = c.args in
    omega (arith, c.instances.ensures, (passes-few a.y.types a.counts a.ticks (ap checked_of (sym c.in_ok-run_check.was) ∙ c.run_check.ensures)).0)

pub returns : goal.returns
returns c =
    let a = c.args in
    let all = c.instances in
    let jobs = c.jobs_of-jobs in
    over_runs a.y a.counts a.ticks (ap checked_of (sym c.in_ok-run_check.was) ∙ c.run_check.ensures) jobs.result all.result c.run_of.result jobs.ensures all.ensures c.run_of.ensures

-- By what the run answers: then the definition has the same answer.
use mathlib.Core.Path.{sym, ap, ◌∙◌}
use native.Mathlib.Omega.{arith}
use Rattle.buffer.proofs.Laws.{written}
use Rattle.deadlines.specs.Outcome.{run_outcome_of}
use Rattle.deadlines.specs.Engine.{jobs_of}
use Rattle.timeline.proofs.Verdicts.{ran-within, refused-line}
use borrow.Author.Rules.{rules}
use Rattle.timeline_code.proofs.write_counts.Goals as goal

pub put_report-requires : goal.put_report-requires
put_report-requires c =
    let over = c in
    let a = over.args in
    let within = ran-within a.y a.counts a.ticks c.in-Ok.report.idle _ (sym over.run_over.ensures ∙ ap run_outcome_of c.in-Ok.is) in
    (within.0, within.1, search rules)

pub returns-in-Err : goal.returns-in-Err
returns-in-Err c =
    let over = c in
    let a = over.args in
    rw (sym over.run_over.ensures ∙ ap run_outcome_of c.in-Err.is, refused-line (jobs_of a.y.types a.counts) a.counts a.ticks a.from c.in-Err.why) (written (omega (arith, c.put_refusal.ensures.1)) c.put_refusal.auto.out c.put_refusal.ensures.0)

pub returns-in-Ok : goal.returns-in-Ok
returns-in-Ok c =
    let over = c in
    rw (sym over.run_over.ensures ∙ ap run_outcome_of c.in-Ok.is) (written (omega (arith, c.put_report.ensures.1)) c.put_report.auto.out c.put_report.ensures.0)

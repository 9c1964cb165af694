-- The ticks that are shown, then the line that sums up.
use native.Mathlib.Omega.{arith}
use Rattle.buffer.proofs.Laws.{puts_then}
use Rattle.timeline_code.proofs.put_report.Goals as goal

pub put_window-told-requires : goal.put_window-told-requires
put_window-told-requires c =
    let start = c in
    (omega (arith, c.instances-count.ensures, start.requires.0), start.requires.1, omega (arith, start.requires.2))

pub returns : goal.returns
returns c =
    let last = c in
    let window = last in
    let all = window in
    let jobs = all in
    let start = jobs in
    let shown = rw (all.instances-count.ensures, jobs.jobs_of-jobs.ensures) at window.put_window-told.ensures.0 in
    (puts_then (omega arith) shown last.put_summary.ensures.0, omega (arith, window.put_window-told.ensures.1, last.put_summary.ensures.1))

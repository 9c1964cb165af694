-- `run_of`: the answers.
use borrow.Author.Rules.{rules}
use Prim.Native.Nat.{◌-◌, ◌≤◌, ◌<◌}
use mathlib.Core.Path.{◌≡◌, sym, ap, ◌∙◌}
use mathlib.Core.List.{List}
use mathlib.Core.Bool.{Bool, true, false, cond, not, ◌&&◌}
use native.Mathlib.Omega.{arith}
use lib.ListN.{length, take}
use Rattle.runs.specs.declared.Job.{Job}
use Rattle.runs.specs.Run.{job_limit, pending, due_before, run_from}
use Rattle.runs_code.proofs.Passes.{Midway, tick-less, mid_start, mid-late, mid-arrived, mid-stays, mid-worked, mid-idle, mid-over}
use Rattle.runs_code.proofs.run_of.Goals.{Joined-j-now, then-j-now, else-j-now, then-best-count, else-best-count}
use Rattle.runs_code.proofs.run_of.Goals as goal

pub loop-now-init : goal.loop-now-init
loop-now-init c =
    let l : length c.started-state.result ≡ job_limit = search rules in
    mid_start c.args.ticks c.args.count c.started-state.result (omega arith) l

pub returns-then-late_job : goal.returns-then-late_job
returns-then-late_job c =
    let a = c.args in
    let w = c.loop-now in
    let s = c.started-state in
    c.missed_at.ensures
    ∙ mid-late a.ticks a.count (run_from a.ticks 0 0 (take a.count s.result)) (omega arith) w.state w.idle w.now w.i w.best w.due w.invariant (omega arith)
    (omega arith) (sym c.late_job.ensures ∙ c.if-late_job.true)
    ∙ ap (λ (l : List Job). run_from a.ticks 0 0 l) s.ensures

-- the job is seen, whether it arrived or stayed
seen :
    (c : Joined-j-now) (b : Bool)
    → (let a = c.args in
    let w = c.loop-now in
    (pending c.if-j-now.j && not (due_before a.count w.best w.due c.if-j-now.j.due)) ≡ b
    → Midway a.ticks a.count (run_from a.ticks 0 0 (take a.count c.started-state.result)) c.if-j-now.state w.idle w.now (w.i - 1)
    (cond b (w.i - 1) w.best) (cond b c.if-j-now.j.due w.due))
seen c b t =
    let a = c.args in
    let w = c.loop-now in
    let whole = run_from a.ticks 0 0 (take a.count c.started-state.result) in
    let h : w.now < a.ticks = omega arith in
    let p : 1 ≤ w.i = omega arith in
    let n = sym c.late_job.ensures ∙ c.if-late_job.false in
    elim c.if-j-now.branch [
      | then-j-now v ↦
          rw (v.state-is, v.j-is)
          (mid-arrived a.ticks a.count whole (omega arith) w.state w.idle w.now w.i w.best w.due w.invariant h p
          v.fresh_job-j.result n v.if-j-now.true v.fresh_job-j.ensures b (rw v.j-is at t))
      | else-j-now v ↦
          rw (v.state-is, v.j-is)
          (mid-stays a.ticks a.count whole (omega arith) w.state w.idle w.now w.i w.best w.due w.invariant h p
          n v.if-j-now.false b (rw v.j-is at t))
    ]

pub loop-now-preserved-then-takes : goal.loop-now-preserved-then-takes
loop-now-preserved-then-takes c = seen (goal.at.loop-now-preserved-then-takes c).Joined-j-now true (sym c.takes.ensures ∙ c.if-takes.true)

pub loop-now-preserved-else-takes : goal.loop-now-preserved-else-takes
loop-now-preserved-else-takes c = seen (goal.at.loop-now-preserved-else-takes c).Joined-j-now false (sym c.takes.ensures ∙ c.if-takes.false)

pub loop-now-smaller : goal.loop-now-smaller
loop-now-smaller c =
    let a = c.args in
    let w = c.loop-now in
    tick-less a.ticks w.now a.count w.i (omega arith)

pub loop-now-preserved : goal.loop-now-preserved
loop-now-preserved c =
    let a = c.args in
    let w = c.loop-now in
    let whole = run_from a.ticks 0 0 (take a.count c.started-state.result) in
    let h : w.now < a.ticks = omega arith in
    let z : w.i ≡ 0 = omega arith in
    let e = c.idle_at-idle in
    elim c.if-best-count.branch [
      | then-best-count v ↦
          rw (v.state-is, v.worked_job.ensures)
          (mid-worked a.ticks a.count whole (omega arith) w.state w.idle w.now w.i w.best w.due w.invariant h z
          e.result e.ensures.0 e.ensures.1 v.if-best-count.true)
      | else-best-count v ↦
          rw v.state-is
          (mid-idle a.ticks a.count whole (omega arith) w.state w.idle w.now w.i w.best w.due w.invariant h z
          e.result e.ensures.0 e.ensures.1 v.if-best-count.false)
    ]

pub returns : goal.returns
returns c =
    let a = c.args in
    let w = c.loop-now in
    let s = c.started-state in
    c.ended.ensures
    ∙ mid-over a.ticks a.count (run_from a.ticks 0 0 (take a.count s.result)) (omega arith) w.state w.idle w.now w.i w.best w.due w.invariant (omega arith)
    ∙ ap (λ (l : List Job). run_from a.ticks 0 0 l) s.ensures

-- A refusal: its line. A plan: the text of its engine. The table is long enough for every system.
use native.Mathlib.Omega.{arith}
use Rattle.buffer.proofs.Laws.{written}
use Rattle.timeline.proofs.Told.{tells-watch}
use Rattle.timeline.proofs.Verdicts.{text-refused, text-given, zeros-long}
use Rattle.timeline_code.proofs.watch_of.Goals as goal

pub returns-in-Err : goal.returns-in-Err
returns-in-Err c =
    let a = c.args in
    let line = written (omega (arith, c.put_refusal.ensures.1)) c.put_refusal.auto.out c.put_refusal.ensures.0 in
    record { written = rw (text-refused a.file.now zeros-long c.plan_one_kind-plan.ensures _ a.engine a.ticks a.from c.in-Err.is) line; tells = tells-watch a.file.now a.engine a.ticks a.from }

pub returns : goal.returns
returns c =
    let a = c.args in
    record { written = rw (text-given a.file.now zeros-long c.plan_one_kind-plan.ensures a.engine a.ticks a.from c.in_default.not-Err) c.write_planned.ensures; tells = tells-watch a.file.now a.engine a.ticks a.from }

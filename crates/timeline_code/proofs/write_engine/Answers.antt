-- By whether the system has an engine of this number; its load is that of the plan.
use Prim.Native.Nat.{◌≤◌}
use native.Mathlib.Omega.{arith}
use borrow.Author.Tests.{leb-true}
use lib.Dec.{leb}
use Rattle.system.proofs.Laws.{and_parts}
use Rattle.buffer.proofs.Laws.{written}
use Rattle.timeline.specs.Whole.{engine_with}
use Rattle.timeline_code.proofs.write_engine.Goals.{Then-engine-y}
use Rattle.timeline_code.proofs.write_engine.Goals as goal

-- the test is met
numbered : (c : Then-engine-y) → (1 ≤ c.args.engine) × (c.args.engine ≤ c.args.y.engines)
numbered c =
    let a = c.args in
    let both = and_parts (leb 1 a.engine) (leb a.engine a.y.engines) c.if-engine-y.true in
    (leb-true 1 a.engine both.0, leb-true a.engine a.y.engines both.1)

pub overflow_sub-load : goal.overflow_sub-load
overflow_sub-load c = (numbered c).0

pub offset_bounds-loads-engine : goal.offset_bounds-loads-engine
offset_bounds-loads-engine c = omega (arith, (numbered c).0, (numbered c).1, c.requires)

pub bounds-loads-engine : goal.bounds-loads-engine
bounds-loads-engine c = omega (arith, (numbered c).0, (numbered c).1, c.requires)

pub returns-then-engine-y : goal.returns-then-engine-y
unfolding engine_with
returns-then-engine-y c = rw c.if-engine-y.true c.write_counts.ensures

pub returns : goal.returns
unfolding engine_with
returns c = rw c.if-engine-y.false (written (omega (arith, c.put_bytes.ensures.next)) c.put_bytes.auto.out c.put_bytes.ensures)

-- What the core answers, with its records over the front of the list, is the plan into the list (`lists-call`): it uses no more engines than a system can have, nor than the list has records (`card-within`).
use native.Mathlib.Omega.{arith}
use lib.ListN.{length}
use Rattle.partition.specs.Lent.{lent}
use Rattle.planner.proofs.Calls.{card-within, lists-call}
use Rattle.planner_code.proofs.plan_into.Goals as goal

pub put_records-requires : goal.put_records-requires
put_records-requires c =
    let few = card-within c.args.file.now (lent c.args.rows.now c.args.predecessors.now) (length c.args.list.now) in
    let used = c.plan_records-plan.ensures.used in
    (omega (arith, few.0, used), omega (arith, few.1, used))

pub returns : goal.returns
returns c =
    let parts = lent c.args.rows.now c.args.predecessors.now in
    lists-call c.args.file.now parts c.args.list.now c.plan_records-plan.result _ _ c.plan_records-plan.ensures c.put_records.ensures

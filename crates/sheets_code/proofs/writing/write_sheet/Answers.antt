-- `write_sheet`: a plan that is refused is the answer; else 30 where the buffer is too short, or the sheet is put at its start.
use Rattle.std.proofs.Common.{Err}
use Prim.Native.Nat.{ℕ}
use mathlib.Core.Path.{◌≡◌, sym, ◌∙◌}
use native.Mathlib.Omega.{arith}
use borrow.Author.Rules.{rules}
use Rattle.partition.specs.Lent.{lent}
use Rattle.sheets.proofs.Writes.{promised-refusal, types-few, promised-short, promised-sheet}
use Rattle.sheets_code.proofs.Steps.{accepted-number}
use Rattle.sheets_code.proofs.writing.write_sheet.Goals as goal

pub returns-in_err-plan : goal.returns-in_err-plan
returns-in_err-plan c =
    let plan = c.plan_one_kind-plan in
    let was = c.in_err-plan.was in
    let told : c.from_residual.result ≡ Err c.in_err-plan.field-0.0 = search rules in
    rw (told ∙ sym was)
    (promised-refusal c.args.file.now (lent c.args.rows.now c.args.predecessors.now) c.args.buffer.now plan.result _ plan.ensures
    (λ n e. let both = sym was ∙ e in let z : ◌≡◌ {A = ℕ} 0 1 = cc in omega arith))

pub sheet_size-requires : goal.sheet_size-requires
sheet_size-requires c =
    let plan = c.plan_one_kind-plan in
    let table = lent c.args.rows.now c.args.predecessors.now in
    let (used, is) = accepted-number c.args.file.now table plan.result _ plan.ensures c.in_ok-plan.was in
    types-few c.args.file.now table c.args.buffer.now plan.result _ plan.ensures used is

pub returns-then-buffer-sheet_size : goal.returns-then-buffer-sheet_size
returns-then-buffer-sheet_size c =
    let plan = c.plan_one_kind-plan in
    let table = lent c.args.rows.now c.args.predecessors.now in
    let (used, is) = accepted-number c.args.file.now table plan.result _ plan.ensures c.in_ok-plan.was in
    promised-short c.args.file.now table c.args.buffer.now plan.result _ plan.ensures used is (rw c.sheet_size.ensures at c.if-buffer-sheet_size.true)

pub put_sheet-requires : goal.put_sheet-requires
put_sheet-requires c =
    let plan = c.plan_one_kind-plan in
    let table = lent c.args.rows.now c.args.predecessors.now in
    let (used, is) = accepted-number c.args.file.now table plan.result _ plan.ensures c.in_ok-plan.was in
    (types-few c.args.file.now table c.args.buffer.now plan.result _ plan.ensures used is, rw c.sheet_size.ensures at c.if-buffer-sheet_size.false)

pub returns : goal.returns
returns c =
    let plan = c.plan_one_kind-plan in
    let table = lent c.args.rows.now c.args.predecessors.now in
    let (used, is) = accepted-number c.args.file.now table plan.result _ plan.ensures c.in_ok-plan.was in
    promised-sheet c.args.file.now table c.args.buffer.now plan.result _ plan.ensures used is _ _ (rw c.sheet_size.ensures at c.if-buffer-sheet_size.false) c.put_sheet.ensures

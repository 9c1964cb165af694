-- Each way out is the one that the check is defined to take there (the laws of Exits), from what the callees ensure; a check that is the one defined keeps what is promised.
use Rattle.std.proofs.Common.{Option, Ok, Err}
use Prim.Native.Nat.{ℕ}
use mathlib.Core.Path.{◌≡◌, sym, ap, ◌∙◌}
use mathlib.Core.List.{List}
use mathlib.Core.Bool.{true}
use borrow.Author.Rules.{rules}
use Rattle.std.specs.Result.{result_ok}
use Rattle.system.specs.declared.Opened.{Opened}
use Rattle.system.specs.Values.{ceilings_of}
use Rattle.system.specs.Limits.{keeps_limits}
use Rattle.system.specs.Layout.{opened, read_file, Reads}
use Rattle.system.specs.Outcome.{from_input, checked_of}
use Rattle.system.proofs.Checks.{check-passed}
use Rattle.system.proofs.Laws.{limits_of, read-keeps-limits}
use Rattle.loads.proofs.Order.{within-refl}
use Rattle.partition.specs.Lent.{lent}
use Rattle.table.specs.Table.{long_enough, filled, placement}
use Rattle.table.proofs.Reading.{ok-opens}
use Rattle.table.proofs.Placed.{may-place-on-all}
use Rattle.planner.specs.Plan.{plan_engines}
use Rattle.sheets.specs.Sheet.{used_in}
use Rattle.sheets.specs.Checking.{records_check}
use Rattle.planner.proofs.Exits.{refused-by}
use Rattle.sheets_code.proofs.Exits.{unread-checks, lent-checks, judged-checks, never-none, right-checks}
use Rattle.sheets.proofs.Promises.{promises-of}
use Rattle.sheets_code.proofs.checking.check_sheet.Goals as goal

-- a file that was not refused reads as the system, which keeps the limits
module _ (file : List ℕ) (r : Opened) (reads : Reads (read_file file) r) {v : Option ℕ} (accepted : r.answer ≡ Ok v) where
  is-opened : read_file file ≡ opened r.system
  is-opened = ok-opens (read_file file) r reads accepted

  keeps : keeps_limits r.system ≡ true
  keeps = read-keeps-limits file r.system is-opened

pub returns-in_err-opened : goal.returns-in_err-opened
returns-in_err-opened c =
    let r = c.read_system-opened in
    let told : c.from_residual.result ≡ Err c.in_err-opened.field-0.0 = search rules in
    rw told (promises-of c.args.file.now c.args.sheet.now (lent c.args.rows.now c.args.predecessors.now) (Err c.in_err-opened.field-0.0) _
    (unread-checks (read_file c.args.file.now) r.result r.ensures c.in_err-opened.field-0.0 c.in_err-opened.was c.args.sheet.now (lent c.args.rows.now c.args.predecessors.now)))

pub table_check-requires : goal.table_check-requires
table_check-requires c = (limits_of _ (keeps c.args.file.now c.read_system-opened.result c.read_system-opened.ensures c.in_ok-opened.was)).columns

-- 11
pub returns-in_err-table_check : goal.returns-in_err-table_check
returns-in_err-table_check c =
    let r = c.read_system-opened in
    let told : c.from_residual-in_err-table_check.result ≡ Err c.in_err-table_check.field-0.0 = search rules in
    rw told (promises-of c.args.file.now c.args.sheet.now (lent c.args.rows.now c.args.predecessors.now) (Err c.in_err-table_check.field-0.0) _
    (lent-checks (read_file c.args.file.now) r.result.system (is-opened c.args.file.now r.result r.ensures c.in_ok-opened.was) c.args.sheet.now (lent c.args.rows.now c.args.predecessors.now) c.in_err-table_check.field-0.0
    (ap checked_of (sym c.in_err-table_check.was) ∙ c.table_check.ensures)))

pub loads_in-loads-requires : goal.loads_in-loads-requires
loads_in-loads-requires c = (limits_of _ (keeps c.args.file.now c.read_system-opened.result c.read_system-opened.ensures c.in_ok-opened.was)).typecount

pub records_check-requires : goal.records_check-requires
records_check-requires c = (limits_of _ (keeps c.args.file.now c.read_system-opened.result c.read_system-opened.ensures c.in_ok-opened.was)).typecount

-- 32, 33, 34: 11 has passed, and what the records that were taken are judged to be
pub returns-in_err-records_check : goal.returns-in_err-records_check
returns-in_err-records_check c =
    let r = c.read_system-opened in
    let told : c.from_residual-in_err-records_check.result ≡ Err c.in_err-records_check.field-0.0 = search rules in
    rw told (promises-of c.args.file.now c.args.sheet.now (lent c.args.rows.now c.args.predecessors.now) (Err c.in_err-records_check.field-0.0) _
    (judged-checks (read_file c.args.file.now) r.result.system (is-opened c.args.file.now r.result r.ensures c.in_ok-opened.was) c.args.sheet.now (lent c.args.rows.now c.args.predecessors.now)
    (ap checked_of (sym c.in_ok-table_check.was) ∙ c.table_check.ensures) c.in_err-records_check.field-0.0
    (ap checked_of (sym c.in_err-records_check.was) ∙ c.records_check.ensures ∙ ap (records_check r.result.system c.args.sheet.now) c.loads_in-loads.ensures)))

pub engines_to-engines-requires : goal.engines_to-engines-requires
engines_to-engines-requires c = (limits_of _ (keeps c.args.file.now c.read_system-opened.result c.read_system-opened.ensures c.in_ok-opened.was)).engines

pub place-requires : goal.place-requires
place-requires c =
    let r = c.read_system-opened in
    let y = r.result.system in
    let engines = c.engines_to-engines.ensures in
    let table = lent c.args.rows.now c.args.predecessors.now in
    may-place-on-all y _ _ table (keeps c.args.file.now r.result r.ensures c.in_ok-opened.was) engines.0 engines.1
    (check-passed (long_enough y table) from_input 11 (ap checked_of (sym c.in_ok-table_check.was) ∙ c.table_check.ensures)) (rw c.ceilings_of.ensures (within-refl (ceilings_of y)))

-- there is a placement
pub returns-in_err-placement : goal.returns-in_err-placement
returns-in_err-placement c =
    let r = c.read_system-opened in
    let y = r.result.system in
    let placed : c.place.result ≡ placement y (plan_engines y) (ceilings_of y) = c.place.ensures.1 ∙ rw (c.engines_to-engines.ensures.1, c.ceilings_of.ensures) in
    absurd (never-none (read_file c.args.file.now) y (is-opened c.args.file.now r.result r.ensures c.in_ok-opened.was) c.args.sheet.now (lent c.args.rows.now c.args.predecessors.now)
    (ap checked_of (sym c.in_ok-table_check.was) ∙ c.table_check.ensures) (keeps c.args.file.now r.result r.ensures c.in_ok-opened.was)
    (ap checked_of (sym c.in_ok-records_check.was) ∙ c.records_check.ensures ∙ ap (records_check y c.args.sheet.now) c.loads_in-loads.ensures)
    ((refused-by _ _ (sym c.ok_or.ensures.value ∙ c.in_err-placement.was)).0 ∙ placed))

-- all instances are placed: what the table and the placement are
pub returns : goal.returns
returns c =
    let r = c.read_system-opened in
    let y = r.result.system in
    let table : lent c.place.new.rows c.place.new.predecessors ≡ filled y (plan_engines y) (lent c.args.rows.now c.args.predecessors.now)
    = c.place.ensures.0 ∙ rw c.engines_to-engines.ensures.1 in
    let placed : c.place.result ≡ placement y (plan_engines y) (ceilings_of y) = c.place.ensures.1 ∙ rw (c.engines_to-engines.ensures.1, c.ceilings_of.ensures) in
    promises-of c.args.file.now c.args.sheet.now (lent c.args.rows.now c.args.predecessors.now) _ _ (rw table
    (right-checks (read_file c.args.file.now) y (is-opened c.args.file.now r.result r.ensures c.in_ok-opened.was) c.args.sheet.now (lent c.args.rows.now c.args.predecessors.now)
    (ap checked_of (sym c.in_ok-table_check.was) ∙ c.table_check.ensures) (keeps c.args.file.now r.result r.ensures c.in_ok-opened.was)
    (ap checked_of (sym c.in_ok-records_check.was) ∙ c.records_check.ensures ∙ ap (records_check y c.args.sheet.now) c.loads_in-loads.ensures)
    _ (sym (c.ok_or.ensures.ok_part ∙ ap result_ok c.in_ok-placement.was) ∙ placed) _ (c.used_engines.ensures.0 ∙ ap used_in c.loads_in-loads.ensures)))

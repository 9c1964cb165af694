-- Each way out is the one that the call is defined to take there (the laws of FromFile), from what the callees ensure; a call that is the one defined keeps what is promised.
use Rattle.std.proofs.Common.{Option, Ok, Err}
use Prim.Native.Nat.{ℕ}
use mathlib.Core.Path.{◌≡◌, sym, ap, ◌∙◌}
use mathlib.Core.List.{List}
use mathlib.Core.Bool.{true}
use borrow.Author.Rules.{rules}
use Rattle.system.specs.declared.Opened.{Opened}
use Rattle.system.specs.Values.{ceilings_of}
use Rattle.system.specs.Limits.{keeps_limits}
use Rattle.system.specs.Layout.{opened, read_file, Reads}
use Rattle.system.specs.Outcome.{from_input, checked_of}
use Rattle.system.proofs.Checks.{check-passed}
use Rattle.system.proofs.Laws.{limits_of, read-keeps-limits}
use Rattle.loads.proofs.Order.{within-refl}
use Rattle.partition.specs.Assignment.{engines_to}
use Rattle.partition.specs.Lent.{lent}
use Rattle.table.specs.Table.{long_enough, filled, placement}
use Rattle.table.proofs.Reading.{ok-opens}
use Rattle.table.proofs.Placed.{may-place-on-all}
use Rattle.causes.proofs.FromFile.{promises-of, unread-gives, lent_gives, cause-gives, cause-found}
use Rattle.causes_code.proofs.calls.why_no_plan.Goals as goal

-- a file that was not refused reads as the system, which keeps the limits
module _ (file : List ℕ) (r : Opened) (reads : Reads (read_file file) r) {v : Option ℕ} (accepted : r.answer ≡ Ok v) where
  is-opened : read_file file ≡ opened r.system
  is-opened = ok-opens (read_file file) r reads accepted

  keeps : keeps_limits r.system ≡ true
  keeps = read-keeps-limits file r.system is-opened

-- the file is refused
pub returns-in_err-opened : goal.returns-in_err-opened
returns-in_err-opened c =
    let r = c.read_system-opened in
    let told : c.from_residual.result ≡ Err c.in_err-opened.field-0.0 = search rules in
    rw told (promises-of c.args.file.now (lent c.args.rows.now c.args.predecessors.now) (Err c.in_err-opened.field-0.0) _
    (unread-gives (read_file c.args.file.now) r.result r.ensures c.in_err-opened.field-0.0 c.in_err-opened.was (lent c.args.rows.now c.args.predecessors.now)))

pub table_check-requires : goal.table_check-requires
table_check-requires c = (limits_of _ (keeps c.args.file.now c.read_system-opened.result c.read_system-opened.ensures c.in_ok-opened.was)).columns

-- 11
pub returns-in_err-table_check : goal.returns-in_err-table_check
returns-in_err-table_check c =
    let r = c.read_system-opened in
    let told : c.from_residual-in_err-table_check.result ≡ Err c.in_err-table_check.field-0.0 = search rules in
    rw told (promises-of c.args.file.now (lent c.args.rows.now c.args.predecessors.now) (Err c.in_err-table_check.field-0.0) _
    (lent_gives (read_file c.args.file.now) r.result.system (is-opened c.args.file.now r.result r.ensures c.in_ok-opened.was) (lent c.args.rows.now c.args.predecessors.now) c.in_err-table_check.field-0.0
    (ap checked_of (sym c.in_err-table_check.was) ∙ c.table_check.ensures)))

pub engines_to-engines-requires : goal.engines_to-engines-requires
engines_to-engines-requires c = (limits_of _ (keeps c.args.file.now c.read_system-opened.result c.read_system-opened.ensures c.in_ok-opened.was)).engines

-- 11 has passed
pub place-found-requires : goal.place-found-requires
place-found-requires c =
    let r = c.read_system-opened in
    let y = r.result.system in
    let engines = c.engines_to-engines.ensures in
    let table = lent c.args.rows.now c.args.predecessors.now in
    may-place-on-all y _ _ table (keeps c.args.file.now r.result r.ensures c.in_ok-opened.was) engines.0 engines.1
    (check-passed (long_enough y table) from_input 11 (ap checked_of (sym c.in_ok-table_check.was) ∙ c.table_check.ensures)) (rw c.ceilings_of-counts.ensures (within-refl (ceilings_of y)))

pub cause_of-requires : goal.cause_of-requires
cause_of-requires c = (limits_of _ (keeps c.args.file.now c.read_system-opened.result c.read_system-opened.ensures c.in_ok-opened.was)).engines

-- the cause: the parts are filled, and tell whether all instances can be placed
pub returns : goal.returns
returns c =
    let r = c.read_system-opened in
    let y = r.result.system in
    let parts_are : lent c.place-found.new.rows c.place-found.new.predecessors ≡ filled y (engines_to y.engines) (lent c.args.rows.now c.args.predecessors.now)
    = c.place-found.ensures.0 ∙ rw c.engines_to-engines.ensures.1 in
    let placement-is : c.place-found.result ≡ placement y (engines_to y.engines) (ceilings_of y) = c.place-found.ensures.1 ∙ rw (c.engines_to-engines.ensures.1, c.ceilings_of-counts.ensures) in
    promises-of c.args.file.now (lent c.args.rows.now c.args.predecessors.now) _ _
    (cause-gives (read_file c.args.file.now) y (is-opened c.args.file.now r.result r.ensures c.in_ok-opened.was) (lent c.args.rows.now c.args.predecessors.now)
    (ap checked_of (sym c.in_ok-table_check.was) ∙ c.table_check.ensures) _
    (cause-found y _ c.place-found.result (rw c.is_some.ensures at c.cause_of.ensures) c.ceilings_of-counts.ensures placement-is)
    _ parts_are)

-- `planner_code::plan_one`. Each way out is the one that the plan is defined to take there (the laws of Exits), from what the callees ensure of the file, of what is lent and of the placement;
-- a plan that is the one defined keeps the demands.
use Rattle.std.proofs.Common.{Ok, Err, Option}
use mathlib.Core.Path.{◌≡◌, sym, ap, ◌∙◌}
use mathlib.Core.Bool.{true}
use mathlib.Core.List.{List}
use Prim.Native.Nat.{ℕ}
use borrow.Author.Rules.{rules}
use Rattle.std.specs.Result.{result_ok}
use Rattle.system.specs.declared.Opened.{Opened}
use Rattle.system.specs.Values.{ceilings_of}
use Rattle.system.specs.Limits.{keeps_limits}
use Rattle.system.specs.Layout.{opened, read_file, Reads}
use Rattle.system.specs.Outcome.{checked_of}
use Rattle.system.proofs.Laws.{limits_of, read-keeps-limits}
use Rattle.loads.proofs.Order.{within-refl}
use Rattle.partition.specs.Assignment.{numbers_from}
use Rattle.partition.specs.Lent.{lent}
use Rattle.table.proofs.Placed.{may-place-on-all}
use Rattle.table.proofs.Reading.{ok-opens}
use Rattle.planner.proofs.Exits.{unread-plans, lent-plans, none-plans, placed-plans, refused-by}
use Rattle.planner.proofs.Cases.{lent-passed}
use Rattle.planner.proofs.Demands.{promises-of}
use Rattle.planner_code.proofs.plan_one.Goals as goal

pub returns-in_err-read : goal.returns-in_err-read
returns-in_err-read c =
    let r = c.read_system-read in
    let file = c.args.file.now in
    let told : c.from_residual.result ≡ Err c.in_err-read.field-0.0 = search rules in
    rw told (promises-of file _ _ _ _ (unread-plans (read_file file) r.result r.ensures (lent c.args.rows.now c.args.predecessors.now) c.args.room _ c.in_err-read.was))

-- the file reads as the system, which keeps the limits
module _ (file : List ℕ) (r : Opened) (reads : Reads (read_file file) r) {v : Option ℕ} (is-accepted : r.answer ≡ Ok v) where
  is-opened : read_file file ≡ opened r.system
  is-opened = ok-opens (read_file file) r reads is-accepted

  keeps : keeps_limits r.system ≡ true
  keeps = read-keeps-limits file r.system is-opened

pub lent_check-requires : goal.lent_check-requires
lent_check-requires c = (limits_of _ (keeps c.args.file.now c.read_system-read.result c.read_system-read.ensures c.in_ok-read.was)).columns

-- 11 or 15
pub returns-in_err-lent_check : goal.returns-in_err-lent_check
returns-in_err-lent_check c =
    let file = c.args.file.now in
    let r = c.read_system-read in
    let told : c.from_residual-in_err-lent_check.result ≡ Err c.in_err-lent_check.field-0.0 = search rules in
    rw told
    (promises-of file _ _ _ _
    (lent-plans (read_file file) r.result.system (is-opened file r.result r.ensures c.in_ok-read.was) (lent c.args.rows.now c.args.predecessors.now) c.args.room _
    (ap checked_of (sym c.in_err-lent_check.was) ∙ c.lent_check.ensures)))

pub engines_to-engines-requires : goal.engines_to-engines-requires
engines_to-engines-requires c = (limits_of _ (keeps c.args.file.now c.read_system-read.result c.read_system-read.ensures c.in_ok-read.was)).engines

pub place-requires : goal.place-requires
place-requires c =
    let r = c.read_system-read in
    let y = r.result.system in
    let parts = lent c.args.rows.now c.args.predecessors.now in
    let engines = c.engines_to-engines.ensures in
    let passed = ap checked_of (sym c.in_ok-lent_check.was) ∙ c.lent_check.ensures in
    may-place-on-all y _ _ parts (keeps c.args.file.now r.result r.ensures c.in_ok-read.was) engines.0 engines.1 (lent-passed y parts c.args.room passed).0
    (rw c.ceilings_of.ensures (within-refl (ceilings_of y)))

-- the instances cannot be placed
pub returns-in_err-placement : goal.returns-in_err-placement
returns-in_err-placement c =
    let file = c.args.file.now in
    let r = c.read_system-read in
    let parts = lent c.args.rows.now c.args.predecessors.now in
    let passed = ap checked_of (sym c.in_ok-lent_check.was) ∙ c.lent_check.ensures in
    let p = c.place in
    let table_is = rw c.engines_to-engines.ensures.1 at p.ensures.0 in
    let placement-is = rw (c.engines_to-engines.ensures.1, c.ceilings_of.ensures) at p.ensures.1 in
    let none = refused-by _ _ (sym c.ok_or.ensures.value ∙ c.in_err-placement.was) in
    let told : c.from_residual-in_err-placement.result ≡ Err c.in_err-placement.field-0.0 = search rules in
    rw (told, none.1) (promises-of file _ _ _ _ (rw table_is
    (none-plans (read_file file) r.result.system (is-opened file r.result r.ensures c.in_ok-read.was) parts c.args.room passed (none.0 ∙ placement-is))))

pub returns : goal.returns
unfolding numbers_from
returns c =
    let file = c.args.file.now in
    let r = c.read_system-read in
    let parts = lent c.args.rows.now c.args.predecessors.now in
    let passed = ap checked_of (sym c.in_ok-lent_check.was) ∙ c.lent_check.ensures in
    let p = c.place in
    let table_is = rw c.engines_to-engines.ensures.1 at p.ensures.0 in
    let placement-is = rw (c.engines_to-engines.ensures.1, c.ceilings_of.ensures) at p.ensures.1 in
    promises-of file _ _ _ _ (rw table_is
    (placed-plans (read_file file) r.result.system (is-opened file r.result r.ensures c.in_ok-read.was) parts c.args.room passed _ (sym (c.ok_or.ensures.ok_part ∙ ap result_ok c.in_ok-placement.was) ∙ placement-is)))

-- Each answer is that of the definition: a file that was refused, a part too short, both parts filled for the first of two kinds, and both parts filled.
use Rattle.std.proofs.Common.{Option, None, Some, Err}
use Prim.Native.Nat.{◌≤◌}
use mathlib.Core.Path.{◌≡◌, refl, sym, ap, subst, ◌∙◌}
use native.Mathlib.Nat.{le_refl}
use borrow.Author.Rules.{rules}
use lib.ListN.{length}
use Rattle.system.specs.declared.Kind.{Kind}
use Rattle.system.specs.declared.System.{System}
use Rattle.system.specs.Limits.{columns}
use Rattle.system.specs.Layout.{read_card}
use Rattle.system.specs.Outcome.{from_input, outcome_of, passes, checked_of}
use Rattle.system.proofs.Checks.{check-passed}
use Rattle.system.proofs.Laws.{card-of, card-limits, limits-keep}
use Rattle.system.proofs.CardLaws.{first-columns, first-keeps}
use Rattle.partition.specs.Lent.{Lent, lent}
use Rattle.table.specs.Table.{long_enough, table_check, filled_to}
use Rattle.table.proofs.Meaning.{file-fills}
use Rattle.table.proofs.Reading.{read-card, parts-room, fill-refused, fill-short, fill_done, fill-two}
use Rattle.table_code.proofs.fill_table.Goals as goal

pub returns-in_err-opened : goal.returns-in_err-opened
returns-in_err-opened c =
    let r = c.read_card-opened in
    let parts = lent c.args.rows.now c.args.predecessors.now in
    let told : c.from_residual.result ≡ Err c.in_err-opened.field-0.0 = search rules in
    let both = fill-refused (read_card c.args.file.now) r.result r.ensures parts c.in_err-opened.was in
    file-fills c.args.file.now _ parts _ (ap outcome_of told ∙ both.0, both.1)

-- the file opened, and its card keeps the limits
pub table_check-requires : goal.table_check-requires
table_check-requires c =
    let r = c.read_card-opened in
    (card-of _ (read-card c.args.file.now r.result r.ensures c.in_ok-opened.was)).columns

pub returns-in_err-table_check : goal.returns-in_err-table_check
returns-in_err-table_check c =
    let r = c.read_card-opened in
    let parts = lent c.args.rows.now c.args.predecessors.now in
    let told : c.from_residual-in_err-table_check.result ≡ Err c.in_err-table_check.field-0.0 = search rules in
    let both = fill-short (read_card c.args.file.now) r.result r.ensures parts c.in_ok-opened.was _ (ap checked_of (sym c.in_err-table_check.was) ∙ c.table_check.ensures) in
    file-fills c.args.file.now _ parts _ (ap outcome_of told ∙ both.0, both.1)

-- where there is not one kind, there are two
other-kind : (s : Option Kind) → (s ≡ None → ⊥) → (k : Kind) × (s ≡ Some k)
other-kind None e = absurd (e refl)
other-kind (Some k) e = (k, refl)

-- the check passed, so that both parts have an entry for each column
has-room : (y : System) (table : Lent) → passes ≡ table_check y table → (columns y ≤ length table.rows) × (columns y ≤ length table.predecessors)
has-room y table passed = parts-room y table (check-passed (long_enough y table) from_input 11 passed)

pub fill_parts-requires : goal.fill_parts-requires
fill_parts-requires c =
    let r = c.read_card-opened in
    let y = r.result.system in
    let room = has-room y (lent c.args.rows.now c.args.predecessors.now) (ap checked_of (sym c.in_ok-table_check.was) ∙ c.table_check.ensures) in
    let (k, two) = other-kind y.second c.in_default.not-None in
    rw (c.first_kind.ensures, first-columns y)
    (first-keeps y k (read-card c.args.file.now r.result r.ensures c.in_ok-opened.was) two, le_refl y.engines, room.0, room.1)

pub returns-in_default : goal.returns-in_default
returns-in_default c =
    let r = c.read_card-opened in
    let parts = lent c.args.rows.now c.args.predecessors.now in
    let done = c.fill_parts in
    let (k, two) = other-kind r.result.system.second c.in_default.not-None in
    let left : lent done.new.rows done.new.predecessors ≡ filled_to c.first_kind.result r.result.system.engines parts = λ i. lent (done.ensures.0 i) (done.ensures.1 i) in
    file-fills c.args.file.now _ parts _
    (fill-two (read_card c.args.file.now) r.result r.ensures parts c.in_ok-opened.was k two (ap checked_of (sym c.in_ok-table_check.was) ∙ c.table_check.ensures)
    (lent done.new.rows done.new.predecessors)
    (subst (λ (z : System). lent done.new.rows done.new.predecessors ≡ filled_to z r.result.system.engines parts) c.first_kind.ensures left))

-- there is one kind
pub fill_parts-requires-2 : goal.fill_parts-requires-2
fill_parts-requires-2 c =
    let r = c.read_card-opened in
    let y = r.result.system in
    let one : y.second ≡ None = search rules in
    let room = has-room y (lent c.args.rows.now c.args.predecessors.now) (ap checked_of (sym c.in_ok-table_check.was) ∙ c.table_check.ensures) in
    (limits-keep y (card-limits y (card-of y (read-card c.args.file.now r.result r.ensures c.in_ok-opened.was)) one), le_refl y.engines, room.0, room.1)

pub returns : goal.returns
returns c =
    let r = c.read_card-opened in
    let parts = lent c.args.rows.now c.args.predecessors.now in
    let done = c.fill_parts-2 in
    let one : r.result.system.second ≡ None = search rules in
    file-fills c.args.file.now _ parts _
    (fill_done (read_card c.args.file.now) r.result r.ensures parts c.in_ok-opened.was one (ap checked_of (sym c.in_ok-table_check.was) ∙ c.table_check.ensures)
    (lent done.new.rows done.new.predecessors)
    (λ i. lent (done.ensures.0 i) (done.ensures.1 i))
    done.result
    done.ensures.2)

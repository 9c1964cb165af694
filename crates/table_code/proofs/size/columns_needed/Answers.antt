-- A file that opened: its card keeps the limits, so that its columns can be counted. One that was refused.
use Rattle.std.proofs.Common.{Err, rules}
use mathlib.Core.Path.{◌≡◌, ap, ◌∙◌}
use Rattle.system.specs.Layout.{read_card}
use Rattle.system.specs.Outcome.{outcome_of}
use Rattle.system.proofs.Laws.{card-of}
use Rattle.table.proofs.Reading.{read-card, needed-refused, needed-told}
use Rattle.table.proofs.Meaning.{file-needs}
use Rattle.table_code.proofs.size.columns_needed.Goals as goal

pub returns-in_err-opened : goal.returns-in_err-opened
returns-in_err-opened c =
    let r = c.read_card-opened in
    let told : c.from_residual.result ≡ Err c.in_err-opened.field-0.0 = search rules in
    file-needs c.args.file.now _ (ap outcome_of told ∙ needed-refused (read_card c.args.file.now) r.result r.ensures c.in_err-opened.was)

pub columns_of-requires : goal.columns_of-requires
columns_of-requires c =
    let r = c.read_card-opened in
    (card-of r.result.system (read-card c.args.file.now r.result r.ensures c.in_ok-opened.was)).columns

pub returns : goal.returns
returns c =
    let r = c.read_card-opened in
    file-needs c.args.file.now _ (rw c.columns_of.ensures (needed-told (read_card c.args.file.now) r.result r.ensures c.in_ok-opened.was))

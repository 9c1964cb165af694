-- Column 0 has row 0; any other column lies past it.
use mathlib.Core.Path.{ap, sym, ◌∙◌}
use Rattle.table.specs.Scan.{entry_of}
use Rattle.table.proofs.Entries.{entry_zero}
use Rattle.table_code.proofs.fill.entry_at.Goals as goal

pub returns-then-column-eq0 : goal.returns-then-column-eq0
returns-then-column-eq0 c =
    let a = c.args in
    entry_zero a.y a.engines ∙ ap (entry_of a.y a.engines) (sym c.if-column-eq0.true)

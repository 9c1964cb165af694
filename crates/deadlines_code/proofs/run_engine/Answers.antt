-- The file is refused, or reads as a system, of which the run is answered: what that promises is in FromFile.
use Rattle.std.proofs.Common.{Err}
use mathlib.Core.Path.{◌≡◌}
use borrow.Author.Rules.{rules}
use lib.ListN.{length}
use Rattle.system.specs.Limits.{type_limit}
use Rattle.system.specs.Layout.{read_file}
use Rattle.deadlines.proofs.FromFile.{unread-promises, opened-promises}
use Rattle.deadlines_code.proofs.Steps.{ok-opens}
use Rattle.deadlines_code.proofs.run_engine.Goals as goal

pub returns-in_err-opened : goal.returns-in_err-opened
returns-in_err-opened c =
    let a = c.args in
    let r = c.read_system-opened in
    let six : length a.counts ≡ type_limit = search rules in
    let told : c.from_residual.result ≡ Err c.in_err-opened.field-0.0 = search rules in
    rw told (unread-promises a.file.now a.counts a.ticks six r.result r.ensures c.in_err-opened.field-0.0 c.in_err-opened.was)

pub returns : goal.returns
returns c =
    let a = c.args in
    let r = c.read_system-opened in
    let six : length a.counts ≡ type_limit = search rules in
    opened-promises a.file.now a.counts a.ticks six r.result.system (ok-opens (read_file a.file.now) r.result r.ensures c.in_ok-opened.was) c.run_over.result c.run_over.ensures

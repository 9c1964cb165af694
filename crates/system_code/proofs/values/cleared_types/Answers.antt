-- `values::cleared_types` meets its contract: what is kept stands before what is left of six entries with nothing given.
use borrow.Author.Rules.{rules}
use mathlib.Core.Path.{◌≡◌}
use lib.ListN.{length}
use Rattle.system.specs.Limits.{type_limit}
use Rattle.system_code.proofs.Steps.{cleared_is}
use Rattle.system_code.proofs.values.cleared_types.Goals as goal

pub returns : goal.returns
returns c =
    let a = c.args in
    let six : length a.types ≡ type_limit = search rules in
    rw c.no_task-left.ensures (cleared_is a.k c.min-kept.result a.types c.copy_from_slice.new.self six c.min-kept.ensures c.copy_from_slice.ensures.after)

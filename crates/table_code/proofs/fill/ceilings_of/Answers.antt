-- `ceilings_of`: each entry that `map` made is a ceiling.
use mathlib.Core.Path.{◌≡◌, sym, ◌∙◌}
use lib.ListN.{length}
use native.Mathlib.Omega.{arith}
use borrow.Author.Rules.{rules}
use Rattle.system.specs.Values.{no_task}
use Rattle.system.specs.Limits.{type_limit}
use Rattle.loads.proofs.Steps.{length-mapped, ceilings-listed}
use Rattle.table_code.proofs.fill.ceilings_of.Goals as goal

pub returns : goal.returns
returns c =
    let ts = c.args.y.types in
    let items = c.map.ensures.items in
    let lt : length ts ≡ type_limit = search (rules, length-mapped) in
    ceilings-listed ts c.map.result (items.long ∙ sym lt) (λ i more. let (p, q, called) = items.at i no_task 0 (omega (arith, lt, more)) in search rules)

-- `records_of`: each entry that `from_fn` made is a record.
use Rattle.std.proofs.Common.{◌≡◌, ◌<◌, ◌∙◌, sym, []}
use Rattle.std.proofs.lemmas.List.{same_lists}
use borrow.Author.Rules.{rules}
use lib.ListN.{length, get_or}
use Rattle.loads.specs.declared.EngineLoad.{EngineLoad}
use Rattle.system.specs.Limits.{engine_limit}
use Rattle.planner.specs.Plan.{record_of, records_with}
use Rattle.planner.proofs.Records.{length-records_with, get_or-records_with}
use Rattle.planner_code.proofs.records_of.Goals as goal

-- what would be read past the end of the loads
abbrev past : EngineLoad
past = record { time = 0; memory = 0; counts = [] }

pub returns : goal.returns
returns c =
    let numbers = c.args.numbers in
    let loads = c.args.loads in
    let named : length numbers ≡ engine_limit = search rules in
    let sized : length loads ≡ engine_limit = search rules in
    let items = c.from_fn.ensures.items in
    let long : length c.from_fn.result ≡ engine_limit = items.long in
    let both = length-records_with numbers loads (named ∙ sym sized) in
    same_lists c.from_fn.result (records_with numbers loads) (long ∙ sym (both ∙ sized)) (λ i d more.
    let few : i < engine_limit = rw long at more in
    let (p, q, called) = items.at i d few in
    let made : get_or c.from_fn.result i d ≡ record_of (get_or numbers i 0) (get_or loads i past) = search rules in
    let inside : i < length loads = rw sized few in
    made ∙ sym (get_or-records_with numbers loads i d past (named ∙ sym sized) inside))

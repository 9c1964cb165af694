-- The ceilings of the six types, summed.
use Rattle.std.proofs.Common.{rules, arith}
use mathlib.Core.Path.{◌≡◌, refl, sym, ◌∙◌}
use borrow.Author.Tests.{tests}
use lib.ListN.{length}
use Rattle.std.proofs.lemmas.Iterator.Adapters.{fits_from_length, at_most_from_yields_List}
use Rattle.std.proofs.lemmas.Iterator.{YieldsList-from_slice, YieldsList-from_map}
use Rattle.std.proofs.lemmas.Iterator.Consumers.{sum_by_from_yields_List}
use Rattle.std.proofs.lemmas.List.Recursion.{is_sum_by}
use Rattle.system.specs.declared.TaskType.{TaskType}
use Rattle.loads.proofs.Steps.{ceilings, length-mapped}
use Rattle.partition.specs.Listing.{instances}
use Rattle.counting_code.proofs.total.instances_of.Goals as goal

pub sum-requires-clause-fits : goal.sum-requires-clause-fits
sum-requires-clause-fits c =
    let l : length c.args.y.types ≡ 6 = search (rules, length-mapped) in
    fits_from_length _ _ 6 _ (at_most_from_yields_List (YieldsList-from_slice c.args.y.types cc) (omega arith)) c.map.ensures.closure (omega arith) (λ x r q k. search (rules, tests))

pub returns : goal.returns
unfolding instances
returns c =
    sum_by_from_yields_List (λ (t : TaskType). t.ceiling) c.args.y.types c.map.result c.sum.result c.sum.ensures.ran
    (YieldsList-from_map _ (λ (t : TaskType). t.ceiling) (YieldsList-from_slice c.args.y.types cc) c.map.ensures.closure (λ x r q k. search rules))
    ∙ sym (is_sum_by (λ ts. instances (ceilings ts)) (λ (t : TaskType). t.ceiling) refl (λ _ _. refl) c.args.y.types)

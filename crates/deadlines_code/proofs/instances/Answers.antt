-- The counts of the six types, summed.
use Rattle.std.proofs.Common.{rules, arith}
use Prim.Native.Nat.{ℕ}
use mathlib.Core.Path.{◌≡◌, refl, sym, ◌∙◌}
use borrow.Author.Tests.{tests}
use lib.ListN.{length}
use Rattle.std.proofs.lemmas.Iterator.Adapters.{fits_from_length, at_most_from_yields_List}
use Rattle.std.proofs.lemmas.Iterator.{YieldsList-from_slice, YieldsList-from_map}
use Rattle.std.proofs.lemmas.Iterator.Consumers.{sum_by_from_yields_List}
use Rattle.std.proofs.lemmas.List.Recursion.{is_sum_by}
use Rattle.deadlines.specs.Engine.{instances}
use Rattle.deadlines_code.proofs.instances.Goals as goal

pub sum-requires-clause-fits : goal.sum-requires-clause-fits
sum-requires-clause-fits c =
    let l : length c.args.counts ≡ 6 = search rules in
    fits_from_length _ _ 6 _ (at_most_from_yields_List (YieldsList-from_slice c.args.counts cc) (omega arith)) c.map.ensures.closure (omega arith) (λ x r q k. search (rules, tests))

pub returns : goal.returns
unfolding instances
returns c =
    sum_by_from_yields_List (λ (n : ℕ). n) c.args.counts c.map.result c.sum.result c.sum.ensures.ran
    (YieldsList-from_map _ (λ (n : ℕ). n) (YieldsList-from_slice c.args.counts cc) c.map.ensures.closure (λ x r q k. search rules))
    ∙ sym (is_sum_by instances (λ (n : ℕ). n) refl (λ _ _. refl) c.args.counts)

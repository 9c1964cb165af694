-- `wide_counts`: each number that `map` made is a count.
use Rattle.std.proofs.Common.{◌≡◌, ◌∙◌, sym, arith, length}
use Rattle.std.proofs.lemmas.Grind.{same_number_lists}
use borrow.Author.Rules.{rules}
use Rattle.system.specs.Limits.{type_limit}
use Rattle.listing_code.proofs.wide_counts.Goals as goal

pub returns : goal.returns
returns c =
    let counts = c.args.counts in
    let items = c.map.ensures.items in
    let six : length counts ≡ type_limit = search rules in
    same_number_lists c.map.result counts (items.long ∙ sym six) (λ i more. let (p, q, called) = items.at i 0 0 (omega (arith, six, items.long)) in search rules)

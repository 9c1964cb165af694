-- `rules::rule_of` meets its contract: the row that the chain finds is the first of that tag.
use Rattle.std.proofs.Common.{rules}
use borrow.Author.Tests.{tests}
use mathlib.Core.Path.{◌∙◌}
use lib.Dec.{eqb}
use Rattle.std.proofs.lemmas.Iterator.{YieldsList-from_slice}
use Rattle.std.proofs.lemmas.Iterator.Search.{find_from_yields_List}
use Rattle.system.specs.declared.FieldRule.{FieldRule}
use Rattle.system.specs.Rules.{field_rules, rule_of}
use Rattle.system_code.proofs.Steps.{first_found}
use Rattle.system_code.proofs.rules.rule_of.Goals as goal

pub returns : goal.returns
unfolding rule_of
returns c =
    let has = λ (r : FieldRule). eqb r.tag c.args.tag in
    c.copied.ensures
    ∙ find_from_yields_List has _ _ _ c.find.ensures.ran (YieldsList-from_slice field_rules c.iter.ensures.rest) (λ x b q k. search (rules, tests))
    ∙ first_found has field_rules

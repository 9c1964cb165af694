-- `limits::types_keep` meets its contract: the chain asks each of the six entries, with its index.
use Rattle.std.proofs.Common.{rules}
use Prim.Native.Nat.{ℕ}
use mathlib.Core.Path.{◌≡◌, ◌∙◌}
use borrow.Author.Tests.{tests, eq-eqb}
use lib.ListN.{length}
use Rattle.std.proofs.lemmas.Iterator.{YieldsList-from_slice}
use Rattle.std.proofs.lemmas.Iterator.Consumers.{YieldsList-from_enumerate}
use Rattle.std.proofs.lemmas.Iterator.Search.{all_from_yields_List}
use Rattle.system.specs.Limits.{type_limit}
use Rattle.system_code.proofs.Steps.{entry-keeps, types-listed}
use Rattle.system_code.proofs.limits.types_keep.Goals as goal

pub returns : goal.returns
returns c =
    let a = c.args in
    let six : length a.types ≡ type_limit = search rules in
    rw (eq-eqb (length a.types) type_limit six)
    (all_from_yields_List (entry-keeps a.k) _ _ _ c.all.ensures.ran (YieldsList-from_enumerate (YieldsList-from_slice a.types cc) cc) (λ x b q k. search (rules, tests))
    ∙ types-listed a.k a.types)

-- `card::second_kind` meets its contract: each type is as the kind sees it.
use borrow.Author.Rules.{rules}
use Prim.Native.Nat.{◌<◌}
use native.Mathlib.Omega.{arith}
use mathlib.Core.Path.{◌≡◌, ◌∙◌, sym}
use lib.ListN.{length}
use Rattle.system.specs.Limits.{type_limit}
use Rattle.system.specs.Card.{task_there}
use Rattle.system_code.proofs.Steps.{all_mapped}
use Rattle.system_code.proofs.card.second_kind.Goals as goal

pub returns : goal.returns
returns c =
    let ts = c.args.y.types in
    let six : length ts ≡ type_limit = search rules in
    let each = c.map.ensures.items in
    rw (all_mapped task_there ts c.map.result (each.long ∙ sym six) (λ i d e l. let inside : i < 6 = omega arith in (each.at i d e inside).2.met))

-- `planner_code::plan_for`. A file that has no second kind is one of one kind, or does not read; of any other the card was read, with its two kinds.
use Rattle.std.proofs.Common.{None}
use mathlib.Core.Path.{◌≡◌}
use borrow.Author.Rules.{rules}
use Rattle.system.specs.Layout.{read_card, read_file}
use Rattle.system.specs.Card.{card_of}
use Rattle.planner.proofs.Calls.{one-card, two-card, call-of-one, call-of-two}
use Rattle.planner_code.proofs.plan_for.Goals as goal

pub returns-in_default : goal.returns-in_default
returns-in_default c =
    let r = c.read_card in
    let file = c.args.file.now in
    let one : r.result.system.second ≡ None = search rules in
    call-of-one (card_of (read_card file)) (read_file file) (one-card file r.result r.ensures one) _ _ _ _ c.plan_one.ensures

pub plan_mixed-requires : goal.plan_mixed-requires
plan_mixed-requires c = (two-card c.args.file.now c.read_card.result c.in-Some.k c.read_card.ensures c.in-Some.is).0

pub returns : goal.returns
returns c =
    let r = c.read_card in
    let k = c.in-Some.k in
    let file = c.args.file.now in
    call-of-two (card_of (read_card file)) r.result.system k (two-card file r.result k r.ensures c.in-Some.is).1 _ _ _ _ c.plan_mixed.ensures

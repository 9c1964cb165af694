-- Filled parts show the entries of their kind (`both-show`), so what is placed by them is the mixed placement.
use native.Mathlib.Nat.{le_refl}
use Rattle.partition.specs.Lent.{lent}
use Rattle.kinds_code.proofs.Own.{lent-room, own_room, both-show}
use Rattle.kinds_code.proofs.place_mixed.Goals as goal

pub fill_parts-requires : goal.fill_parts-requires
fill_parts-requires c =
    let room = lent-room c.requires in
    (c.requires.limits, le_refl c.args.first.engines, room.0, room.1)

pub fill_parts-requires-2 : goal.fill_parts-requires-2
fill_parts-requires-2 c =
    let room = own_room c.requires in
    (c.requires.limits_second, le_refl c.args.second.engines, room, room)

pub mixed_by-requires : goal.mixed_by-requires
mixed_by-requires c =
    let given = c.fill_parts in
    let own = c.fill_parts-2 in
    both-show c.requires given.new.rows given.new.predecessors own.new.rows own.new.predecessors given.ensures.0 given.ensures.1 own.ensures.0 own.ensures.1

pub returns : goal.returns
returns c =
    let given = c.fill_parts.ensures in
    (λ i. lent (given.0 i) (given.1 i), c.mixed_by.ensures)

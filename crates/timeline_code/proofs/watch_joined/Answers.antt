-- The numbers and the file are those that stand in the input.
use Rattle.timeline_code.proofs.watch_joined.Goals as goal

pub returns : goal.returns
returns c =
    let rest = c in
    let from = rest in
    let ticks = from in
    let engine = ticks in
    rw (rest.rest_at-file.ensures, engine.byte_at-engine.ensures, ticks.four_bytes-ticks.ensures, from.four_bytes-from.ensures) at c.watch_of.ensures

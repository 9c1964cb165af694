-- `put_engine`: nothing where the engine holds no instance, else its record.
use mathlib.Core.Path.{◌≡◌, sym, ◌∙◌}
use mathlib.Core.Bool.{true, false}
use Rattle.loads.specs.Load.{holds_none}
use Rattle.buffer.proofs.Laws.{puts_none}
use Rattle.sheets_code.proofs.writing.put_engine.Goals as goal

pub returns-then-holds_none : goal.returns-then-holds_none
returns-then-holds_none c =
    let start = c in
    let none : holds_none start.args.l.counts ≡ true = sym c.holds_none.ensures ∙ c.if-holds_none.true in
    rw none (puts_none start.args.at start.args.out.now)

pub put_record-requires : goal.put_record-requires
put_record-requires c =
    let held = c in
    let start = held in
    let some : holds_none start.args.l.counts ≡ false = sym held.holds_none.ensures ∙ held.if-holds_none.false in
    let room = rw some at start.requires.2 in
    (start.requires.0, start.requires.1, room)

pub returns : goal.returns
returns c =
    let put = c in
    let held = put in
    let start = held in
    let some : holds_none start.args.l.counts ≡ false = sym held.holds_none.ensures ∙ held.if-holds_none.false in
    rw some put.put_record.ensures

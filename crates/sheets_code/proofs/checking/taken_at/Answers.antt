-- By the test whether the record at the place is that of engine e.
use Rattle.sheets_code.proofs.Steps.{taken_yes, taken-no}
use Rattle.sheets_code.proofs.checking.taken_at.Goals as goal

pub returns-then-byte_at-e : goal.returns-then-byte_at-e
returns-then-byte_at-e c =
    let judged = c in
    let rest = judged in
    let a = rest.args in
    taken_yes a.m a.k a.sheet.now a.at a.e _ rest.rest_at-rest.ensures _ judged.byte_at.ensures judged.if-byte_at-e.true _ c.load_in-load.ensures _ c.field_size.ensures

pub returns : goal.returns
returns c =
    let judged = c in
    let rest = judged in
    let a = rest.args in
    taken-no a.m a.k a.sheet.now a.at a.e _ rest.rest_at-rest.ensures _ judged.byte_at.ensures judged.if-byte_at-e.false _ c.idle_engine.ensures

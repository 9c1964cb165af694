-- `reader::field_at` meets its contract: one law for each answer, over what `rest_at` leaves of the file.
use Rattle.system_code.proofs.Goes.{field_cut, field-whole}
use Rattle.system_code.proofs.reader.field_at.Goals as goal

pub returns-then-left-size : goal.returns-then-left-size
returns-then-left-size c =
    let r = c.rest_at-rest in
    let t = c.byte_at-tag in
    let n = c.two_bytes-size in
    field_cut c.args.file.now c.args.c.at r.result.now r.ensures t.result n.result t.ensures n.ensures c.if-left-size.true

pub returns : goal.returns
returns c =
    let r = c.rest_at-rest in
    let t = c.byte_at-tag in
    let n = c.two_bytes-size in
    field-whole c.args.file.now c.args.c.at r.result.now r.ensures t.result n.result t.ensures n.ensures c.if-left-size.false

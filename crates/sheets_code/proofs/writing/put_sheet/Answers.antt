-- `put_sheet`: the header with the used engines and k, then the records.
use Prim.Native.Nat.{zero-le}
use Rattle.buffer.proofs.Laws.{puts_then}
use Rattle.sheets.specs.Sheet.{sheet_bytes}
use Rattle.sheets_code.proofs.writing.put_sheet.Goals as goal

pub returns : goal.returns
unfolding sheet_bytes
returns c =
    let put = c in
    let typed = put in
    let counted = typed in
    let headed = counted in
    let used = rw counted.used_engines.ensures.0 at counted.put_byte-counted.ensures in
    puts_then zero-le (puts_then zero-le (puts_then zero-le headed.put_head-headed.ensures used) typed.put_byte-typed.ensures) put.put_records.ensures

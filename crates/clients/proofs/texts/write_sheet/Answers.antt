-- `write_sheet`: what is said of 11 and 30 is the record's own; and the bytes past the sheet.
use Rattle.clients.proofs.Kept.{sheet-room, sheet-kept}
use Rattle.clients.proofs.texts.write_sheet.Goals as goal

pub returns : goal.returns
returns c =
    let e = c.write_sheet.ensures in
    record {
      write_sheet_promises = e;
      says11 = (e.order.then_table, sheet-room e, sheet-kept e);
    }

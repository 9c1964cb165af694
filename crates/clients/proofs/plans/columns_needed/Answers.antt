-- `columns_needed`: the answer of a file that opens is one of the record's own words.
use Rattle.clients.proofs.plans.columns_needed.Goals as goal

pub returns : goal.returns
returns c =
    let e = c.columns_needed.ensures in
    record {
      need_promises = e;
      result_value = e.needs;
    }

-- `check_read`: what is said of both, of what was read and of any input is the record's own; the bytes in the buffer tell what the text tells.
use Prim.Native.Nat.{ℕ}
use mathlib.Core.Path.{ap, ◌∙◌}
use lib.ListN.{take}
use Rattle.clients.proofs.Told.{check-told}
use Rattle.clients.proofs.programs.check_read.Goals as goal

pub returns : goal.returns
returns c =
    let e = c.check_read.ensures in
    record {
      read_both_promises = e;
      by_index = e.joins.of_both;
      by_index_2 = (λ file sheet same. check-told (e.joins.of_both file sheet same));
      check_promises = (e.joins.of_read, check-told e.joins.of_read);
      by_index_3 = (λ input same. let p = e.of_input input (ap (λ (n : ℕ). take n input) e.size ∙ same) in (p, (check-told p).1));
    }

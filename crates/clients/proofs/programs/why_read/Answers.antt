-- `why_read`: there is room for 384 bytes; the bytes in the buffer tell what the text tells.
use Prim.Native.Nat.{ℕ}
use mathlib.Core.Path.{ap, ◌∙◌}
use lib.ListN.{take}
use Rattle.clients.proofs.Told.{why-told}
use Rattle.clients.proofs.programs.why_read.Goals as goal

pub returns : goal.returns
returns c =
    let e = c.why_read.ensures in
    record {
      why_read = e;
      by_index = (λ file same. e.of_file file (ap (λ (n : ℕ). take n file) e.size ∙ same));
      by_index_2 = (λ file same. why-told (e.of_file file (ap (λ (n : ℕ). take n file) e.size ∙ same)));
    }

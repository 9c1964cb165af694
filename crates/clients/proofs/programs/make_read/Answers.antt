-- `make_read`: there is room for 384 bytes; the bytes in the buffer tell what the text tells.
use Prim.Native.Nat.{ℕ}
use mathlib.Core.Path.{ap, ◌∙◌}
use lib.ListN.{take}
use Rattle.clients.proofs.Told.{make-told, no-seven-told}
use Rattle.clients.proofs.programs.make_read.Goals as goal

pub returns : goal.returns
returns c =
    let e = c.make_read.ensures in
    record {
      make_read = e;
      by_index = (
        (λ text short same. e.of_text text short (ap (λ (n : ℕ). take n text) e.size ∙ same)),
        (λ text long same. e.too_long text long (ap (λ (n : ℕ). take n text) e.size ∙ same)),
      );
      by_index_2 = (
        (λ text short same. make-told (e.of_text text short (ap (λ (n : ℕ). take n text) e.size ∙ same))),
        (λ text long same. no-seven-told (e.too_long text long (ap (λ (n : ℕ). take n text) e.size ∙ same))),
      );
    }

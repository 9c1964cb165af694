-- `listing_read`: there is room for 384 bytes; the bytes in the buffer tell what the text tells.
use Prim.Native.Nat.{ℕ}
use mathlib.Core.Path.{ap, ◌∙◌}
use lib.ListN.{take}
use Rattle.clients.proofs.Told.{listing-told, listing-same}
use Rattle.clients.proofs.programs.listing_read.Goals as goal

pub returns : goal.returns
returns c =
    let e = c.listing_read.ensures in
    record {
      listing_read = e;
      by_index = (λ file same. e.of_file file (ap (λ (n : ℕ). take n file) e.size ∙ same));
      by_index_2 = (λ file same. (let t = e.of_file file (ap (λ (n : ℕ). take n file) e.size ∙ same) in ((listing-told t).0, (listing-told t).1, listing-same t)));
    }

-- `watch_read`: there is room for the numbers and for 384 bytes; the bytes in the buffer tell what the text tells.
use Prim.Native.Nat.{ℕ}
use mathlib.Core.Path.{ap, ◌∙◌}
use lib.ListN.{take}
use Rattle.timeline.specs.Meaning.{input_out}
use Rattle.clients.proofs.Told.{written-kept, watch-told}
use Rattle.clients.proofs.programs.watch_read.Goals as goal

pub returns : goal.returns
returns c =
    let p = c.watch_read.ensures in
    record {
      watch_read = p;
      by_index = (λ file e ticks from same. p.of_input file e ticks from (ap (λ (n : ℕ). take n (input_out e ticks from file)) p.size ∙ same));
      kept_past_text = (
        written-kept p.of_read.written,
        (λ file e ticks from same. (watch-told (p.of_input file e ticks from (ap (λ (n : ℕ). take n (input_out e ticks from file)) p.size ∙ same))).1),
      );
    }

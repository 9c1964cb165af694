-- What is promised of the first 384 bytes of a file is promised of the file, since they read as the whole file.
use Prim.Native.Nat.{ℕ}
use mathlib.Core.Path.{◌≡◌, sym, ap, subst, ◌∙◌}
use mathlib.Core.List.{List}
use lib.ListN.{take}
use Rattle.system.specs.Limits.{engine_limit}
use Rattle.system.specs.Layout.{Reading, read_card, read_file}
use Rattle.system.specs.Card.{card_of}
use Rattle.system.proofs.Prefix.{read-prefix, read-prefix-card}
use Rattle.planner.specs.MixedDemands.{PlanCall}
use Rattle.listing.specs.Text.{file_text, TextPromises}
pub use Rattle.listing.proofs.Tables.{LongForAll, long-for-all}
pub use Rattle.listing.proofs.TextOfFile.{plain-listing, verdict-alone, mixed-alone, listing-any-table, one-kind-text, text-promised, text-prefix}

-- and so is all that is said of it
pub prefix-promised : {front file old new : List ℕ} {r : ℕ} → front ≡ take 384 file → TextPromises front old new r → TextPromises file old new r
prefix-promised {front = front} {file = file} first promises =
    let card : read_card front ≡ read_card file = ap read_card first ∙ read-prefix-card file in
    let same : read_file front ≡ read_file file = ap read_file first ∙ read-prefix file in
    let text : file_text front ≡ file_text file = ap file_text first ∙ text-prefix file in
    let tells = rw text at promises.tells in
    record {
      written = rw text at promises.written;
      tells = record {
        unreadable = λ n e. tells.unreadable n (card ∙ e);
        impossible = λ y e. tells.impossible y (same ∙ e);
        given = λ y e. tells.given y (same ∙ e);
        impossible_mixed = λ y k e. tells.impossible_mixed y k (card ∙ e);
        given_mixed = λ y k e. tells.given_mixed y k (card ∙ e);
      };
      same_plan = λ p other after enough promised.
          promises.same_plan p other after (λ y e. enough y (sym card ∙ e)) (subst (λ (x : Reading). PlanCall (card_of x) other engine_limit p after) (sym card) promised) ∙ text;
    }

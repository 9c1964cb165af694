-- The listing of a file with no table lent: what program `plan` writes, for every file.
use Rattle.std.specs.Prelude.{ℕ, List, ◌≡◌, ◌↔◌, length, take, Some}
use Rattle.buffer.specs.Written.{Counts, Written}
use Rattle.system.specs.declared.System.{System}
use Rattle.system.specs.Limits.{engine_limit}
use Rattle.system.specs.declared.Kind.{Kind}
use Rattle.system.specs.Layout.{Reading, read_card, read_file, opened, unread}
use Rattle.system.specs.Card.{Card, plain, mixed, card_of}
use Rattle.system.specs.Outcome.{from_input, Checked}
use Rattle.partition.specs.Assignment.{Assignment}
use Rattle.partition.specs.Lent.{Lent}
use Rattle.partition.specs.Plain.{ceiling_no, LongEnough, EngineOf, Partition, Impossible}
use Rattle.partition.specs.PlainKinds.{MixedPartition, MixedImpossible}
use Rattle.planner.specs.declared.Plan.{Plan}
use Rattle.planner.specs.Plan.{Verdict, unplanned, place_check, judged, records_with}
use Rattle.planner.specs.Mixed.{mixed_place_check, mixed_outcome, mixed_used, mixed_types, numbers_mixed, loads_mixed}
use Rattle.planner.specs.MixedDemands.{PlanCall}
use Rattle.listing.specs.Listing.{listing_of, plan_listing, verdict_listing}
use Rattle.listing.specs.Demands.{TellsRefusal, TellsPlan, TellsMixed}

-- the table is the function's own and long enough, so 11 and 15 do not arise: 1 to 10, 31, 41 and 43, 12, or a plan
unfoldable pub reading_verdict : Reading → Verdict
reading_verdict (unread n) = unplanned from_input n
reading_verdict (opened y) = judged y (place_check y)

-- of two kinds likewise: 12, or a plan
abbrev pub mixed_listing : System → Kind → Checked → List ℕ
mixed_listing y k c = listing_of (mixed_outcome y k c) (mixed_used y k c) (mixed_types y c) (records_with (numbers_mixed y k c) (loads_mixed y k c))

unfoldable pub card_text : Card → List ℕ
card_text (plain x) = verdict_listing (reading_verdict x)
card_text (mixed y k) = mixed_listing y k (mixed_place_check y k)

-- the text of a file's listing
abbrev pub file_text : List ℕ → List ℕ
file_text file = card_text (card_of (read_card file))

-- what a reader finds in it: why the file does not read, `refused 12` exactly where the instances cannot be partitioned, else a plan on the fewest engines
pub record TellsFile (file text : List ℕ) : Type 0 where
  pub unreadable : (n : ℕ) → read_card file ≡ unread n → TellsRefusal n text
  pub impossible : (y : System) → read_file file ≡ opened y → TellsRefusal 12 text ↔ Impossible y (EngineOf y) (ceiling_no y)
  pub given : (y : System) → read_file file ≡ opened y → (χ : Assignment) → Partition y (EngineOf y) (ceiling_no y) χ → TellsPlan y text
  -- and of two kinds of engine
  pub impossible_mixed : (y : System) (k : Kind) → read_card file ≡ opened y → y.second ≡ Some k → TellsRefusal 12 text ↔ MixedImpossible y k (ceiling_no y)
  pub given_mixed : (y : System) (k : Kind) → read_card file ≡ opened y → y.second ≡ Some k → (χ : Assignment) → MixedPartition y k (ceiling_no y) χ
      → TellsMixed y k text

-- what the call `listing_of` promises of its result and the buffer. The plan that it lists is the one that `plan_of` gives over any table that is long enough:
-- `write_listing` says of `plan_listing p` that it tells the records of p, in their order
pub record TextPromises (file old new : List ℕ) (r : ℕ) : Type 0 where
  pub written : Written (file_text file) old new r
  pub tells : TellsFile file (file_text file)
  pub same_plan : (p : Plan) (table after : Lent) → ((y : System) → read_card file ≡ opened y → LongEnough y table)
      → PlanCall (card_of (read_card file)) table engine_limit p after → plan_listing p ≡ file_text file

-- what the call `listing_read` promises: the same of every file, whatever its length, of whose first bytes, as many as `front` has room for, just these were
-- read;
-- request 2026-14: there is room for 384
pub record ReadPromises (front : List ℕ) (read : ℕ) (old new : List ℕ) (r : ℕ) : Type 0 where
  pub size : length front ≡ 384
  pub within : Counts r new
  pub of_file : (file : List ℕ) → take (length front) file ≡ take read front → TextPromises file old new r

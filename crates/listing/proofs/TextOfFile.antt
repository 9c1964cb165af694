-- The listing of a file over any table that is long enough is the file's text. Where 11 and 15 pass, what is listed does not know the table: of one kind of engine
-- the verdict is that of the reading, and the engines are numbered from 1; of two kinds only 12 is left to be judged. The first 384 bytes have the text of the file.
use Rattle.std.proofs.Common.{Option, None, Some}
use Prim.Native.Nat.{ℕ, ◌+◌, ◌≤◌}
use mathlib.Core.Path.{◌≡◌, refl, sym, ap, ◌∙◌}
use mathlib.Core.Bool.{true}
use mathlib.Core.List.{List}
use native.Mathlib.Omega.{arith}
use lib.ListN.{length, take, length-map, length-replicate}
use borrow.Author.Tests.{le-leb}
use Rattle.system.specs.declared.Kind.{Kind}
use Rattle.system.specs.declared.System.{System}
use Rattle.system.specs.Values.{ceilings_of}
use Rattle.system.specs.Limits.{engine_limit}
use Rattle.system.specs.Layout.{Reading, read_card, read_file, opened, unread}
use Rattle.system.specs.Card.{Card, plain, mixed, card_of}
use Rattle.system.proofs.Laws.{read-card-limits, read-keeps-card, file-card}
use Rattle.system.proofs.CardLaws.{both-engines}
use Rattle.system.proofs.Cards.{card-is}
use Rattle.system.proofs.Prefix.{read-prefix-card}
use Rattle.loads.specs.Load.{empty_load, idle_engine, engine_with}
use Rattle.partition.specs.Assignment.{engines_to}
use Rattle.partition.specs.ForSystem.{rows_for, recovered_for}
use Rattle.partition.specs.Lent.{Lent}
use Rattle.partition.specs.Plain.{LongEnough}
use Rattle.partition.specs.Shares.{row_on}
use Rattle.partition.proofs.Lists.{length-engines_to}
use Rattle.table.specs.Table.{long_enough}
use Rattle.table.proofs.Room.{long-six}
use Rattle.planner.specs.Plan.{plan_engines, Verdict, planned, unplanned, verdict_of, plan_outcome, used_engines, planned_types, plan_loads, records_of, records_with}
use Rattle.planner.proofs.Records.{records-numbered}
use Rattle.listing.specs.Listing.{listing_of, verdict_listing, card_listing, file_listing}
use Rattle.listing.specs.Demands.{ListingDemand2, ListingRefuses, ListingPromises}
use Rattle.listing.specs.Text.{reading_verdict, card_text, file_text, TextPromises}
use Rattle.listing.proofs.Laws.{listing-planned}
use Rattle.listing.proofs.Tables.{LongForAll, long-for-all}

-- One kind of engine

-- a plan has a load for each engine that a system can have
all-loads : (v : Verdict) → length (plan_loads v) ≡ engine_limit
all-loads (planned y) =
    length-map (recovered_for engine_limit y (plan_engines y) (ceilings_of y)) (engine_with y)
    ∙ length-map (engines_to engine_limit) (row_on empty_load (plan_engines y) (rows_for y (plan_engines y) (ceilings_of y)))
    ∙ length-engines_to engine_limit
all-loads (unplanned s n) = length-replicate engine_limit idle_engine

-- so the listing of a card of one kind is that of its verdict
pub plain-listing : (x : Reading) (table : Lent) (room : ℕ) → card_listing (plain x) table room ≡ verdict_listing (verdict_of x table room)
plain-listing x table room =
    let v = verdict_of x table room in
    let same : records_with (engines_to engine_limit) (plan_loads v) ≡ records_of (plan_loads v) = ap (λ (n : ℕ). records_with (engines_to n) (plan_loads v)) (sym (all-loads v)) ∙ records-numbered 1 (plan_loads v) in
    ap (listing_of (plan_outcome v) (used_engines v) (planned_types v)) same

-- where 11 and 15 pass, the verdict does not know the table
pub verdict-alone : (x : Reading) (table : Lent) → ((y : System) → x ≡ opened y → (long_enough y table ≡ true) × (y.engines ≤ engine_limit)) → verdict_of x table engine_limit ≡ reading_verdict x
unfolding verdict_of reading_verdict
verdict-alone (unread n) table h = refl
verdict-alone (opened y) table h = rw ((h y refl).0, le-leb y.engines engine_limit (h y refl).1)

-- so neither does the listing
plain-alone : (x : Reading) (table : Lent) → ((y : System) → x ≡ opened y → (long_enough y table ≡ true) × (y.engines ≤ engine_limit)) → card_listing (plain x) table engine_limit ≡ card_text (plain x)
unfolding card_text
plain-alone x table h = plain-listing x table engine_limit ∙ ap verdict_listing (verdict-alone x table h)

-- Two kinds

-- where 11 and 15 pass, neither does the plan
pub mixed-alone : (y : System) (k : Kind) (table : Lent) → long_enough y table ≡ true → y.engines + k.number ≤ engine_limit → card_listing (mixed y k) table engine_limit ≡ card_text (mixed y k)
unfolding card_text
mixed-alone y k table long few = rw (long, le-leb (y.engines + k.number) engine_limit few)

-- Any file

module _ (file : List ℕ) (table : Lent) (long : (y : System) → read_card file ≡ opened y → LongEnough y table) where
  long-test : (y : System) → read_card file ≡ opened y → long_enough y table ≡ true
  long-test y card = (long-six y table (read-card-limits file y card).six).1 (long y card)

  pub listing-any-table : file_listing file table ≡ file_text file
  listing-any-table = go (read_card file) refl
    where
      -- the listing of the card that the file is
      by-card : (c : Card) → card_of (read_card file) ≡ c → card_listing c table engine_limit ≡ card_text c → file_listing file table ≡ file_text file
      by-card c is same = rw is same

      kinds : (y : System) → read_card file ≡ opened y → (s : Option Kind) → y.second ≡ s → file_listing file table ≡ file_text file
      kinds y card None one =
          by-card (plain (opened y)) (card-is.one_kind (read_card file) y card one)
          (plain-alone (opened y) table (λ z e. (long-test z (card ∙ e), (read-card-limits file z (card ∙ e)).engines)))
      kinds y card (Some k) two =
          by-card (mixed y k) (card-is.two_kinds (read_card file) y k card two)
          (mixed-alone y k table (long-test y card) (both-engines y k (read-keeps-card file y card) two))

      go : (x : Reading) → read_card file ≡ x → file_listing file table ≡ file_text file
      go (unread n) e =
          by-card (plain (unread n)) (card-is.not_read (read_card file) n e)
          (plain-alone (unread n) table (λ z q. let w : ◌≡◌ {A = ℕ} 0 1 = cc in absurd (omega arith)))
      go (opened y) e = kinds y e y.second refl

-- of a file of one kind of engine it is the text of its verdict
pub one-kind-text : (file : List ℕ) (y : System) → read_file file ≡ opened y → file_text file ≡ verdict_listing (reading_verdict (opened y))
unfolding card_text
one-kind-text file y opens = let (card, one) = file-card file y opens in ap card_text (card-is.one_kind (read_card file) y card one)

-- so such a table serves every file
pub text-promised : {file : List ℕ} {table : Lent} {old new : List ℕ} {after : Lent} {r : ℕ} → LongForAll table → ListingPromises file table old new r after → TextPromises file old new r
text-promised {file = file} {table = table} size promises =
    let long : (y : System) → read_card file ≡ opened y → LongEnough y table = λ y e. long-for-all file y table e size in
    let one : (y : System) → read_file file ≡ opened y → LongEnough y table = λ y e. long y (file-card file y e).0 in
    let text = listing-any-table file table long in
    let found : ListingDemand2 file table (file_text file) = rw text at promises.demand2 in
    let first : ListingRefuses file table (file_text file) = rw text at promises.refuses in
    record {
      written = rw text at promises.written;
      tells = record {
        unreadable = first.unreadable;
        impossible = λ y e. found.impossible y e (one y e);
        given = λ y e. found.given y e (one y e);
        impossible_mixed = λ y k e two. found.impossible_mixed y k e two (long y e);
        given_mixed = λ y k e two. found.given_mixed y k e two (long y e);
      };
      same_plan = λ p other after enough promised. listing-planned promised ∙ listing-any-table file other enough;
    }

-- the first 384 bytes decide: their text is that of the whole file
pub text-prefix : (file : List ℕ) → file_text (take 384 file) ≡ file_text file
text-prefix file = ap (λ (x : Reading). card_text (card_of x)) (read-prefix-card file)

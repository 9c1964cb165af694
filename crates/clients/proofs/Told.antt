-- From what a text call promises of its text, what is said of the bytes that stand in the buffer: the first r of them tell it, and those past them are as they were.
use Prim.Native.Nat.{ℕ}
use mathlib.Core.List.{List, ◌++◌}
use mathlib.Core.Path.{◌≡◌, sym, ap, ap₂, subst, ◌∙◌}
use mathlib.Core.Logic.{◌↔◌}
use lib.ListN.{length, take, drop}
use lib.Seq.{take_at}
use Rattle.buffer.specs.Written.{Written}
use Rattle.system.specs.declared.Refusal.{Refusal}
use Rattle.system.specs.declared.System.{System}
use Rattle.system.specs.Layout.{read_card, opened}
use Rattle.partition.specs.Lent.{Lent}
use Rattle.partition.specs.Plain.{TooShort}
use Rattle.planner.specs.declared.Plan.{Plan}
use Rattle.listing.specs.Demands.{TellsRefusal, number_of, RefusalPromises, WriteListingPromises, ListingPromises, ListingRefuses, ListingDemand2}
use Rattle.listing.specs.Text.{TellsFile, TextPromises}
use Rattle.answers.specs.Sheets.{TellsPlanned, SheetPromises}
use Rattle.answers.specs.Checks.{TellsCheck, CheckPromises}
use Rattle.wording.specs.Meaning.{TellsWhy, WhyPromises}
use Rattle.tightness.specs.Meaning.{TellsTight, TightPromises}
use Rattle.recipes.specs.Meaning.{TellsText, says_not_seven, RecipePromises}
use Rattle.timeline.specs.Meaning.{TellsWatch, WatchPromises}
use Rattle.clients.specs.Wide.{KeptPastText, TellsOfPlan, ListsItsPlan, ListsAnyPlan}

-- What was written at the start of a buffer

written-taken : {bytes old new : List ℕ} {r : ℕ} → Written bytes old new r → take r new ≡ bytes
written-taken {bytes = bytes} {old = old} {r = r} w = ap (take r) w.left ∙ take_at bytes (drop (length bytes) old) r (sym w.count)

pub written-kept : {bytes old new : List ℕ} {r : ℕ} → Written bytes old new r → KeptPastText old new r
written-kept {old = old} w =
    (w.within.0, w.left ∙ ap₂ (λ (front : List ℕ) (rest : List ℕ). front ++ rest) (sym (written-taken w)) (ap (λ (n : ℕ). drop n old) (sym w.count)))

-- what is told of the text is told of the bytes
written-told : {bytes old new : List ℕ} {r : ℕ} (P : List ℕ → Type 0) → Written bytes old new r → P bytes → KeptPastText old new r × P (take r new)
written-told P w p = (written-kept w, subst P (sym (written-taken w)) p)

-- The calls

module _ {file old new : List ℕ} {r : ℕ} where
  pub listing-told : TextPromises file old new r → KeptPastText old new r × TellsFile file (take r new)
  listing-told e = written-told (λ (text : List ℕ). TellsFile file text) e.written e.tells

  pub sheet-told : SheetPromises file old new r → KeptPastText old new r × TellsPlanned file (take r new)
  sheet-told e = written-told (λ (text : List ℕ). TellsPlanned file text) e.written e.tells

  pub why-told : WhyPromises file old new r → KeptPastText old new r × TellsWhy file (take r new)
  why-told e = written-told (λ (text : List ℕ). TellsWhy file text) e.written e.tells

  pub tight-told : TightPromises file old new r → KeptPastText old new r × TellsTight file (take r new)
  tight-told e = written-told (λ (text : List ℕ). TellsTight file text) e.written e.tells

  pub make-told : RecipePromises file old new r → KeptPastText old new r × TellsText file (take r new)
  make-told e = written-told (λ (text : List ℕ). TellsText file text) e.written e.tells

pub no-seven-told : {old new : List ℕ} {r : ℕ} → Written says_not_seven old new r → KeptPastText old new r × (take r new ≡ says_not_seven)
no-seven-told w = (written-kept w, written-taken w)

pub check-told : {file sheet old new : List ℕ} {r : ℕ} → CheckPromises file sheet old new r → KeptPastText old new r × TellsCheck file sheet (take r new)
check-told {file = file} {sheet = sheet} e = written-told (λ (text : List ℕ). TellsCheck file sheet text) e.written e.tells

pub watch-told : {file : List ℕ} {e ticks from : ℕ} {old new : List ℕ} {r : ℕ} → WatchPromises file e ticks from old new r → KeptPastText old new r × TellsWatch file e ticks from (take r new)
watch-told {file = file} {e = e} {ticks = ticks} {from = from} p = written-told (λ (text : List ℕ). TellsWatch file e ticks from text) p.written p.tells

pub refusal-told : {why : Refusal} {old new : List ℕ} {r : ℕ} → RefusalPromises why old new r → KeptPastText old new r × TellsRefusal (number_of why) (take r new)
refusal-told {why = why} e = written-told (λ (text : List ℕ). TellsRefusal (number_of why) text) e.written e.tells

pub plan-told : {p : Plan} {old new : List ℕ} {r : ℕ} → WriteListingPromises p old new r → KeptPastText old new r × TellsOfPlan p (take r new)
plan-told {p = p} e = written-told (λ (text : List ℕ). TellsOfPlan p text) e.written (e.on_input, e.on_state, e.given)

pub lent-told : {file old new : List ℕ} {table after : Lent} {r : ℕ} → ListingPromises file table old new r after
    → KeptPastText old new r × (ListingRefuses file table (take r new) × ListingDemand2 file table (take r new))
lent-told {file = file} {table = table} e =
    written-told (λ (text : List ℕ). ListingRefuses file table text × ListingDemand2 file table text) e.written (e.refuses, e.demand2)

-- and where it tells `refused 11`
pub lent-eleven : {file old new : List ℕ} {table after : Lent} {r : ℕ} → ListingPromises file table old new r after
    → (y : System) → read_card file ≡ opened y → TellsRefusal 11 (take r new) ↔ TooShort y table
lent-eleven e = (lent-told e).1.0.short_table

-- and which plan it tells
pub lent_same : {file old new : List ℕ} {table after : Lent} {r : ℕ} → ListingPromises file table old new r after → ListsItsPlan file table (take r new) after
lent_same e p left call = (written-taken e.written ∙ sym (e.same_plan p left call), e.same_table p left call)

pub listing-same : {file old new : List ℕ} {r : ℕ} → TextPromises file old new r → ListsAnyPlan file (take r new)
listing-same e p table after long call = written-taken e.written ∙ sym (e.same_plan p table after long call)

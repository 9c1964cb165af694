-- The definition's lines are the bytes that a reader finds: a refusal tells its number, and a plan's lines tell the records, each under its engine's number.
use Rattle.std.proofs.Common.{Ok, Err, Some, None}
use Prim.Native.Nat.{ℕ, zero, suc, ◌+◌, ◌-◌, ◌≤◌}
use mathlib.Core.Path.{◌≡◌, refl, sym, ap, ap₂, ◌∙◌}
use mathlib.Core.List.{List, [], ◌∷◌, ◌++◌, append_assoc, append-nil, append_cancel_right, map}
use native.Mathlib.Omega.{arith}
use native.Mathlib.Numerals.{add-one}
use lib.ListN.{length, get_or, take, drop}
use Rattle.buffer.specs.Written.{Written}
use Rattle.system.specs.declared.System.{System}
use Rattle.system.specs.Outcome.{Answer, Source, refused, from_input, from_state, outcome_of}
use Rattle.system.specs.declared.Refusal.{Refusal}
use Rattle.system.specs.declared.Kind.{Kind}
use Rattle.loads.specs.declared.EngineLoad.{EngineLoad}
use Rattle.partition.specs.Plain.{record_no}
use Rattle.partition.specs.PlainKinds.{number_no}
use Rattle.planner.specs.declared.EngineRecord.{EngineRecord}
use Rattle.planner.specs.declared.Plan.{Plan}
use Rattle.planner.specs.Plan.{records_with}
use Rattle.listing.specs.Listing.{space, types_word, decimal, parted, engine_line, record_lines, plan_lines, refusal_line, listing_of, plan_listing}
use Rattle.listing.specs.Demands.{TellsRefusal, each_to, engine_text, record_text, TellsRecords, TellsPlan, TellsMixed, WriteListingPromises}
use Rattle.listing.proofs.Laws.{counts-suc, engine_line-parts, lines-suc}
use Rattle.listing.proofs.Numbers.{in-decimal}

-- a refusal

pub number-told : (n : ℕ) → TellsRefusal n (refusal_line n)
unfolding parted
number-told n = record {
  digits = decimal n;
  in_decimal = in-decimal n;
  bytes = ap (λ (l : List ℕ). 114 ∷ 101 ∷ 102 ∷ 117 ∷ 115 ∷ 101 ∷ 100 ∷ 32 ∷ (l ++ (10 ∷ []))) (append-nil (decimal n));
}

-- whichever its number, from whichever list
pub refused-told : (s : Source) (n used k : ℕ) (records : List EngineRecord) → TellsRefusal n (listing_of (refused s n) used k records)
unfolding listing_of
refused-told s n used k records = number-told n

-- a text tells one number
pub told-once : {n k : ℕ} {text : List ℕ} → TellsRefusal n text → TellsRefusal k text → n ≡ k
told-once a b =
    let ends : a.digits ++ (10 ∷ []) ≡ b.digits ++ (10 ∷ []) = ap (drop 8) (sym a.bytes ∙ b.bytes) in
    let same : a.digits ≡ b.digits = append_cancel_right a.digits b.digits (10 ∷ []) ends in
    sym a.in_decimal.value ∙ rw same b.in_decimal.value

-- and no plan
pub no-plan-told : {n : ℕ} {y : System} {text : List ℕ} → TellsRefusal n text → TellsPlan y text → ⊥
no-plan-told r p =
    let first : ◌≡◌ {A = ℕ} 114 101 = ap (λ (l : List ℕ). get_or l 0 0) (sym r.bytes ∙ p.lines) in
    absurd (omega arith)

pub no-mixed-told : {n : ℕ} {y : System} {k : Kind} {text : List ℕ} → TellsRefusal n text → TellsMixed y k text → ⊥
no-mixed-told r p =
    let first : ◌≡◌ {A = ℕ} 114 101 = ap (λ (l : List ℕ). get_or l 0 0) (sym r.bytes ∙ p.tells.lines) in
    absurd (omega arith)

-- a plan

pub same-each : (f g : ℕ → List ℕ) (n : ℕ) → ((e : ℕ) → 1 ≤ e → e ≤ n → f e ≡ g e) → each_to f n ≡ each_to g n
unfolding each_to
same-each f g zero h = refl
same-each f g (suc n) h = ap₂ (λ (l r : List ℕ). l ++ r) (same-each f g n (λ e low high. h e low (omega arith))) (h (suc n) (omega arith) (omega arith))

counts-told : (xs : List ℕ) (k : ℕ) → k ≤ length xs → parted (map decimal (take k xs)) ≡ each_to (λ (t : ℕ). 32 ∷ decimal (get_or xs (t - 1) 0)) k
unfolding parted each_to
counts-told xs zero h = refl
counts-told xs (suc k) h =
    let back : k ≡ suc k - 1 = omega arith in
    counts-suc xs k (omega arith)
    ∙ ap₂ (λ (l r : List ℕ). l ++ r) (counts-told xs k (omega arith)) (ap (λ (i : ℕ). space ∷ decimal (get_or xs i 0)) back)

regroup : (a b c d e : List ℕ) → a ++ b ++ c ++ d ++ e ≡ a ++ (b ++ c ++ d) ++ e
regroup a b c d e = simp append_assoc

line-told : (e time memory : ℕ) (xs : List ℕ) (k : ℕ) → k ≤ length xs → engine_line e time memory (take k xs) ≡ engine_text decimal k e time memory (λ (t : ℕ). get_or xs (t - 1) 0)
line-told e time memory xs k h =
    let front : List ℕ = (101 ∷ 110 ∷ 103 ∷ 105 ∷ 110 ∷ 101 ∷ 32 ∷ decimal e) ++ (32 ∷ 117 ∷ 116 ∷ 105 ∷ 108 ∷ 32 ∷ decimal time) ++ (32 ∷ 109 ∷ 101 ∷ 109 ∷ 32 ∷ decimal memory) in
    sym (engine_line-parts e time memory (take k xs))
    ∙ regroup front (space ∷ []) types_word (parted (map decimal (take k xs))) (10 ∷ [])
    ∙ ap (λ (l : List ℕ). front ++ (32 ∷ 116 ∷ 121 ∷ 112 ∷ 101 ∷ 115 ∷ l) ++ (10 ∷ [])) (counts-told xs k h)

records-told : (k : ℕ) (numbers : List ℕ) (loads : List EngineLoad) (used : ℕ) → used ≤ length loads → used ≤ length numbers → ((e : ℕ) → 1 ≤ e → e ≤ used → k ≤ length (record_no loads e).counts)
    → record_lines k (take used (records_with numbers loads)) ≡ each_to (record_text decimal k numbers loads) used
unfolding record_lines each_to
records-told k numbers loads zero h named each = refl
records-told k numbers loads (suc i) h named each =
    let back : i ≡ suc i - 1 = omega arith in
    let l = record_no loads (suc i) in
    ap (λ (n : ℕ). record_lines k (take n (records_with numbers loads))) (sym (add-one i))
    ∙ lines-suc k numbers loads i (record { time = 0; memory = 0; counts = [] }) (omega arith) (omega arith)
    ∙ ap₂ (λ (a b : List ℕ). a ++ b) (records-told k numbers loads i (omega arith) (omega arith) (λ e low high. each e low (omega arith)))
    (ap (λ (j : ℕ). engine_line (get_or numbers j 0) (get_or loads j none).time (get_or loads j none).memory (take k (get_or loads j none).counts)) back
    ∙ line-told (number_no numbers (suc i)) l.time l.memory l.counts k (each (suc i) (omega arith) (omega arith)))
  where
    none : EngineLoad
    none = record { time = 0; memory = 0; counts = [] }

pub plan-told : (used k : ℕ) (numbers : List ℕ) (loads : List EngineLoad) → used ≤ length loads → used ≤ length numbers → ((e : ℕ) → 1 ≤ e → e ≤ used → k ≤ length (record_no loads e).counts)
    → TellsRecords used k numbers loads (plan_lines used k (records_with numbers loads))
unfolding parted
plan-told used k numbers loads h named each = record {
  spelt = decimal;
  in_decimal = in-decimal;
  lines =
      let told = records-told k numbers loads used h named each in
      let text : (lines : List ℕ) → decimal used ++ [] ++ (10 ∷ []) ++ lines ≡ decimal used ++ (10 ∷ lines) = λ lines. simp (append-nil, append_assoc) in
      ap (λ (l : List ℕ). 101 ∷ 110 ∷ 103 ∷ 105 ∷ 110 ∷ 101 ∷ 115 ∷ 32 ∷ l) (text (record_lines k (take used (records_with numbers loads))) ∙ ap (λ (l : List ℕ). decimal used ++ (10 ∷ l)) told);
}

-- what `write_listing` promises

listing-given : (a : Answer) (used k : ℕ) (records : List EngineRecord) → ((why : Refusal) → a ≡ Err why → ⊥) → listing_of (outcome_of a) used k records ≡ plan_lines used k records
unfolding listing_of
listing-given (Ok None) used k records h = refl
listing-given (Ok (Some n)) used k records h = refl
listing-given (Err why) used k records h = absurd (h why refl)

pub write-promised : (p : Plan) {old new : List ℕ} {r : ℕ} → Written (plan_listing p) old new r → WriteListingPromises p old new r
write-promised p written = record {
  written = written;
  on_input = λ n e. rw e (refused-told from_input n p.used p.typecount (records_with p.numbers p.loads));
  on_state = λ n e. rw e (refused-told from_state n p.used p.typecount (records_with p.numbers p.loads));
  given = λ h few named known.
      rw (listing-given p.answer p.used p.typecount (records_with p.numbers p.loads) h) (plan-told p.used p.typecount p.numbers p.loads few named known);
}

-- The refusals and demand 2 of the listing, from what a plan promises of the card that the file is: the records that are listed are those of the partition that the plan's loads are.
-- Of one kind of engine load e is that of engine e, so that the lines tell the partition itself; of two kinds they tell the records under the used engines' own numbers.
-- The text of a refusal is no plan's, so that it says what the plan's refusal says.
use Rattle.std.proofs.Common.{Option, None, Some, Err}
use Prim.Native.Nat.{ℕ, zero, suc, ◌+◌, ◌-◌, ◌≤◌, ◌<◌}
use mathlib.Core.Path.{◌≡◌, refl, sym, ap, subst, ◌∙◌}
use mathlib.Core.Bool.{Bool, true, false, cond}
use mathlib.Core.List.{List, [], ◌∷◌, ◌++◌, map-id}
use mathlib.Core.Logic.{◌↔◌, ◌⊎◌, inl, inr}
use native.Mathlib.Omega.{arith}
use borrow.Author.Tests.{eqb-true, eqb-false, leb-true, leb-false}
use lib.Dec.{eqb, leb}
use lib.ListN.{length, get_or}
use Rattle.system.specs.declared.Kind.{Kind}
use Rattle.system.specs.declared.System.{System}
use Rattle.system.specs.Outcome.{Answer, accepted, refused, from_input, outcome_of}
use Rattle.system.specs.declared.Refusal.{Refusal}
use Rattle.system.specs.declared.Refusal.TheVariants.{Input, State}
use Rattle.system.specs.Limits.{engine_limit}
use Rattle.system.specs.Layout.{read_card, read_file, opened, unread}
use Rattle.system.specs.Card.{card_of}
use Rattle.system.proofs.Laws.{Limits, CardLimits, read-limits, read-card-limits, read-keeps-card, file-card, card-file}
use Rattle.system.proofs.CardLaws.{both-engines}
use Rattle.system.proofs.Cards.{card-is}
use Rattle.loads.specs.declared.EngineLoad.{EngineLoad}
use Rattle.partition.specs.Assignment.{Assignment, engines_to}
use Rattle.partition.specs.Lent.{Lent}
use Rattle.partition.specs.OwnWords.{over_instances, memory_on, shared_memory_on}
use Rattle.partition.specs.Plain.{ceiling_no, columns_out, LongEnough, TooShort, EngineOf, places_no, Partition, Impossible, hosts, used_to, RecordIs, record_no, StandsOnFewest}
use Rattle.partition.specs.PlainKinds.{MixedPartition, MixedImpossible, used_after, number_no}
use Rattle.partition.proofs.Lists.{length-engines_to, get_or-map-engines_to}
use Rattle.planner.specs.declared.Plan.{Plan}
use Rattle.planner.specs.Plan.{records_with}
use Rattle.planner.specs.Demands.{PlanPromises}
use Rattle.planner.specs.MixedDemands.{MixedPromises, PlanCall}
use Rattle.listing.specs.Listing.{plan_listing}
use Rattle.listing.specs.Demands.{TellsRefusal, each_to, engine_text, record_text, assigned_text, memory_under, TellsRecords, TellsPlan, TellsMixed, ListingDemand2, ListingRefuses}
use Rattle.listing.proofs.Lines.{refused-told, told-once, no-plan-told, no-mixed-told, same-each}

-- The used engines are not more than there are

used-to : (m : ℕ) (χ : Assignment) → used_to m χ ≤ m
unfolding used_to
used-to zero χ = omega arith
used-to (suc m) χ = go (hosts χ (suc m)) (used-to m χ)
  where
    go : (b : Bool) → used_to m χ ≤ m → used_to m χ + cond b 1 0 ≤ suc m
    go true h = omega arith
    go false h = omega arith

used-after : (m n : ℕ) (χ : Assignment) → used_after m n χ ≤ n
unfolding used_after
used-after m zero χ = omega arith
used-after m (suc n) χ = go (hosts χ (suc (m + n))) (used-after m n χ)
  where
    go : (b : Bool) → used_after m n χ ≤ n → used_after m n χ + cond b 1 0 ≤ suc n
    go true h = omega arith
    go false h = omega arith

-- each part of what is lent is long enough or too short

long-or-short : (y : System) (table : Lent) → LongEnough y table ⊎ TooShort y table
long-or-short y table = go (leb (columns_out y) (length table.rows)) refl (leb (columns_out y) (length table.predecessors)) refl
  where
    go : (a : Bool) → leb (columns_out y) (length table.rows) ≡ a → (b : Bool) → leb (columns_out y) (length table.predecessors) ≡ b → LongEnough y table ⊎ TooShort y table
    go false p b q = inr (inl (leb-false (columns_out y) (length table.rows) p))
    go true p false q = inr (inr (leb-false (columns_out y) (length table.predecessors) q))
    go true p true q = inl (leb-true (columns_out y) (length table.rows) p, leb-true (columns_out y) (length table.predecessors) q)

-- of one kind of engine the i-th number is i
engine-number : (m e : ℕ) → 1 ≤ e → e ≤ m → number_no (engines_to m) e ≡ e
engine-number m e low high =
    ap (λ (l : List ℕ). get_or l (e - 1) 0) (sym (map-id (engines_to m))) ∙ get_or-map-engines_to (λ (n : ℕ). n) m (e - 1) 0 (omega arith) ∙ omega arith

-- the line of an engine's record is that of what is assigned to it

module _ (spelt : ℕ → List ℕ) (y : System) (rule : y.rule ≤ 1) (χ : Assignment) (e : ℕ) (l : EngineLoad) (is : RecordIs y χ e l) where
  memory-told : l.memory ≡ memory_under y χ e
  memory-told = go (eqb y.rule 0) refl
    where
      go : (b : Bool) → eqb y.rule 0 ≡ b → l.memory ≡ cond b (memory_on e y.types χ) (shared_memory_on e y.types χ)
      go true q = is.own_copies (eqb-true y.rule 0 q)
      go false q = is.shared_code (let more : y.rule ≡ 0 → ⊥ = eqb-false y.rule 0 q in omega arith)

  record-told : engine_text spelt y.typecount e l.time l.memory (λ (t : ℕ). get_or l.counts (t - 1) 0) ≡ assigned_text spelt y χ e
  record-told =
      let counts : each_to (λ (t : ℕ). 32 ∷ spelt (get_or l.counts (t - 1) 0)) y.typecount ≡ each_to (λ (t : ℕ). 32 ∷ spelt (over_instances e 1 (places_no χ t))) y.typecount =
      same-each (λ (t : ℕ). 32 ∷ spelt (get_or l.counts (t - 1) 0)) (λ (t : ℕ). 32 ∷ spelt (over_instances e 1 (places_no χ t))) y.typecount (λ t low high. ap (λ (n : ℕ). 32 ∷ spelt n) (is.counts t low)) in
      rw (is.time, memory-told, counts) refl

-- a plan that was given

tells : (y : System) (used : ℕ) (numbers : List ℕ) (loads : List EngineLoad) (text : List ℕ) → y.rule ≤ 1 → used ≤ length loads
    → ((e : ℕ) → 1 ≤ e → e ≤ used → number_no numbers e ≡ e)
    → ((e t : ℕ) → used < e → e ≤ y.engines → 1 ≤ t → get_or (record_no loads e).counts (t - 1) 0 ≡ 0) → y.engines ≤ length loads
    → StandsOnFewest y (EngineOf y) (ceiling_no y) loads used → TellsRecords used y.typecount numbers loads text → TellsPlan y text
tells y used numbers loads text rule few named idle all stands told = record {
  mapping = stands.stands.mapping;
  partition = stands.stands.partition;
  used = used;
  uses = stands.uses;
  fewest = stands.fewest;
  none_later = λ e t later inside low. sym ((stands.stands.records e (omega arith) (omega arith)).counts t low) ∙ idle e t later inside low;
  spelt = told.spelt;
  in_decimal = told.in_decimal;
  lines =
      told.lines
      ∙ ap (λ (l : List ℕ). 101 ∷ 110 ∷ 103 ∷ 105 ∷ 110 ∷ 101 ∷ 115 ∷ 32 ∷ (told.spelt used ++ (10 ∷ l)))
      (same-each (record_text told.spelt y.typecount numbers loads) (assigned_text told.spelt y stands.stands.mapping) used
      (λ e low high.
      ap (λ (n : ℕ). engine_text told.spelt y.typecount n (record_no loads e).time (record_no loads e).memory (λ (t : ℕ). get_or (record_no loads e).counts (t - 1) 0)) (named e low high)
      ∙ record-told told.spelt y rule stands.stands.mapping e (record_no loads e) (stands.stands.records e low (omega arith))));
}

-- an accepted plan is not refused
not-refused : (a : Answer) (ns : List ℕ) → outcome_of a ≡ accepted ns → (why : Refusal) → a ≡ Err why → ⊥
not-refused a ns given (Input n) e = let z : ◌≡◌ {A = ℕ} 0 1 = cc in absurd (omega arith)
not-refused a ns given (State n) e = let z : ◌≡◌ {A = ℕ} 0 1 = cc in absurd (omega arith)

-- what `write_listing` says of a plan that is not refused
abbrev Given : Plan → Type 0
Given p =
    ((why : Refusal) → p.answer ≡ Err why → ⊥) → p.used ≤ length p.loads → p.used ≤ length p.numbers
    → ((e : ℕ) → 1 ≤ e → e ≤ p.used → p.typecount ≤ length (record_no p.loads e).counts)
    → TellsRecords p.used p.typecount p.numbers p.loads (plan_listing p)

-- the records of a plan that uses so many engines of so many types
given-told : (p : Plan) → Given p → (used k : ℕ) → outcome_of p.answer ≡ accepted (used ∷ []) → p.used ≡ used → p.typecount ≡ k → used ≤ 16 → k ≤ 6
    → length p.numbers ≡ 16 → length p.loads ≡ 16 → ((e : ℕ) → 1 ≤ e → e ≤ 16 → length (record_no p.loads e).counts ≡ 6)
    → TellsRecords used k p.numbers p.loads (plan_listing p)
given-told p records used k given same known few types numbers loads six =
    let told = records (not-refused p.answer (used ∷ []) given) (omega arith) (omega arith) (λ e low high. omega (arith, six e low (omega arith))) in
    subst (λ (j : ℕ). TellsRecords used j p.numbers p.loads (plan_listing p)) known (subst (λ (n : ℕ). TellsRecords n p.typecount p.numbers p.loads (plan_listing p)) same told)

refused-listed : (p : Plan) (n : ℕ) → outcome_of p.answer ≡ refused from_input n → TellsRefusal n (plan_listing p)
refused-listed p n e = rw e (refused-told from_input n p.used p.typecount (records_with p.numbers p.loads))

-- a system of one kind of engine

module _ (y : System) (limits : Limits y) (table : Lent) (p : Plan) (after : Lent) (promises : PlanPromises (opened y) table engine_limit p after) (records : Given p) where
  plan-listed : LongEnough y table → (χ : Assignment) → Partition y (EngineOf y) (ceiling_no y) χ → TellsPlan y (plan_listing p)
  plan-listed long χ can =
      let (used, given) = promises.demand2.answered y refl long limits.engines χ can in
      let stands = promises.demand2.given y used refl given in
      let few : used ≤ 16 = omega (arith, stands.uses, used-to y.engines stands.stands.mapping, limits.engines) in
      let sixteen = promises.demand2.sixteen in
      let numbers : length p.numbers ≡ 16 = ap length promises.numbers ∙ length-engines_to 16 in
      let told = given-told p records used y.typecount given (promises.used_same used given) (promises.types_same y used refl given) few limits.typecount numbers sixteen
      (λ e low high. promises.demand2.six_counts y used e refl given low high) in
      tells y used p.numbers p.loads (plan_listing p) limits.rule (omega arith)
      (λ e low high. ap (λ (l : List ℕ). number_no l e) promises.numbers ∙ engine-number 16 e low (omega arith))
      (λ e t later inside low. (promises.demand2.idle_past used e given later).counts t)
      (omega (arith, limits.engines))
      stands told

  plan-impossible : LongEnough y table → TellsRefusal 12 (plan_listing p) ↔ Impossible y (EngineOf y) (ceiling_no y)
  plan-impossible long =
      ((λ r χ can. no-plan-told r (plan-listed long χ can)), (λ none. refused-listed p 12 ((promises.demand2.impossible y refl long limits.engines).1 none)))

  -- `refused 11` is neither a plan nor `refused 12`, so that it says that the table is too short
  plan-short : TellsRefusal 11 (plan_listing p) ↔ TooShort y table
  plan-short = ((λ r. go r (long-or-short y table)), (λ short. refused-listed p 11 ((promises.order.then_table y refl).1 short)))
    where
      go : TellsRefusal 11 (plan_listing p) → LongEnough y table ⊎ TooShort y table → TooShort y table
      go r (inl long) =
          let same : ◌≡◌ {A = ℕ} 11 12 = told-once r ((plan-impossible long).1 (λ χ can. no-plan-told r (plan-listed long χ can))) in
          absurd (omega arith)
      go r (inr short) = short

-- a card of two kinds

module _ (y : System) (k : Kind) (limits : CardLimits y) (both : y.engines + k.number ≤ 16) (table : Lent) (p : Plan) (after : Lent) (promises : MixedPromises y k table engine_limit p after)
    (records : Given p) where
  mixed-listed : LongEnough y table → (χ : Assignment) → MixedPartition y k (ceiling_no y) χ → TellsMixed y k (plan_listing p)
  mixed-listed long χ can =
      let (used, given) = promises.demand2.answered long both χ can in
      let stands = promises.demand2.given used given in
      let few : used ≤ 16 = omega (arith, stands.uses, used-to y.engines stands.mapping, used-after y.engines k.number stands.mapping) in
      record {
        used = used;
        numbers = p.numbers;
        loads = p.loads;
        on_fewest = stands;
        tells =
            given-told p records used y.typecount given (promises.used_same used given) (promises.types_same used given) few limits.typecount promises.sixteen.0 promises.sixteen.1
            (λ e low high. promises.six_counts used e given low high);
      }

  mixed-impossible : LongEnough y table → TellsRefusal 12 (plan_listing p) ↔ MixedImpossible y k (ceiling_no y)
  mixed-impossible long =
      ((λ r χ can. no-mixed-told r (mixed-listed long χ can)), (λ none. refused-listed p 12 ((promises.demand2.impossible long both).1 none)))

  mixed-short : TellsRefusal 11 (plan_listing p) ↔ TooShort y table
  mixed-short = ((λ r. go r (long-or-short y table)), (λ short. refused-listed p 11 (promises.order.then_table.1 short)))
    where
      go : TellsRefusal 11 (plan_listing p) → LongEnough y table ⊎ TooShort y table → TooShort y table
      go r (inl long) =
          let same : ◌≡◌ {A = ℕ} 11 12 = told-once r ((mixed-impossible long).1 (λ χ can. no-mixed-told r (mixed-listed long χ can))) in
          absurd (omega arith)
      go r (inr short) = short

-- main: demand 2 and the refusals, of whichever card the file is

module _ (file : List ℕ) (table : Lent) (p : Plan) (after : Lent) (promises : PlanCall (card_of (read_card file)) table engine_limit p after) (records : Given p) where
  one-promised : (y : System) → read_file file ≡ opened y → PlanPromises (opened y) table engine_limit p after
  one-promised y opens = let (card, one) = file-card file y opens in promises.one_kind (opened y) (card-is.one_kind (read_card file) y card one)

  module _ (y : System) (k : Kind) (card : read_card file ≡ opened y) (two : y.second ≡ Some k) where
    two-promised : MixedPromises y k table engine_limit p after
    two-promised = promises.two_kinds y k (card-is.two_kinds (read_card file) y k card two)

    two-engines : y.engines + k.number ≤ 16
    two-engines = both-engines y k (read-keeps-card file y card) two

  pub listing-demand2 : ListingDemand2 file table (plan_listing p)
  listing-demand2 = record {
    given = λ y opens. plan-listed y (read-limits file y opens) table p after (one-promised y opens) records;
    impossible = λ y opens. plan-impossible y (read-limits file y opens) table p after (one-promised y opens) records;
    given_mixed = λ y k card two. mixed-listed y k (read-card-limits file y card) (two-engines y k card two) table p after (two-promised y k card two) records;
    impossible_mixed = λ y k card two. mixed-impossible y k (read-card-limits file y card) (two-engines y k card two) table p after (two-promised y k card two) records;
  }

  pub listing-refuses : ListingRefuses file table (plan_listing p)
  listing-refuses = record {
    unreadable = λ n e. refused-listed p n ((promises.one_kind (unread n) (card-is.not_read (read_card file) n e)).order.file_first n refl);
    short_table = λ y card. go y card y.second refl;
  }
    where
      go : (y : System) → read_card file ≡ opened y → (s : Option Kind) → y.second ≡ s → TellsRefusal 11 (plan_listing p) ↔ TooShort y table
      go y card None one =
          let opens = card-file file y card one in
          plan-short y (read-limits file y opens) table p after (one-promised y opens) records
      go y card (Some k) two =
          mixed-short y k (read-card-limits file y card) (two-engines y k card two) table p after (two-promised y k card two) records

-- What a reader finds in the text of a file: by whether the file reads, whether it has a plan, whether it has the engine, and what the run of that engine answers.
use Rattle.std.proofs.Common.{Ok}
use Prim.Native.Nat.{ℕ, zero, suc, ◌-◌, ◌≤◌, min}
use mathlib.Core.Path.{◌≡◌, refl, sym, ap, ◌∙◌}
use mathlib.Core.List.{List, [], ◌∷◌, ◌++◌}
use mathlib.Core.Bool.{Bool, true, false, cond, ◌&&◌}
use mathlib.Core.Logic.{◌↔◌, ◌⊎◌, inl, inr}
use native.Mathlib.Omega.{arith}
use borrow.Author.Tests.{leb-true, leb-false}
use lib.Dec.{leb}
use lib.ListN.{length, get_or, take}
use Rattle.system.specs.declared.System.{System}
use Rattle.system.specs.Limits.{engine_limit}
use Rattle.system.specs.Layout.{read_file, opened, unread}
use Rattle.system.specs.Outcome.{accepted, refused, from_input, check}
use Rattle.system.proofs.Laws.{read-limits, file-card}
use Rattle.loads.specs.declared.EngineLoad.{EngineLoad}
use Rattle.partition.specs.Assignment.{Assignment}
use Rattle.partition.specs.Lent.{Lent}
use Rattle.partition.specs.Plain.{ceiling_no, LongEnough, EngineOf, Partition, Impossible, record_no, LimitsOut}
use Rattle.table.specs.Table.{long_enough}
use Rattle.table.proofs.Room.{long-six}
use Rattle.planner.specs.Plan.{Verdict, planned, verdict_of, plan_outcome, plan_loads, judged}
use Rattle.listing.specs.Listing.{listing_of, verdict_listing}
use Rattle.planner.specs.Demands.{Demand2}
use Rattle.planner.proofs.Cases.{can_place}
use Rattle.planner.proofs.Demands.{plan-demand2}
use Rattle.listing.specs.Demands.{TellsRefusal}
use Rattle.listing.specs.Text.{reading_verdict, TextPromises}
use Rattle.listing.proofs.Lines.{number-told, told-once}
use Rattle.listing.proofs.Text.{long-for-all, verdict-alone, one-kind-text}
use Rattle.runs.specs.Run.{run_of}
use Rattle.deadlines.specs.Outcome.{all_kept, miss_of}
use Rattle.deadlines.specs.Engine.{all_paced, few_enough, jobs_of}
use Rattle.deadlines.specs.Meaning.{NoPace, TooMuch}
use Rattle.deadlines.proofs.Promises.{over-44, over-45, over-ran, unpaced-told, told-unpaced, large-told, told-large}
use Rattle.deadlines.proofs.FromFile.{limits-read, opened-promises}
use Rattle.deadlines.proofs.Kept.{plans-kept}
use Rattle.timeline.specs.Whole.{counts_text, engine_with, verdict_text, watch_text}
use Rattle.timeline.specs.Meaning.{tick_out, ticks_out, says_no_number, TellsRun, TellsEngine, ListsLoads, TellsPlanned, TellsWatch}
use Rattle.timeline.proofs.Laws.{written-taken}
use Rattle.timeline.proofs.Listed.{used-within, loads-listed}
use Rattle.timeline.proofs.Shown.{run-told}
use Rattle.timeline.proofs.Verdicts.{spare, spare-long, own-verdict}

-- intermediate: the first byte parts the texts: `t` or `o` of a run, `r` of a refusal, `n` of `no such number`

first_byte : (line_of : ℕ → List ℕ) (rest : ℕ → List ℕ) (from n : ℕ) (last : List ℕ) → ((τ : ℕ) → line_of τ ≡ 116 ∷ rest τ)
    → get_or last 0 0 ≡ 111 → (get_or (ticks_out line_of from n ++ last) 0 0 ≡ 116) ⊎ (get_or (ticks_out line_of from n ++ last) 0 0 ≡ 111)
unfolding ticks_out
first_byte line_of rest from zero last line end = inr end
first_byte line_of rest from (suc n) last line end = inl (rw (line from))

run-first : {y : System} {counts text : List ℕ} {ticks from : ℕ} → TellsRun y counts ticks from text → (get_or text 0 0 ≡ 116) ⊎ (get_or text 0 0 ≡ 111)
run-first {y} {counts} {text} {ticks} {from} run =
    rw run.lines (first_byte (tick_out run.spelt y counts run.schedule) _ from (min 32 (ticks - from)) _ (λ τ. refl) refl)

run-no-refusal : {y : System} {counts text : List ℕ} {ticks from n : ℕ} → TellsRun y counts ticks from text → TellsRefusal n text → ⊥
run-no-refusal {text = text} run r = go (run-first run) (ap (λ (l : List ℕ). get_or l 0 0) r.bytes)
  where
    go : (get_or text 0 0 ≡ 116) ⊎ (get_or text 0 0 ≡ 111) → get_or text 0 0 ≡ 114 → ⊥
    go (inl a) b = omega (arith, a, b)
    go (inr a) b = omega (arith, a, b)

run-no-number : {y : System} {counts text : List ℕ} {ticks from : ℕ} → TellsRun y counts ticks from text → text ≡ says_no_number → ⊥
run-no-number {text = text} run is = go (run-first run) (ap (λ (l : List ℕ). get_or l 0 0) is)
  where
    go : (get_or text 0 0 ≡ 116) ⊎ (get_or text 0 0 ≡ 111) → get_or text 0 0 ≡ 110 → ⊥
    go (inl a) b = omega (arith, a, b)
    go (inr a) b = omega (arith, a, b)

refusal-no-number : {text : List ℕ} {n : ℕ} → TellsRefusal n text → text ≡ says_no_number → ⊥
refusal-no-number r is = let z : ◌≡◌ {A = ℕ} 114 110 = ap (λ (l : List ℕ). get_or l 0 0) (sym r.bytes ∙ is) in omega arith

-- intermediate: the text of an engine that the system has

data Tells (y : System) (counts : List ℕ) (ticks from : ℕ) (text : List ℕ) : Type 0 where
  told44 : TellsRefusal 44 text → NoPace y counts → Tells y counts ticks from text
  told45 : TellsRefusal 45 text → (NoPace y counts → ⊥) → TooMuch counts ticks → Tells y counts ticks from text
  told_run : TellsRun y counts ticks from text → (NoPace y counts → ⊥) → (TooMuch counts ticks → ⊥) → Tells y counts ticks from text

module _ (y : System) (counts : List ℕ) (ticks from : ℕ) (limits : LimitsOut y) (six : length counts ≡ 6)
    (never : all_paced y.types counts ≡ true → few_enough counts ticks ≡ true → miss_of (run_of ticks (jobs_of y.types counts)).missed ≡ all_kept) where
  counts-told : Tells y counts ticks from (counts_text y counts ticks from)
  counts-told = go (all_paced y.types counts) refl (few_enough counts ticks) refl
    where
      no-pace : all_paced y.types counts ≡ true → NoPace y counts → ⊥
      no-pace p n = let z : ◌≡◌ {A = Bool} true false = sym p ∙ told-unpaced y counts ticks limits six n in let w : ◌≡◌ {A = ℕ} 0 1 = ap (λ (b : Bool). cond b 0 1) z in omega arith

      no-much : few_enough counts ticks ≡ true → TooMuch counts ticks → ⊥
      no-much q m = let z : ◌≡◌ {A = Bool} true false = sym q ∙ told-large y counts ticks limits six m in let w : ◌≡◌ {A = ℕ} 0 1 = ap (λ (b : Bool). cond b 0 1) z in omega arith

      go : (a : Bool) → all_paced y.types counts ≡ a → (b : Bool) → few_enough counts ticks ≡ b → Tells y counts ticks from (counts_text y counts ticks from)
      go false p b q = told44 (rw (over-44 y counts ticks p) (number-told 44)) (unpaced-told y counts ticks limits six p)
      go true p false q = told45 (rw (over-45 y counts ticks p q) (number-told 45)) (no-pace p) (large-told y counts ticks limits six q)
      go true p true q = told_run (rw (over-ran y counts ticks p q) (run-told y counts limits six p ticks from (never p q))) (no-pace p) (no-much q)

-- intermediate: what is told of an engine

numbered : (y : System) (loads : List EngineLoad) (e ticks from : ℕ) (text : List ℕ) → EngineOf y e → Tells y (record_no loads e).counts ticks from text → TellsEngine y loads e ticks from text
numbered y loads e ticks from text on (told44 line none) = record {
  no_number = ((λ is. absurd (refusal-no-number line is)), (λ off. absurd (off on)));
  then44 = λ h. ((λ r. none), (λ n. line));
  then45 = λ h paced. absurd (paced none);
  no_other = λ n r. inl (told-once r line);
  runs = λ h paced few. absurd (paced none);
}
numbered y loads e ticks from text on (told45 line paced much) = record {
  no_number = ((λ is. absurd (refusal-no-number line is)), (λ off. absurd (off on)));
  then44 = λ h. ((λ r. (let z : ◌≡◌ {A = ℕ} 44 45 = told-once r line in absurd (omega arith))), (λ n. absurd (paced n)));
  then45 = λ h n. ((λ r. much), (λ m. line));
  no_other = λ n r. inr (told-once r line);
  runs = λ h n few. absurd (few much);
}
numbered y loads e ticks from text on (told_run run paced few) = record {
  no_number = ((λ is. absurd (run-no-number run is)), (λ off. absurd (off on)));
  then44 = λ h. ((λ r. absurd (run-no-refusal run r)), (λ n. absurd (paced n)));
  then45 = λ h n. ((λ r. absurd (run-no-refusal run r)), (λ m. absurd (few m)));
  no_other = λ n r. absurd (run-no-refusal run r);
  runs = λ h n m. run;
}

not-numbered : (y : System) (loads : List EngineLoad) (e ticks from : ℕ) → (EngineOf y e → ⊥) → TellsEngine y loads e ticks from says_no_number
not-numbered y loads e ticks from off = record {
  no_number = ((λ is. off), (λ h. refl));
  then44 = λ on. absurd (off on);
  then45 = λ on n. absurd (off on);
  no_other = λ n r. absurd (refusal-no-number r refl);
  runs = λ on n m. absurd (off on);
}

-- a file reads as one system
one-system : {a b : System} → opened a ≡ opened b → a ≡ b
one-system e = cc

-- main

module _ (file : List ℕ) (e ticks from : ℕ) (y : System) (opens : read_file file ≡ opened y) where
  limits : LimitsOut y
  limits = limits-read file y opens

  few : y.engines ≤ engine_limit
  few = (read-limits file y opens).engines

  long : LongEnough y spare
  long = long-for-all file y spare (file-card file y opens).0 spare-long

  -- what is demanded of the file's verdict
  demand : Demand2 (read_file file) spare engine_limit (plan_outcome (reading_verdict (read_file file))) (plan_loads (reading_verdict (read_file file)))
  demand = rw (own-verdict file spare spare-long) at (plan-demand2 spare engine_limit (read_file file) (λ z is. read-limits file z is))

  verdict-is : (b : Bool) → can_place y ≡ b → reading_verdict (read_file file) ≡ judged y (check b from_input 12)
  unfolding reading_verdict
  verdict-is b is = ap reading_verdict opens ∙ ap (λ (c : Bool). judged y (check c from_input 12)) is

  -- a plan

  module _ (can : can_place y ≡ true) where
    abbrev loads : List EngineLoad
    loads = plan_loads (planned y)

    given : (used : ℕ) × (plan_outcome (planned y) ≡ accepted (used ∷ []))
    given = (_, refl)

    ours : Demand2 (read_file file) spare engine_limit (plan_outcome (planned y)) loads
    ours = rw (verdict-is true can) at demand

    engine-told : TellsEngine y loads e ticks from (engine_with y loads e ticks from)
    unfolding engine_with
    engine-told = go (leb 1 e) refl (leb e y.engines) refl
      where
        never : EngineOf y e → all_paced y.types (record_no loads e).counts ≡ true → few_enough (record_no loads e).counts ticks ≡ true
            → miss_of (run_of ticks (jobs_of y.types (record_no loads e).counts)).missed ≡ all_kept
        never on p q =
            let six = ours.six_counts y given.0 e opens given.1 on.0 (omega (arith, on.1, few)) in
            let answer = Ok (run_of ticks (jobs_of y.types (record_no loads e).counts)) in
            plans-kept file spare engine_limit given.0 (plan_outcome (planned y)) loads ours given.1 y e opens on ticks answer _ _
            (opened-promises file (record_no loads e).counts ticks six y opens answer (sym (over-ran y (record_no loads e).counts ticks p q))) refl

        there : EngineOf y e → TellsEngine y loads e ticks from (counts_text y (record_no loads e).counts ticks from)
        there on =
            numbered y loads e ticks from _ on (counts-told y (record_no loads e).counts ticks from limits (ours.six_counts y given.0 e opens given.1 on.0 (omega (arith, on.1, few))) (never on))

        go : (a : Bool) → leb 1 e ≡ a → (b : Bool) → leb e y.engines ≡ b
            → TellsEngine y loads e ticks from (cond (a && b) (counts_text y (record_no loads e).counts ticks from) says_no_number)
        go true p true q = there (leb-true 1 e p, leb-true e y.engines q)
        go true p false q = not-numbered y loads e ticks from (λ (on : EngineOf y e). omega (arith, on.1, leb-false e y.engines q))
        go false p b q = not-numbered y loads e ticks from (λ (on : EngineOf y e). omega (arith, on.0, leb-false 1 e p))

    -- the listing of the file is that of the same loads

    listed-told : (old new : List ℕ) (r : ℕ) → TextPromises file old new r → ListsLoads y loads given.0 (take r new)
    unfolding listing_of given
    listed-told old new r promised =
        let stands = ours.given y given.0 opens given.1 in
        let inside : given.0 ≤ 16 = omega (arith, stands.uses, used-within y.engines stands.stands.mapping, few) in
        let same = written-taken promised.written ∙ one-kind-text file y opens ∙ ap verdict_listing (sym (ap reading_verdict opens) ∙ verdict-is true can) in
        rw same (loads-listed y loads given.0 (omega (arith, ours.sixteen)) (λ e low high. omega (arith, limits.known.1, ours.six_counts y given.0 e opens given.1 low (omega arith))))

    planned-told : TellsPlanned file y e ticks from (engine_with y loads e ticks from)
    planned-told = record {
      loads = loads;
      used = given.0;
      on_fewest = ours.given y given.0 opens given.1;
      idle_past = λ other past. ours.idle_past given.0 other given.1 past;
      same_plan = λ p table after enough promised. promised.places ∙ ap plan_loads (alone table enough ∙ verdict-is true can);
      listed = listed-told;
      engine = engine-told;
    }
      where
        alone : (table : Lent) → LongEnough y table → verdict_of (read_file file) table 16 ≡ reading_verdict (read_file file)
        alone table enough = verdict-alone (read_file file) table (λ z is. longer z is)
          where
            longer : (z : System) → read_file file ≡ opened z → (long_enough z table ≡ true) × (z.engines ≤ engine_limit)
            longer z is =
                let same : z ≡ y = one-system (sym is ∙ opens) in
                ((long-six z table (read-limits file z is).six).1 (rw same enough), (read-limits file z is).engines)

  -- by whether there is one

  impossible-iff : TellsRefusal 12 (watch_text file e ticks from) ↔ Impossible y (EngineOf y) (ceiling_no y)
  unfolding verdict_text
  impossible-iff = go (can_place y) refl
    where
      text : (b : Bool) → can_place y ≡ b → watch_text file e ticks from ≡ verdict_text (judged y (check b from_input 12)) e ticks from
      text b is = ap (λ (v : Verdict). verdict_text v e ticks from) (verdict-is b is)

      judge : (b : Bool) → can_place y ≡ b → (plan_outcome (judged y (check b from_input 12)) ≡ refused from_input 12) ↔ Impossible y (EngineOf y) (ceiling_no y)
      judge b is = rw (verdict-is b is) at (demand.impossible y opens long few)

      go : (b : Bool) → can_place y ≡ b → TellsRefusal 12 (watch_text file e ticks from) ↔ Impossible y (EngineOf y) (ceiling_no y)
      go false is = ((λ r. (judge false is).0 refl), (λ none. rw (text false is) (number-told 12)))
      go true is = ((λ r. absurd (no_line ((engine-told is).no_other 12 (rw (text true is) at r)))), (λ none. absurd (no-plan ((judge true is).1 none))))
        where
          no_line : (◌≡◌ {A = ℕ} 12 44) ⊎ (◌≡◌ {A = ℕ} 12 45) → ⊥
          no_line (inl z) = omega (arith, z)
          no_line (inr z) = omega (arith, z)

          no-plan : plan_outcome (planned y) ≡ refused from_input 12 → ⊥
          no-plan o = let z : ◌≡◌ {A = ℕ} 0 1 = cc in omega arith

  planned-by : (χ : Assignment) → Partition y (EngineOf y) (ceiling_no y) χ → TellsPlanned file y e ticks from (watch_text file e ticks from)
  unfolding verdict_text
  planned-by χ p = go (can_place y) refl
    where
      go : (b : Bool) → can_place y ≡ b → TellsPlanned file y e ticks from (watch_text file e ticks from)
      go true is = rw (verdict-is true is) (planned-told is)
      go false is = absurd ((rw (verdict-is false is) at (demand.impossible y opens long few)).0 refl χ p)

pub tells-watch : (file : List ℕ) (e ticks from : ℕ) → TellsWatch file e ticks from (watch_text file e ticks from)
unfolding reading_verdict verdict_text
tells-watch file e ticks from = record {
  unreadable = unread-told;
  impossible = impossible-iff file e ticks from;
  planned = planned-by file e ticks from;
}
  where
    unread-told : (n : ℕ) → read_file file ≡ unread n → TellsRefusal n (watch_text file e ticks from)
    unread-told n is = rw is (number-told n)

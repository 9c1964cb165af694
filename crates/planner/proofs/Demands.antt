-- The order of the refusals and demands 1 and 2 hold of the plan as it is defined, for every file, table and room.
use Prim.Native.Nat.{ℕ, ◌-◌, ◌<◌, ◌≤◌}
use mathlib.Core.Path.{◌≡◌, refl, sym, ap, subst, ◌∙◌}
use mathlib.Core.List.{List, [], ◌∷◌}
use mathlib.Core.Logic.{◌↔◌, ⊎_elim}
use native.Mathlib.Omega.{arith}
use borrow.Author.Tests.{ltb-true, ltb-false}
use lib.ListN.{length, get_or, replicate, length-replicate, get_or-replicate, get_or-eq_default}
use lib.Dec.{ltb}
use Rattle.system.specs.declared.System.{System}
use Rattle.system.specs.Limits.{engine_limit, type_limit}
use Rattle.system.specs.Layout.{Reading, opened, unread, read_file}
use Rattle.system.specs.Outcome.{Outcome, Source, accepted, refused, from_input, outcome_of}
use Rattle.system.proofs.Laws.{Limits, read-limits}
use Rattle.loads.specs.declared.EngineLoad.{EngineLoad}
use Rattle.loads.specs.Load.{idle_engine}
use Rattle.partition.specs.Assignment.{Assignment, engines_to}
use Rattle.partition.specs.Lent.{Lent}
use Rattle.partition.specs.Plain.{ceiling_no, LongEnough, TooShort, EngineOf, Partition, Impossible, record_no, HoldsNothing, StandsOnFewest}
use Rattle.partition.proofs.Lists.{true-or-false, get_or-inside, length-engines_to}
use Rattle.kinds.proofs.Padded.{get_or-numbers_from}
use Rattle.table.specs.Table.{filled}
use Rattle.table.specs.Meaning.{FilledMeans, RecoveredBy}
use Rattle.planner.specs.declared.Plan.{Plan}
use Rattle.planner.specs.Plan.{plan_engines, Verdict, planned, unplanned, verdict_of, used_engines, plan_outcome, planned_types, plan_loads, plan_table}
use Rattle.planner.specs.Demands.{Demand1, Demand2, Decides, InOrder, Recovers, HandsOutNothing, PlanPromises}
use Rattle.planner.proofs.Exits.{Plans}
use Rattle.planner.proofs.Cases.{Case, too_short, too_small, no_place, is_planned, case_of, plan-fills, on-fewest, few-used, length-loads, six-counts, recovered-out, idle-load, not_short, verdict-any}

-- ---- an engine that holds nothing

pub idle-nothing : HoldsNothing idle_engine
idle-nothing = record { time = refl; memory = refl; counts = λ t. ⊎_elim (λ h. get_or-replicate type_limit (t - 1) 0 0 (ltb-true (t - 1) type_limit h)) (λ h. get_or-eq_default (replicate type_limit 0) 0 (ltb-false (t - 1) type_limit h)) (true-or-false (ltb (t - 1) type_limit)) }

-- past the end of the loads nothing stands
pub nothing-at : (loads : List EngineLoad) (e : ℕ) → get_or loads (e - 1) idle_engine ≡ idle_engine → HoldsNothing (record_no loads e)
nothing-at loads e h =
    ⊎_elim (λ t. rw (get_or-inside loads (e - 1) (record { time = 0; memory = 0; counts = [] }) idle_engine (ltb-true (e - 1) (length loads) t) ∙ h) idle-nothing)
    (λ t. rw (get_or-eq_default loads (record { time = 0; memory = 0; counts = [] }) (ltb-false (e - 1) (length loads) t)) (record { time = refl; memory = refl; counts = λ n. refl }))
    (true-or-false (ltb (e - 1) (length loads)))

-- ---- a refused plan hands out nothing

pub hands-nothing : (r : Plan) → r.used ≡ 0 → r.typecount ≡ 0 → r.numbers ≡ engines_to engine_limit → r.loads ≡ replicate engine_limit idle_engine → HandsOutNothing r
hands-nothing r u t n l = record {
  used = u;
  types = t;
  sixteen = rw (n, l) (length-engines_to 16, length-replicate 16 idle_engine);
  numbers = λ e low high. ap (λ (ns : List ℕ). get_or ns (e - 1) 0) n ∙ get_or-numbers_from 1 16 (e - 1) (omega arith) ∙ omega arith;
  six_counts = λ e low high. ap (λ (ls : List EngineLoad). length (record_no ls e).counts) l ∙ ap (λ (w : EngineLoad). length w.counts) (get_or-replicate 16 (e - 1) idle_engine (record { time = 0; memory = 0; counts = [] }) (omega arith));
  loads = λ e. rw l (nothing-at (replicate engine_limit idle_engine) e (all-idle (e - 1)));
}
  where
    all-idle : (i : ℕ) → get_or (replicate engine_limit idle_engine) i idle_engine ≡ idle_engine
    all-idle i =
        ⊎_elim (λ h. get_or-replicate engine_limit i idle_engine idle_engine (ltb-true i engine_limit h)) (λ h. get_or-eq_default (replicate engine_limit idle_engine) idle_engine (ltb-false i engine_limit h))
        (true-or-false (ltb i engine_limit))

-- ---- a file that opens

module _ {y : System} {table : Lent} {room : ℕ} where
  then-table : {v : Verdict} {after : Lent} → Case y table room v after → (plan_outcome v ≡ refused from_input 11) ↔ TooShort y table
  then-table (too_short short) = (λ o. short, λ h. refl)
  then-table (too_small long small) = (λ o. (let z : ◌≡◌ {A = ℕ} 15 11 = cc in absurd (omega arith)), λ h. absurd (not_short y table long h))
  then-table (no_place long enough none) = (λ o. (let z : ◌≡◌ {A = ℕ} 12 11 = cc in absurd (omega arith)), λ h. absurd (not_short y table long h))
  then-table (is_planned long enough can) = (λ o. (let z : ◌≡◌ {A = ℕ} 0 1 = cc in absurd (omega arith)), λ h. absurd (not_short y table long h))

  then-list : {v : Verdict} {after : Lent} → Case y table room v after → LongEnough y table → (plan_outcome v ≡ refused from_input 15) ↔ (room < y.engines)
  then-list (too_short short) h = absurd (not_short y table h short)
  then-list (too_small long small) h = (λ o. small, λ k. refl)
  then-list (no_place long enough none) h = (λ o. (let z : ◌≡◌ {A = ℕ} 12 15 = cc in absurd (omega arith)), λ k. absurd (omega arith))
  then-list (is_planned long enough can) h = (λ o. (let z : ◌≡◌ {A = ℕ} 0 1 = cc in absurd (omega arith)), λ k. absurd (omega arith))

  as_lent_lem : {v : Verdict} {after : Lent} → Case y table room v after → (s : Source) (n : ℕ) → plan_outcome v ≡ refused s n → (n ≡ 12 → ⊥) → after ≡ table
  as_lent_lem (too_short short) s n o h = refl
  as_lent_lem (too_small long small) s n o h = refl
  as_lent_lem (no_place long enough none) s n o h = absurd (h (cc))
  as_lent_lem (is_planned long enough can) s n o h = let z : ◌≡◌ {A = ℕ} 0 1 = cc in absurd (omega arith)

  types_same_lem : {v : Verdict} {after : Lent} → Case y table room v after → (used : ℕ) → plan_outcome v ≡ accepted (used ∷ []) → planned_types v ≡ y.typecount
  types_same_lem (too_short short) used o = let z : ◌≡◌ {A = ℕ} 0 1 = cc in absurd (omega arith)
  types_same_lem (too_small long small) used o = let z : ◌≡◌ {A = ℕ} 0 1 = cc in absurd (omega arith)
  types_same_lem (no_place long enough none) used o = let z : ◌≡◌ {A = ℕ} 0 1 = cc in absurd (omega arith)
  types_same_lem (is_planned long enough can) used o = refl

  module _ (limits : Limits y) where
    filled-on-12 : {v : Verdict} {after : Lent} → Case y table room v after → (s : Source) → plan_outcome v ≡ refused s 12 → FilledMeans y y.engines table after
    filled-on-12 (too_short short) s o = let z : ◌≡◌ {A = ℕ} 11 12 = cc in absurd (omega arith)
    filled-on-12 (too_small long small) s o = let z : ◌≡◌ {A = ℕ} 15 12 = cc in absurd (omega arith)
    filled-on-12 (no_place long enough none) s o = plan-fills y limits table long
    filled-on-12 (is_planned long enough can) s o = plan-fills y limits table long

    filled-on-plan : {v : Verdict} {after : Lent} → Case y table room v after → (ns : List ℕ) → plan_outcome v ≡ accepted ns → FilledMeans y y.engines table after
    filled-on-plan (too_short short) ns o = let z : ◌≡◌ {A = ℕ} 0 1 = cc in absurd (omega arith)
    filled-on-plan (too_small long small) ns o = let z : ◌≡◌ {A = ℕ} 0 1 = cc in absurd (omega arith)
    filled-on-plan (no_place long enough none) ns o = plan-fills y limits table long
    filled-on-plan (is_planned long enough can) ns o = plan-fills y limits table long

    impossible : {v : Verdict} {after : Lent} → Case y table room v after → LongEnough y table → y.engines ≤ room → (plan_outcome v ≡ refused from_input 12) ↔ Impossible y (EngineOf y) (ceiling_no y)
    impossible (too_short short) h k = absurd (not_short y table h short)
    impossible (too_small long small) h k = absurd (omega arith)
    impossible (no_place long enough none) h k = (λ o. none, λ n. refl)
    impossible (is_planned long enough can) h k = (λ o. (let z : ◌≡◌ {A = ℕ} 0 1 = cc in absurd (omega arith)), λ none. absurd (none _ (on-fewest y limits can).stands.partition))

    answered : {v : Verdict} {after : Lent} → Case y table room v after → LongEnough y table → y.engines ≤ room → (χ : Assignment) → Partition y (EngineOf y) (ceiling_no y) χ → (used : ℕ) × (plan_outcome v ≡ accepted (used ∷ []))
    answered (too_short short) h k χ p = absurd (not_short y table h short)
    answered (too_small long small) h k χ p = absurd (omega arith)
    answered (no_place long enough none) h k χ p = absurd (none χ p)
    answered (is_planned long enough can) h k χ p = (used_engines (planned y), refl)

    given : {v : Verdict} {after : Lent} → Case y table room v after → (used : ℕ) → plan_outcome v ≡ accepted (used ∷ []) → StandsOnFewest y (EngineOf y) (ceiling_no y) (plan_loads v) used
    given (too_short short) used o = let z : ◌≡◌ {A = ℕ} 0 1 = cc in absurd (omega arith)
    given (too_small long small) used o = let z : ◌≡◌ {A = ℕ} 0 1 = cc in absurd (omega arith)
    given (no_place long enough none) used o = let z : ◌≡◌ {A = ℕ} 0 1 = cc in absurd (omega arith)
    given (is_planned long enough can) used o =
        let same : used_engines (planned y) ≡ used = cc in
        subst (StandsOnFewest y (EngineOf y) (ceiling_no y) (plan_loads (planned y))) same (on-fewest y limits can)

    recovers-on : {v : Verdict} {after : Lent} → Case y table room v after → (used : ℕ) → plan_outcome v ≡ accepted (used ∷ [])
        → RecoveredBy y after used (ceiling_no y) (λ (e t : ℕ). get_or (record_no (plan_loads v) e).counts (t - 1) 0)
    recovers-on (too_short short) used o = let z : ◌≡◌ {A = ℕ} 0 1 = cc in absurd (omega arith)
    recovers-on (too_small long small) used o = let z : ◌≡◌ {A = ℕ} 0 1 = cc in absurd (omega arith)
    recovers-on (no_place long enough none) used o = let z : ◌≡◌ {A = ℕ} 0 1 = cc in absurd (omega arith)
    recovers-on (is_planned long enough can) used o =
        let same : used_engines (planned y) ≡ used = cc in
        subst (λ (n : ℕ). RecoveredBy y (filled y (plan_engines y) table) n (ceiling_no y) (λ (e t : ℕ). get_or (record_no (plan_loads (planned y)) e).counts (t - 1) 0)) same (recovered-out y limits can table long)

    sixteen : {v : Verdict} {after : Lent} → Case y table room v after → length (plan_loads v) ≡ engine_limit
    sixteen (too_short short) = refl
    sixteen (too_small long small) = refl
    sixteen (no_place long enough none) = refl
    sixteen (is_planned long enough can) = length-loads y limits can

    counts-six : {v : Verdict} {after : Lent} → Case y table room v after → (used e : ℕ) → plan_outcome v ≡ accepted (used ∷ []) → 1 ≤ e → e ≤ 16 → length (record_no (plan_loads v) e).counts ≡ 6
    counts-six (too_short short) used e o low high = let z : ◌≡◌ {A = ℕ} 0 1 = cc in absurd (omega arith)
    counts-six (too_small long small) used e o low high = let z : ◌≡◌ {A = ℕ} 0 1 = cc in absurd (omega arith)
    counts-six (no_place long enough none) used e o low high = let z : ◌≡◌ {A = ℕ} 0 1 = cc in absurd (omega arith)
    counts-six (is_planned long enough can) used e o low high = six-counts y limits can e low high

    within : {v : Verdict} {after : Lent} → Case y table room v after → (used_engines v ≤ engine_limit) × (used_engines v ≤ room)
    within (too_short short) = (omega arith, omega arith)
    within (too_small long small) = (omega arith, omega arith)
    within (no_place long enough none) = (omega arith, omega arith)
    within (is_planned long enough can) = let few = few-used y limits can in (omega (arith, limits.engines), omega arith)

-- ---- any file

-- a file that opened keeps the limits
abbrev pub Known : Reading → Type 0
Known x = (y : System) → x ≡ opened y → Limits y

idle-past : (v : Verdict) (used e : ℕ) → plan_outcome v ≡ accepted (used ∷ []) → used < e → HoldsNothing (record_no (plan_loads v) e)
idle-past (unplanned s n) used e o h = let z : ◌≡◌ {A = ℕ} 0 1 = cc in absurd (omega arith)
idle-past (planned y) used e o h = let same : used_engines (planned y) ≡ used = cc in nothing-at (plan_loads (planned y)) e (idle-load y (e - 1) (omega arith))

file-first : (x : Reading) (table : Lent) (room n : ℕ) → x ≡ unread n → plan_outcome (verdict_of x table room) ≡ refused from_input n
unfolding verdict_of
file-first x table room n e = rw e

module _ (table : Lent) (room : ℕ) where
  lent_back : (x : Reading) → Known x → (s : Source) (n : ℕ) → plan_outcome (verdict_of x table room) ≡ refused s n → (n ≡ 12 → ⊥) → plan_table x table room ≡ table
  lent_back (unread k) known s n o h = refl
  lent_back (opened y) known s n o h = as_lent_lem (case_of y (known y refl) table room) s n o h

  pub length-loads-of : (x : Reading) → Known x → length (plan_loads (verdict_of x table room)) ≡ engine_limit
  unfolding verdict_of
  length-loads-of (unread k) known = refl
  length-loads-of (opened y) known = sixteen (known y refl) (case_of y (known y refl) table room)

  pub few-of : (x : Reading) → Known x → (used_engines (verdict_of x table room) ≤ engine_limit) × (used_engines (verdict_of x table room) ≤ room)
  unfolding verdict_of
  few-of (unread k) known = (omega arith, omega arith)
  few-of (opened y) known = within (known y refl) (case_of y (known y refl) table room)

  module _ (x : Reading) (known : Known x) where
    pub plan-in-order : InOrder x table room (plan_outcome (verdict_of x table room))
    plan-in-order = record {
      file_first = file-first x table room;
      then_table = λ y e. rw e (then-table (case_of y (known y e) table room));
      then_list = λ y e. rw e (then-list (case_of y (known y e) table room));
    }

    pub plan-demand1 : Demand1 x table (plan_outcome (verdict_of x table room)) (plan_table x table room)
    plan-demand1 = record {
      as_lent = lent_back x known;
      unread_lent = λ n e. rw e refl;
      filled_on12 = λ y s e. rw e (filled-on-12 (known y e) (case_of y (known y e) table room) s);
      filled_on_plan = λ y ns e. rw e (filled-on-plan (known y e) (case_of y (known y e) table room) ns);
    }

    pub plan-decides : Decides x table room (plan_outcome (verdict_of x table room))
    plan-decides = record {
      impossible = λ y e. rw e (impossible (known y e) (case_of y (known y e) table room));
      answered = λ y e. rw e (answered (known y e) (case_of y (known y e) table room));
    }

    pub plan-demand2 : Demand2 x table room (plan_outcome (verdict_of x table room)) (plan_loads (verdict_of x table room))
    plan-demand2 = record {
      impossible = plan-decides.impossible;
      answered = plan-decides.answered;
      given = λ y used e. rw e (given (known y e) (case_of y (known y e) table room) used);
      sixteen = length-loads-of x known;
      six_counts = λ y used e is. rw is (counts-six (known y is) (case_of y (known y is) table room) used e);
      idle_past = idle-past (verdict_of x table room);
    }

    pub plan-recovers : Recovers x (plan_outcome (verdict_of x table room)) (plan_loads (verdict_of x table room)) (plan_table x table room)
    plan-recovers y used e = rw e (recovers-on (known y e) (case_of y (known y e) table room) used)

-- demand 2 says of the answer alone what is said of it
pub decides-of : {x : Reading} {table : Lent} {room : ℕ} {outcome : Outcome} {loads : List EngineLoad} → Demand2 x table room outcome loads → Decides x table room outcome
decides-of d = record { impossible = d.impossible; answered = d.answered }

-- where the verdict is a refusal
nothing-of : (v : Verdict) (s : Source) (n : ℕ) → plan_outcome v ≡ refused s n → (r : Plan) → r.used ≡ used_engines v → r.typecount ≡ planned_types v → r.numbers ≡ engines_to engine_limit → r.loads ≡ plan_loads v → HandsOutNothing r
nothing-of (planned y) s n o r u t e l = let z : ◌≡◌ {A = ℕ} 0 1 = cc in absurd (omega arith)
nothing-of (unplanned q m) s n o r u t e l = hands-nothing r u t e l

-- ---- so a call whose result is the one defined keeps the demands

-- a plan has a load for each engine that a system can have
pub length-plan_loads : (file : List ℕ) (table : Lent) (room : ℕ) → length (plan_loads (verdict_of (read_file file) table room)) ≡ engine_limit
length-plan_loads file table room = length-loads-of table room (read_file file) (read-limits file)

-- the used engines are few enough for the records and for the list
pub used-within : (file : List ℕ) (table : Lent) (room : ℕ) → (used_engines (verdict_of (read_file file) table room) ≤ engine_limit) × (used_engines (verdict_of (read_file file) table room) ≤ room)
used-within file table room = few-of table room (read_file file) (read-limits file)

answer-used : (v : Verdict) (used : ℕ) → plan_outcome v ≡ accepted (used ∷ []) → used_engines v ≡ used
answer-used (planned y) used o = cc
answer-used (unplanned s n) used o = let z : ◌≡◌ {A = ℕ} 0 1 = cc in absurd (omega arith)

pub promises-of : (file : List ℕ) (table : Lent) (room : ℕ) (r : Plan) (after : Lent) → Plans (read_file file) table room r after → PlanPromises (read_file file) table room r after
promises-of file table room r after p = record {
  answers = p.answer;
  uses = p.used;
  counts = p.typecount;
  places = p.loads;
  numbers = p.numbers;
  leaves_table = p.left;
  order = rw p.answer (plan-in-order table room x known);
  demand1 = rw (p.answer, p.left) (plan-demand1 table room x known);
  demand2 = rw (p.answer, p.loads) (plan-demand2 table room x known);
  recovers = rw (p.answer, p.loads, p.left) (plan-recovers table room x known);
  used_same = λ used o. p.used ∙ answer-used (verdict_of x table room) used (sym p.answer ∙ o);
  types_same = λ y used e o. p.typecount ∙ types y used e (sym p.answer ∙ o);
  refused_nothing = λ s n o. nothing-of (verdict_of x table room) s n (sym p.answer ∙ o) r p.used p.typecount p.numbers p.loads;
}
  where
    x : Reading
    x = read_file file

    known : Known x
    known = read-limits file

    types : (y : System) (used : ℕ) → x ≡ opened y → plan_outcome (verdict_of x table room) ≡ accepted (used ∷ []) → planned_types (verdict_of x table room) ≡ y.typecount
    types y used e = rw e (types_same_lem (case_of y (known y e) table room) used)

-- ---- "What the table held before changes no answer": two plans of a file, each over a table that is long enough

pub verdict-same : (x : Reading) → Known x → (table other : Lent) (room : ℕ) → ((y : System) → x ≡ opened y → LongEnough y table × LongEnough y other) → verdict_of x table room ≡ verdict_of x other room
unfolding verdict_of
verdict-same (unread n) known table other room long = refl
verdict-same (opened y) known table other room long = verdict-any y (known y refl) table other room (long y refl).0 (long y refl).1

pub plan-any-table : (file : List ℕ) (table other : Lent) (room : ℕ) (r s : Plan) (after last : Lent) → PlanPromises (read_file file) table room r after → PlanPromises (read_file file) other room s last
    → ((y : System) → read_file file ≡ opened y → LongEnough y table × LongEnough y other) → (outcome_of r.answer ≡ outcome_of s.answer) × (r.used ≡ s.used) × (r.typecount ≡ s.typecount) × (r.loads ≡ s.loads)
plan-any-table file table other room r s after last p q long =
    let same = verdict-same (read_file file) (read-limits file) table other room long in
    (p.answers ∙ ap plan_outcome same ∙ sym q.answers, p.uses ∙ ap used_engines same ∙ sym q.uses, p.counts ∙ ap planned_types same ∙ sym q.counts, p.places ∙ ap plan_loads same ∙ sym q.places)

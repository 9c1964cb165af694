-- Request 2026-13, the plan of a card of two kinds. Its verdict and the table after it go by four cases, each with its evidence in plain arithmetic (`mixed_case_of`); in each case the order of refusals and both demands are what
-- partition proves of the card's two systems (`mixed-promises`). One law for each exit of `plan_mixed` says that what the code hands out there is the plan as it is defined.
use Rattle.std.proofs.Common.{Ok, Err, Some, None}
use Prim.Native.Nat.{ℕ, ◌+◌, ◌-◌, ◌<◌, ◌≤◌}
use mathlib.Core.Path.{◌≡◌, refl, sym, ap, subst, ◌∙◌}
use mathlib.Core.List.{List, [], ◌∷◌}
use mathlib.Core.Bool.{Bool, true, false, true≢false}
use mathlib.Core.Logic.{◌↔◌, ⊎_elim}
use native.Mathlib.Omega.{arith}
use borrow.Author.Tests.{leb-true, leb-false, ltb-true, ltb-false}
use lib.ListN.{length, get_or, replicate, length-append, length-replicate, get_or-replicate, get_or-eq_default}
use lib.Seq.{get_or-append-add}
use lib.Dec.{leb, ltb}
use Rattle.system.specs.declared.Kind.{Kind}
use Rattle.system.specs.declared.Refusal.{Refusal}
use Rattle.system.specs.declared.Refusal.TheVariants.{Input, State}
use Rattle.system.specs.declared.System.{System}
use Rattle.system.specs.Limits.{engine_limit}
use Rattle.system.specs.Card.{mixed, first_of, second_of}
use Rattle.system.specs.Outcome.{Source, accepted, refused, from_input, outcome_of, Checked, passes, fails, check, and_then, fails_with}
use Rattle.system.proofs.Checks.{check-passed, both-passed}
use Rattle.system.proofs.Laws.{card-of}
use Rattle.system.proofs.CardLaws.{both-engines, first-keeps, second-keeps, first-columns, first-ceilings, second-ceilings}
use Rattle.loads.specs.declared.EngineLoad.{EngineLoad}
use Rattle.loads.specs.Load.{idle_engine}
use Rattle.partition.specs.Assignment.{Assignment}
use Rattle.partition.specs.Kinds.{mixed_placeable, used_first, used_second, mixed_numbers, mixed_loads}
use Rattle.partition.specs.Lent.{Lent}
use Rattle.partition.specs.Plain.{ceiling_no, LongEnough, TooShort, record_no, HoldsNothing}
use Rattle.partition.specs.PlainKinds.{MixedPartition, MixedImpossible, MixedOnFewest}
use Rattle.partition.proofs.Lists.{true-or-false, length-engines_to}
use Rattle.partition.proofs.PlainKinds.{mixed-within, length-mixed_numbers, length-mixed_loads, mixed-on-fewest, mixed-six, mixed-impossible, mixed-past}
use Rattle.table.proofs.Placed.{placed-some, placed-none}
use Rattle.table.specs.Table.{long_enough, table_check, filled_to}
use Rattle.table.specs.Meaning.{KeptPast}
use Rattle.table.proofs.Room.{long-six, short-six}
use Rattle.table.proofs.Meaning.{kept-past, kept_same}
use Rattle.kinds.specs.declared.Mixed.{Mixed}
use Rattle.kinds.specs.Mixing.{padded, mixed_placement, MayMix}
use Rattle.planner.specs.declared.Plan.{Plan}
use Rattle.planner.specs.Plan.{table_left}
use Rattle.planner.specs.Mixed.{mixed_list_check, mixed_lent_check, mixed_place_check, mixed_checks, mixed_plan, mixed_outcome, mixed_used, mixed_types, numbers_mixed, loads_mixed, mixed_table}
use Rattle.planner.specs.Demands.{HandsOutNothing}
use Rattle.planner.specs.MixedDemands.{CardPlans, MixedPromises}
use Rattle.planner.specs.Inner.{refused_plan, TwoKindCard, MixedPlans}
use Rattle.planner.proofs.Cases.{not_short}
use Rattle.planner.proofs.Demands.{nothing-at, hands-nothing}

-- all instances can be placed on the engines of both kinds
abbrev pub can_mix : System → Kind → Bool
can_mix y k = mixed_placeable (first_of y) (second_of y k)

-- the engines that are then used, of both kinds together
abbrev pub mixed_total : System → Kind → ℕ
mixed_total y k = used_first (first_of y) (second_of y k) + used_second (first_of y) (second_of y k)

-- the table that is filled for the first kind
abbrev filled_first : System → Lent → Lent
filled_first y table = filled_to (first_of y) y.engines table

-- intermediate: lists with something past their entries

length-padded : {A : Type 0} (d : A) (l : List A) → length l ≤ engine_limit → length (padded d l) ≡ engine_limit
length-padded d l h = omega (arith, length-append l (replicate (engine_limit - length l) d), length-replicate (engine_limit - length l) d)

past-padded : {A : Type 0} (d z : A) (l : List A) (i : ℕ) → length l ≤ i → i < engine_limit → get_or (padded d l) i z ≡ d
past-padded d z l i low high =
    let at : length l + (i - length l) ≡ i = omega arith in
    ap (λ (j : ℕ). get_or (padded d l) j z) (sym at)
    ∙ get_or-append-add l (replicate (engine_limit - length l) d) (i - length l) z
    ∙ get_or-replicate (engine_limit - length l) (i - length l) d z (omega arith)

-- whichever place past them is asked, also one past the end
idle-padded : {A : Type 0} (d : A) (l : List A) (i : ℕ) → length l ≤ engine_limit → length l ≤ i → get_or (padded d l) i d ≡ d
idle-padded d l i few low =
    ⊎_elim (λ h. past-padded d d l i low (ltb-true i engine_limit h)) (λ h. get_or-eq_default (padded d l) d (omega (arith, length-padded d l few, ltb-false i engine_limit h))) (true-or-false (ltb i engine_limit))

-- intermediate: a plan that is given

module _ (y : System) (k : Kind) (card : TwoKindCard y k) (can : can_mix y k ≡ true) where
  -- few enough for every list
  pub few-mixed : ((mixed_plan y k).used ≤ engine_limit) × ((mixed_plan y k).used ≤ y.engines + k.number)
  few-mixed =
      let few = mixed-within y k card.limits card.second can in
      (omega (arith, few, both-engines y k card.limits card.second), few)

  total-few : mixed_total y k ≤ engine_limit
  total-few = omega (arith, mixed-within y k card.limits card.second can, both-engines y k card.limits card.second)

  numbers-few : length (mixed_numbers (first_of y) (second_of y k)) ≤ engine_limit
  numbers-few = omega (arith, length-mixed_numbers y k card.limits card.second can, total-few)

  loads-few : length (mixed_loads (first_of y) (second_of y k)) ≤ engine_limit
  loads-few = omega (arith, length-mixed_loads y k card.limits card.second can, total-few)

  pub plan-sixteen : (length (mixed_plan y k).numbers ≡ engine_limit) × (length (mixed_plan y k).loads ≡ engine_limit)
  plan-sixteen = (length-padded 0 (mixed_numbers (first_of y) (second_of y k)) numbers-few, length-padded idle_engine (mixed_loads (first_of y) (second_of y k)) loads-few)

  pub plan-fewest : MixedOnFewest y k (ceiling_no y) (mixed_plan y k).numbers (mixed_plan y k).loads (mixed_plan y k).used
  plan-fewest = mixed-on-fewest y k card.limits card.second can _ _

  -- a used engine has six counts, and past these every load is the idle one
  six-at : (i : ℕ) → 1 ≤ i → i ≤ engine_limit → length (record_no (mixed_plan y k).loads i).counts ≡ 6
  six-at i low high =
      ⊎_elim (λ h. mixed-six y k card.limits card.second can [] _ i low (leb-true i (mixed_total y k) h))
      (λ h. ap (λ (l : EngineLoad). length l.counts)
      (past-padded idle_engine (record { time = 0; memory = 0; counts = [] }) (mixed_loads (first_of y) (second_of y k)) (i - 1)
      (omega (arith, length-mixed_loads y k card.limits card.second can, leb-false i (mixed_total y k) h)) (omega arith)))
      (true-or-false (leb i (mixed_total y k)))

  pub plan-six : (i : ℕ) → 1 ≤ i → i ≤ engine_limit → length (record_no (mixed_plan y k).loads i).counts ≡ 6
  plan-six i low high = six-at i low high

  -- past the used engines nothing stands
  plan-idle : (i : ℕ) → (mixed_plan y k).used < i → HoldsNothing (record_no (mixed_plan y k).loads i)
  plan-idle i h =
      let past : mixed_total y k < i = h in
      nothing-at (mixed_plan y k).loads i
      (idle-padded idle_engine (mixed_loads (first_of y) (second_of y k)) (i - 1) loads-few (omega (arith, length-mixed_loads y k card.limits card.second can)))

  plan-unnumbered : (i : ℕ) → (mixed_plan y k).used < i → get_or (mixed_plan y k).numbers (i - 1) 0 ≡ 0
  plan-unnumbered i h =
      let past : mixed_total y k < i = h in
      idle-padded 0 (mixed_numbers (first_of y) (second_of y k)) (i - 1) numbers-few (omega (arith, length-mixed_numbers y k card.limits card.second can))

  -- a load of no engine has no instance of a type past k either
  pub plan-past : (i t : ℕ) → 1 ≤ i → y.typecount < t → get_or (record_no (mixed_plan y k).loads i).counts (t - 1) 0 ≡ 0
  plan-past i t low past =
      ⊎_elim (λ h. mixed-past y k _ _ _ card.limits (plan-fewest) i t low (leb-true i (mixed_plan y k).used h) past) (λ h. (plan-idle i (leb-false i (mixed_plan y k).used h)).counts t) (true-or-false (leb i (mixed_plan y k).used))

-- main: the verdict and the table after it, by cases

pub data MixedCase (y : System) (k : Kind) (table : Lent) (room : ℕ) : Checked → Lent → Type 0 where
  too_short : TooShort y table → MixedCase y k table room (fails from_input 11) table
  too_small : LongEnough y table → room < y.engines + k.number → MixedCase y k table room (fails from_input 15) table
  no_place : LongEnough y table → y.engines + k.number ≤ room → can_mix y k ≡ false → MixedCase y k table room (fails from_input 12) (filled_first y table)
  is_planned : LongEnough y table → y.engines + k.number ≤ room → can_mix y k ≡ true → MixedCase y k table room passes (filled_first y table)

pub mixed_case_of : (y : System) (k : Kind) → TwoKindCard y k → (table : Lent) (room : ℕ) → MixedCase y k table room (mixed_checks y k table room) (mixed_table y k table room)
mixed_case_of y k card table room = go (long_enough y table) (leb (y.engines + k.number) room) (can_mix y k) refl refl refl
  where
    go : (l r p : Bool) → long_enough y table ≡ l → leb (y.engines + k.number) room ≡ r → can_mix y k ≡ p
        → MixedCase y k table room (and_then (and_then (check l from_input 11) (check r from_input 15)) (check p from_input 12))
        (table_left (and_then (check l from_input 11) (check r from_input 15)) table (filled_first y table))
    go false r p long enough can = too_short ((short-six y table (card-of y card.limits).six).0 long)
    go true false p long enough can = too_small ((long-six y table (card-of y card.limits).six).0 long) (leb-false (y.engines + k.number) room enough)
    go true true false long enough can = no_place ((long-six y table (card-of y card.limits).six).0 long) (leb-true (y.engines + k.number) room enough) can
    go true true true long enough can = is_planned ((long-six y table (card-of y card.limits).six).0 long) (leb-true (y.engines + k.number) room enough) can

filled_keeps : (y : System) (k : Kind) → TwoKindCard y k → (table : Lent) → LongEnough y table → KeptPast y table (filled_first y table)
filled_keeps y k card table long = let six = (card-of y card.limits).six in kept-past y six table y.engines ((long-six y table six).1 long)

module _ {y : System} {k : Kind} {table : Lent} {room : ℕ} (card : TwoKindCard y k) where
  pub then-table : {v : Checked} {after : Lent} → MixedCase y k table room v after → (mixed_outcome y k v ≡ refused from_input 11) ↔ TooShort y table
  then-table (too_short short) = (λ o. short, λ h. refl)
  then-table (too_small long small) = (λ o. (let z : ◌≡◌ {A = ℕ} 15 11 = cc in absurd (omega arith)), λ h. absurd (not_short y table long h))
  then-table (no_place long enough none) = (λ o. (let z : ◌≡◌ {A = ℕ} 12 11 = cc in absurd (omega arith)), λ h. absurd (not_short y table long h))
  then-table (is_planned long enough can) = (λ o. (let z : ◌≡◌ {A = ℕ} 0 1 = cc in absurd (omega arith)), λ h. absurd (not_short y table long h))

  pub then-list : {v : Checked} {after : Lent} → MixedCase y k table room v after → LongEnough y table → (mixed_outcome y k v ≡ refused from_input 15) ↔ (room < y.engines + k.number)
  then-list (too_short short) h = absurd (not_short y table h short)
  then-list (too_small long small) h = (λ o. small, λ l. refl)
  then-list (no_place long enough none) h = (λ o. (let z : ◌≡◌ {A = ℕ} 12 15 = cc in absurd (omega arith)), λ l. absurd (omega arith))
  then-list (is_planned long enough can) h = (λ o. (let z : ◌≡◌ {A = ℕ} 0 1 = cc in absurd (omega arith)), λ l. absurd (omega arith))

  pub as_lent_lem : {v : Checked} {after : Lent} → MixedCase y k table room v after → (s : Source) (n : ℕ) → mixed_outcome y k v ≡ refused s n → (n ≡ 12 → ⊥) → after ≡ table
  as_lent_lem (too_short short) s n o h = refl
  as_lent_lem (too_small long small) s n o h = refl
  as_lent_lem (no_place long enough none) s n o h = absurd (h (cc))
  as_lent_lem (is_planned long enough can) s n o h = let z : ◌≡◌ {A = ℕ} 0 1 = cc in absurd (omega arith)

  pub keeps-past : {v : Checked} {after : Lent} → MixedCase y k table room v after → KeptPast y table after
  keeps-past (too_short short) = kept_same y (card-of y card.limits).six table
  keeps-past (too_small long small) = kept_same y (card-of y card.limits).six table
  keeps-past (no_place long enough none) = filled_keeps y k card table long
  keeps-past (is_planned long enough can) = filled_keeps y k card table long

  pub impossible : {v : Checked} {after : Lent} → MixedCase y k table room v after → LongEnough y table → y.engines + k.number ≤ room → (mixed_outcome y k v ≡ refused from_input 12) ↔ MixedImpossible y k (ceiling_no y)
  impossible (too_short short) h l = absurd (not_short y table h short)
  impossible (too_small long small) h l = absurd (omega arith)
  impossible (no_place long enough none) h l = (λ o. (mixed-impossible y k card.limits card.second).0 none, λ n. refl)
  impossible (is_planned long enough can) h l =
      (λ o. (let z : ◌≡◌ {A = ℕ} 0 1 = cc in absurd (omega arith)), λ none. absurd (none _ (plan-fewest y k card can).partition))

  pub answered : {v : Checked} {after : Lent} → MixedCase y k table room v after → LongEnough y table → y.engines + k.number ≤ room → (χ : Assignment) → MixedPartition y k (ceiling_no y) χ
      → (used : ℕ) × (mixed_outcome y k v ≡ accepted (used ∷ []))
  answered (too_short short) h l χ p = absurd (not_short y table h short)
  answered (too_small long small) h l χ p = absurd (omega arith)
  answered (no_place long enough none) h l χ p = absurd ((mixed-impossible y k card.limits card.second).0 none χ p)
  answered (is_planned long enough can) h l χ p = ((mixed_plan y k).used, refl)

  -- what is said of a plan that is given is said of the one that partition proves to be on the fewest engines
  when-given : (P : ℕ → ℕ → ℕ → List ℕ → List EngineLoad → Type 0) → (can_mix y k ≡ true → P (mixed_plan y k).used (mixed_plan y k).used y.typecount (mixed_plan y k).numbers (mixed_plan y k).loads)
      → {v : Checked} {after : Lent} → MixedCase y k table room v after → (used : ℕ) → mixed_outcome y k v ≡ accepted (used ∷ []) → P used (mixed_used y k v) (mixed_types y v) (numbers_mixed y k v) (loads_mixed y k v)
  when-given P p (too_short short) used o = let z : ◌≡◌ {A = ℕ} 0 1 = cc in absurd (omega arith)
  when-given P p (too_small long small) used o = let z : ◌≡◌ {A = ℕ} 0 1 = cc in absurd (omega arith)
  when-given P p (no_place long enough none) used o = let z : ◌≡◌ {A = ℕ} 0 1 = cc in absurd (omega arith)
  when-given P p (is_planned long enough can) used o =
      let same : (mixed_plan y k).used ≡ used = cc in
      subst (λ (n : ℕ). P n (mixed_plan y k).used y.typecount (mixed_plan y k).numbers (mixed_plan y k).loads) same (p can)

  sixteen : {v : Checked} {after : Lent} → MixedCase y k table room v after → (length (numbers_mixed y k v) ≡ 16) × (length (loads_mixed y k v) ≡ 16)
  sixteen (too_short short) = (length-engines_to 16, refl)
  sixteen (too_small long small) = (length-engines_to 16, refl)
  sixteen (no_place long enough none) = (length-engines_to 16, refl)
  sixteen (is_planned long enough can) = plan-sixteen y k card can

  pub within : {v : Checked} {after : Lent} → MixedCase y k table room v after → (mixed_used y k v ≤ engine_limit) × (mixed_used y k v ≤ room)
  within (too_short short) = (omega arith, omega arith)
  within (too_small long small) = (omega arith, omega arith)
  within (no_place long enough none) = (omega arith, omega arith)
  within (is_planned long enough can) = let few = few-mixed y k card can in (few.0, omega (arith, few.1, enough))

-- a refused plan hands out nothing
mixed-nothing : (y : System) (k : Kind) (c : Checked) (s : Source) (n : ℕ) → mixed_outcome y k c ≡ refused s n → (r : Plan) → r.used ≡ mixed_used y k c → r.typecount ≡ mixed_types y c → r.numbers ≡ numbers_mixed y k c
    → r.loads ≡ loads_mixed y k c → HandsOutNothing r
mixed-nothing y k passes s n o r u t e l = let z : ◌≡◌ {A = ℕ} 0 1 = cc in absurd (omega arith)
mixed-nothing y k (fails q m) s n o r u t e l = hands-nothing r u t e l

-- main: a plan that is the one defined keeps the order of refusals and both demands, and hands out nothing else

pub mixed-promises : (y : System) (k : Kind) → TwoKindCard y k → (table : Lent) (room : ℕ) (r : Plan) (after : Lent) → CardPlans (mixed y k) table room r after → MixedPromises y k table room r after
mixed-promises y k card table room r after p = record {
  order = rw p.answers (record { then_table = then-table card case; then_list = then-list card case });
  demand1 = rw (p.answers, p.leaves_table) (record { as_lent = as_lent_lem card case; kept = keeps-past card case });
  demand2 = rw (p.answers, p.numbers, p.places) (record {
    impossible = impossible card case;
    answered = answered card case;
    given = when-given card (λ used own types numbers loads. MixedOnFewest y k (ceiling_no y) numbers loads used) (plan-fewest y k card) case;
  });
  used_same = λ used o. p.uses ∙ when-given card (λ used own types numbers loads. own ≡ used) (λ can. refl) case used (sym p.answers ∙ o);
  types_same = λ used o. p.counts ∙ when-given card (λ used own types numbers loads. types ≡ y.typecount) (λ can. refl) case used (sym p.answers ∙ o);
  six_counts = λ used i o low high.
      ap (λ (l : List EngineLoad). length (record_no l i).counts) p.places
      ∙ when-given card (λ used own types numbers loads. length (record_no loads i).counts ≡ 6) (λ can. plan-six y k card can i low high) case used (sym p.answers ∙ o);
  sixteen = rw (p.numbers, p.places) (sixteen card case);
  zero_past = λ used i t o low past.
      ap (λ (l : List EngineLoad). get_or (record_no l i).counts (t - 1) 0) p.places
      ∙ when-given card (λ used own types numbers loads. get_or (record_no loads i).counts (t - 1) 0 ≡ 0) (λ can. plan-past y k card can i t low past) case used (sym p.answers ∙ o);
  idle_past = λ used i o.
      rw p.places (when-given card (λ used own types numbers loads. used < i → HoldsNothing (record_no loads i)) (λ can. plan-idle y k card can i) case used (sym p.answers ∙ o));
  numbers_past = λ used i o.
      rw p.numbers (when-given card (λ used own types numbers loads. used < i → get_or numbers (i - 1) 0 ≡ 0) (λ can. plan-unnumbered y k card can i) case used (sym p.answers ∙ o));
  refused_nothing = λ s n o. mixed-nothing y k (mixed_checks y k table room) s n (sym p.answers ∙ o) r p.uses p.counts p.numbers p.places;
}
  where
    case : MixedCase y k table room (mixed_checks y k table room) (mixed_table y k table room)
    case = mixed_case_of y k card table room

-- main: one law for each exit of `plan_mixed`

module _ (y : System) (k : Kind) (card : TwoKindCard y k) (table : Lent) (room : ℕ) where
  plans-by : (c : Checked) → mixed_checks y k table room ≡ c → (r : Plan) (after : Lent) → outcome_of r.answer ≡ mixed_outcome y k c → r.used ≡ mixed_used y k c → r.typecount ≡ mixed_types y c
      → r.numbers ≡ numbers_mixed y k c → r.loads ≡ loads_mixed y k c → after ≡ mixed_table y k table room → MixedPlans y k table room r after
  plans-by c same r after a u t n l left = record { whole = whole; promises = mixed-promises y k card table room r after whole }
    where
      whole : CardPlans (mixed y k) table room r after
      whole = record { answers = rw same a; uses = rw same u; counts = rw same t; numbers = rw same n; places = rw same l; leaves_table = left }

  -- by what the checks of what is lent say
  checks-by : (c : Checked) → c ≡ mixed_lent_check y k table room → mixed_checks y k table room ≡ and_then c (mixed_place_check y k)
  checks-by c e = ap (λ (d : Checked). and_then d (mixed_place_check y k)) (sym e)

  table-by : (c : Checked) → c ≡ mixed_lent_check y k table room → mixed_table y k table room ≡ table_left c table (filled_first y table)
  table-by c e = ap (λ (d : Checked). table_left d table (filled_first y table)) (sym e)

  -- 11 or 15
  pub mixed-lent : (why : Refusal) → fails_with why ≡ mixed_lent_check y k table room → MixedPlans y k table room (refused_plan (Err why)) table
  mixed-lent (Input n) failed = plans-by _ (checks-by _ failed) _ _ refl refl refl refl refl (sym (table-by _ failed))
  mixed-lent (State n) failed = plans-by _ (checks-by _ failed) _ _ refl refl refl refl refl (sym (table-by _ failed))

  -- what placing all instances relies on, where 11 and 15 have passed
  pub may-mix : passes ≡ mixed_lent_check y k table room → MayMix (first_of y) (second_of y k) table
  may-mix passed =
      let both = both-passed (table_check y table) (mixed_list_check y k room) passed in
      let long = check-passed (long_enough y table) from_input 11 both.0 in
      record {
        limits = first-keeps y k card.limits card.second;
        limits_second = second-keeps y k card.limits card.second;
        same_ceilings = second-ceilings y k ∙ sym (first-ceilings y);
        few = both-engines y k card.limits card.second;
        room = rw (first-columns y) long;
      }

  -- with the placement of all instances
  module _ (passed : passes ≡ mixed_lent_check y k table room) where
    pub mixed-none : None ≡ mixed_placement (first_of y) (second_of y k) → MixedPlans y k table room (refused_plan (Err (Input 12))) (filled_first y table)
    unfolding mixed_placement
    mixed-none h =
        let cannot : can_mix y k ≡ false = placed-none _ h in
        plans-by (fails from_input 12) (checks-by passes passed ∙ rw cannot) _ _ refl refl refl refl refl (sym (table-by passes passed))

    -- the plan that the code makes of it
    abbrev handed : Mixed → Plan
    handed p = record { answer = Ok (Some p.used); used = p.used; typecount = y.typecount; numbers = p.numbers; loads = p.loads }

    pub mixed-placed : (p : Mixed) → Some p ≡ mixed_placement (first_of y) (second_of y k) → MixedPlans y k table room (handed p) (filled_first y table)
    unfolding mixed_placement
    mixed-placed p h =
        let can : can_mix y k ≡ true = (placed-some h).0 in
        let same : p ≡ mixed_plan y k = (placed-some h).1 in
        plans-by passes (checks-by passes passed ∙ rw can) (handed p) _ (ap (λ (q : Mixed). accepted (q.used ∷ [])) same) (ap (λ (q : Mixed). q.used) same) refl
        (ap (λ (q : Mixed). q.numbers) same) (ap (λ (q : Mixed). q.loads) same) (sym (table-by passes passed))

-- The verdict on a file that opens, and the table after it, by cases: each case with its evidence in plain arithmetic and assignments.
use Prim.Native.Nat.{ℕ, ◌+◌, ◌-◌, ◌<◌, ◌≤◌}
use mathlib.Core.Path.{◌≡◌, refl, sym, ap, ◌∙◌}
use mathlib.Core.List.{List, []}
use mathlib.Core.Bool.{Bool, true, false}
use mathlib.Core.Logic.{◌↔◌, inl, inr}
use native.Mathlib.Nat.{le_refl}
use native.Mathlib.Omega.{arith}
use borrow.Author.Tests.{leb-true, leb-false}
use lib.ListN.{length, get_or, length-map, get_or-map}
use lib.Dec.{leb}
use Rattle.system.specs.declared.System.{System}
use Rattle.system.specs.Values.{ceilings_of}
use Rattle.system.specs.Limits.{engine_limit, type_limit}
use Rattle.system.specs.Layout.{opened}
use Rattle.system.specs.Outcome.{from_input, passes, check, and_then}
use Rattle.system.proofs.Checks.{check-passed, both-passed}
use Rattle.system.proofs.Laws.{Limits, limits-keep}
use Rattle.loads.specs.declared.EngineLoad.{EngineLoad}
use Rattle.loads.specs.Load.{fits_engine, engine_with, idle_engine, empty_load}
use Rattle.loads.specs.Column.{column_of}
use Rattle.loads.proofs.Laws.{engine_with-idle}
use Rattle.loads.proofs.Order.{within-refl}
use Rattle.partition.specs.Assignment.{count_on}
use Rattle.partition.specs.ForSystem.{FeasibleOn, OnFewest, placeable, rows_for, recovered_for}
use Rattle.partition.specs.Lent.{Lent}
use Rattle.partition.specs.Plain.{ceiling_no, LongEnough, TooShort, EngineOf, Impossible, record_no, StandsOnFewest}
use Rattle.partition.proofs.Lists.{not-both, length-engines_to, distinct-engines_to, every-among, among-engines_to, get_or-inside}
use Rattle.partition.proofs.Engines.{on_engines-at}
use Rattle.partition.proofs.Recovery.{length-recovery}
use Rattle.partition.proofs.ForSystem.{length-ceilings, feasible-iff-placeable, length-recovered_for, recovered_for-past, recovered-on-fewest}
use Rattle.partition.proofs.Plain.{ceiling-out, impossible-out, fewest-out}
use Rattle.table.specs.Table.{long_enough, table_check, filled}
use Rattle.table.specs.Meaning.{column_no, FilledMeans, RecoveredBy}
use Rattle.table.proofs.Room.{long-enough-out, too-short-out}
use Rattle.table.proofs.Meaning.{filled-means}
use Rattle.table.proofs.RecoveredBy.{recovered-by}
use Rattle.planner.specs.Plan.{plan_engines, list_check, lent_check, Verdict, planned, unplanned, judged, verdict_of, used_engines, plan_loads, table_left, plan_table}

-- all instances can be placed on the engines
abbrev pub can_place : System → Bool
can_place y = placeable y (plan_engines y) (ceilings_of y)

-- where 11 and 15 pass
pub lent-passed : (y : System) (table : Lent) (room : ℕ) → passes ≡ lent_check y table room → (long_enough y table ≡ true) × (leb y.engines room ≡ true)
lent-passed y table room e =
    let both = both-passed (table_check y table) (list_check y room) e in
    (check-passed (long_enough y table) from_input 11 both.0, check-passed (leb y.engines room) from_input 15 both.1)

-- ---- the tests in plain words

module _ (y : System) (limits : Limits y) where
  pub long-out : (table : Lent) → long_enough y table ≡ true → LongEnough y table
  long-out table = (long-enough-out y table (limits-keep y limits)).0

  pub long-back : (table : Lent) → LongEnough y table → long_enough y table ≡ true
  long-back table = (long-enough-out y table (limits-keep y limits)).1

  pub short-out : (table : Lent) → long_enough y table ≡ false → TooShort y table
  short-out table = (too-short-out y table (limits-keep y limits)).0

  -- the ceilings are a load within the ceilings
  feasible : FeasibleOn y (plan_engines y) (ceilings_of y) ↔ (can_place y ≡ true)
  feasible = feasible-iff-placeable y limits (plan_engines y) (distinct-engines_to y.engines) (ceilings_of y) (length-ceilings y limits) (within-refl (ceilings_of y))

  none_out : can_place y ≡ false → Impossible y (EngineOf y) (ceiling_no y)
  none_out cannot =
      (impossible-out y limits.rule (plan_engines y) (distinct-engines_to y.engines) (every-among (plan_engines y)) (EngineOf y) (among-engines_to y.engines) (ceilings_of y) (length-ceilings y limits) (ceiling_no y) (λ t low. ceiling-out y t)
      ).0 (λ f. not-both (feasible.0 f) cannot)

  -- the table after a plan, and after 12
  pub plan-fills : (table : Lent) → LongEnough y table → FilledMeans y y.engines table (filled y (plan_engines y) table)
  plan-fills table long = rw (length-engines_to y.engines) (filled-means y limits y.engines table (le_refl y.engines) long)

  -- ---- a plan that is given

  module _ (can : can_place y ≡ true) where
    recovered : OnFewest y (plan_engines y) (ceilings_of y) (plan_loads (planned y)) (used_engines (planned y))
    recovered = recovered-on-fewest y limits (plan_engines y) (distinct-engines_to y.engines) (ceilings_of y) (length-ceilings y limits) (within-refl (ceilings_of y)) can engine_limit

    pub on-fewest : StandsOnFewest y (EngineOf y) (ceiling_no y) (plan_loads (planned y)) (used_engines (planned y))
    on-fewest =
        fewest-out y limits.rule (plan_engines y) (distinct-engines_to y.engines) (every-among (plan_engines y)) (EngineOf y) (among-engines_to y.engines) (ceilings_of y) (length-ceilings y limits) (ceiling_no y) (λ t low. ceiling-out y t)
        (plan_loads (planned y)) (used_engines (planned y)) recovered

    -- the lowest yes row is that of an engine
    pub few-used : used_engines (planned y) ≤ y.engines
    few-used = omega (arith, leb-true (used_engines (planned y)) (length (plan_engines y)) can, length-engines_to y.engines)

    -- a load for each engine that a system can have
    pub length-loads : length (plan_loads (planned y)) ≡ engine_limit
    length-loads =
        length-map (recovered_for engine_limit y (plan_engines y) (ceilings_of y)) (engine_with y)
        ∙ length-recovered_for y limits (plan_engines y) (distinct-engines_to y.engines) (ceilings_of y) (length-ceilings y limits) (within-refl (ceilings_of y)) can engine_limit

    -- each of six counts
    pub six-counts : (e : ℕ) → 1 ≤ e → e ≤ engine_limit → length (record_no (plan_loads (planned y)) e).counts ≡ type_limit
    six-counts e low high =
        let p = recovered.placed in
        let inside : e - 1 < length (plan_loads (planned y)) = omega (arith, length-loads) in
        ap (λ (l : EngineLoad). length l.counts) (get_or-inside (plan_loads (planned y)) (e - 1) (record { time = 0; memory = 0; counts = [] }) idle_engine inside ∙ p.holds (e - 1) inside)
        ∙ length-map p.mapping (count_on ((e - 1) + 1))
        ∙ sym (length-map p.mapping length)
        ∙ ap length p.assigns
        ∙ length-ceilings y limits

    -- engine e has row e of the recovery, read in the filled table
    pub recovered-out : (table : Lent) → LongEnough y table
        → RecoveredBy y (filled y (plan_engines y) table) (used_engines (planned y)) (ceiling_no y) (λ (e t : ℕ). get_or (record_no (plan_loads (planned y)) e).counts (t - 1) 0)
    recovered-out table long = record {
      column = r.column;
      starts = r.starts ∙ ap (column_no y) (λ i t. ceiling-out y t i);
      lowest_row = r.lowest_row;
      down = r.down;
      gets = λ i t h. row_of i t h ∙ r.gets i t h;
    }
      where
        es : List ℕ
        es = plan_engines y

        few : used_engines (planned y) ≤ length es
        few = leb-true (used_engines (planned y)) (length es) can

        r : RecoveredBy y (filled y es table) (used_engines (planned y)) (λ (t : ℕ). get_or (ceilings_of y) (t - 1) 0) (λ (i t : ℕ). get_or (get_or (rows_for y es (ceilings_of y)) (i - 1) []) (t - 1) 0)
        r =
            recovered-by y limits (length es) (filled y es table) (λ i c h k. (plan-fills table long).cells i c (omega (arith, length-engines_to y.engines)) k)
            (λ c past k h. (plan-fills table long).cell_there c past k (omega (arith, length-engines_to y.engines)))
            (ceilings_of y) (length-ceilings y limits) (within-refl (ceilings_of y)) few

        row_of : (i t : ℕ) → i < used_engines (planned y) → get_or (record_no (plan_loads (planned y)) (i + 1)).counts (t - 1) 0 ≡ get_or (get_or (rows_for y es (ceilings_of y)) (i + 1 - 1) []) (t - 1) 0
        row_of i t h =
            let here : i + 1 - 1 ≡ i = omega arith in
            let some : i < y.engines = omega (arith, few-used) in
            let wide : i < engine_limit = omega (arith, limits.engines) in
            let rows = rows_for y es (ceilings_of y) in
            let inside : i < length rows = omega (arith, length-recovery (fits_engine y) (ceilings_of y) (length es) (column_of (ceilings_of y) (ceilings_of y))) in
            ap (λ (j : ℕ). get_or (get_or (plan_loads (planned y)) j (record { time = 0; memory = 0; counts = [] })).counts (t - 1) 0) here
            ∙ ap (λ (l : EngineLoad). get_or l.counts (t - 1) 0)
            (get_or-inside (plan_loads (planned y)) i (record { time = 0; memory = 0; counts = [] }) (engine_with y empty_load) (omega (arith, length-loads))
            ∙ get_or-map (engine_with y) (recovered_for engine_limit y es (ceilings_of y)) i empty_load)
            ∙ ap (λ (l : List ℕ). get_or l (t - 1) 0) (on_engines-at empty_load engine_limit y.engines rows i some wide ∙ get_or-inside rows i empty_load [] inside)
            ∙ ap (λ (j : ℕ). get_or (get_or rows j []) (t - 1) 0) (sym here)

-- the load of an engine past the lowest yes row
pub idle-load : (y : System) (i : ℕ) → used_engines (planned y) ≤ i → get_or (plan_loads (planned y)) i idle_engine ≡ idle_engine
idle-load y i h =
    ap (get_or (plan_loads (planned y)) i) (sym (engine_with-idle y))
    ∙ get_or-map (engine_with y) (recovered_for engine_limit y (plan_engines y) (ceilings_of y)) i empty_load
    ∙ ap (engine_with y) (recovered_for-past y y.engines (ceilings_of y) engine_limit i h)
    ∙ engine_with-idle y

-- ---- the cases

-- a table is not both long enough and too short
pub not_short : (y : System) (table : Lent) → LongEnough y table → TooShort y table → ⊥
not_short y table long (inl h) = omega (arith, long.0, h)
not_short y table long (inr h) = omega (arith, long.1, h)

pub data Case (y : System) (table : Lent) (room : ℕ) : Verdict → Lent → Type 0 where
  too_short : TooShort y table → Case y table room (unplanned from_input 11) table
  too_small : LongEnough y table → room < y.engines → Case y table room (unplanned from_input 15) table
  no_place : LongEnough y table → y.engines ≤ room → Impossible y (EngineOf y) (ceiling_no y) → Case y table room (unplanned from_input 12) (filled y (plan_engines y) table)
  is_planned : LongEnough y table → y.engines ≤ room → can_place y ≡ true → Case y table room (planned y) (filled y (plan_engines y) table)

pub case_of : (y : System) → Limits y → (table : Lent) (room : ℕ) → Case y table room (verdict_of (opened y) table room) (plan_table (opened y) table room)
unfolding verdict_of
case_of y limits table room = go (long_enough y table) (leb y.engines room) (can_place y) refl refl refl
  where
    go : (l r p : Bool) → long_enough y table ≡ l → leb y.engines room ≡ r → can_place y ≡ p
        → Case y table room (judged y (and_then (and_then (check l from_input 11) (check r from_input 15)) (check p from_input 12)))
        (table_left (and_then (check l from_input 11) (check r from_input 15)) table (filled y (plan_engines y) table))
    go false r p long enough can = too_short (short-out y limits table long)
    go true false p long enough can = too_small (long-out y limits table long) (leb-false y.engines room enough)
    go true true false long enough can = no_place (long-out y limits table long) (leb-true y.engines room enough) (none_out y limits can)
    go true true true long enough can = is_planned (long-out y limits table long) (leb-true y.engines room enough) can

-- ---- "What the table held before changes no answer": over any table that is long enough the verdict is the same

pub verdict-any : (y : System) → Limits y → (table other : Lent) (room : ℕ) → LongEnough y table → LongEnough y other → verdict_of (opened y) table room ≡ verdict_of (opened y) other room
unfolding verdict_of
verdict-any y limits table other room p q = rw (long-back y limits table p, long-back y limits other q)

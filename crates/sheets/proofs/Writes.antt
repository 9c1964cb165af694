-- What `write_sheet` promises, from what it answers and leaves by definition: the sheet of a plan is that of a good assignment on the fewest engines, and the check finds it right.
use Rattle.std.proofs.Common.{Ok, Err, Some, None}
use Prim.Native.Nat.{ℕ, ◌+◌, ◌*◌, ◌≤◌, ◌<◌}
use mathlib.Core.Path.{◌≡◌, refl, sym, ap, ap₂, subst, ◌∙◌}
use mathlib.Core.List.{List, [], ◌∷◌, ◌++◌}
use mathlib.Core.Bool.{Bool, true, false, cond}
use mathlib.Core.Logic.{◌↔◌}
use native.Mathlib.Nat.{zero-add, zero-mul, le_antisymm}
use native.Mathlib.Omega.{arith}
use borrow.Author.Tests.{ltb-true, lt-ltb, le-ltb}
use lib.ListN.{length, get_or, take, drop, length-map}
use lib.Seq.{take-append_seam}
use lib.Dec.{ltb}
use Rattle.system.specs.declared.System.{System}
use Rattle.system.specs.Outcome.{Answer, Outcome, Source, accepted, refused, from_input, outcome_of}
use Rattle.system.specs.declared.Refusal.TheVariants.{Input, State}
use Rattle.system.specs.Values.{ceilings_of}
use Rattle.system.specs.Limits.{engine_limit, type_limit, keeps_limits}
use Rattle.system.specs.Layout.{Reading, read_file, opened, unread}
use Rattle.system.proofs.Laws.{limits_of, read-keeps-limits}
use Rattle.loads.specs.declared.EngineLoad.{EngineLoad}
use Rattle.loads.specs.Load.{holds_none, idle_engine}
use Rattle.loads.proofs.Order.{within-refl}
use Rattle.partition.specs.Assignment.{Assignment, count_on}
use Rattle.partition.specs.ForSystem.{OnFewest as RecoveredOn}
use Rattle.partition.specs.Lent.{Lent}
use Rattle.partition.specs.Plain.{ceiling_no, LongEnough, TooShort, EngineOf, Impossible, used_to}
use Rattle.partition.proofs.Lists.{distinct-engines_to}
use Rattle.partition.proofs.ForSystem.{length-ceilings, recovered-on-fewest}
use Rattle.partition.proofs.Plain.{used_to-used_of}
use Rattle.table.specs.Meaning.{FilledMeans}
use Rattle.buffer.specs.Written.{Puts}
use Rattle.planner.specs.declared.Plan.{Plan}
use Rattle.planner.specs.Plan.{plan_engines, Verdict, planned, unplanned, verdict_of, used_engines, plan_outcome, planned_types, plan_loads, plan_table}
use Rattle.planner.specs.Demands.{PlanPromises}
use Rattle.planner.proofs.Cases.{can_place, plan-fills, on-fewest, few-used, length-loads, idle-load, not_short, Case, too_short, too_small, no_place, is_planned, case_of}
use Rattle.sheets.specs.Sheet.{sheet_bytes, sheet_size, used_in}
use Rattle.sheets.specs.Writing.{sheet_verdict, plan_sheet, write_outcome, written_to, write_table}
use Rattle.sheets.specs.Checking.{right, fewer_do, check_outcome}
use Rattle.sheets.specs.Meaning.{sheet_out, GoodForAll, sheet_with, GoodOnFewest, SheetsInOrder, SheetWritten, records_to, OfPlan, WriteSheetPromises}
use Rattle.sheets.proofs.Sizes.{length-sheet}
use Rattle.sheets.proofs.Back.{Neat}
use Rattle.sheets.proofs.Stated.{neat-shaped, gather-sheet, idle-none, gather-to}
use Rattle.sheets.proofs.Assigned.{loads_of, Assigns, assigns-good, sheet-assigned, used-assigned, six-places, on-engines, assigned-neat, placed-loads}
use Rattle.sheets.proofs.Right.{sheet-of, sheet-passed, fewer-out}
use Rattle.sheets.proofs.Promises.{right_of}

-- intermediate: the sheet of a system that is planned

-- the bytes of a sheet on the engines that χ uses
abbrev size_for : System → Assignment → ℕ
size_for y χ = 5 + used_to y.engines χ * (12 + 2 * y.typecount)

module _ (y : System) (keeps : keeps_limits y ≡ true) (can : can_place y ≡ true) where
  abbrev loads : List EngineLoad
  loads = plan_loads (planned y)

  recovered : RecoveredOn y (plan_engines y) (ceilings_of y) loads (used_engines (planned y))
  recovered = recovered-on-fewest y (limits_of y keeps) (plan_engines y) (distinct-engines_to y.engines) (ceilings_of y) (length-ceilings y (limits_of y keeps)) (within-refl (ceilings_of y)) can engine_limit

  -- the assignment whose loads these are
  abbrev mapping : Assignment
  mapping = recovered.placed.mapping

  assigns : Assigns y mapping
  assigns = record { all = recovered.placed.assigns; is_good = recovered.placed.is_good }

  sheet-mapped : plan_sheet (planned y) ≡ sheet_out y mapping
  sheet-mapped =
      ap (sheet_bytes y.typecount) (placed-loads y (plan_engines y) (ceilings_of y) loads (length-loads y (limits_of y keeps) can) recovered.placed)
      ∙ sheet-assigned y (limits_of y keeps) mapping (six-places y keeps mapping assigns) (on-engines y keeps mapping assigns)

  uses : used_to y.engines mapping ≡ used_engines (planned y)
  uses = used_to-used_of y.engines mapping ∙ recovered.uses

  on-fewest-engines : GoodOnFewest y mapping
  on-fewest-engines = record {
    good = assigns-good y (limits_of y keeps) mapping assigns;
    fewest = λ χ good. omega (arith, uses, (on-fewest y (limits_of y keeps) can).fewest χ good);
  }

  -- any assignment on the fewest engines uses as many
  as-few : (χ : Assignment) → GoodOnFewest y χ → used_to y.engines χ ≡ used_to y.engines mapping
  as-few χ f = le_antisymm (f.fewest mapping on-fewest-engines.good) (on-fewest-engines.fewest χ f.good)

  pub size-planned : length (plan_sheet (planned y)) ≡ sheet_size y.typecount loads
  size-planned = length-sheet y.typecount loads counted
    where
      counted : (i : ℕ) → i < length loads → y.typecount ≤ length (get_or loads i idle_engine).counts
      counted i h = rw (recovered.placed.holds i h) (omega (arith, length-map mapping (count_on (i + 1)), six-places y keeps mapping assigns, (limits_of y keeps).typecount))

  used-mapped : used_in loads ≡ used_to y.engines mapping
  used-mapped =
      ap used_in (placed-loads y (plan_engines y) (ceilings_of y) loads (length-loads y (limits_of y keeps) can) recovered.placed)
      ∙ used-assigned y (limits_of y keeps) mapping (six-places y keeps mapping assigns) (on-engines y keeps mapping assigns)

  size-out : (χ : Assignment) → GoodOnFewest y χ → length (plan_sheet (planned y)) ≡ size_for y χ
  size-out χ f =
      let few : used_in loads ≡ used_to y.engines χ = used-mapped ∙ sym (as-few χ f) in
      size-planned ∙ rw few (plain (used_to y.engines χ) y.typecount)
    where
      plain : (u k : ℕ) → 3 + (2 + 0 * k) + u * (3 + (9 + 2 * k)) ≡ 5 + u * (12 + 2 * k)
      plain u k =
          let each : 3 + (9 + 2 * k) ≡ 12 + 2 * k = omega arith in
          rw each (omega (arith, zero-mul k))

  -- it is the sheet of the records of the engines that the plan uses
  as-planned : plan_sheet (planned y) ≡ sheet_with y.typecount (records_to loads (used_engines (planned y)))
  as-planned =
      let is : loads ≡ loads_of y mapping = placed-loads y (plan_engines y) (ceilings_of y) loads (length-loads y (limits_of y keeps) can) recovered.placed in
      let neat : Neat y.engines y.typecount 1 loads = subst (Neat y.engines y.typecount 1) (sym is) (assigned-neat y keeps mapping assigns) in
      let few : used_engines (planned y) ≤ length loads = omega (arith, few-used y (limits_of y keeps) can, length-loads y (limits_of y keeps) can, (limits_of y keeps).engines) in
      gather-sheet (limits_of y keeps).typecount (neat-shaped neat)
      ∙ ap (sheet_with y.typecount) (gather-to (used_engines (planned y)) loads few (used-mapped ∙ uses) (λ i h. ap (λ (l : EngineLoad). holds_none l.counts) (idle-load y i h) ∙ idle-none))

  -- the check finds it right, and told no fewer
  right-planned : (other : Lent) → LongEnough y other → check_outcome (opened y) (plan_sheet (planned y)) other ≡ right false
  right-planned other long =
      let is = sheet-of y keeps (plan_sheet (planned y)) mapping on-fewest-engines.good sheet-mapped in
      let none = no-fewer (fewer_do y (plan_sheet (planned y))) (fewer-out y keeps (plan_sheet (planned y)) mapping is).0 in
      right_of y (plan_sheet (planned y)) other keeps long (sheet-passed y keeps (plan_sheet (planned y)) mapping is) ∙ ap right none
    where
      no-fewer : (b : Bool) → (b ≡ true → (χ : Assignment) × GoodForAll y χ × (used_to y.engines χ < get_or (plan_sheet (planned y)) 3 0)) → b ≡ false
      no-fewer false h = refl
      no-fewer true h =
          let (χ, good, less) = h refl in
          let said : get_or (plan_sheet (planned y)) 3 0 ≡ used_to y.engines mapping = ap (λ (s : List ℕ). get_or s 3 0) sheet-mapped in
          absurd (omega (arith, less, said, on-fewest-engines.fewest χ good))

-- intermediate: what is written where a system is planned, by whether the buffer is too short

module _ (y : System) (buffer : List ℕ) where
  abbrev short : Bool
  short = ltb (length buffer) (length (plan_sheet (planned y)))

  abbrev said : Bool → Outcome
  said b = cond b (refused from_input 30) (accepted (length (plan_sheet (planned y)) ∷ []))

  outcome-by : (b : Bool) → short ≡ b → write_outcome (planned y) (length buffer) ≡ said b
  unfolding write_outcome
  outcome-by b q = rw q

  buffer-by : (b : Bool) → short ≡ b → written_to (planned y) buffer ≡ cond b buffer (plan_sheet (planned y) ++ drop (length (plan_sheet (planned y))) buffer)
  unfolding written_to
  buffer-by b q = rw q

  -- 30, and nothing else that refuses
  is-30 : (s : Source) (n : ℕ) → write_outcome (planned y) (length buffer) ≡ refused s n → (short ≡ true) × (n ≡ 30)
  is-30 s n o = go short refl (sym (outcome-by short refl) ∙ o)
    where
      go : (b : Bool) → short ≡ b → said b ≡ refused s n → (short ≡ true) × (n ≡ 30)
      go true q o = (q, (cc))
      go false q o = let z : ◌≡◌ {A = ℕ} 0 1 = cc in absurd (omega arith)

  is-written : (n : ℕ) → write_outcome (planned y) (length buffer) ≡ accepted (n ∷ []) → (short ≡ false) × (n ≡ length (plan_sheet (planned y)))
  is-written n o = go short refl (sym (outcome-by short refl) ∙ o)
    where
      go : (b : Bool) → short ≡ b → said b ≡ accepted (n ∷ []) → (short ≡ false) × (n ≡ length (plan_sheet (planned y)))
      go true q o = let z : ◌≡◌ {A = ℕ} 0 1 = cc in absurd (omega arith)
      go false q o = (q, (cc))

-- main: a file that opens, by the planner's cases; a list of 16 records is never too small

-- what is written where the answer is a number: the sheet of the plan
record Planned (y : System) (buffer : List ℕ) (v : Verdict) (n : ℕ) : Type 0 where
  pub placeable : can_place y ≡ true
  pub size : n ≡ length (plan_sheet (planned y))
  pub bytes : written_to v buffer ≡ plan_sheet (planned y) ++ drop n buffer

module _ (y : System) (keeps : keeps_limits y ≡ true) (table : Lent) (buffer : List ℕ) where
  then-table : {v : Verdict} {after : Lent} → Case y table engine_limit v after → (write_outcome v (length buffer) ≡ refused from_input 11) ↔ TooShort y table
  unfolding write_outcome
  then-table (too_short less) = (λ o. less, λ h. refl)
  then-table (too_small long small) = absurd (omega (arith, small, (limits_of y keeps).engines))
  then-table (no_place long enough none) = (λ o. (let z : ◌≡◌ {A = ℕ} 12 11 = cc in absurd (omega arith)), λ h. absurd (not_short y table long h))
  then-table (is_planned long enough can) = (λ o. absurd (omega (arith, (is-30 y buffer from_input 11 o).1)), λ h. absurd (not_short y table long h))

  then-place : {v : Verdict} {after : Lent} → Case y table engine_limit v after → LongEnough y table → (write_outcome v (length buffer) ≡ refused from_input 12) ↔ Impossible y (EngineOf y) (ceiling_no y)
  unfolding write_outcome
  then-place (too_short less) room = absurd (not_short y table room less)
  then-place (too_small long small) room = absurd (omega (arith, small, (limits_of y keeps).engines))
  then-place (no_place long enough none) room = (λ o. none, λ h. refl)
  then-place (is_planned long enough can) room = (λ o. absurd (omega (arith, (is-30 y buffer from_input 12 o).1)), λ none. absurd (none _ (on-fewest-engines y keeps can).good))

  module _ (χ : Assignment) (f : GoodOnFewest y χ) where
    then-room : {v : Verdict} {after : Lent} → Case y table engine_limit v after → LongEnough y table → (write_outcome v (length buffer) ≡ refused from_input 30) ↔ (length buffer < size_for y χ)
    then-room (too_short less) room = absurd (not_short y table room less)
    then-room (too_small long small) room = absurd (omega (arith, small, (limits_of y keeps).engines))
    then-room (no_place long enough none) room = absurd (none χ f.good)
    then-room (is_planned long enough can) room = (
      (λ o. rw (← (size-out y keeps can χ f)) (ltb-true (length buffer) (length (plan_sheet (planned y))) (is-30 y buffer from_input 30 o).0)),
      (λ h. outcome-by y buffer true (lt-ltb (length buffer) (length (plan_sheet (planned y))) (rw (size-out y keeps can χ f) h))),
    )

    or-written : {v : Verdict} {after : Lent} → Case y table engine_limit v after → LongEnough y table → size_for y χ ≤ length buffer → write_outcome v (length buffer) ≡ accepted (size_for y χ ∷ [])
    or-written (too_short less) room h = absurd (not_short y table room less)
    or-written (too_small long small) room h = absurd (omega (arith, small, (limits_of y keeps).engines))
    or-written (no_place long enough none) room h = absurd (none χ f.good)
    or-written (is_planned long enough can) room h =
        outcome-by y buffer false (le-ltb (length buffer) (length (plan_sheet (planned y))) (rw (size-out y keeps can χ f) h))
        ∙ ap (λ (n : ℕ). accepted (n ∷ [])) (size-out y keeps can χ f)

  table-lent : {v : Verdict} {after : Lent} → Case y table engine_limit v after → (s : Source) (n : ℕ) → write_outcome v (length buffer) ≡ refused s n → (n ≡ 12 → ⊥) → (n ≡ 30 → ⊥) → after ≡ table
  unfolding write_outcome
  table-lent (too_short less) s n o not12 not30 = refl
  table-lent (too_small long small) s n o not12 not30 = refl
  table-lent (no_place long enough none) s n o not12 not30 = absurd (not12 (cc))
  table-lent (is_planned long enough can) s n o not12 not30 = absurd (not30 (is-30 y buffer s n o).1)

  table_filled_lem : {v : Verdict} {after : Lent} → Case y table engine_limit v after → LongEnough y table → FilledMeans y y.engines table after
  table_filled_lem (too_short less) room = absurd (not_short y table room less)
  table_filled_lem (too_small long small) room = absurd (omega (arith, small, (limits_of y keeps).engines))
  table_filled_lem (no_place long enough none) room = plan-fills y (limits_of y keeps) table long
  table_filled_lem (is_planned long enough can) room = plan-fills y (limits_of y keeps) table long

  planned-on : {v : Verdict} {after : Lent} → Case y table engine_limit v after → (n : ℕ) → write_outcome v (length buffer) ≡ accepted (n ∷ []) → Planned y buffer v n
  unfolding write_outcome
  planned-on (too_short less) n o = let z : ◌≡◌ {A = ℕ} 0 1 = cc in absurd (omega arith)
  planned-on (too_small long small) n o = let z : ◌≡◌ {A = ℕ} 0 1 = cc in absurd (omega arith)
  planned-on (no_place long enough none) n o = let z : ◌≡◌ {A = ℕ} 0 1 = cc in absurd (omega arith)
  planned-on (is_planned long enough can) n o =
      let w = is-written y buffer n o in
      record { placeable = can; size = w.1; bytes = buffer-by y buffer false w.0 ∙ ap (λ (m : ℕ). plan_sheet (planned y) ++ drop m buffer) (sym w.1) }

  sheet-written : {v : Verdict} (n : ℕ) → Planned y buffer v n → SheetWritten y n buffer (written_to v buffer)
  sheet-written n p = record {
    mapping = mapping y keeps p.placeable;
    on_fewest = on-fewest-engines y keeps p.placeable;
    size = p.size ∙ ap length (sheet-mapped y keeps p.placeable);
    bytes = p.bytes ∙ ap (λ (s : List ℕ). s ++ drop n buffer) (sheet-mapped y keeps p.placeable);
  }

  front-written : {v : Verdict} (n : ℕ) → Planned y buffer v n → take n (written_to v buffer) ≡ plan_sheet (planned y)
  front-written n p = ap (take n) p.bytes ∙ rw p.size (take-append_seam (plan_sheet (planned y)) (drop (length (plan_sheet (planned y))) buffer))

  right-written : {v : Verdict} (n : ℕ) → Planned y buffer v n → (other : Lent) → LongEnough y other → check_outcome (opened y) (take n (written_to v buffer)) other ≡ right false
  right-written n p other long = rw (front-written n p) (right-planned y keeps p.placeable other long)

-- main: the plan that is given for a file that opens, over any table, and the sheet that is written

plan-is : {y : System} {table : Lent} {room : ℕ} {v : Verdict} {after : Lent} → Case y table room v after → (used : ℕ) → plan_outcome v ≡ accepted (used ∷ []) → (v ≡ planned y) × (used_engines (planned y) ≡ used)
plan-is (too_short less) used o = let z : ◌≡◌ {A = ℕ} 0 1 = cc in absurd (omega arith)
plan-is (too_small long small) used o = let z : ◌≡◌ {A = ℕ} 0 1 = cc in absurd (omega arith)
plan-is (no_place long enough none) used o = let z : ◌≡◌ {A = ℕ} 0 1 = cc in absurd (omega arith)
plan-is (is_planned long enough can) used o = (refl, (cc))

pub of-plan : (y : System) → keeps_limits y ≡ true → can_place y ≡ true → OfPlan (opened y) (plan_sheet (planned y))
of-plan y keeps can y' p table room after used e q o =
    let is = plan-is (case_of y (limits_of y keeps) table room) used (sym q.answers ∙ o) in
    let same : y ≡ y' = cc in
    let types : y.typecount ≡ y'.typecount = ap (λ (z : System). z.typecount) same in
    let placed : plan_loads (planned y) ≡ p.loads = sym (q.places ∙ ap plan_loads is.0) in
    let count : used_engines (planned y) ≡ used = is.1 in
    as-planned y keeps can ∙ (λ i. sheet_with (types i) (records_to (placed i) (count i)))

plan-written : (y : System) → keeps_limits y ≡ true → (table : Lent) (buffer : List ℕ) {v : Verdict} (n : ℕ) → Planned y buffer v n → OfPlan (opened y) (take n (written_to v buffer))
plan-written y keeps table buffer n p = subst (OfPlan (opened y)) (sym (front-written y keeps table buffer n p)) (of-plan y keeps p.placeable)

-- main: any file

-- the answer, the table and the buffer are those that are defined
pub record Writes (x : Reading) (table : Lent) (buffer : List ℕ) (r : Answer) (table_after : Lent) (buffer_after : List ℕ) : Type 0 where
  pub answer : outcome_of r ≡ write_outcome (sheet_verdict x table) (length buffer)
  pub table-left : table_after ≡ write_table x table
  pub buffer-left : buffer_after ≡ written_to (sheet_verdict x table) buffer

-- a refusal leaves the buffer alone
buffer_lent : (v : Verdict) (buffer : List ℕ) (s : Source) (n : ℕ) → write_outcome v (length buffer) ≡ refused s n → written_to v buffer ≡ buffer
unfolding written_to
buffer_lent (unplanned t k) buffer s n o = refl
buffer_lent (planned y) buffer s n o = buffer-by y buffer true (is-30 y buffer s n o).0

module _ (table : Lent) (buffer : List ℕ) where
  file-first : (x : Reading) (n : ℕ) → x ≡ unread n → write_outcome (sheet_verdict x table) (length buffer) ≡ refused from_input n
  unfolding write_outcome verdict_of
  file-first x n e = rw e

  lent_back : (x : Reading) → ((y : System) → x ≡ opened y → keeps_limits y ≡ true) → (s : Source) (n : ℕ) → write_outcome (sheet_verdict x table) (length buffer) ≡ refused s n → (n ≡ 12 → ⊥) → (n ≡ 30 → ⊥)
      → write_table x table ≡ table
  lent_back (unread k) known s n o not12 not30 = refl
  lent_back (opened y) known s n o not12 not30 = table-lent y (known y refl) table buffer (case_of y (limits_of y (known y refl)) table engine_limit) s n o not12 not30

pub promises-written : (file : List ℕ) (table : Lent) (buffer : List ℕ) (r : Answer) (table_after : Lent) (buffer_after : List ℕ) → Writes (read_file file) table buffer r table_after buffer_after → WriteSheetPromises (read_file file) table buffer r table_after buffer_after
promises-written file table buffer r table_after buffer_after p = record {
  answers = p.answer;
  leaves_table = p.table-left;
  leaves_buffer = p.buffer-left;
  order = rw p.answer in_order;
  as_lent = λ s n o. p.buffer-left ∙ buffer_lent (sheet_verdict x table) buffer s n (sym p.answer ∙ o);
  table_as_lent = λ s n o not12 not30. p.table-left ∙ lent_back table buffer x known s n (sym p.answer ∙ o) not12 not30;
  unread_lent = λ n e. rw (p.table-left, e) refl;
  table_filled = λ y e. rw (p.table-left, e) (table_filled_lem y (known y e) table buffer (the-case y e));
  writes = λ y n e o. rw (p.buffer-left, e) (sheet-written y (known y e) table buffer n (the-plan y n e (sym p.answer ∙ o)));
  is_right = λ y n other e o long. rw (p.buffer-left, e) (right-written y (known y e) table buffer n (the-plan y n e (sym p.answer ∙ o)) other long);
  same_plan = λ n o y plan other room after used e. rw (p.buffer-left, e) (plan-written y (known y e) table buffer n (the-plan y n e (sym p.answer ∙ o)) y plan other room after used refl);
}
  where
    x : Reading
    x = read_file file

    known : (y : System) → x ≡ opened y → keeps_limits y ≡ true
    known y e = read-keeps-limits file y e

    the-case : (y : System) → x ≡ opened y → Case y table engine_limit (verdict_of (opened y) table engine_limit) (plan_table (opened y) table engine_limit)
    the-case y e = case_of y (limits_of y (known y e)) table engine_limit

    the-plan : (y : System) (n : ℕ) → (e : x ≡ opened y) → write_outcome (sheet_verdict x table) (length buffer) ≡ accepted (n ∷ []) → Planned y buffer (sheet_verdict (opened y) table) n
    the-plan y n e o = planned-on y (known y e) table buffer (the-case y e) n (rw e at o)

    in_order : SheetsInOrder x table buffer (write_outcome (sheet_verdict x table) (length buffer))
    in_order = record {
      file_first = file-first table buffer x;
      then_table = λ y e. rw e (then-table y (known y e) table buffer (the-case y e));
      then_place = λ y e. rw e (then-place y (known y e) table buffer (the-case y e));
      then_room = λ y e room χ f. rw e (then-room y (known y e) table buffer χ f (the-case y e) room);
      or_written = λ y e room χ f. rw e (or-written y (known y e) table buffer χ f (the-case y e) room);
    }

-- main: the three exits, from what the plan promises

-- a plan that is refused is the answer
refused_as : (v : Verdict) (answer : Answer) (buffer : List ℕ) → outcome_of answer ≡ plan_outcome v → ((n : ℕ) → answer ≡ Ok (Some n) → ⊥) → (outcome_of answer ≡ write_outcome v (length buffer)) × (buffer ≡ written_to v buffer)
unfolding write_outcome written_to
refused_as (unplanned s n) answer buffer o not = (o, refl)
refused_as (planned y) (Ok None) buffer o not = let z : ◌≡◌ {A = ℕ} 0 1 = cc in absurd (omega arith)
refused_as (planned y) (Ok (Some n)) buffer o not = absurd (not n refl)
refused_as (planned y) (Err (Input n)) buffer o not = let z : ◌≡◌ {A = ℕ} 0 1 = cc in absurd (omega arith)
refused_as (planned y) (Err (State n)) buffer o not = let z : ◌≡◌ {A = ℕ} 0 1 = cc in absurd (omega arith)

-- a verdict with a number is that of the system that the file opens as, and can be placed
pub record Given (x : Reading) (v : Verdict) : Type 0 where
  pub system : System
  pub opens : x ≡ opened system
  pub same : v ≡ planned system
  pub placeable : can_place system ≡ true

module _ (table : Lent) (used : ℕ) where
  given-case : {y : System} {v : Verdict} {after : Lent} → Case y table engine_limit v after → plan_outcome v ≡ accepted (used ∷ []) → Given (opened y) v
  given-case (too_short less) o = let z : ◌≡◌ {A = ℕ} 0 1 = cc in absurd (omega arith)
  given-case (too_small long small) o = let z : ◌≡◌ {A = ℕ} 0 1 = cc in absurd (omega arith)
  given-case (no_place long enough none) o = let z : ◌≡◌ {A = ℕ} 0 1 = cc in absurd (omega arith)
  given-case {y = y} (is_planned long enough can) o = record { system = y; opens = refl; same = refl; placeable = can }

  given-of : (x : Reading) → ((y : System) → x ≡ opened y → keeps_limits y ≡ true) → plan_outcome (sheet_verdict x table) ≡ accepted (used ∷ []) → Given x (sheet_verdict x table)
  unfolding verdict_of
  given-of (unread n) known o = let z : ◌≡◌ {A = ℕ} 0 1 = cc in absurd (omega arith)
  given-of (opened y) known o = given-case (case_of y (limits_of y (known y refl)) table engine_limit) o

module _ (file : List ℕ) (table : Lent) (buffer : List ℕ) (r : Plan) (after : Lent) (p : PlanPromises (read_file file) table engine_limit r after) where
  abbrev v : Verdict
  v = sheet_verdict (read_file file) table

  pub promised-refusal : ((n : ℕ) → r.answer ≡ Ok (Some n) → ⊥) → WriteSheetPromises (read_file file) table buffer r.answer after buffer
  promised-refusal not =
      let both = refused_as v r.answer buffer p.answers not in
      promises-written file table buffer r.answer after buffer (record { answer = both.0; table-left = p.leaves_table; buffer-left = both.1 })

  module _ (used : ℕ) (is : r.answer ≡ Ok (Some used)) where
    given : Given (read_file file) v
    given = given-of table used (read_file file) (λ y e. read-keeps-limits file y e) (sym p.answers ∙ ap outcome_of is)

    keeps : keeps_limits given.system ≡ true
    keeps = read-keeps-limits file given.system given.opens

    types : r.typecount ≡ given.system.typecount
    types = p.counts ∙ ap planned_types given.same

    placed : r.loads ≡ plan_loads (planned given.system)
    placed = p.places ∙ ap plan_loads given.same

    pub types-few : r.typecount ≤ type_limit
    types-few = rw types (limits_of given.system keeps).typecount

    -- the bytes and their number
    bytes-are : sheet_bytes r.typecount r.loads ≡ plan_sheet (planned given.system)
    bytes-are = ap₂ sheet_bytes types placed

    size_is : sheet_size r.typecount r.loads ≡ length (plan_sheet (planned given.system))
    size_is = ap₂ (λ (k : ℕ) (ls : List EngineLoad). sheet_size k ls) types placed ∙ sym (size-planned given.system keeps given.placeable)

    pub promised-short : length buffer < sheet_size r.typecount r.loads → WriteSheetPromises (read_file file) table buffer (Err (Input 30)) after buffer
    promised-short h =
        let yes-short = lt-ltb (length buffer) (length (plan_sheet (planned given.system))) (rw (← size_is) h) in
        promises-written file table buffer (Err (Input 30)) after buffer (record {
          answer = rw given.same (sym (outcome-by given.system buffer true yes-short));
          table-left = p.leaves_table;
          buffer-left = rw given.same (sym (buffer-by given.system buffer true yes-short));
        })

    pub promised-sheet : (n : ℕ) (new : List ℕ) → sheet_size r.typecount r.loads ≤ length buffer → Puts (sheet_bytes r.typecount r.loads) 0 buffer new n → WriteSheetPromises (read_file file) table buffer (Ok (Some n)) after new
    promised-sheet n new h puts =
        let sheet = plan_sheet (planned given.system) in
        let start : 0 + length sheet ≡ length sheet = zero-add (length sheet) in
        let fits = le-ltb (length buffer) (length sheet) (rw (← size_is) h) in
        let put = rw bytes-are at puts in
        promises-written file table buffer (Ok (Some n)) after new (record {
          answer = ap (λ (m : ℕ). accepted (m ∷ [])) (put.next ∙ start) ∙ rw given.same (sym (outcome-by given.system buffer false fits));
          table-left = p.leaves_table;
          buffer-left = put.left ∙ ap (λ (m : ℕ). sheet ++ drop m buffer) start ∙ rw given.same (sym (buffer-by given.system buffer false fits));
        })

-- What `sheet_of` writes is the sheet of the plan or the line of a refusal, and what a reader finds in it.
use Rattle.std.proofs.Common.{Option, Ok, Err, Some, None}
use Rattle.std.specs.Option.{unwrap_or}
use Prim.Native.Nat.{ℕ, ◌≤◌}
use mathlib.Core.Path.{◌≡◌, refl, sym, ap, subst, ◌∙◌}
use mathlib.Core.List.{List, [], ◌∷◌, ◌++◌, append_cancel_right}
use mathlib.Core.Bool.{Bool, true, false, cond}
use mathlib.Core.Logic.{◌↔◌}
use native.Mathlib.Nat.{le_refl}
use native.Mathlib.Omega.{arith}
use borrow.Author.Tests.{le-ltb}
use lib.ListN.{length, get_or, take, drop, length-append}
use lib.Seq.{length-take-le}
use lib.Dec.{ltb}
use Rattle.buffer.specs.Written.{Written}
use Rattle.system.specs.declared.System.{System}
use Rattle.system.specs.Outcome.{Answer, accepted, refused, from_input, from_state, check, refusal_of}
use Rattle.system.specs.declared.Refusal.{Refusal}
use Rattle.system.specs.declared.Refusal.TheVariants.{Input, State}
use Rattle.system.specs.Limits.{engine_limit, keeps_limits}
use Rattle.system.specs.Layout.{Reading, read_file, opened, unread}
use Rattle.system.proofs.Laws.{limits_of, read-limits, read-keeps-limits, file-card}
use Rattle.system.proofs.Prefix.{read-prefix}
use Rattle.partition.specs.Assignment.{Assignment}
use Rattle.partition.specs.Lent.{Lent}
use Rattle.partition.specs.Plain.{ceiling_no, EngineOf, LongEnough, Impossible, used_to}
use Rattle.table.proofs.Room.{long-enough-out}
use Rattle.planner.specs.Demands.{PlanPromises}
use Rattle.planner.specs.Plan.{Verdict, planned, unplanned, judged, verdict_of, plan_loads}
use Rattle.planner.proofs.Cases.{can_place, on-fewest, length-loads, not_short, Case, too_short, too_small, no_place, is_planned, case_of}
use Rattle.sheets.specs.Sheet.{sheet_bytes}
use Rattle.sheets.specs.Writing.{sheet_verdict, plan_sheet, write_outcome, written_to, write_table}
use Rattle.sheets.specs.Meaning.{sheet_out, GoodForAll, SheetWritten, OfPlan, WriteSheetPromises}
use Rattle.sheets.proofs.Sizes.{sheet-room}
use Rattle.sheets.proofs.Writes.{promises-written, size-planned, of-plan}
use Rattle.listing.specs.Listing.{refusal_line}
use Rattle.listing.specs.Demands.{TellsRefusal, number_of, RefusalPromises}
use Rattle.listing.specs.Text.{reading_verdict}
use Rattle.listing.proofs.Lines.{number-told}
use Rattle.listing.proofs.Text.{LongForAll, long-for-all, verdict-alone}
use Rattle.answers.specs.Checks.{check_text, right_text}
use Rattle.answers.specs.Sheets.{verdict_sheet, sheet_text, TellsSheet, TellsPlanned, SheetPromises}
use Rattle.answers.proofs.Checked.{spare, spare-long, tells-check}

-- over a table that is long enough the verdict does not know the table
pub sheet-any-table : (file : List ℕ) (table : Lent) → LongForAll table → sheet_verdict (read_file file) table ≡ reading_verdict (read_file file)
sheet-any-table file table size =
    verdict-alone (read_file file) table (λ y e. ((long-enough-out y table (read-keeps-limits file y e)).1 (long-for-all file y table (file-card file y e).0 size), (read-limits file y e).engines))

-- intermediate: the sheet of a system that is planned, by what `write_sheet` would promise of a buffer that just holds it

module _ (file : List ℕ) (y : System) (opens : read_file file ≡ opened y) (is : sheet_verdict (read_file file) spare ≡ planned y) where
  abbrev sheet : List ℕ
  sheet = plan_sheet (planned y)

  holds : ltb (length sheet) (length sheet) ≡ false
  holds = le-ltb (length sheet) (length sheet) (le_refl (length sheet))

  outcome-is : accepted (length sheet ∷ []) ≡ write_outcome (sheet_verdict (read_file file) spare) (length sheet)
  unfolding write_outcome
  outcome-is = rw (is, holds)

  buffer-is : written_to (sheet_verdict (read_file file) spare) sheet ≡ sheet ++ drop (length sheet) sheet
  unfolding written_to
  buffer-is = rw (is, holds)

  wrote : SheetWritten y (length sheet) sheet (written_to (sheet_verdict (read_file file) spare) sheet)
  wrote =
      (promises-written file spare sheet (Ok (Some (length sheet))) (write_table (read_file file) spare) (written_to (sheet_verdict (read_file file) spare) sheet)
      (record { answer = outcome-is; table-left = refl; buffer-left = refl })
      ).writes y (length sheet) opens refl

  sheet-planned : TellsSheet y sheet
  sheet-planned = record {
    mapping = wrote.mapping;
    on_fewest = wrote.on_fewest;
    bytes = append_cancel_right sheet (sheet_out y wrote.mapping) (drop (length sheet) sheet) (sym buffer-is ∙ wrote.bytes);
  }

-- a sheet is no refusal
sheet-no-line : (y : System) (n : ℕ) → TellsRefusal n (plan_sheet (planned y)) → ⊥
unfolding sheet_bytes
sheet-no-line y n r = let z : ◌≡◌ {A = ℕ} 16 114 = ap (λ (l : List ℕ). get_or l 0 0) r.bytes in omega arith

module _ (file : List ℕ) (y : System) (opens : read_file file ≡ opened y) where
  keeps : keeps_limits y ≡ true
  keeps = read-keeps-limits file y opens

  long : LongEnough y spare
  long = long-for-all file y spare (file-card file y opens).0 spare-long

  impossible-by : {v : Verdict} {after : Lent} → Case y spare engine_limit v after → TellsRefusal 12 (verdict_sheet v) ↔ Impossible y (EngineOf y) (ceiling_no y)
  impossible-by (too_short less) = absurd (not_short y spare long less)
  impossible-by (too_small room small) = absurd (omega (arith, small, (limits_of y keeps).engines))
  impossible-by (no_place room enough none) = (λ r. none, λ h. number-told 12)
  impossible-by (is_planned room enough can) = (λ r. absurd (sheet-no-line y 12 r), λ none. absurd (none _ (on-fewest y (limits_of y keeps) can).stands.partition))

  given_by : {v : Verdict} {after : Lent} → Case y spare engine_limit v after → sheet_verdict (read_file file) spare ≡ v → (χ : Assignment) → GoodForAll y χ → TellsSheet y (verdict_sheet v)
  given_by (too_short less) is χ good = absurd (not_short y spare long less)
  given_by (too_small room small) is χ good = absurd (omega (arith, small, (limits_of y keeps).engines))
  given_by (no_place room enough none) is χ good = absurd (none χ good)
  given_by (is_planned room enough can) is χ good = sheet-planned file y opens is

  plan-by : {v : Verdict} {after : Lent} → Case y spare engine_limit v after → (χ : Assignment) → GoodForAll y χ → OfPlan (opened y) (verdict_sheet v)
  plan-by (too_short less) χ good = absurd (not_short y spare long less)
  plan-by (too_small room small) χ good = absurd (omega (arith, small, (limits_of y keeps).engines))
  plan-by (no_place room enough none) χ good = absurd (none χ good)
  plan-by (is_planned room enough can) χ good = of-plan y keeps can

tells-over : (file : List ℕ) → TellsPlanned file (verdict_sheet (sheet_verdict (read_file file) spare))
tells-over file = record {
  unreadable = λ n e. unfold verdict_of in rw e (number-told n);
  impossible = λ y e. rw e (impossible-by file y e (case_of y (read-limits file y e) spare engine_limit));
  given = λ y e χ good. rw e (given_by file y e (case_of y (read-limits file y e) spare engine_limit) (ap (λ (x : Reading). sheet_verdict x spare) e) χ good);
}

plan-over : (file : List ℕ) → OfPlan (read_file file) (verdict_sheet (sheet_verdict (read_file file) spare))
plan-over file y p table room after used e q o =
    let found = (q.demand2.given y used e o).stands in
    let same : PlanPromises (opened y) table room p after = subst (λ (x : Reading). PlanPromises x table room p after) e q in
    rw e (plan-by file y e (case_of y (read-limits file y e) spare engine_limit) found.mapping found.partition y p table room after used refl same o)

-- main: what a reader finds

pub tells-planned : (file : List ℕ) → TellsPlanned file (sheet_text file)
tells-planned file = subst (λ (v : Verdict). TellsPlanned file (verdict_sheet v)) (sheet-any-table file spare spare-long) (tells-over file)

-- it is the sheet of the plan that is given
pub same-plan : (file : List ℕ) → OfPlan (read_file file) (sheet_text file)
same-plan file = subst (λ (v : Verdict). OfPlan (read_file file) (verdict_sheet v)) (sheet-any-table file spare spare-long) (plan-over file)

-- and the check says that it is right, on the fewest engines
pub own-right : (file : List ℕ) (y : System) → read_file file ≡ opened y → (χ : Assignment) → GoodForAll y χ → check_text file (sheet_text file) ≡ right_text false
own-right file y e χ good =
    let s = (tells-planned file).given y e χ good in
    let said = ((tells-check file (sheet_text file)).exactly y e).1 (s.mapping, s.on_fewest.good, s.bytes) in
    go s said.0 said.1
  where
    go : TellsSheet y (sheet_text file) → (b : Bool) → check_text file (sheet_text file) ≡ right_text b → check_text file (sheet_text file) ≡ right_text false
    go s false is = is
    go s true is =
        let (χ', better, less) = ((tells-check file (sheet_text file)).fewer y true e is).0 refl in
        let count : get_or (sheet_text file) 3 0 ≡ used_to y.engines s.mapping = ap (λ (l : List ℕ). get_or l 3 0) s.bytes in
        absurd (omega (arith, less, count, s.on_fewest.fewest χ' better))

-- main: what the code's three exits come to

-- a sheet that is planned fits
fits : (file : List ℕ) (y : System) → reading_verdict (read_file file) ≡ planned y → length (plan_sheet (planned y)) ≤ 4096
unfolding reading_verdict
fits file y is = go (read_file file) refl is
  where
    by : (y' : System) → read_file file ≡ opened y' → (b : Bool) → can_place y' ≡ b → judged y' (check b from_input 12) ≡ planned y → length (plan_sheet (planned y)) ≤ 4096
    by y' e false can o = let z : ◌≡◌ {A = ℕ} 0 1 = cc in absurd (omega arith)
    by y' e true can o =
        let same : y' ≡ y = cc in
        let kept = read-keeps-limits file y' e in
        let small : length (plan_sheet (planned y')) ≤ 4096 = omega (arith, size-planned y' kept can, sheet-room y'.typecount (plan_loads (planned y')) (limits_of y' kept).typecount (length-loads y' (limits_of y' kept) can)) in
        subst (λ (z : System). length (plan_sheet (planned z)) ≤ 4096) same small

    go : (x : Reading) → read_file file ≡ x → reading_verdict x ≡ planned y → length (plan_sheet (planned y)) ≤ 4096
    go (unread n) e o = let z : ◌≡◌ {A = ℕ} 0 1 = cc in absurd (omega arith)
    go (opened y') e o = by y' e (can_place y') refl o

-- the answer is a number: the sheet stands at the start of the buffer
number-written : (v : Verdict) (buffer new : List ℕ) (n : ℕ) → accepted (n ∷ []) ≡ write_outcome v (length buffer) → new ≡ written_to v buffer → Written (verdict_sheet v) buffer new n
unfolding write_outcome written_to
number-written (unplanned s k) buffer new n o left = let z : ◌≡◌ {A = ℕ} 0 1 = cc in absurd (omega arith)
number-written (planned y) buffer new n o left = go (ltb (length buffer) (length sheet)) o left
  where
    sheet : List ℕ
    sheet = plan_sheet (planned y)

    go : (b : Bool) → accepted (n ∷ []) ≡ cond b (refused from_input 30) (accepted (length sheet ∷ [])) → new ≡ cond b buffer (sheet ++ drop (length sheet) buffer) → Written sheet buffer new n
    go true o left = let z : ◌≡◌ {A = ℕ} 0 1 = cc in absurd (omega arith)
    go false o left =
        let count : n ≡ length sheet = cc in
        let inside : n ≤ length new = omega (arith, ap length left, length-append sheet (drop (length sheet) buffer)) in
        record { left = left; count = count; within = (inside, sym (length-take-le n new inside)) }

-- it is a refusal: no sheet is planned, so that the line is its text
refused-written : (v : Verdict) (room : ℕ) (why : Refusal) → ((y : System) → v ≡ planned y → length (plan_sheet (planned y)) ≤ room) → refusal_of why ≡ write_outcome v room → refusal_line (number_of why) ≡ verdict_sheet v
unfolding write_outcome
refused-written (unplanned s n) room (Input k) small o = ap refusal_line (cc)
refused-written (unplanned s n) room (State k) small o = ap refusal_line (cc)
refused-written (planned y) room why small o = absurd (never why (rw (le-ltb room (length (plan_sheet (planned y))) (small y refl)) at o))
  where
    never : (w : Refusal) → refusal_of w ≡ accepted (length (plan_sheet (planned y)) ∷ []) → ⊥
    never (Input k) e = let z : ◌≡◌ {A = ℕ} 0 1 = cc in omega arith
    never (State k) e = let z : ◌≡◌ {A = ℕ} 0 1 = cc in omega arith

-- it is never a bare "accepted"
no-accepted : (v : Verdict) (room : ℕ) → accepted [] ≡ write_outcome v room → ⊥
unfolding write_outcome
no-accepted (unplanned s n) room o = let z : ◌≡◌ {A = ℕ} 0 1 = cc in omega arith
no-accepted (planned y) room o = go (ltb room (length (plan_sheet (planned y)))) o
  where
    go : (b : Bool) → accepted [] ≡ cond b (refused from_input 30) (accepted (length (plan_sheet (planned y)) ∷ [])) → ⊥
    go true o = let z : ◌≡◌ {A = ℕ} 0 1 = cc in omega arith
    go false o = let z : ◌≡◌ {A = ℕ} 0 1 = cc in omega arith

sheet-promised : (file : List ℕ) {old new : List ℕ} {r : ℕ} → Written (sheet_text file) old new r → SheetPromises file old new r
sheet-promised file w = record { written = w; tells = tells-planned file; is_right = own-right file; same_plan = same-plan file }

module _ (file : List ℕ) {table : Lent} {old : List ℕ} {answer : Answer} {after : Lent} {mid : List ℕ} (size : LongForAll table) (room : length old ≡ 4096) (p : WriteSheetPromises (read_file file) table old answer after mid) where
  same : sheet_verdict (read_file file) table ≡ reading_verdict (read_file file)
  same = sheet-any-table file table size

  number-promised : (n : ℕ) → answer ≡ Ok (Some n) → SheetPromises file old mid n
  number-promised n is =
      sheet-promised file (number-written (reading_verdict (read_file file)) old mid n
      (rw (is, same) at p.answers) (rw same at p.leaves_buffer))

  pub refusal-promised : (why : Refusal) → answer ≡ Err why → {new : List ℕ} {r : ℕ} → RefusalPromises why mid new r → SheetPromises file old new r
  refusal-promised why is q =
      let text : refusal_line (number_of why) ≡ sheet_text file = refused-written (reading_verdict (read_file file)) (length old) why (λ y e. rw room (fits file y e)) (rw (is, same) at p.answers) in
      sheet-promised file (rw (text, lent why is) at q.written)
    where
      lent : (w : Refusal) → answer ≡ Err w → mid ≡ old
      lent (Input n) e = p.as_lent from_input n (rw e)
      lent (State n) e = p.as_lent from_state n (rw e)

  never-accepted : answer ≡ (Ok None) → ⊥
  never-accepted is = no-accepted (sheet_verdict (read_file file) table) (length old) (rw is at p.answers)

  -- so an answer that is no refusal has a number
  pub size-promised : (n : Option ℕ) (d : ℕ) → answer ≡ Ok n → SheetPromises file old mid (unwrap_or n d)
  size-promised (Some n) d is = number-promised n is
  size-promised None d is = absurd (never-accepted is)

-- main: the first 384 bytes decide
pub prefix-promised : {front file old new : List ℕ} {r : ℕ} → front ≡ take 384 file → SheetPromises front old new r → SheetPromises file old new r
prefix-promised {front = front} {file = file} first p =
    let text : sheet_text front ≡ sheet_text file = ap sheet_text first ∙ ap (λ (x : Reading). verdict_sheet (reading_verdict x)) (read-prefix file) in
    sheet-promised file (rw text at p.written)

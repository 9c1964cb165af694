-- What `check_sheet` promises, from what it answers and leaves by definition: one verdict over the four tests, and what each test means.
use Rattle.std.proofs.Common.{Result}
use Rattle.system.specs.declared.Refusal.{Refusal}
use Prim.Native.Nat.{ℕ, ◌<◌}
use mathlib.Core.Path.{◌≡◌, refl, sym, ◌∙◌}
use mathlib.Core.List.{List}
use mathlib.Core.Bool.{Bool, true, false}
use mathlib.Core.Logic.{◌↔◌}
use native.Mathlib.Omega.{arith}
use lib.ListN.{get_or}
use Rattle.system.specs.declared.System.{System}
use Rattle.system.specs.Limits.{keeps_limits}
use Rattle.system.specs.Layout.{Reading, read_file, opened, unread}
use Rattle.system.specs.Outcome.{Source, from_input, Checked, check, and_then}
use Rattle.system.proofs.Laws.{limits_of, read-keeps-limits}
use Rattle.partition.specs.Assignment.{Assignment}
use Rattle.partition.specs.Lent.{Lent}
use Rattle.partition.specs.Plain.{LongEnough, TooShort, used_to}
use Rattle.partition.proofs.Lists.{not-both}
use Rattle.table.specs.Table.{long_enough, filled}
use Rattle.table.specs.Meaning.{FilledMeans}
use Rattle.table.proofs.Room.{too-short-out}
use Rattle.planner.specs.declared.EngineRecord.{EngineRecord}
use Rattle.planner.specs.Plan.{plan_engines, table_left}
use Rattle.planner.proofs.Cases.{long-out, long-back, plan-fills}
use Rattle.sheets.specs.Checking.{laid_out, summed_up, added_up, SheetOutcome, right, wrong, sheet_outcome_of, records_check, stated_loads, sheet_check, fewer_do, judged_sheet, check_outcome, check_table}
use Rattle.sheets.specs.Meaning.{sheet_out, GoodForAll, Stated, Each, SumsAndFit, AddUp, ChecksInOrder, CheckPromises}
use Rattle.sheets.proofs.Stated.{gather}
use Rattle.sheets.proofs.Assigned.{assigns-good}
use Rattle.sheets.proofs.Right.{stated-layout, stated-sums, stated-totals, layout-stated, Passed, passed-sheet, sheet-of, sheet-passed, fewer-out}

-- intermediate: the verdict over the tests of 11, 32, 33 and 34

abbrev checks : Bool → Bool → Bool → Bool → Checked
checks l a b c = and_then (check l from_input 11) (and_then (check a from_input 32) (and_then (check b from_input 33) (check c from_input 34)))

abbrev verdict : Bool → Bool → Bool → Bool → Bool → SheetOutcome
verdict l a b c fewer = judged_sheet (checks l a b c) fewer

module _ (b c f : Bool) where
  says-11 : (l a : Bool) → (verdict l a b c f ≡ wrong from_input 11) ↔ (l ≡ false)
  says-11 false a = ((λ o. refl), (λ q. refl))
  says-11 true a = ((λ o. absurd (other a b c o)), (λ q. absurd (not-both refl q)))
    where
      other : (a b c : Bool) → verdict true a b c f ≡ wrong from_input 11 → ⊥
      other false b c o = let z : ◌≡◌ {A = ℕ} 32 11 = cc in omega arith
      other true false c o = let z : ◌≡◌ {A = ℕ} 33 11 = cc in omega arith
      other true true false o = let z : ◌≡◌ {A = ℕ} 34 11 = cc in omega arith
      other true true true o = let z : ◌≡◌ {A = ℕ} 0 1 = cc in omega arith

  says-32 : (a : Bool) → (verdict true a b c f ≡ wrong from_input 32) ↔ (a ≡ false)
  says-32 false = ((λ o. refl), (λ q. refl))
  says-32 true = ((λ o. absurd (other b c o)), (λ q. absurd (not-both refl q)))
    where
      other : (b c : Bool) → verdict true true b c f ≡ wrong from_input 32 → ⊥
      other false c o = let z : ◌≡◌ {A = ℕ} 33 32 = cc in omega arith
      other true false o = let z : ◌≡◌ {A = ℕ} 34 32 = cc in omega arith
      other true true o = let z : ◌≡◌ {A = ℕ} 0 1 = cc in omega arith

says-33 : (b c f : Bool) → (verdict true true b c f ≡ wrong from_input 33) ↔ (b ≡ false)
says-33 false c f = ((λ o. refl), (λ q. refl))
says-33 true c f = ((λ o. absurd (other c o)), (λ q. absurd (not-both refl q)))
  where
    other : (c : Bool) → verdict true true true c f ≡ wrong from_input 33 → ⊥
    other false o = let z : ◌≡◌ {A = ℕ} 34 33 = cc in omega arith
    other true o = let z : ◌≡◌ {A = ℕ} 0 1 = cc in omega arith

says-34 : (c f : Bool) → (verdict true true true c f ≡ wrong from_input 34) ↔ (c ≡ false)
says-34 false f = ((λ o. refl), (λ q. refl))
says-34 true f = ((λ o. let z : ◌≡◌ {A = ℕ} 0 1 = cc in absurd (omega arith)), (λ q. absurd (not-both refl q)))

says-right : (l a b c f g : Bool) → verdict l a b c f ≡ right g → (l ≡ true) × (a ≡ true) × (b ≡ true) × (c ≡ true) × (f ≡ g)
says-right false a b c f g o = let z : ◌≡◌ {A = ℕ} 0 1 = cc in absurd (omega arith)
says-right true false b c f g o = let z : ◌≡◌ {A = ℕ} 0 1 = cc in absurd (omega arith)
says-right true true false c f g o = let z : ◌≡◌ {A = ℕ} 0 1 = cc in absurd (omega arith)
says-right true true true false f g o = let z : ◌≡◌ {A = ℕ} 0 1 = cc in absurd (omega arith)
says-right true true true true f g o = (refl, refl, refl, refl, cc)

left_by : (l a b c f : Bool) (s : Source) (n : ℕ) (table done : Lent) → verdict l a b c f ≡ wrong s n → table_left (checks l a b c) table done ≡ table
left_by false a b c f s n table done o = refl
left_by true false b c f s n table done o = refl
left_by true true false c f s n table done o = refl
left_by true true true false f s n table done o = refl
left_by true true true true f s n table done o = let z : ◌≡◌ {A = ℕ} 0 1 = cc in absurd (omega arith)

-- not true is false
no_true : (b : Bool) → (b ≡ true → ⊥) → b ≡ false
no_true true h = absurd (h refl)
no_true false h = refl

-- main: a file that opens

module _ (y : System) (sheet : List ℕ) (table : Lent) where
  abbrev long : Bool
  long = long_enough y table

  abbrev layout : Bool
  layout = laid_out y.typecount sheet (stated_loads y sheet)

  abbrev sums : Bool
  sums = summed_up y (stated_loads y sheet)

  abbrev totals : Bool
  totals = added_up y (stated_loads y sheet)

  outcome-is : check_outcome (opened y) sheet table ≡ verdict long layout sums totals (fewer_do y sheet)
  unfolding sheet_check records_check
  outcome-is = refl

  table_is : check_table (opened y) sheet table ≡ table_left (checks long layout sums totals) table (filled y (plan_engines y) table)
  unfolding sheet_check records_check
  table_is = refl

  abbrev o : SheetOutcome
  o = check_outcome (opened y) sheet table

  module _ (keeps : keeps_limits y ≡ true) where
    then-table : (o ≡ wrong from_input 11) ↔ TooShort y table
    then-table =
        let said = says-11 sums totals (fewer_do y sheet) long layout in
        ((λ e. (too-short-out y table keeps).0 (said.0 (sym outcome-is ∙ e))), (λ h. outcome-is ∙ said.1 ((too-short-out y table keeps).1 h)))

    module _ (room : LongEnough y table) where
      is-long : long ≡ true
      is-long = long-back y (limits_of y keeps) table room

      then-layout : (o ≡ wrong from_input 32) ↔ ((rs : List EngineRecord) → Stated y sheet rs → ⊥)
      then-layout =
          let said = says-32 sums totals (fewer_do y sheet) layout in (
            (λ e rs st. not-both (stated-layout y keeps sheet rs st) (said.0 (sym (outcome-is ∙ rw is-long) ∙ e))),
            (λ h. outcome-is ∙ rw is-long (said.1 (no_true layout (λ q. h (gather 1 (stated_loads y sheet)) (layout-stated y keeps sheet q))))),
          )

      or-stated : (o ≡ wrong from_input 32 → ⊥) → (rs : List EngineRecord) × Stated y sheet rs
      or-stated h = go layout refl
        where
          go : (b : Bool) → layout ≡ b → (rs : List EngineRecord) × Stated y sheet rs
          go true q = (gather 1 (stated_loads y sheet), layout-stated y keeps sheet q)
          go false q = absurd (h (outcome-is ∙ rw is-long ((says-32 sums totals (fewer_do y sheet) layout).1 q)))

      module _ (rs : List EngineRecord) (st : Stated y sheet rs) where
        is-laid : layout ≡ true
        is-laid = stated-layout y keeps sheet rs st

        then-sums : (o ≡ wrong from_input 33) ↔ (Each (SumsAndFit y) rs → ⊥)
        then-sums =
            let said = says-33 sums totals (fewer_do y sheet) in (
              (λ e all. not-both ((stated-sums y keeps sheet rs st).1 all) (said.0 (sym (outcome-is ∙ rw (is-long, is-laid)) ∙ e))),
              (λ h. outcome-is ∙ rw (is-long, is-laid) (said.1 (no_true sums (λ q. h ((stated-sums y keeps sheet rs st).0 q))))),
            )

        module _ (all : Each (SumsAndFit y) rs) where
          is-summed : sums ≡ true
          is-summed = (stated-sums y keeps sheet rs st).1 all

          then-totals : (o ≡ wrong from_input 34) ↔ (AddUp y rs → ⊥)
          then-totals =
              let said = says-34 totals (fewer_do y sheet) in (
                (λ e up. not-both ((stated-totals y keeps sheet rs st).1 up) (said.0 (sym (outcome-is ∙ rw (is-long, is-laid, is-summed)) ∙ e))),
                (λ h. outcome-is ∙ rw (is-long, is-laid, is-summed) (said.1 (no_true totals (λ q. h ((stated-totals y keeps sheet rs st).0 q))))),
              )

          or_right_lem : AddUp y rs → (fewer : Bool) × (o ≡ right fewer)
          or_right_lem up = (fewer_do y sheet, outcome-is ∙ rw (is-long, is-laid, is-summed, (stated-totals y keeps sheet rs st).1 up))

      pub right_of : Passed y keeps sheet → o ≡ right (fewer_do y sheet)
      right_of p = outcome-is ∙ rw (is-long, p.layout, p.sums, p.totals)

    passed-of : (told : Bool) → o ≡ right told → (LongEnough y table) × Passed y keeps sheet × (fewer_do y sheet ≡ told)
    passed-of told e =
        let p = says-right long layout sums totals (fewer_do y sheet) told (sym outcome-is ∙ e) in
        (long-out y (limits_of y keeps) table p.0, record { layout = p.1; sums = p.2; totals = p.3 }, p.4)

    exactly : LongEnough y table → ((fewer : Bool) × (o ≡ right fewer)) ↔ ((χ : Assignment) × GoodForAll y χ × (sheet ≡ sheet_out y χ))
    exactly room = (there, back)
      where
        there : (fewer : Bool) × (o ≡ right fewer) → (χ : Assignment) × GoodForAll y χ × (sheet ≡ sheet_out y χ)
        there (told, e) =
            let (χ, s) = passed-sheet y keeps sheet (passed-of told e).1 in
            (χ, assigns-good y (limits_of y keeps) χ s.assigns, s.bytes)

        back : (χ : Assignment) × GoodForAll y χ × (sheet ≡ sheet_out y χ) → (fewer : Bool) × (o ≡ right fewer)
        back (χ, good, is) = (fewer_do y sheet, right_of room (sheet-passed y keeps sheet χ (sheet-of y keeps sheet χ good is)))

    fewer-told : (told : Bool) → o ≡ right told → (told ≡ true) ↔ ((χ : Assignment) × GoodForAll y χ × (used_to y.engines χ < get_or sheet 3 0))
    fewer-told told e =
        let p = passed-of told e in
        let (χ, s) = passed-sheet y keeps sheet p.1 in
        rw (← p.2) (fewer-out y keeps sheet χ s)

    filled_on : (told : Bool) → o ≡ right told → FilledMeans y y.engines table (check_table (opened y) sheet table)
    filled_on told e =
        let p = passed-of told e in
        let all = p.1 in
        rw (table_is, is-long p.0, all.layout, all.sums, all.totals) (plan-fills y (limits_of y keeps) table p.0)

-- main: any file

-- the answer and the table are those that are defined
pub record Checks (x : Reading) (sheet : List ℕ) (table : Lent) (r : Result Bool Refusal) (after : Lent) : Type 0 where
  pub answer : sheet_outcome_of r ≡ check_outcome x sheet table
  pub left : after ≡ check_table x sheet table

module _ (sheet : List ℕ) (table : Lent) where
  lent_back : (x : Reading) (s : Source) (n : ℕ) → check_outcome x sheet table ≡ wrong s n → check_table x sheet table ≡ table
  lent_back (unread k) s n e = refl
  lent_back (opened y) s n e =
      table_is y sheet table ∙ left_by (long y sheet table) (layout y sheet table) (sums y sheet table) (totals y sheet table) (fewer_do y sheet) s n table (filled y (plan_engines y) table) (sym (outcome-is y sheet table) ∙ e)

  pub order-kept : (x : Reading) → ((y : System) → x ≡ opened y → keeps_limits y ≡ true) → ChecksInOrder x sheet table (check_outcome x sheet table)
  order-kept x known = record {
    file_first = λ n e. rw e;
    then_table = λ y e. rw e (then-table y sheet table (known y e));
    then_layout = λ y e. rw e (then-layout y sheet table (known y e));
    or_stated = λ y e. rw e (or-stated y sheet table (known y e));
    then_sums = λ y e. rw e (then-sums y sheet table (known y e));
    then_totals = λ y e. rw e (then-totals y sheet table (known y e));
    or_right = λ y e. rw e (or_right_lem y sheet table (known y e));
  }

pub promises-of : (file sheet : List ℕ) (table : Lent) (r : Result Bool Refusal) (after : Lent) → Checks (read_file file) sheet table r after → CheckPromises (read_file file) sheet table r after
promises-of file sheet table r after p = record {
  answers = p.answer;
  leaves_table = p.left;
  order = rw p.answer (order-kept sheet table (read_file file) known);
  exactly = λ y e. rw (p.answer, e) (exactly y sheet table (known y e));
  fewer = λ y told e. rw (p.answer, e) (fewer-told y sheet table (known y e) told);
  as_lent = λ s n e. p.left ∙ lent_back sheet table (read_file file) s n (sym p.answer ∙ e);
  filled_on_right = λ y told e. rw (p.answer, p.left, e) (filled_on y sheet table (known y e) told);
}
  where
    known : (y : System) → read_file file ≡ opened y → keeps_limits y ≡ true
    known y e = read-keeps-limits file y e

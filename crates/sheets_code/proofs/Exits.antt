-- One law for each way in which a check ends: what the code hands out there is what the check is defined as.
use Rattle.std.proofs.Common.{None, Some, Ok, Err}
use Prim.Native.Nat.{ℕ}
use mathlib.Core.Path.{◌≡◌, refl, sym, ap, ◌∙◌}
use mathlib.Core.List.{List}
use mathlib.Core.Bool.{Bool, true, false≢true}
use native.Mathlib.Omega.{arith}
use lib.Dec.{ltb}
use Rattle.system.specs.declared.System.{System}
use Rattle.system.specs.declared.Opened.{Opened}
use Rattle.system.specs.declared.Refusal.{Refusal}
use Rattle.system.specs.declared.Refusal.TheVariants.{Input, State}
use Rattle.system.specs.Values.{ceilings_of}
use Rattle.system.specs.Limits.{keeps_limits}
use Rattle.system.specs.Layout.{Reading, opened, Reads}
use Rattle.system.specs.Outcome.{from_input, refused, refusal_of, Checked, passes, and_then, fails_with}
use Rattle.system.proofs.Laws.{unread-with}
use Rattle.system.proofs.Checks.{check-passed, both-passed}
use Rattle.partition.specs.ForSystem.{row_for}
use Rattle.partition.specs.Lent.{Lent}
use Rattle.table.proofs.Placed.{placed-some, placed-none}
use Rattle.table.specs.declared.Placement.{Placement}
use Rattle.table.specs.Table.{table_check, filled, placement}
use Rattle.planner.specs.Plan.{plan_engines, table_left}
use Rattle.sheets.specs.Sheet.{used_in}
use Rattle.sheets.specs.Checking.{laid_out, summed_up, added_up, wrong, wrong_for, layout_check, sums_check, totals_check, records_check, stated_loads, sheet_check, fewer_do, judged_sheet}
use Rattle.sheets.proofs.Right.{Passed, passed-sheet, can}
use Rattle.sheets.proofs.Promises.{Checks}

-- ---- a file that was refused

refused-same : (why : Refusal) (n : ℕ) → refusal_of why ≡ refused from_input n → wrong_for why ≡ wrong from_input n
refused-same (Input m) n e = cc
refused-same (State m) n e = let z : ◌≡◌ {A = ℕ} 0 1 = cc in absurd (omega arith)

pub unread-checks : (x : Reading) (r : Opened) → Reads x r → (why : Refusal) → r.answer ≡ Err why → (sheet : List ℕ) (table : Lent) → Checks x sheet table (Err why) table
unread-checks x r reads why is sheet table =
    let (n, same, says) = unread-with x r reads why is in
    rw same (record { answer = refused-same why n says; left = refl })

-- ---- a file that reads as y

fails-judged : (why : Refusal) (later : Checked) (fewer : Bool) → judged_sheet (and_then (fails_with why) later) fewer ≡ wrong_for why
fails-judged (Input n) later fewer = refl
fails-judged (State n) later fewer = refl

fails-left : (why : Refusal) (later : Checked) (table done : Lent) → table_left (and_then (fails_with why) later) table done ≡ table
fails-left (Input n) later table done = refl
fails-left (State n) later table done = refl

fails-alone : (why : Refusal) (fewer : Bool) → judged_sheet (fails_with why) fewer ≡ wrong_for why
fails-alone (Input n) fewer = refl
fails-alone (State n) fewer = refl

left_alone : (why : Refusal) (table done : Lent) → table_left (fails_with why) table done ≡ table
left_alone (Input n) table done = refl
left_alone (State n) table done = refl

module _ (x : Reading) (y : System) (is : x ≡ opened y) (sheet : List ℕ) (table : Lent) where
  -- 11
  pub lent-checks : (why : Refusal) → fails_with why ≡ table_check y table → Checks x sheet table (Err why) table
  unfolding sheet_check
  lent-checks why failed = record {
    answer = rw (is, ← failed) (sym (fails-judged why (records_check y sheet (stated_loads y sheet)) (fewer_do y sheet)));
    left = rw (is, ← failed) (sym (fails-left why (records_check y sheet (stated_loads y sheet)) table (filled y (plan_engines y) table)));
  }

  module _ (lent : passes ≡ table_check y table) where
    -- 32, 33, 34
    pub judged-checks : (why : Refusal) → fails_with why ≡ records_check y sheet (stated_loads y sheet) → Checks x sheet table (Err why) table
    unfolding sheet_check
    judged-checks why failed = record {
      answer = rw (is, ← lent, ← failed) (sym (fails-alone why (fewer_do y sheet)));
      left = rw (is, ← lent, ← failed) (sym (left_alone why table (filled y (plan_engines y) table)));
    }

    module _ (keeps : keeps_limits y ≡ true) (judged : passes ≡ records_check y sheet (stated_loads y sheet)) where
      all-passed : Passed y keeps sheet
      unfolding records_check
      all-passed =
          let a = both-passed (layout_check y.typecount sheet (stated_loads y sheet)) (and_then (sums_check y (stated_loads y sheet)) (totals_check y (stated_loads y sheet))) judged in
          let b = both-passed (sums_check y (stated_loads y sheet)) (totals_check y (stated_loads y sheet)) a.1 in
          record {
            layout = check-passed (laid_out y.typecount sheet (stated_loads y sheet)) from_input 32 a.0;
            sums = check-passed (summed_up y (stated_loads y sheet)) from_input 33 b.0;
            totals = check-passed (added_up y (stated_loads y sheet)) from_input 34 b.1;
          }

      -- a sheet that is right: all instances can be placed, on as many engines as the lowest yes row says
      pub never-none : None ≡ placement y (plan_engines y) (ceilings_of y) → ⊥
      unfolding placement
      never-none none =
          let (χ, s) = passed-sheet y keeps sheet all-passed in
          false≢true (sym (placed-none _ none) ∙ can y keeps sheet χ s)

      pub right-checks : (p : Placement) → Some p ≡ placement y (plan_engines y) (ceilings_of y) → (used : ℕ) → used ≡ used_in (stated_loads y sheet) → Checks x sheet table (Ok (ltb p.used used)) (filled y (plan_engines y) table)
      unfolding sheet_check placement
      right-checks p same used counted =
          let row : p.used ≡ row_for y (plan_engines y) (ceilings_of y) = ap (λ (q : Placement). q.used) (placed-some same).1 in
          record { answer = rw (is, ← lent, ← judged, row, counted); left = rw (is, ← lent, ← judged) }

-- The call from a file: what it promises, from what it answers and leaves by definition, and one law for each way in which it ends.
use Rattle.std.proofs.Common.{Option, None, Some, Ok, Err}
use Rattle.std.specs.Option.{is_some}
use Prim.Native.Nat.{ℕ, ◌≤◌}
use mathlib.Core.Path.{◌≡◌, refl, sym, ap, subst, ◌∙◌}
use mathlib.Core.List.{List, [], ◌∷◌}
use mathlib.Core.Bool.{Bool, true, false, cond}
use mathlib.Core.Logic.{◌↔◌}
use native.Mathlib.Omega.{arith}
use Rattle.system.specs.declared.System.{System}
use Rattle.system.specs.declared.Opened.{Opened}
use Rattle.system.specs.declared.Refusal.{Refusal}
use Rattle.system.specs.declared.Refusal.TheVariants.{Input, State}
use Rattle.system.specs.Values.{ceilings_of}
use Rattle.system.specs.Layout.{Reading, read_file, opened, unread, Reads}
use Rattle.system.specs.Outcome.{Outcome, Source, accepted, refused, from_input, passes, check, unless_fails, fails_with}
use Rattle.system.proofs.Laws.{Limits, limits_of, read-keeps-limits, unread-with}
use Rattle.loads.proofs.Order.{within-refl}
use Rattle.partition.specs.Assignment.{engines_to}
use Rattle.partition.specs.ForSystem.{placeable}
use Rattle.partition.specs.Lent.{Lent}
use Rattle.partition.specs.Plain.{ceiling_no, LongEnough, TooShort, EngineOf}
use Rattle.partition.proofs.Lists.{length-engines_to, distinct-engines_to, every-among, among-engines_to}
use Rattle.partition.proofs.ForSystem.{length-ceilings}
use Rattle.partition.proofs.Plain.{ceiling-out}
use Rattle.table.specs.declared.Placement.{Placement}
use Rattle.table.specs.Table.{long_enough, table_check, filled, placement}
use Rattle.table.specs.Meaning.{FilledMeans}
use Rattle.planner.specs.Plan.{verdict_of, plan_outcome, table_left}
use Rattle.planner.specs.Demands.{Decides}
use Rattle.planner.proofs.Demands.{plan-decides}
use Rattle.planner.proofs.Cases.{long-out, long-back, short-out, not_short, plan-fills}
use Rattle.causes.specs.declared.Cause.{Cause}
use Rattle.causes.specs.Causes.{CauseAnswer, told, cause_outcome_of, cause_of, cause_on, plan_cause, plan_cause_table}
use Rattle.causes.specs.Meaning.{CauseMeans, PlanCausePromises}
use Rattle.causes.proofs.Means.{cause-means}

-- the answer and the table are those that are defined
pub record Gives (x : Reading) (table : Lent) (r : CauseAnswer) (after : Lent) : Type 0 where
  pub answer : cause_outcome_of r ≡ plan_cause x table
  pub left : after ≡ plan_cause_table x table

-- intermediate: a cause is no refusal

pub not-refused : {A : Type 0} (c : Cause) (s : Source) (n : ℕ) → told c ≡ refused s n → A
not-refused c s n e = let z : ◌≡◌ {A = ℕ} 0 1 = cc in absurd (omega arith)

-- a load is placed or not
placed-flag : (q : Bool) (one : Placement) → is_some (cond q (Some one) None) ≡ q
placed-flag true one = refl
placed-flag false one = refl

pub found-placed : (y : System) (es x : List ℕ) (found : Option Placement) → found ≡ placement y es x → is_some found ≡ placeable y es x
unfolding placement
found-placed y es x found e = ap is_some e ∙ placed-flag (placeable y es x) _

-- main: a file that opens

module _ (y : System) (limits : Limits y) (table : Lent) where
  abbrev cause : Cause
  cause = cause_on y (engines_to y.engines) (ceilings_of y)

  abbrev o : Outcome
  o = plan_cause (opened y) table

  pub file-means : CauseMeans y (EngineOf y) y.engines (ceiling_no y) (told cause)
  file-means =
      subst (λ (r : ℕ). CauseMeans y (EngineOf y) r (ceiling_no y) (told cause)) (length-engines_to y.engines)
      (cause-means y limits (engines_to y.engines) (distinct-engines_to y.engines) (every-among (engines_to y.engines)) (EngineOf y) (among-engines_to y.engines)
      (ceilings_of y) (length-ceilings y limits) (within-refl (ceilings_of y)) (ceiling_no y) (λ t low. ceiling-out y t))

  then-table : (o ≡ refused from_input 11) ↔ TooShort y table
  then-table = go (long_enough y table) refl
    where
      go : (b : Bool) → long_enough y table ≡ b → (unless_fails (check b from_input 11) (told cause) ≡ refused from_input 11) ↔ TooShort y table
      go false q = ((λ e. short-out y limits table q), (λ h. refl))
      go true q = ((λ e. not-refused cause from_input 11 e), (λ h. absurd (not_short y table (long-out y limits table q) h)))

  lent_back : (s : Source) (n : ℕ) → o ≡ refused s n → plan_cause_table (opened y) table ≡ table
  lent_back s n = go (long_enough y table)
    where
      go : (b : Bool) → unless_fails (check b from_input 11) (told cause) ≡ refused s n → table_left (check b from_input 11) table (filled y (engines_to y.engines) table) ≡ table
      go false e = refl
      go true e = not-refused cause s n e

  module _ (long : LongEnough y table) where
    told_is : o ≡ told cause
    told_is = rw (long-back y limits table long)

    left_is : plan_cause_table (opened y) table ≡ filled y (engines_to y.engines) table
    left_is = rw (long-back y limits table long)

    means-so : CauseMeans y (EngineOf y) y.engines (ceiling_no y) o
    means-so = rw told_is file-means

    left-filled : FilledMeans y y.engines table (plan_cause_table (opened y) table)
    left-filled = rw left_is (plan-fills y limits table long)

    -- whatever decides as demand 2 has it is refused 12 exactly when the cause is not 0
    any-refused : (other : Lent) (room : ℕ) → LongEnough y other → y.engines ≤ room
        → (answered : Outcome) → Decides (opened y) other room answered → (answered ≡ refused from_input 12) ↔ (o ≡ accepted (0 ∷ []) → ⊥)
    any-refused other room fits enough answered keeps =
        let said = keeps.impossible y refl fits enough in
        ((λ e zero. let (χ, p) = means-so.zero.0 zero in said.0 e χ p), (λ h. said.1 (λ χ p. h (means-so.zero.1 (χ, p)))))

    -- so is a plan
    plan-refused : (other : Lent) (room : ℕ) → LongEnough y other → y.engines ≤ room → (plan_outcome (verdict_of (opened y) other room) ≡ refused from_input 12) ↔ (o ≡ accepted (0 ∷ []) → ⊥)
    plan-refused other room fits enough =
        any-refused other room fits enough (plan_outcome (verdict_of (opened y) other room))
        (plan-decides other room (opened y) (λ z is. let same : y ≡ z = cc in subst Limits same limits))

-- main: any file

pub promises-of : (file : List ℕ) (table : Lent) (r : CauseAnswer) (after : Lent) → Gives (read_file file) table r after → PlanCausePromises (read_file file) table r after
promises-of file table r after g = record {
  answers = g.answer;
  leaves_table = g.left;
  order = rw g.answer (record { file_first = λ n e. rw e; then_table = λ y e. rw e (then-table y (known y e) table) });
  as_lent = λ s n e. g.left ∙ as_lent_lem (read_file file) refl s n (sym g.answer ∙ e);
  left_filled = λ y e long. rw (g.left, e) (left-filled y (known y e) table long);
  means = λ y e long. rw (g.answer, e) (means-so y (known y e) table long);
  refused12 = λ y e long. rw (g.answer, e) (plan-refused y (known y e) table long);
  refused12_any = λ y e long. rw (g.answer, e) (any-refused y (known y e) table long);
}
  where
    known : (y : System) → read_file file ≡ opened y → Limits y
    known y e = limits_of y (read-keeps-limits file y e)

    as_lent_lem : (x : Reading) → read_file file ≡ x → (s : Source) (n : ℕ) → plan_cause x table ≡ refused s n → plan_cause_table x table ≡ table
    as_lent_lem (unread k) is s n e = refl
    as_lent_lem (opened y) is s n e = lent_back y (known y is) table s n e

-- main: the ways in which the call ends

-- a file that was refused

pub unread-gives : (x : Reading) (r : Opened) → Reads x r → (why : Refusal) → r.answer ≡ Err why → (table : Lent) → Gives x table (Err why) table
unread-gives x r reads why is table =
    let (n, same, says) = unread-with x r reads why is in
    rw same (record { answer = says; left = refl })

-- a file that reads as y

module _ (x : Reading) (y : System) (is : x ≡ opened y) (table : Lent) where
  -- 11
  pub lent_gives : (why : Refusal) → fails_with why ≡ table_check y table → Gives x table (Err why) table
  lent_gives (Input n) failed = record { answer = rw (is, ← failed); left = rw (is, ← failed) }
  lent_gives (State n) failed = record { answer = rw (is, ← failed); left = rw (is, ← failed) }

  -- the cause
  pub cause-gives : passes ≡ table_check y table → (c : Cause) → c ≡ cause_on y (engines_to y.engines) (ceilings_of y)
      → (after : Lent) → after ≡ filled y (engines_to y.engines) table → Gives x table (Ok c) after
  cause-gives passed c same after full = record { answer = rw (is, ← passed, same); left = rw (is, ← passed) full }

-- what the code hands out as the cause
pub cause-found : (y : System) (counts : List ℕ) {c : Cause} (found : Option Placement) → c ≡ cause_of y y.engines counts (is_some found) → counts ≡ ceilings_of y → found ≡ placement y (engines_to y.engines) (ceilings_of y)
    → c ≡ cause_on y (engines_to y.engines) (ceilings_of y)
cause-found y counts found is same placed =
    is ∙ rw (same, found-placed y (engines_to y.engines) (ceilings_of y) found placed, length-engines_to y.engines)

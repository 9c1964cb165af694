-- Plans are those that document 01's own table gives: the two parts keep of it which rows say yes, and every recovery.
use Prim.Native.Nat.{ℕ, ◌-◌, ◌≤◌}
use mathlib.Core.Path.{◌≡◌, refl, ap, subst, ◌∙◌}
use mathlib.Core.List.{List, [], ◌∷◌}
use mathlib.Core.Logic.{◌↔◌}
use native.Mathlib.Nat.{le_refl}
use native.Mathlib.Omega.{arith}
use borrow.Author.Tests.{le-leb}
use lib.ListN.{length, get_or}
use Rattle.system.specs.declared.System.{System}
use Rattle.system.specs.Outcome.{Answer, accepted, outcome_of}
use Rattle.system.specs.Values.{ceilings_of}
use Rattle.system.specs.Layout.{Reading, opened, read_file}
use Rattle.system.proofs.Laws.{Limits, read-limits}
use Rattle.loads.proofs.Order.{within-refl}
use Rattle.partition.specs.Assignment.{engines_to}
use Rattle.partition.specs.Lent.{Lent}
use Rattle.partition.specs.Plain.{ceiling_no, LongEnough, EngineOf, Impossible, record_no}
use Rattle.partition.proofs.Lists.{distinct-engines_to, length-engines_to, among-engines_to, every-among}
use Rattle.partition.proofs.ForSystem.{length-ceilings}
use Rattle.partition.proofs.Plain.{ceiling-out}
use Rattle.table.specs.Table.{filled_to}
use Rattle.table.specs.Meaning.{RecoveredBy}
use Rattle.table.specs.Document01.{filled01, NoRow01, Recovered01}
use Rattle.table.proofs.Document01.{no-row-01, recovered-01}
use Rattle.planner.specs.declared.Plan.{Plan}
use Rattle.planner.specs.declared.EngineRecord.{EngineRecord}
use Rattle.planner.specs.Plan.{Verdict, planned, verdict_of, used_engines, plan_outcome, plan_table}
use Rattle.planner.specs.Demands.{entry_no, PlanPromises, ListPromises}
use Rattle.planner.specs.Document01.{PlanBy01}
use Rattle.planner.proofs.Cases.{Case, too_short, too_small, no_place, is_planned, case_of, long-back, on-fewest, not_short}

-- main: of a plan that is the one defined, what is lent being long enough

module _ (y : System) (limits : Limits y) (table01 : List ℕ) (table : Lent) (room : ℕ) (long : LongEnough y table) (enough : y.engines ≤ room) where
  abbrev filled : Lent
  filled = filled_to y y.engines table

  table_is : plan_table (opened y) table room ≡ filled_to y y.engines table
  table_is = rw (long-back y limits table long, le-leb y.engines room enough, length-engines_to y.engines)

  -- no row says yes exactly where the instances cannot be partitioned
  no_row : Impossible y (EngineOf y) (ceiling_no y) ↔ NoRow01 y y.engines table01 (ceiling_no y)
  no_row =
      let es = engines_to y.engines in
      no-row-01 y limits (ceilings_of y) (length-ceilings y limits) (within-refl (ceilings_of y)) (ceiling_no y) (λ t low. ceiling-out y t) table01
      es (distinct-engines_to y.engines) (every-among es) (EngineOf y) (among-engines_to y.engines) y.engines (length-engines_to y.engines)

  -- where they can, the recovery
  in_table : (NoRow01 y y.engines table01 (ceiling_no y) → ⊥) → (used : ℕ) (row : ℕ → ℕ → ℕ) → RecoveredBy y filled used (ceiling_no y) row → Recovered01 y (filled01 y y.engines table01) used (ceiling_no y) row
  in_table =
      recovered-01 y limits (ceilings_of y) (length-ceilings y limits) (within-refl (ceilings_of y)) (ceiling_no y) (λ t low. ceiling-out y t) table01
      y.engines (le_refl y.engines) table long

  by-case : {v : Verdict} {after : Lent} → Case y table room v after → (row : ℕ → ℕ → ℕ) → ((used : ℕ) → plan_outcome v ≡ accepted (used ∷ []) → RecoveredBy y filled used (ceiling_no y) row) → PlanBy01 y table01 (plan_outcome v) row
  by-case (too_short short) row recovers = absurd (not_short y table long short)
  by-case (too_small l small) row recovers = absurd (omega (arith, small, enough))
  by-case (no_place l e none) row recovers = record {
    none = (λ o. no_row.0 none, λ n. refl);
    some = λ n. absurd (n (no_row.0 none));
    given = λ used o. (let z : ◌≡◌ {A = ℕ} 0 1 = cc in absurd (omega arith));
  }
  by-case (is_planned l e can) row recovers = record {
    none = (λ o. (let z : ◌≡◌ {A = ℕ} 0 1 = cc in absurd (omega arith)), λ n. absurd (some n));
    some = λ n. (used_engines (planned y), refl);
    given = λ used o. in_table some used row (recovers used o);
  }
    where
      some : NoRow01 y y.engines table01 (ceiling_no y) → ⊥
      some n = no_row.1 n _ (on-fewest y limits can).stands.partition

-- main: of what a plan by value promises, and a plan into a list. Nothing is asked of the size of the system or of the old table: document 01 spoke of at most 1,024 columns and of tables of (m+1) × columns entries or more, which are among these

pub plan-by-01 : (file : List ℕ) (y : System) (table01 : List ℕ) (table : Lent) (room : ℕ) (r : Plan) (after : Lent) → read_file file ≡ opened y → LongEnough y table → y.engines ≤ room
    → PlanPromises (read_file file) table room r after → PlanBy01 y table01 (outcome_of r.answer) (λ (e t : ℕ). get_or (record_no r.loads e).counts (t - 1) 0)
plan-by-01 file y table01 table room r after reads long enough p =
    rw told
    (by-case y limits table01 table room long enough (case_of y limits table room) (λ (e t : ℕ). get_or (record_no r.loads e).counts (t - 1) 0)
    (λ used o. subst (λ (l : Lent). RecoveredBy y l used (ceiling_no y) (λ (e t : ℕ). get_or (record_no r.loads e).counts (t - 1) 0)) left (p.recovers y used reads (told ∙ o))))
  where
    limits : Limits y
    limits = read-limits file y reads

    told : outcome_of r.answer ≡ plan_outcome (verdict_of (opened y) table room)
    told = p.answers ∙ ap (λ (x : Reading). plan_outcome (verdict_of x table room)) reads

    left : after ≡ filled_to y y.engines table
    left = p.leaves_table ∙ ap (λ (x : Reading). plan_table x table room) reads ∙ table_is y limits table01 table room long enough

pub list-by-01 : (file : List ℕ) (y : System) (table01 : List ℕ) (table : Lent) (list : List EngineRecord) (answer : Answer) (after : Lent) (list_after : List EngineRecord)
    → read_file file ≡ opened y → LongEnough y table → y.engines ≤ length list
    → ListPromises (read_file file) table list answer after list_after → PlanBy01 y table01 (outcome_of answer) (λ (e t : ℕ). get_or (entry_no list_after e).load.counts (t - 1) 0)
list-by-01 file y table01 table list answer after list_after reads long enough p =
    rw told
    (by-case y limits table01 table (length list) long enough (case_of y limits table (length list)) (λ (e t : ℕ). get_or (entry_no list_after e).load.counts (t - 1) 0)
    (λ used o. subst (λ (l : Lent). RecoveredBy y l used (ceiling_no y) (λ (e t : ℕ). get_or (entry_no list_after e).load.counts (t - 1) 0)) left (p.recovers y used reads (told ∙ o))))
  where
    limits : Limits y
    limits = read-limits file y reads

    told : outcome_of answer ≡ plan_outcome (verdict_of (opened y) table (length list))
    told = p.answers ∙ ap (λ (x : Reading). plan_outcome (verdict_of x table (length list))) reads

    left : after ≡ filled_to y y.engines table
    left = p.leaves_table ∙ ap (λ (x : Reading). plan_table x table (length list)) reads ∙ table_is y limits table01 table (length list) long enough

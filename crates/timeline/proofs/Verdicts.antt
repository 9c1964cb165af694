-- The text of a file by the plan that the code was given: its table is long enough for every system, so the plan's verdict is the file's own.
use Rattle.std.proofs.Common.{Ok, Err, Some, None}
use Prim.Native.Nat.{ℕ, ◌≤◌}
use mathlib.Core.Path.{◌≡◌, refl, sym, ap, ◌∙◌}
use mathlib.Core.List.{List, [], ◌∷◌}
use mathlib.Core.Bool.{Bool, true, false, ◌&&◌}
use native.Mathlib.Omega.{arith}
use borrow.Author.Tests.{leb-true}
use lib.Dec.{leb}
use lib.ListN.{replicate, length-replicate}
use Rattle.system.specs.declared.System.{System}
use Rattle.system.specs.Outcome.{Answer, from_input, accepted, refusal_of, outcome_of, Checked, passes, fails, check, and_then}
use Rattle.system.specs.declared.Refusal.{Refusal}
use Rattle.system.specs.declared.Refusal.TheVariants.{Input, State}
use Rattle.system.specs.Limits.{engine_limit, tick_limit}
use Rattle.system.specs.Layout.{Reading, read_file, read_system, opened, unread}
use Rattle.system.proofs.Laws.{read-limits, file-card}
use Rattle.loads.specs.declared.EngineLoad.{EngineLoad}
use Rattle.partition.specs.Lent.{Lent, lent}
use Rattle.table.proofs.Room.{long-six}
use Rattle.planner.specs.declared.Plan.{Plan}
use Rattle.planner.specs.Plan.{Verdict, planned, unplanned, verdict_of, plan_outcome, plan_loads, place_check, judged}
use Rattle.planner.specs.Demands.{PlanPromises}
use Rattle.listing.specs.Listing.{refusal_line}
use Rattle.listing.specs.Demands.{number_of}
use Rattle.listing.specs.Text.{reading_verdict}
use Rattle.listing.proofs.Text.{LongForAll, long-for-all, verdict-alone}
use Rattle.runs.specs.Run.{job_limit}
use Rattle.runs.specs.declared.Job.{Job}
use Rattle.deadlines.specs.Outcome.{FirstMiss, ran, not_run_for}
use Rattle.deadlines.specs.Engine.{all_paced, instances, run_where, run_over}
use Rattle.timeline.specs.Whole.{answer_text, engine_with, verdict_text, watch_text}

-- the engines of what a file reads as

few-engines : (x : Reading) → ((y : System) → x ≡ opened y → y.engines ≤ engine_limit) → (read_system x).engines ≤ engine_limit
few-engines (unread n) h = omega arith
few-engines (opened y) h = h y refl

pub read-few : (file : List ℕ) → (read_system (read_file file)).engines ≤ engine_limit
read-few file = few-engines (read_file file) (λ y e. (read-limits file y e).engines)

-- the verdict

module _ (file : List ℕ) (table : Lent) (long : LongForAll table) where
  pub own-verdict : verdict_of (read_file file) table engine_limit ≡ reading_verdict (read_file file)
  own-verdict =
      verdict-alone (read_file file) table (λ y e.
      let limits = read-limits file y e in
      ((long-six y table limits.six).1 (long-for-all file y table (file-card file y e).0 long), limits.engines))

-- a plan is of what the file reads as
verdict-system : (x : Reading) (y : System) → reading_verdict x ≡ planned y → read_system x ≡ y
unfolding reading_verdict
verdict-system (unread n) y e = let z : ◌≡◌ {A = ℕ} 0 1 = cc in absurd (omega arith)
verdict-system (opened w) y e = go (place_check w) e
  where
    go : (c : Checked) → judged w c ≡ planned y → w ≡ y
    go passes e = cc
    go (fails s n) e = let z : ◌≡◌ {A = ℕ} 0 1 = cc in absurd (omega arith)

refused-text : (v : Verdict) (why : Refusal) (e ticks from : ℕ) → refusal_of why ≡ plan_outcome v → verdict_text v e ticks from ≡ refusal_line (number_of why)
unfolding verdict_text
refused-text (planned y) (Input n) e ticks from o = let z : ◌≡◌ {A = ℕ} 0 1 = cc in absurd (omega arith)
refused-text (planned y) (State n) e ticks from o = let z : ◌≡◌ {A = ℕ} 0 1 = cc in absurd (omega arith)
refused-text (unplanned s k) (Input n) e ticks from o = ap refusal_line (cc)
refused-text (unplanned s k) (State n) e ticks from o = ap refusal_line (cc)

planned-text : (v : Verdict) (x : Reading) (used e ticks from : ℕ) → reading_verdict x ≡ v → accepted (used ∷ []) ≡ plan_outcome v
    → verdict_text v e ticks from ≡ engine_with (read_system x) (plan_loads v) e ticks from
unfolding verdict_text
planned-text (planned y) x used e ticks from is o = ap (λ (w : System). engine_with w (plan_loads (planned y)) e ticks from) (sym (verdict-system x y is))
planned-text (unplanned s k) x used e ticks from is o = let z : ◌≡◌ {A = ℕ} 0 1 = cc in absurd (omega arith)

never-bare : (v : Verdict) → accepted [] ≡ plan_outcome v → ⊥
never-bare (planned y) o = let z : ◌≡◌ {A = ℕ} 0 1 = cc in absurd (omega arith)
never-bare (unplanned s k) o = let z : ◌≡◌ {A = ℕ} 0 1 = cc in absurd (omega arith)

-- main: by what the plan's call answered

module _ (file : List ℕ) {table after : Lent} {p : Plan} (long : LongForAll table) (given : PlanPromises (read_file file) table engine_limit p after) where
  own : (a : Answer) → p.answer ≡ a → outcome_of a ≡ plan_outcome (reading_verdict (read_file file))
  own a is = ap outcome_of (sym is) ∙ given.answers ∙ ap plan_outcome (own-verdict file table long)

  pub text-refused : (why : Refusal) (e ticks from : ℕ) → p.answer ≡ Err why → watch_text file e ticks from ≡ refusal_line (number_of why)
  text-refused why e ticks from is = refused-text (reading_verdict (read_file file)) why e ticks from (own (Err why) is)

  text-planned : (used e ticks from : ℕ) → p.answer ≡ Ok (Some used) → watch_text file e ticks from ≡ engine_with (read_system (read_file file)) p.loads e ticks from
  text-planned used e ticks from is =
      planned-text (reading_verdict (read_file file)) (read_file file) used e ticks from refl (own (Ok (Some used)) is)
      ∙ ap (λ (l : List EngineLoad). engine_with (read_system (read_file file)) l e ticks from) (sym (given.places ∙ ap plan_loads (own-verdict file table long)))

  -- an answer that is no refusal is a number, and never bare
  pub text-given : (e ticks from : ℕ) → ((why : Refusal) → p.answer ≡ Err why → ⊥) → watch_text file e ticks from ≡ engine_with (read_system (read_file file)) p.loads e ticks from
  text-given e ticks from other = go p.answer refl
    where
      go : (a : Answer) → p.answer ≡ a → watch_text file e ticks from ≡ engine_with (read_system (read_file file)) p.loads e ticks from
      go (Ok (Some used)) is = text-planned used e ticks from is
      go (Ok None) is = absurd (never-bare (reading_verdict (read_file file)) (own (Ok None) is))
      go (Err why) is = absurd (other why is)

-- a run that has a report has few enough instances and ticks

pub ran-within : (y : System) (counts : List ℕ) (ticks idle : ℕ) (miss : FirstMiss) → run_over y counts ticks ≡ ran idle miss → (instances counts ≤ job_limit) × (ticks ≤ tick_limit)
unfolding run_over
ran-within y counts ticks idle miss e = go (all_paced y.types counts) (leb (instances counts) job_limit) refl (leb ticks tick_limit) refl e
  where
    go : (a b : Bool) → leb (instances counts) job_limit ≡ b → (c : Bool) → leb ticks tick_limit ≡ c
        → run_where (and_then (check a from_input 44) (check (b && c) from_input 45)) y.types counts ticks ≡ ran idle miss → (instances counts ≤ job_limit) × (ticks ≤ tick_limit)
    go true true p true q h = (leb-true (instances counts) job_limit p, leb-true ticks tick_limit q)
    go true true p false q h = let z : ◌≡◌ {A = ℕ} 0 1 = cc in absurd (omega arith)
    go true false p c q h = let z : ◌≡◌ {A = ℕ} 0 1 = cc in absurd (omega arith)
    go false b p c q h = let z : ◌≡◌ {A = ℕ} 0 1 = cc in absurd (omega arith)

-- and one that is refused has the line of its number

pub refused-line : (js : List Job) (counts : List ℕ) (ticks from : ℕ) (why : Refusal) → answer_text js counts ticks from (not_run_for why) ≡ refusal_line (number_of why)
refused-line js counts ticks from (Input n) = refl
refused-line js counts ticks from (State n) = refl

-- the function's own table

pub zeros-long : LongForAll (lent (replicate 4096 0) (replicate 4096 0))
zeros-long = let l = length-replicate {A = ℕ} 4096 0 in (omega (arith, l), omega (arith, l))

-- such a table
pub spare : Lent
spare = lent (replicate 4096 0) (replicate 4096 0)

pub spare-long : LongForAll spare
unfolding spare
spare-long = zeros-long

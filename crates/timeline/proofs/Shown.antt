-- The text of a run, line by line, is the one that a reader finds: what arrives in each tick, who runs in it by the schedule, and the last line.
use Rattle.std.proofs.Common.{Option, None, Some}
use Rattle.system.specs.declared.Cycle.{Cycle}
use Prim.Native.Nat.{ℕ, zero, suc, ◌+◌, ◌-◌, ◌*◌, ◌/◌, ◌%◌, ◌≤◌, ◌<◌, min}
use mathlib.Core.Path.{◌≡◌, refl, sym, ap, ap₂, ◌∙◌}
use mathlib.Core.List.{List, [], ◌∷◌, ◌++◌, append_assoc}
use mathlib.Core.Bool.{Bool, true, false, cond}
use native.Mathlib.Nat.{zero-add, mod-lt, div-add-mod'}
use native.Mathlib.Numerals.{add-one}
use native.Mathlib.Omega.{arith}
use borrow.Author.Tests.{eq-eqb, ne_eqb, eqb-true, eqb-false, leb-true, leb-false}
use lib.ListN.{length, get_or}
use lib.Dec.{eqb, leb}
use Rattle.system.specs.declared.System.{System}
use Rattle.partition.specs.OwnWords.{no_type}
use Rattle.partition.specs.Plain.{type_no, LimitsOut}
use Rattle.listing.specs.Listing.{decimal}
use Rattle.listing.specs.Demands.{each_to}
use Rattle.listing.proofs.Numbers.{in-decimal}
use Rattle.runs.specs.declared.Job.{Job}
use Rattle.runs.specs.Run.{Periods, run_of}
use Rattle.runs.specs.Trace.{state_at, runner}
use Rattle.runs.proofs.Choice.{job_at}
use Rattle.runs.proofs.Steps.{chosen-le}
use Rattle.runs.proofs.Trace.{length-state, state-on, Ready, ready_at, stage_at}
use Rattle.runs.proofs.Words.{here_at, length-here, period-at}
use Rattle.deadlines.specs.Outcome.{FirstMiss, all_kept, miss_of}
use Rattle.deadlines.specs.Engine.{all_paced, instances, paced_job, jobs_of}
use Rattle.deadlines.specs.Meaning.{Schedule, idle_for}
use Rattle.deadlines.proofs.Places.{Stood, stood-type, stood-inside, stood-here, kind_at, instance_at, kind-past, length-jobs, job-stood}
use Rattle.deadlines.proofs.Told.{periods-js, σ, tick_is, report-is}
use Rattle.timeline.specs.Text.{tick_word, arrive_word, due_word, idle_word, run_word, of_word, ticks_word, were_idle_word, none_missed_word, arrival_text, arrival_at, arrivals_from, runner_text, line_with, tick_line, tick_lines, summary_line, window_text, report_text, name_text}
use Rattle.timeline.specs.Meaning.{of_pace, period_no, arrival_out, arrivals_out, runner_out, tick_out, ticks_out, kept_out, TellsRun}
use Rattle.timeline.proofs.Each.{name_out, below, types-below, arrivals-below}

-- intermediate: a job arrives in each tick that its period divides

module _ (js : List Job) (ps : Periods js) (τ p : ℕ) (h : p < length js) where
  abbrev T : ℕ
  T = (job_at js p).period

  record Arrives : Type 0 where
    test : eqb (job_at (state_at τ js) p).due τ ≡ eqb (τ % T) 0
    same : (job_at (state_at τ js) p).period ≡ T

  arrives : Arrives
  arrives = go (leb τ (τ / T * T)) refl
    where
      pos : 1 ≤ T
      pos = period-at ps p h

      split : τ / T * T + τ % T ≡ τ
      split = div-add-mod' τ T

      small : τ % T < T
      small = mod-lt τ {m = T} pos

      ready : Ready js p h (τ / T * T)
      ready = ready_at js p h pos (τ / T)

      go : (b : Bool) → leb τ (τ / T * T) ≡ b → Arrives
      go true q =
          let e : τ / T * T ≡ τ = omega (arith, split, leb-true τ (τ / T * T) q) in
          let r : Ready js p h τ = rw e at ready in
          record { test = eq-eqb (job_at (state_at τ js) p).due τ r.due ∙ sym (eq-eqb (τ % T) 0 (omega (arith, split, e))); same = r.period }
      go false q =
          let less = leb-false τ (τ / T * T) q in
          let s = stage_at js p h (τ / T * T) ready τ less (omega (arith, split, small)) in
          record {
            test = ne_eqb (job_at (state_at τ js) p).due τ (λ (z : (job_at (state_at τ js) p).due ≡ τ). omega (arith, z, s.due, split, small))
                ∙ sym (ne_eqb (τ % T) 0 (λ (z : τ % T ≡ 0). omega (arith, z, split, less)));
            same = s.period;
          }

pace-period : (q : Option Cycle) → (paced_job q).period ≡ of_pace q
pace-period None = refl
pace-period (Some c) = refl

-- the parts of a line, whichever way they are put together

regroup-line : (w d a r e : List ℕ) → w ++ d ++ a ++ r ++ e ≡ w ++ (d ++ (a ++ (r ++ e)))
regroup-line w d a r e = simp append_assoc

regroup-last : (w d v i u m e : List ℕ) → w ++ d ++ v ++ i ++ u ++ m ++ e ≡ w ++ (d ++ (v ++ (i ++ (u ++ (m ++ e)))))
regroup-last w d v i u m e = simp append_assoc

-- main

module _ (y : System) (counts : List ℕ) (limits : LimitsOut y) (six : length counts ≡ 6) (paced : all_paced y.types counts ≡ true) where
  abbrev js : List Job
  js = jobs_of y.types counts

  abbrev plan : Schedule
  plan = σ y counts limits six paced

  count-js : length js ≡ instances counts
  count-js = length-jobs y.types counts (limits.six ∙ sym six)

  -- what arrives

  arrival-told : (τ : ℕ) {p t i : ℕ} → Stood counts p t i → arrival_at τ counts p (job_at (state_at τ js) p) ≡ arrival_out decimal y τ t i
  arrival-told τ {p} {t} {i} s =
      let at = arrives js (periods-js y counts limits six paced) τ p (rw count-js (stood-inside s)) in
      let period : (job_at js p).period ≡ period_no y t = ap (λ (j : Job). j.period) (job-stood y.types no_type (limits.six ∙ sym six) s) ∙ pace-period (type_no y t).pace in
      let test : eqb (job_at (state_at τ js) p).due τ ≡ eqb (τ % period_no y t) 0 = at.test ∙ ap (λ (n : ℕ). eqb (τ % n) 0) period in
      let due : τ + (job_at (state_at τ js) p).period ≡ τ + period_no y t = ap (λ (n : ℕ). τ + n) (at.same ∙ period) in
      ap₂ (λ (b : Bool) (l : List ℕ). cond b l []) test (ap (arrival_text counts p) due ∙ text (decimal (τ + period_no y t)))
    where
      text : (due : List ℕ) → arrive_word ++ name_text counts p ++ due_word ++ due ≡ 32 ∷ 97 ∷ 114 ∷ 114 ∷ 105 ∷ 118 ∷ 101 ∷ 32 ∷ (decimal t ++ (46 ∷ (decimal i ++ (32 ∷ 100 ∷ 117 ∷ 101 ∷ 32 ∷ due))))
      text due = rw (name_out s) (simp append_assoc)

  arrivals-told : (τ : ℕ) → arrivals_from τ counts 0 (state_at τ js) ≡ arrivals_out decimal y counts τ
  arrivals-told τ =
      let f : ℕ → List ℕ = λ (q : ℕ). arrival_at τ counts (0 + q) (job_at (state_at τ js) q) in
      arrivals-below τ counts 0 (state_at τ js)
      ∙ ap (below f) (length-state τ js ∙ count-js)
      ∙ types-below counts f (arrival_out decimal y τ) (λ p t i s. ap (λ (q : ℕ). arrival_at τ counts q (job_at (state_at τ js) p)) (zero-add p) ∙ arrival-told τ s)
      ∙ ap (each_to (λ (t : ℕ). each_to (arrival_out decimal y τ t) (get_or counts (t - 1) 0))) six

  -- who runs

  runner-told : (τ : ℕ) → runner_text counts (length (state_at τ js)) (runner τ js) ≡ runner_out decimal (plan.kind τ) (plan.instance τ)
  unfolding σ
  runner-told τ = rw (length-state τ js) (go (eqb (runner τ js) (length js)) refl)
    where
      few : runner τ js ≤ length js
      few = rw (length-here τ js) at (chosen-le (here_at τ js))

      go : (b : Bool) → eqb (runner τ js) (length js) ≡ b
          → cond b idle_word (run_word ++ name_text counts (runner τ js)) ≡ runner_out decimal (kind_at counts (runner τ js)) (instance_at counts (runner τ js))
      go true q = rw (kind-past counts (runner τ js) (omega (arith, eqb-true (runner τ js) (length js) q, count-js)))
      go false q =
          let s = stood-here counts (runner τ js) (omega (arith, eqb-false (runner τ js) (length js) q, few, count-js)) in
          rw (ne_eqb (kind_at counts (runner τ js)) 0 (λ (z : kind_at counts (runner τ js) ≡ 0). omega (arith, z, (stood-type s).0)), name_out s)

  -- the lines

  line-told : (τ : ℕ) → tick_line τ counts (state_at τ js) ≡ tick_out decimal y counts plan τ
  unfolding line_with
  line-told τ =
      regroup-line tick_word (decimal τ) (arrivals_from τ counts 0 (state_at τ js)) (runner_text counts (length (state_at τ js)) (runner τ js)) (10 ∷ [])
      ∙ ap₂ (λ (a r : List ℕ). 116 ∷ 105 ∷ 99 ∷ 107 ∷ 32 ∷ (decimal τ ++ (a ++ (r ++ (10 ∷ []))))) (arrivals-told τ) (runner-told τ)

  ticks-told : (n from : ℕ) → tick_lines n from counts (state_at from js) ≡ ticks_out (tick_out decimal y counts plan) from n
  unfolding tick_lines ticks_out
  ticks-told zero from = refl
  ticks-told (suc n) from =
      ap₂ (λ (a b : List ℕ). a ++ b) (line-told from) (
      ap (tick_lines n (from + 1) counts) (sym (state-on from js) ∙ ap (λ (m : ℕ). state_at m js) (sym (add-one from)))
      ∙ ticks-told n (from + 1))

  summary-told : (ticks idle all : ℕ) (miss : FirstMiss) → miss ≡ all_kept → all ≡ idle → summary_line ticks all miss ≡ kept_out decimal ticks idle
  unfolding summary_line
  summary-told ticks idle all miss never same = rw (never, same) (regroup-last of_word (decimal ticks) ticks_word (decimal idle) were_idle_word none_missed_word (10 ∷ []))

  pub run-told : (ticks from : ℕ) → miss_of (run_of ticks js).missed ≡ all_kept → TellsRun y counts ticks from (report_text js counts ticks from (run_of ticks js).idle (miss_of (run_of ticks js).missed))
  unfolding window_text
  run-told ticks from never =
      let means = report-is y counts limits six paced ticks in
      record {
        schedule = plan;
        follows = tick_is y counts limits six paced;
        kept = means.none.0 never;
        spelt = decimal;
        in_decimal = in-decimal;
        lines = ap₂ (λ (a b : List ℕ). a ++ b) (ticks-told (min 32 (ticks - from)) from) (summary-told ticks (idle_for plan ticks) (run_of ticks js).idle (miss_of (run_of ticks js).missed) never (means.idle_to_end never));
      }

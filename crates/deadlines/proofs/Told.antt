-- What a report means: the schedule that the run makes, tick by tick, and the report of it, in instances of types.
use Rattle.std.proofs.Common.{None, Some, Option}
use Prim.Native.Nat.{ℕ, zero, suc, ◌+◌, ◌-◌, ◌*◌, ◌%◌, ◌≤◌, ◌<◌}
use mathlib.Core.Path.{◌≡◌, refl, sym, ap, ◌∙◌}
use mathlib.Core.List.{List}
use mathlib.Core.Bool.{Bool, true, false, ◌&&◌}
use mathlib.Core.Logic.{◌⊎◌, inl, inr}
use native.Mathlib.Nat.{le_refl, mul_comm, div-add-mod, add-suc, add-zero}
use native.Mathlib.Omega.{arith}
use borrow.Author.Tests.{leb-true, leb-false, le-leb, ltb-true, ltb-false, eqb-true, eqb-false, eq-eqb, ne_eqb}
use lib.ListN.{length, get_or}
use lib.Dec.{eqb, ltb, leb}
use Rattle.system.specs.declared.Cycle.{Cycle}
use Rattle.system.specs.declared.System.{System}
use Rattle.partition.specs.OwnWords.{no_type}
use Rattle.partition.specs.Plain.{type_no, PaceWithin, LimitsOut}
use Rattle.runs.specs.declared.Job.{Job}
use Rattle.runs.specs.Run.{job_of, Periods, run_of}
use Rattle.runs.specs.Trace.{runner, ran_between, idle_before}
use Rattle.runs.proofs.Choice.{job_at}
use Rattle.runs.proofs.Steps.{chosen-le}
use Rattle.runs.proofs.Trace.{ran-none}
use Rattle.runs.proofs.Words.{here_at, length-here, standing, pending-iff, Resting, runs-or-rests, report-missed, report-never, report-idle-missed, report-idle-never}
use Rattle.runs.proofs.Words as words
use Rattle.deadlines.specs.Outcome.{all_kept, first_at, miss_of}
use Rattle.deadlines.specs.Engine.{all_paced, instances, paced_job, job_of_type, jobs_of}
use Rattle.deadlines.specs.Meaning.{Schedule, ran_for, idle_for, count_no, Runs, arrival, deadline, Waits, GoesBefore, sooner, lower_type, lower_instance, TickIs, nobody, somebody}
use Rattle.deadlines.specs.Meaning.{MissedAt, ReportIs, RunMeans}
use Rattle.deadlines.proofs.Places.{Stood, stood-type, stood-instance, stood-inside, place_of, stood-same, stood-order, kind_at, instance_at, stood-at, stood-here, kind-past, length-jobs, job-stood}
use Rattle.deadlines.proofs.Paced.{paced-each, periods-of}

-- the instance at place q is instance i of type t, which stands at p, exactly when q is p
place-test : {ns : List ℕ} {p t i : ℕ} → Stood ns p t i → (q : ℕ) → (eqb (kind_at ns q) t && eqb (instance_at ns q) i) ≡ eqb q p
place-test {ns} {p} {t} {i} s q = go (eqb q p) refl
  where
    other : (q ≡ p → ⊥) → (a : Bool) → eqb (kind_at ns q) t ≡ a → (b : Bool) → eqb (instance_at ns q) i ≡ b → (l : Bool) → ltb q (instances ns) ≡ l → (a && b) ≡ false
    other n false e b f l h = refl
    other n true e false f l h = refl
    other n true e true f true h =
        absurd (n (stood-same (rw (eqb-true (kind_at ns q) t e, eqb-true (instance_at ns q) i f) at (stood-here ns q (ltb-true q (instances ns) h))) s))
    other n true e true f false h =
        absurd (omega (arith, eqb-true (kind_at ns q) t e, kind-past ns q (ltb-false q (instances ns) h), (stood-type s).0))

    go : (b : Bool) → eqb q p ≡ b → (eqb (kind_at ns q) t && eqb (instance_at ns q) i) ≡ b
    go true e =
        let k = stood-at s in
        rw (eqb-true q p e, k.0, k.1, eq-eqb t t refl, eq-eqb i i refl)
    go false e = other (eqb-false q p e) (eqb (kind_at ns q) t) refl (eqb (instance_at ns q) i) refl (ltb q (instances ns)) refl

-- nobody stands at q exactly when q is past the last place
past-test : (ns : List ℕ) (q n : ℕ) → n ≡ instances ns → q ≤ n → eqb (kind_at ns q) 0 ≡ eqb q n
past-test ns q n e l = go (eqb q n) refl
  where
    go : (b : Bool) → eqb q n ≡ b → eqb (kind_at ns q) 0 ≡ b
    go true f = eq-eqb (kind_at ns q) 0 (kind-past ns q (omega (arith, eqb-true q n f)))
    go false f = ne_eqb (kind_at ns q) 0 (λ (z : kind_at ns q ≡ 0). omega (arith, eqb-false q n f, (stood-type (stood-here ns q (omega (arith, eqb-false q n f)))).0))

-- what is said of the first missed deadline is what the code's report has
pub kept-never : (m : Option ℕ) → miss_of m ≡ all_kept → m ≡ None
kept-never None e = refl
kept-never (Some d) e = let z : ◌≡◌ {A = ℕ} 0 1 = cc in absurd (omega arith)

pub first-at : (m : Option ℕ) (d : ℕ) → miss_of m ≡ first_at d → m ≡ Some d
first-at None d e = let z : ◌≡◌ {A = ℕ} 0 1 = cc in absurd (omega arith)
first-at (Some k) d e = let same : k ≡ d = cc in ap Some same

-- C and T of a type that has them are within their limits
pub cycle-within : (y : System) → LimitsOut y → (t : ℕ) (c : Cycle) → 1 ≤ t → (type_no y t).pace ≡ Some c → PaceWithin y.timecap (type_no y t).time c
cycle-within y limits t c l e = go (leb t y.typecount) refl
  where
    go : (b : Bool) → leb t y.typecount ≡ b → PaceWithin y.timecap (type_no y t).time c
    go true q = limits.paces t c l (leb-true t y.typecount q) e
    go false q =
        let none : (type_no y t).pace ≡ None = (limits.past t (leb-false t y.typecount q)).5 in
        let z : ◌≡◌ {A = ℕ} 0 1 = cc in
        absurd (omega arith)

module _ (y : System) (counts : List ℕ) (limits : LimitsOut y) (six : length counts ≡ 6) (paced : all_paced y.types counts ≡ true) where
  abbrev js : List Job
  js = jobs_of y.types counts

  same_length : length y.types ≡ length counts
  same_length = limits.six ∙ sym six

  length-js : length js ≡ instances counts
  length-js = length-jobs y.types counts same_length

  -- C and T of each instance
  pub has-cycle : (t : ℕ) → 1 ≤ t → t ≤ 6 → 1 ≤ count_no counts t → (c : Cycle) × ((type_no y t).pace ≡ Some c)
  has-cycle t l h s = paced-each no_type y.types counts paced (t - 1) (omega (arith, limits.six)) s

  pub periods-js : Periods js
  periods-js = periods-of no_type y.types counts each
    where
      each : (k : ℕ) → k < length y.types → 1 ≤ get_or counts k 0 → 1 ≤ (job_of_type (get_or y.types k no_type)).period
      each k h s =
          let e : suc k - 1 ≡ k = omega arith in
          let f = paced-each no_type y.types counts paced k h s in
          let g : (type_no y (suc k)).pace ≡ Some f.0 = ap (λ (n : ℕ). (get_or y.types n no_type).pace) e ∙ f.1 in
          rw f.1 (cycle-within y limits (suc k) f.0 (omega arith) g).period.0

  -- the schedule that the run makes
  unfoldable pub σ : Schedule
  σ = record { kind = λ (τ : ℕ). kind_at counts (runner τ js); instance = λ (τ : ℕ). instance_at counts (runner τ js) }

  ran-is : {p t i : ℕ} → Stood counts p t i → (start n : ℕ) → ran_for σ t i start n ≡ ran_between p start (start + n) js
  unfolding σ ran_for ran_between
  ran-is {p} s start zero = rw (add-zero start) (sym (ran-none p start start js (le_refl start)))
  ran-is {p} s start (suc n) =
      rw (add-suc start n, le-leb start (start + n) (omega arith), place-test s (runner (start + n) js), ran-is s start n)

  idle-is : (n : ℕ) → idle_for σ n ≡ idle_before n js
  unfolding σ idle_for idle_before
  idle-is zero = refl
  idle-is (suc n) =
      let l : runner n js ≤ length js = rw (length-here n js) at (chosen-le (here_at n js)) in
      rw (idle-is n, past-test counts (runner n js) (length js) length-js l)

  -- an instance with its place and its job
  record Has (t i : ℕ) (c : Cycle) : Type 0 where
    place : ℕ
    stood : Stood counts place t i
    job : job_at js place ≡ job_of c.run c.period 0 0
    inside : place < length js

  job_is : {p t i : ℕ} {c : Cycle} → Stood counts p t i → (type_no y t).pace ≡ Some c → job_at js p ≡ job_of c.run c.period 0 0
  job_is s e = job-stood y.types no_type same_length s ∙ ap paced_job e

  has : {t i : ℕ} {c : Cycle} → Runs y counts t i c → Has t i c
  has {t} {i} {c} r =
      let f = place_of counts t i r.is_type.0 r.is_instance.0 r.is_instance.1 in
      record { place = f.0; stood = f.1; job = job_is f.1 r.paced; inside = omega (arith, length-js, stood-inside f.1) }

  -- and what stands at a place
  at_place : (p : ℕ) → p < length js → (c : Cycle) × Runs y counts (kind_at counts p) (instance_at counts p) c × (job_at js p ≡ job_of c.run c.period 0 0)
  at_place p h = go (stood-here counts p (omega (arith, length-js)))
    where
      go : Stood counts p (kind_at counts p) (instance_at counts p) → (c : Cycle) × Runs y counts (kind_at counts p) (instance_at counts p) c × (job_at js p ≡ job_of c.run c.period 0 0)
      go s = with-cycle (has-cycle (kind_at counts p) (stood-type s).0 (omega (arith, (stood-type s).1)) (omega (arith, (stood-instance s).0, (stood-instance s).1)))
        where
          with-cycle : (c : Cycle) × ((type_no y (kind_at counts p)).pace ≡ Some c) → (c : Cycle) × Runs y counts (kind_at counts p) (instance_at counts p) c × (job_at js p ≡ job_of c.run c.period 0 0)
          with-cycle (c, e) = (c, record { is_type = ((stood-type s).0, omega (arith, (stood-type s).1)); is_instance = stood-instance s; paced = e }, job_is s e)

  -- the ticks that it ran since the last arrival, and when its job is due
  module _ {t i : ℕ} {c : Cycle} (h : Has t i c) (τ : ℕ) where
    T-is : (job_at js h.place).period ≡ c.period
    T-is = ap (λ (j : Job). j.period) h.job

    C-is : (job_at js h.place).run ≡ c.run
    C-is = ap (λ (j : Job). j.run) h.job

    ran-since : ran_for σ t i (arrival c τ) (τ % c.period) ≡ ran_between h.place (words.last_arrival (job_at js h.place).period τ) τ js
    ran-since =
        ran-is h.stood (arrival c τ) (τ % c.period)
        ∙ ap (λ (n : ℕ). ran_between h.place (arrival c τ) n js) (div-add-mod τ c.period)
        ∙ ap (λ (n : ℕ). ran_between h.place (words.last_arrival n τ) τ js) (sym T-is)

    waits-pending : Waits σ t i c τ → 1 ≤ (job_at (here_at τ js) h.place).left
    waits-pending w = (pending-iff js periods-js τ h.place h.inside).1 (omega (arith, ran-since, C-is))

    pending-waits : 1 ≤ (job_at (here_at τ js) h.place).left → Waits σ t i c τ
    pending-waits l = omega (arith, ran-since, C-is, (pending-iff js periods-js τ h.place h.inside).0 l)

    due-is : (job_at (here_at τ js) h.place).due ≡ deadline c τ
    due-is = (standing js periods-js τ h.place h.inside).due ∙ ap (λ (n : ℕ). words.last_arrival n τ + n) T-is

  -- main: who runs in each tick

  pub tick_is : (τ : ℕ) → TickIs y counts σ τ
  unfolding σ
  tick_is τ = go (runs-or-rests js τ)
    where
      idle : runner τ js ≡ length js → Resting js τ → TickIs y counts σ τ
      idle e rest =
          nobody (kind-past counts (runner τ js) (omega (arith, length-js)))
          (λ t i c r w. let h = has r in omega (arith, waits-pending h τ w, rest h.place h.inside))

      busy : words.Runs js τ (runner τ js) → TickIs y counts σ τ
      busy r = with-cycle (at_place (runner τ js) r.inside)
        where
          q : ℕ
          q = runner τ js

          with-cycle : (c : Cycle) × Runs y counts (kind_at counts q) (instance_at counts q) c × (job_at js q ≡ job_of c.run c.period 0 0) → TickIs y counts σ τ
          with-cycle (c, runs, job) = somebody (kind_at counts q) (instance_at counts q) c refl refl runs (pending-waits this τ r.works) before-all
            where
              this : Has (kind_at counts q) (instance_at counts q) c
              this = record { place = q; stood = stood-here counts q (omega (arith, length-js, r.inside)); job = job; inside = r.inside }

              before-all : (t' i' : ℕ) (c' : Cycle) → Runs y counts t' i' c' → Waits σ t' i' c' τ
                  → ((t' ≡ kind_at counts q) × (i' ≡ instance_at counts q)) ⊎ GoesBefore (deadline c τ) (kind_at counts q) (instance_at counts q) (deadline c' τ) t' i'
              before-all t' i' c' r' w' = one (eqb q other.place) refl
                where
                  other : Has t' i' c'
                  other = has r'

                  later : ((job_at (here_at τ js) q).due < (job_at (here_at τ js) other.place).due) ⊎ (((job_at (here_at τ js) q).due ≡ (job_at (here_at τ js) other.place).due) × (q < other.place))
                      → GoesBefore (deadline c τ) (kind_at counts q) (instance_at counts q) (deadline c' τ) t' i'
                  later (inl l) = sooner (omega (arith, due-is this τ, due-is other τ))
                  later (inr l) = tie (sym (due-is this τ) ∙ l.0 ∙ due-is other τ) (stood-order this.stood other.stood l.1)
                    where
                      tie : deadline c τ ≡ deadline c' τ → (kind_at counts q < t') ⊎ ((kind_at counts q ≡ t') × (instance_at counts q < i'))
                          → GoesBefore (deadline c τ) (kind_at counts q) (instance_at counts q) (deadline c' τ) t' i'
                      tie e (inl a) = lower_type e a
                      tie e (inr a) = lower_instance e a.0 a.1

                  one : (b : Bool) → eqb q other.place ≡ b
                      → ((t' ≡ kind_at counts q) × (i' ≡ instance_at counts q)) ⊎ GoesBefore (deadline c τ) (kind_at counts q) (instance_at counts q) (deadline c' τ) t' i'
                  one true e =
                      let s : q ≡ other.place = eqb-true q other.place e in
                      let k = stood-at other.stood in
                      inl (sym k.0 ∙ ap (kind_at counts) (sym s), sym k.1 ∙ ap (instance_at counts) (sym s))
                  one false e = inr (later (r.before-others other.place other.inside (waits-pending other τ w') (eqb-false q other.place e)))

      go : words.Runs js τ (runner τ js) ⊎ ((runner τ js ≡ length js) × Resting js τ) → TickIs y counts σ τ
      go (inl r) = busy r
      go (inr r) = idle r.0 r.1

  -- main: what is reported

  -- the ticks that a job ran between its arrival and its deadline
  ran-between : {t i : ℕ} {c : Cycle} (h : Has t i c) (k d : ℕ) → d ≡ c.period * k + c.period → ran_for σ t i (c.period * k) c.period ≡ ran_between h.place (k * (job_at js h.place).period) d js
  ran-between {t} {i} {c} h k d e =
      let s : c.period * k ≡ k * (job_at js h.place).period = mul_comm c.period k ∙ ap (λ (n : ℕ). k * n) (sym (T-is h d)) in
      ran-is h.stood (c.period * k) c.period
      ∙ ap (λ (n : ℕ). ran_between h.place (c.period * k) n js) (sym e)
      ∙ ap (λ (n : ℕ). ran_between h.place n d js) s

  missed-there : (d : ℕ) → MissedAt y counts σ d → words.MissedAt js d
  missed-there d m =
      let h = has m.runs in
      let T = T-is h d in
      let due : d ≡ m.job * (job_at js h.place).period + (job_at js h.place).period =
      m.due ∙ ap (λ (n : ℕ). n * m.job + n) (sym T) ∙ ap (λ (n : ℕ). n + (job_at js h.place).period) (mul_comm (job_at js h.place).period m.job) in
      (h.place, m.job, h.inside, due, omega (arith, ran-between h m.job d m.due, C-is h d, m.short))

  missed-back : (d : ℕ) → words.MissedAt js d → MissedAt y counts σ d
  missed-back d (p, k, l, e, short) = with-cycle (at_place p l)
    where
      with-cycle : (c : Cycle) × Runs y counts (kind_at counts p) (instance_at counts p) c × (job_at js p ≡ job_of c.run c.period 0 0) → MissedAt y counts σ d
      with-cycle (c, runs, job) =
          record { kind = kind_at counts p; instance = instance_at counts p; cycle = c; job = k; runs = runs; due = due; short = omega (arith, ran-between this k d due, C-is this d) }
        where
          this : Has (kind_at counts p) (instance_at counts p) c
          this = record { place = p; stood = stood-here counts p (omega (arith, length-js)); job = job; inside = l }

          due : d ≡ c.period * k + c.period
          due = e ∙ ap (λ (n : ℕ). k * n + n) (T-is this d) ∙ ap (λ (n : ℕ). n + c.period) (mul_comm k c.period)

  pub report-is : (ticks : ℕ) → ReportIs y counts σ ticks (run_of ticks js).idle (miss_of (run_of ticks js).missed)
  report-is ticks =
      record {
        first = λ d. (
          (λ e. let f = (report-missed js periods-js ticks d).0 (first-at (run_of ticks js).missed d e) in (f.0, missed-back d f.1.0, λ s l m. f.1.1 s l (missed-there s m))),
          (λ f. ap miss_of ((report-missed js periods-js ticks d).1 (f.0, (missed-there d f.1, λ s l m. f.2 s l (missed-back s m))))),
        );
        none = (
          (λ e d l m. (report-never js periods-js ticks).0 (kept-never (run_of ticks js).missed e) d l (missed-there d m)),
          (λ f. ap miss_of ((report-never js periods-js ticks).1 (λ d l m. f d l (missed-back d m)))),
        );
        idle_to_miss = λ d e. report-idle-missed js periods-js ticks d (first-at (run_of ticks js).missed d e) ∙ sym (idle-is d);
        idle_to_end = λ e. report-idle-never js periods-js ticks (kept-never (run_of ticks js).missed e) ∙ sym (idle-is ticks);
      }

  pub run-means : (ticks : ℕ) → RunMeans y counts ticks (run_of ticks js).idle (miss_of (run_of ticks js).missed)
  run-means ticks = record { schedule = σ; follows = tick_is; reports = report-is ticks }

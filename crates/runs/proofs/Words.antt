-- The run in words of its own, for every tick and every place, also after a miss: what stands at a place after the arrivals of a tick, who runs in
-- it, and what is reported. T is the period and C the run time of the job at place p; the job at hand in tick t arrived at T × (t / T).
use Rattle.std.proofs.Common.{None, Some}
use Prim.Native.Nat.{ℕ, zero, suc, ◌+◌, ◌*◌, ◌/◌, ◌≤◌, ◌<◌}
use mathlib.Core.Path.{◌≡◌, refl, sym, ap, ◌∙◌}
use mathlib.Core.List.{List}
use mathlib.Core.Bool.{Bool, true, false, cond, ◌&&◌, false≢true}
use mathlib.Core.Logic.{◌⊎◌, inl, inr, ◌↔◌}
use native.Mathlib.Nat.{le_refl, le_of_suc-le-suc, not-suc-le-zero, mul_comm, div-mul-le_self, lt-div-mul-add}
use native.Mathlib.Omega.{arith}
use borrow.Author.Tests.{leb-true, leb-false, eqb-true, eqb-false, eq-eqb, ne_eqb, ltb-true, ltb-false, lt-ltb}
use lib.ListN.{length}
use lib.Dec.{leb, ltb, eqb}
use Rattle.runs.specs.declared.Job.{Job}
use Rattle.runs.specs.declared.Report.{Report}
use Rattle.runs.specs.Run.{Periods, none, more, fresh_job, arrived_job, arrived, late, late_job, run_of}
use Rattle.runs.specs.Trace.{state_at, runner, ran_between, idle_before}
use Rattle.runs.proofs.Steps.{length-arrived}
use Rattle.runs.proofs.Choice.{job_at, Earliest, Nobody, choice-is}
use Rattle.runs.proofs.Trace.{started-at, arrived-at, length-state, ran-none, Ready, Stage, ready_at, stage_at, late-means}
use Rattle.runs.proofs.Reports.{late-some, late-nowhere, reports-kept, reports-missed}

-- the arrival before or at tick t of a job with period T
abbrev pub last_arrival : ℕ → ℕ → ℕ
last_arrival T t = T * (t / T)

-- the jobs in tick t, after its arrivals
abbrev pub here_at : ℕ → List Job → List Job
here_at t js = arrived t (state_at t js)

pub length-here : (t : ℕ) (js : List Job) → length (here_at t js) ≡ length js
length-here t js = length-arrived t (state_at t js) ∙ length-state t js

pub period-at : {js : List Job} → Periods js → (p : ℕ) → p < length js → 1 ≤ (job_at js p).period
period-at none p h = absurd (not-suc-le-zero h)
period-at (more a ps) zero h = a
period-at (more a ps) (suc p) h = period-at ps p (le_of_suc-le-suc h)

-- what stands at place p in tick t: what ran since the last arrival and what is left make C, and it is due at the next arrival
pub record Standing (js : List Job) (t p : ℕ) : Type 0 where
  pub run : (job_at (here_at t js) p).run ≡ (job_at js p).run
  pub period : (job_at (here_at t js) p).period ≡ (job_at js p).period
  pub due : (job_at (here_at t js) p).due ≡ last_arrival (job_at js p).period t + (job_at js p).period
  pub balance : (job_at (here_at t js) p).left + ran_between p (last_arrival (job_at js p).period t) t js ≡ (job_at js p).run

module _ (js : List Job) (ps : Periods js) where
  module _ (t p : ℕ) (h : p < length js) where
    abbrev T : ℕ
    T = (job_at js p).period

    pos : 1 ≤ T
    pos = period-at ps p h

    -- before the arrivals of tick t
    abbrev was : Job
    was = job_at (state_at t js) p

    here-is : job_at (here_at t js) p ≡ arrived_job t was
    here-is = arrived-at t (state_at t js) p (rw (length-state t js) h)

    at-arrival : Ready js p h t → t ≡ last_arrival T t → Standing js t p
    at-arrival r e =
        let a : job_at (here_at t js) p ≡ fresh_job t was = here-is ∙ ap (λ (b : Bool). cond b (fresh_job t was) was) (eq-eqb was.due t r.due) in
        record {
          run = ap (λ (j : Job). j.run) a ∙ r.run;
          period = ap (λ (j : Job). j.period) a ∙ r.period;
          due = ap (λ (j : Job). j.due) a ∙ omega (arith, r.period);
          balance = omega (arith, ap (λ (j : Job). j.left) a, r.run, ran-none p (last_arrival T t) t js (omega arith));
        }

    between : Stage js p h (last_arrival T t) t → t < last_arrival T t + T → Standing js t p
    between s l =
        let a : job_at (here_at t js) p ≡ was =
        here-is ∙ ap (λ (b : Bool). cond b (fresh_job t was) was) (ne_eqb was.due t (λ (e : was.due ≡ t). omega (arith, s.due))) in
        record {
          run = ap (λ (j : Job). j.run) a ∙ s.run;
          period = ap (λ (j : Job). j.period) a ∙ s.period;
          due = ap (λ (j : Job). j.due) a ∙ s.due;
          balance = omega (arith, ap (λ (j : Job). j.left) a, s.balance);
        }

    pub standing : Standing js t p
    standing = go (leb t (last_arrival T t)) refl
      where
        same : t / T * T ≡ last_arrival T t
        same = mul_comm (t / T) T

        low : last_arrival T t ≤ t
        low = omega (arith, same, div-mul-le_self t T)

        high : t < last_arrival T t + T
        high = omega (arith, same, lt-div-mul-add {a = t} {b = T} pos)

        ready : Ready js p h (last_arrival T t)
        ready = rw same at (ready_at js p h pos (t / T))

        go : (b : Bool) → leb t (last_arrival T t) ≡ b → Standing js t p
        go true q =
            let e : last_arrival T t ≡ t = omega (arith, low, leb-true t (last_arrival T t) q) in
            at-arrival (rw e at ready) (sym e)
        go false q = between (stage_at js p h (last_arrival T t) ready t (leb-false t (last_arrival T t) q) (omega (arith, high))) high

    -- a job is pending exactly when less than C ran since the last arrival
    pub pending-iff : (1 ≤ (job_at (here_at t js) p).left) ↔ (ran_between p (last_arrival (job_at js p).period t) t js < (job_at js p).run)
    pending-iff = (λ l. omega (arith, standing.balance), λ l. omega (arith, standing.balance))

-- who runs

-- place p in tick t: pending, and every other pending place is due later, or at the same time and stands after it
pub record Runs (js : List Job) (t p : ℕ) : Type 0 where
  pub inside : p < length js
  pub works : 1 ≤ (job_at (here_at t js) p).left
  pub before-others :
      (q : ℕ)
      → q < length js
      → 1 ≤ (job_at (here_at t js) q).left
      → (p ≡ q → ⊥)
      → ((job_at (here_at t js) p).due < (job_at (here_at t js) q).due) ⊎ (((job_at (here_at t js) p).due ≡ (job_at (here_at t js) q).due) × (p < q))

-- nobody is pending in tick t
abbrev pub Resting : List Job → ℕ → Type 0
Resting js t = (q : ℕ) → q < length js → (job_at (here_at t js) q).left ≡ 0

module _ (js : List Job) (t : ℕ) where
  abbrev here : List Job
  here = here_at t js

  others-after : (p : ℕ) → Earliest here p → (q : ℕ) → 1 ≤ (job_at here q).left → (p ≡ q → ⊥) → ((job_at here p).due < (job_at here q).due) ⊎ (((job_at here p).due ≡ (job_at here q).due) × (p < q))
  others-after p e q w n = go (ltb (job_at here p).due (job_at here q).due) refl (ltb p q) refl
    where
      go :
          (b : Bool)
          → ltb (job_at here p).due (job_at here q).due ≡ b
          → (c : Bool)
          → ltb p q ≡ c
          → ((job_at here p).due < (job_at here q).due) ⊎ (((job_at here p).due ≡ (job_at here q).due) × (p < q))
      go true a c d = inl (ltb-true _ _ a)
      go false a true d = inr (omega (arith, ltb-false (job_at here p).due (job_at here q).due a, e.earliest q w), ltb-true p q d)
      go false a false d =
          let l : q < p = omega (arith, ltb-false p q d, n) in
          absurd (omega (arith, ltb-false (job_at here p).due (job_at here q).due a, e.first q l w))

  -- in each tick a place runs, or nobody is pending and the choice is past the last place
  pub runs-or-rests : Runs js t (runner t js) ⊎ ((runner t js ≡ length js) × Resting js t)
  runs-or-rests = go (choice-is here)
    where
      go : Earliest here (runner t js) ⊎ Nobody here (runner t js) → Runs js t (runner t js) ⊎ ((runner t js ≡ length js) × Resting js t)
      go (inl e) =
          inl
          (record {
            inside = rw (length-here t js) at e.inside;
            works = e.works;
            before-others = λ q m w n. others-after (runner t js) e q w n;
          })
      go (inr n) = inr (n.past ∙ length-here t js, λ q m. n.rests q)

  -- the choice is the number of jobs exactly where nobody is pending
  pub runner-none : (runner t js ≡ length js) ↔ Resting js t
  runner-none = (λ e. there e runs-or-rests, λ r. back r runs-or-rests)
    where
      there : runner t js ≡ length js → Runs js t (runner t js) ⊎ ((runner t js ≡ length js) × Resting js t) → Resting js t
      there e (inl w) = absurd (omega (arith, w.inside))
      there e (inr w) = w.1

      back : Resting js t → Runs js t (runner t js) ⊎ ((runner t js ≡ length js) × Resting js t) → runner t js ≡ length js
      back r (inl w) = absurd (omega (arith, w.works, r (runner t js) w.inside))
      back r (inr w) = w.0

  -- and a place exactly where that place is pending and comes before every other that is
  pub runner-some : (p : ℕ) → ((runner t js ≡ p) × (p < length js)) ↔ Runs js t p
  runner-some p = (λ w. there w.0 w.1 runs-or-rests, λ w. (back w runs-or-rests, w.inside))
    where
      there : runner t js ≡ p → p < length js → Runs js t (runner t js) ⊎ ((runner t js ≡ length js) × Resting js t) → Runs js t p
      there e l (inl w) = rw e at w
      there e l (inr w) = absurd (omega (arith, w.0))

      clash :
          (q : ℕ)
          → Runs js t q
          → Runs js t p
          → (q ≡ p → ⊥)
          → ⊥
      clash q v w n = both (v.before-others p w.inside w.works n) (w.before-others q v.inside v.works (λ (e : p ≡ q). n (sym e)))
        where
          both :
              ((job_at here q).due < (job_at here p).due) ⊎ (((job_at here q).due ≡ (job_at here p).due) × (q < p))
              → ((job_at here p).due < (job_at here q).due) ⊎ (((job_at here p).due ≡ (job_at here q).due) × (p < q))
              → ⊥
          both (inl a) (inl b) = omega arith
          both (inl a) (inr b) = omega (arith, b.0)
          both (inr a) (inl b) = omega (arith, a.0)
          both (inr a) (inr b) = omega (arith, a.1, b.1)

      back : Runs js t p → Runs js t (runner t js) ⊎ ((runner t js ≡ length js) × Resting js t) → runner t js ≡ p
      back w (inl v) = go (eqb (runner t js) p) refl
        where
          go : (b : Bool) → eqb (runner t js) p ≡ b → runner t js ≡ p
          go true q = eqb-true (runner t js) p q
          go false q = absurd (clash (runner t js) v w (eqb-false (runner t js) p q))
      back w (inr v) = absurd (omega (arith, w.works, v.1 p w.inside))

-- what is reported

-- a deadline at d is missed: at some place, of its job k, which arrives at k × T, fewer than C ticks ran between that and d
abbrev pub MissedAt : List Job → ℕ → Type 0
MissedAt js d =
    (p : ℕ)
    × (k : ℕ)
    × (p < length js)
    × (d ≡ k * (job_at js p).period + (job_at js p).period)
    × (ran_between p (k * (job_at js p).period) d js < (job_at js p).run)

-- d is the first missed deadline
abbrev pub FirstMiss : List Job → ℕ → Type 0
FirstMiss js d = MissedAt js d × ((e : ℕ) → e < d → MissedAt js e → ⊥)

-- none is missed up to an instant
abbrev pub NoMiss : List Job → ℕ → Type 0
NoMiss js end = (d : ℕ) → d ≤ end → MissedAt js d → ⊥

and_parts : (a b : Bool) → (a && b) ≡ true → (a ≡ true) × (b ≡ true)
and_parts true b h = (refl, h)
and_parts false b h = absurd (false≢true h)

-- "missed at" says its time, and is not "never"

at_same : {a b : ℕ} → Some a ≡ Some b → a ≡ b
at_same e = cc

at-never : {a : ℕ} → Some a ≡ None → ⊥
at-never e = let z : ◌≡◌ {A = ℕ} 0 1 = cc in omega arith

not-below : {a b : ℕ} → (a < b → ⊥) → b ≤ a
not-below {a} {b} f = omega (arith, f)

module _ (js : List Job) (ps : Periods js) where
  late-missed : (d : ℕ) → late d (state_at d js) ≡ true → MissedAt js d
  unfolding state_at
  late-missed d h = let f = late-some d (state_at d js) h in found d f.0 (rw (length-state d js) at f.1) f.2
    where
      found : (d p : ℕ) → p < length js → late_job d (job_at (state_at d js) p) ≡ true → MissedAt js d
      found zero p l e = absurd (false≢true (sym (ap (λ (j : Job). late_job 0 j) (started-at js p l)) ∙ e))
      found (suc t) p l e =
          let T = (job_at js p).period in
          let pos : 1 ≤ T = period-at ps p l in
          let k = t / T in
          let s : Stage js p l (k * T) (suc t) = stage_at js p l (k * T) (ready_at js p l pos k) (suc t) (omega (arith, div-mul-le_self t T)) (omega (arith, lt-div-mul-add {a = t} {b = T} pos)) in
          let j = job_at (state_at (suc t) js) p in
          let b = and_parts (eqb j.due (suc t)) (ltb 0 j.left) e in
          let w : suc t ≡ k * T + T = sym (eqb-true j.due (suc t) b.0) ∙ s.due in
          (p, k, l, w, omega (arith, ltb-true 0 j.left b.1, s.balance))

  missed-late : (d : ℕ) → MissedAt js d → late d (state_at d js) ≡ true
  missed-late d w = go (late d (state_at d js)) refl
    where
      is : late_job d (job_at (state_at d js) w.0) ≡ true
      is =
          rw w.3
          (late-means js w.0 w.2 (period-at ps w.0 w.2) w.1
          ∙ lt-ltb _ _ (rw w.3 at w.4))

      go : (b : Bool) → late d (state_at d js) ≡ b → b ≡ true
      go true e = refl
      go false e = sym (late-nowhere d (state_at d js) e w.0 (rw (length-state d js) w.2)) ∙ is

  -- nothing is late at t
  abbrev Kept : ℕ → Type 0
  Kept t = late t (state_at t js) ≡ false

  -- m is the first instant at which a job is late
  abbrev First : ℕ → Type 0
  First m = (late m (state_at m js) ≡ true) × ((t : ℕ) → t < m → Kept t)

  first-late : (n : ℕ) → ((m : ℕ) × (m < n) × First m) ⊎ ((t : ℕ) → t < n → Kept t)
  first-late zero = inr (λ t h. absurd (not-suc-le-zero h))
  first-late (suc n) = go (first-late n) (late n (state_at n js)) refl
    where
      go : ((m : ℕ) × (m < n) × First m) ⊎ ((t : ℕ) → t < n → Kept t) → (b : Bool) → late n (state_at n js) ≡ b → ((m : ℕ) × (m < suc n) × First m) ⊎ ((t : ℕ) → t < suc n → Kept t)
      go (inl f) b e = inl (f.0, omega (arith, f.1), f.2)
      go (inr k) true e = inl (n, le_refl (suc n), (e, k))
      go (inr k) false e = inr (λ t h. last t h (ltb t n) refl)
        where
          last : (t : ℕ) → t < suc n → (c : Bool) → ltb t n ≡ c → Kept t
          last t h true q = k t (ltb-true t n q)
          last t h false q = let s : t ≡ n = omega (arith, ltb-false t n q) in rw s e

  -- main

  -- the whole report: the first missed deadline up to the horizon with the idle ticks before it, or none with all idle ticks
  abbrev pub Reported : ℕ → Type 0
  Reported ticks =
      ((d : ℕ) × (d ≤ ticks) × FirstMiss js d × (run_of ticks js ≡ record { idle = idle_before d js; missed = Some d }))
      ⊎ (NoMiss js ticks × (run_of ticks js ≡ record { idle = idle_before ticks js; missed = None }))

  pub report-cases : (ticks : ℕ) → Reported ticks
  report-cases ticks = go (first-late (suc ticks))
    where
      no-miss : (d : ℕ) → Kept d → MissedAt js d → ⊥
      no-miss d k w = false≢true (sym k ∙ missed-late d w)

      go :
          ((m : ℕ) × (m < suc ticks) × First m) ⊎ ((t : ℕ) → t < suc ticks → Kept t)
          → Reported ticks
      go (inl f) =
          let m = f.0 in
          let l : m ≤ ticks = le_of_suc-le-suc f.1 in
          inl (m, l, (late-missed m f.2.0, λ e h. no-miss e (f.2.1 e h)), reports-missed js ticks m l f.2.0 f.2.1)
      go (inr k) = inr ((λ d h. no-miss d (k d (omega arith))), reports-kept js ticks (λ t h. k t (omega arith)))

  -- "the first missed deadline .. at or before the last tick's end"
  pub report-missed : (ticks d : ℕ) → ((run_of ticks js).missed ≡ Some d) ↔ ((d ≤ ticks) × FirstMiss js d)
  report-missed ticks d = (λ e. there e (report-cases ticks), λ w. back w (report-cases ticks))
    where
      there :
          (run_of ticks js).missed ≡ Some d
          → Reported ticks → (d ≤ ticks) × FirstMiss js d
      there e (inl f) =
          let s : f.0 ≡ d = at_same (sym (ap (λ (r : Report). r.missed) f.3) ∙ e) in
          (rw s at f.1, rw s at f.2)
      there e (inr f) = absurd (at-never (sym e ∙ ap (λ (r : Report). r.missed) f.1))

      back :
          (d ≤ ticks) × FirstMiss js d
          → Reported ticks → (run_of ticks js).missed ≡ Some d
      back w (inl f) =
          let a : f.0 ≤ d = not-below (λ (l : d < f.0). f.2.1 d l w.1.0) in
          let b : d ≤ f.0 = not-below (λ (l : f.0 < d). w.1.1 f.0 l f.2.0) in
          let s : f.0 ≡ d = omega arith in
          ap (λ (r : Report). r.missed) f.3 ∙ ap (λ (m : ℕ). Some m) s
      back w (inr f) = absurd (f.0 d w.0 w.1.0)

  -- "none missed"
  pub report-never : (ticks : ℕ) → ((run_of ticks js).missed ≡ None) ↔ NoMiss js ticks
  report-never ticks = (λ e. there e (report-cases ticks), λ w. back w (report-cases ticks))
    where
      there :
          (run_of ticks js).missed ≡ None
          → Reported ticks → NoMiss js ticks
      there e (inl f) = absurd (at-never (sym (ap (λ (r : Report). r.missed) f.3) ∙ e))
      there e (inr f) = f.0

      back :
          NoMiss js ticks
          → Reported ticks → (run_of ticks js).missed ≡ None
      back w (inl f) = absurd (w f.0 f.1 f.2.0)
      back w (inr f) = ap (λ (r : Report). r.missed) f.1

  -- idle ticks are those before the miss, or all
  pub report-idle-missed : (ticks d : ℕ) → (run_of ticks js).missed ≡ Some d → (run_of ticks js).idle ≡ idle_before d js
  report-idle-missed ticks d e = go (report-cases ticks)
    where
      go :
          Reported ticks → (run_of ticks js).idle ≡ idle_before d js
      go (inl f) = ap (λ (r : Report). r.idle) f.3 ∙ ap (λ (m : ℕ). idle_before m js) (at_same (sym (ap (λ (r : Report). r.missed) f.3) ∙ e))
      go (inr f) = absurd (at-never (sym e ∙ ap (λ (r : Report). r.missed) f.1))

  pub report-idle-never : (ticks : ℕ) → (run_of ticks js).missed ≡ None → (run_of ticks js).idle ≡ idle_before ticks js
  report-idle-never ticks e = go (report-cases ticks)
    where
      go :
          Reported ticks → (run_of ticks js).idle ≡ idle_before ticks js
      go (inl f) = absurd (at-never (sym (ap (λ (r : Report). r.missed) f.3) ∙ e))
      go (inr f) = ap (λ (r : Report). r.idle) f.1

-- Instance i's job k is late at its deadline exactly when the ticks it ran between k × T and (k + 1) × T are fewer than C.
use Prim.Native.Nat.{ℕ, zero, suc, ◌+◌, ◌*◌, ◌≤◌, ◌<◌}
use mathlib.Core.Path.{◌≡◌, refl, sym, ap, ◌∙◌}
use mathlib.Core.List.{List, [], ◌∷◌}
use mathlib.Core.Bool.{Bool, true, false, cond, ◌&&◌}
use mathlib.Core.Logic.{◌⊎◌, inl, inr}
use native.Mathlib.Nat.{le_refl, le_of_suc-le-suc, not-suc-le-zero, zero-mul, add-mul, one-mul}
use native.Mathlib.Numerals.{add-one}
use native.Mathlib.Omega.{arith}
use borrow.Author.Tests.{leb-true, leb-false, le-leb, lt-leb, ltb-true, ltb-false, lt-ltb, le-ltb, eqb-true, eq-eqb, ne_eqb}
use lib.ListN.{length}
use lib.Dec.{leb, ltb, eqb, eqb-suc-suc, eqb-zero-suc, eqb-suc-zero}
use Rattle.runs.specs.declared.Job.{Job}
use Rattle.runs.specs.Run.{fresh_job, started_job, started, late_job, arrived_job, arrived, chosen, worked_job, worked_at, worked}
use Rattle.runs.specs.Trace.{state_at, runner, ran_between}
use Rattle.runs.proofs.Steps.{length-arrived, length-started, length-worked}
use Rattle.runs.proofs.Choice.{job_at, Earliest, Nobody, choice-is}

-- intermediate: one place of the list

pub started-at : (l : List Job) (i : ℕ) → i < length l → job_at (started l) i ≡ started_job (job_at l i)
unfolding started
started-at [] i h = absurd (not-suc-le-zero h)
started-at (j ∷ l) zero h = refl
started-at (j ∷ l) (suc i) h = started-at l i (le_of_suc-le-suc h)

pub arrived-at : (now : ℕ) (l : List Job) (i : ℕ) → i < length l → job_at (arrived now l) i ≡ arrived_job now (job_at l i)
unfolding arrived
arrived-at now [] i h = absurd (not-suc-le-zero h)
arrived-at now (j ∷ l) zero h = refl
arrived-at now (j ∷ l) (suc i) h = arrived-at now l i (le_of_suc-le-suc h)

worked-at : (l : List Job) (c i : ℕ) → i < length l → job_at (worked_at l c) i ≡ cond (eqb c i) (worked_job (job_at l i)) (job_at l i)
unfolding worked_at
worked-at [] c i h = absurd (not-suc-le-zero h)
worked-at (j ∷ l) zero zero h = refl
worked-at (j ∷ l) zero (suc i) h = rw (eqb-zero-suc i)
worked-at (j ∷ l) (suc c) zero h = rw (eqb-suc-zero c)
worked-at (j ∷ l) (suc c) (suc i) h = rw (eqb-suc-suc c i) (worked-at l c i (le_of_suc-le-suc h))

-- a tick takes one from what is left exactly of the job that runs, and changes nothing else
record Ticked (was is : Job) (ran : Bool) : Type 0 where
  run : is.run ≡ was.run
  period : is.period ≡ was.period
  due : is.due ≡ was.due
  left : is.left + cond ran 1 0 ≡ was.left

ticked : (l : List Job) (i : ℕ) → i < length l → Ticked (job_at l i) (job_at (worked l) i) (eqb (chosen l) i)
ticked l i h = rw (worked-at l (chosen l) i h) (go (eqb (chosen l) i) refl (choice-is l))
  where
    j : Job
    j = job_at l i

    go : (b : Bool) → eqb (chosen l) i ≡ b → Earliest l (chosen l) ⊎ Nobody l (chosen l) → Ticked j (cond b (worked_job j) j) b
    go false p w = record { run = refl; period = refl; due = refl; left = omega arith }
    go true p (inr n) = absurd (omega (arith, eqb-true (chosen l) i p, n.past))
    go true p (inl e) =
        let s : chosen l ≡ i = eqb-true (chosen l) i p in
        let v : 1 ≤ j.left = rw s at e.works in
        record { run = refl; period = refl; due = refl; left = omega arith }

pub length-state : (t : ℕ) (js : List Job) → length (state_at t js) ≡ length js
unfolding state_at
length-state zero js = length-started js
length-state (suc t) js = length-worked (arrived t (state_at t js)) (runner t js) ∙ length-arrived t (state_at t js) ∙ length-state t js

pub ran-none : (i start t : ℕ) (js : List Job) → t ≤ start → ran_between i start t js ≡ 0
unfolding ran_between
ran-none i start zero js h = refl
ran-none i start (suc t) js h = rw (lt-leb start t h) (omega (arith, ran-none i start t js (omega arith)))

ran_on : (i start t : ℕ) (js : List Job) → start ≤ t → ran_between i start (suc t) js ≡ ran_between i start t js + cond (eqb (runner t js) i) 1 0
unfolding ran_between
ran_on i start t js h = rw (le-leb start t h)

-- something is left exactly when too little ran
left-ran : (left ran c : ℕ) → left + ran ≡ c → ltb 0 left ≡ ltb ran c
left-ran left ran c e = go (ltb 0 left) refl
  where
    go : (b : Bool) → ltb 0 left ≡ b → b ≡ ltb ran c
    go true p = sym (lt-ltb ran c (omega (arith, ltb-true 0 left p)))
    go false p = sym (le-ltb ran c (omega (arith, ltb-false 0 left p)))

pub state-start : (js : List Job) → state_at 0 js ≡ started js
unfolding state_at
state-start js = refl

pub state-on : (t : ℕ) (js : List Job) → state_at (suc t) js ≡ worked (arrived t (state_at t js))
unfolding state_at
state-on t js = refl

module _ (js : List Job) (i : ℕ) (h : i < length js) where
  -- at an arrival
  pub record Ready (start : ℕ) : Type 0 where
    pub run : (job_at (state_at start js) i).run ≡ (job_at js i).run
    pub period : (job_at (state_at start js) i).period ≡ (job_at js i).period
    pub due : (job_at (state_at start js) i).due ≡ start

  -- after it, up to the next one: what ran and what is left make the run time
  pub record Stage (start now : ℕ) : Type 0 where
    pub run : (job_at (state_at now js) i).run ≡ (job_at js i).run
    pub period : (job_at (state_at now js) i).period ≡ (job_at js i).period
    pub due : (job_at (state_at now js) i).due ≡ start + (job_at js i).period
    pub balance : (job_at (state_at now js) i).left + ran_between i start now js ≡ (job_at js i).run

  tick : (now : ℕ) → Ticked (arrived_job now (job_at (state_at now js) i)) (job_at (state_at (suc now) js) i) (eqb (runner now js) i)
  tick now =
      let l : i < length (state_at now js) = rw (length-state now js) h in
      let l' : i < length (arrived now (state_at now js)) = rw (length-arrived now (state_at now js)) l in
      rw (state-on now js, ← (arrived-at now (state_at now js) i l)) (ticked (arrived now (state_at now js)) i l')

  stage-first : (start : ℕ) → Ready start → Stage start (suc start)
  stage-first start r =
      let j = job_at (state_at start js) i in
      let a : arrived_job start j ≡ fresh_job start j =
      ap (λ (b : Bool). cond b (fresh_job start j) j) (eq-eqb j.due start r.due) in
      let t : Ticked (fresh_job start j) (job_at (state_at (suc start) js) i) (eqb (runner start js) i) = rw a at (tick start) in
      record {
        run = t.run ∙ r.run;
        period = t.period ∙ r.period;
        due = t.due ∙ ap (λ (n : ℕ). start + n) r.period;
        balance = omega (arith, t.left, r.run, ran_on i start start js (le_refl start), ran-none i start start js (le_refl start));
      }

  stage-on : (start now : ℕ) → start ≤ now → now < start + (job_at js i).period → Stage start now → Stage start (suc now)
  stage-on start now l m s =
      let j = job_at (state_at now js) i in
      let a : arrived_job now j ≡ j =
      ap (λ (b : Bool). cond b (fresh_job now j) j)
      (ne_eqb j.due now (λ (e : j.due ≡ now). omega (arith, s.due))) in
      let t : Ticked j (job_at (state_at (suc now) js) i) (eqb (runner now js) i) = rw a at (tick now) in
      record {
        run = t.run ∙ s.run;
        period = t.period ∙ s.period;
        due = t.due ∙ s.due;
        balance = omega (arith, t.left, s.balance, ran_on i start now js l);
      }

  pub stage_at : (start : ℕ) → Ready start → (now : ℕ) → start < now → now ≤ start + (job_at js i).period → Stage start now
  stage_at start r zero l m = absurd (not-suc-le-zero l)
  stage_at start r (suc t) l m = go (leb t start) refl (stage_at start r t)
    where
      go : (b : Bool) → leb t start ≡ b → (start < t → t ≤ start + (job_at js i).period → Stage start t) → Stage start (suc t)
      go true p ih =
          let e : t ≡ start = omega (arith, leb-true t start p) in
          rw e (stage-first start r)
      go false p ih = stage-on start t (omega arith) m (ih (leb-false t start p) (omega arith))

  module _ (pos : 1 ≤ (job_at js i).period) where
    whole : (start : ℕ) → Ready start → Stage start (start + (job_at js i).period)
    whole start r = stage_at start r (start + (job_at js i).period) (omega arith) (le_refl _)

    pub ready_at : (k : ℕ) → Ready (k * (job_at js i).period)
    unfolding state_at
    ready_at zero =
        rw (zero-mul (job_at js i).period)
        (let s = started-at js i h in
        record { run = ap (λ (j : Job). j.run) s; period = ap (λ (j : Job). j.period) s; due = ap (λ (j : Job). j.due) s })
    ready_at (suc k) =
        let s = whole (k * (job_at js i).period) (ready_at k) in
        let e : suc k * (job_at js i).period ≡ k * (job_at js i).period + (job_at js i).period =
        ap (λ (n : ℕ). n * (job_at js i).period) (sym (add-one k)) ∙ add-mul k 1 (job_at js i).period ∙ ap (λ (n : ℕ). k * (job_at js i).period + n) (one-mul _) in
        rw e (record { run = s.run; period = s.period; due = s.due })

    -- main: "one .. whose job has run less than C by then"
    pub late-means :
        (k : ℕ)
        → (let start = k * (job_at js i).period in
        let end = start + (job_at js i).period in
        late_job end (job_at (state_at end js) i) ≡ ltb (ran_between i start end js) (job_at js i).run)
    late-means k =
        let start = k * (job_at js i).period in
        let end = start + (job_at js i).period in
        let s = whole start (ready_at k) in
        let j = job_at (state_at end js) i in
        ap (λ (b : Bool). b && ltb 0 j.left) (eq-eqb j.due end s.due) ∙ left-ran j.left (ran_between i start end js) (job_at js i).run s.balance

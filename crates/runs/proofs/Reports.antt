-- What a run reports: the time of the first late job and the idle ticks before it, or none missed and all idle ticks.
use Rattle.std.proofs.Common.{None, Some}
use Prim.Native.Nat.{ℕ, zero, suc, ◌+◌, ◌≤◌, ◌<◌, zero-le}
use mathlib.Core.Path.{◌≡◌, refl, sym, ◌∙◌}
use mathlib.Core.List.{List, [], ◌∷◌}
use mathlib.Core.Bool.{Bool, true, false, ◌||◌, false≢true}
use native.Mathlib.Nat.{le_of_suc-le-suc, not-suc-le-zero, add-zero, zero-add}
use native.Mathlib.Numerals.{add-one}
use native.Mathlib.Omega.{arith}
use borrow.Author.Tests.{leb-true, leb-false}
use lib.ListN.{length}
use lib.Dec.{leb}
use Rattle.runs.specs.declared.Job.{Job}
use Rattle.runs.specs.declared.Report.{Report}
use Rattle.runs.specs.Run.{late, late_job, arrived, idle_tick, run_from, run_of}
use Rattle.runs.specs.Trace.{state_at, idle_before}
use Rattle.runs.proofs.Choice.{job_at}
use Rattle.runs.proofs.Steps.{length-arrived, run-late, run_end, run_on}
use Rattle.runs.proofs.Trace.{length-state, state-on}

-- a job is late exactly where one of the list is

pub late-some : (now : ℕ) (l : List Job) → late now l ≡ true → (i : ℕ) × (i < length l) × (late_job now (job_at l i) ≡ true)
unfolding late
late-some now [] h = absurd (false≢true h)
late-some now (j ∷ l) h = go (late_job now j) refl h (late-some now l)
  where
    go :
        (b : Bool)
        → late_job now j ≡ b
        → (b || late now l) ≡ true
        → (late now l ≡ true → (i : ℕ) × (i < length l) × (late_job now (job_at l i) ≡ true))
        → (i : ℕ) × (i < length (j ∷ l)) × (late_job now (job_at (j ∷ l) i) ≡ true)
    go true p q ih = (zero, omega arith, p)
    go false p q ih = let f = ih q in (suc f.0, omega (arith, f.1), f.2)

pub late-nowhere : (now : ℕ) (l : List Job) → late now l ≡ false → (i : ℕ) → i < length l → late_job now (job_at l i) ≡ false
unfolding late
late-nowhere now [] h i m = absurd (not-suc-le-zero m)
late-nowhere now (j ∷ l) h i m = go (late_job now j) refl h (late-nowhere now l) i m
  where
    go :
        (b : Bool)
        → late_job now j ≡ b
        → (b || late now l) ≡ false
        → (late now l ≡ false → (k : ℕ) → k < length l → late_job now (job_at l k) ≡ false)
        → (k : ℕ)
        → k < length (j ∷ l)
        → late_job now (job_at (j ∷ l) k) ≡ false
    go true p q ih k n = absurd (false≢true (sym q))
    go false p q ih zero n = p
    go false p q ih (suc k) n = ih q k (le_of_suc-le-suc n)

-- intermediate

idle-on : (t : ℕ) (js : List Job) → idle_before (suc t) js ≡ idle_before t js + idle_tick (arrived t (state_at t js))
unfolding idle_before
idle-on t js = rw (length-arrived t (state_at t js), length-state t js)

module _ (js : List Job) where
  -- the run from an instant on
  abbrev rest : ℕ → ℕ → Report
  rest left now = run_from left now (idle_before now js) (state_at now js)

  rest-on : (left now : ℕ) → late now (state_at now js) ≡ false → rest (suc left) now ≡ rest left (suc now)
  rest-on left now h =
      run_on left now (idle_before now js) (state_at now js) h
      ∙ rw (add-one now, idle-on now js, state-on now js)

  rest-kept : (left now : ℕ) → ((t : ℕ) → t ≤ now + left → late t (state_at t js) ≡ false) → rest left now ≡ record { idle = idle_before (now + left) js; missed = None }
  rest-kept zero now h =
      run_end 0 now (idle_before now js) (state_at now js) refl (h now (omega arith))
      ∙ rw (add-zero now)
  rest-kept (suc left) now h =
      let e : suc now + left ≡ now + suc left = omega arith in
      rest-on left now (h now (omega arith))
      ∙ rest-kept left (suc now) (λ t m. h t (omega arith))
      ∙ rw e

  rest-missed :
      (left now m : ℕ)
      → now ≤ m
      → m ≤ now + left
      → late m (state_at m js) ≡ true
      → ((t : ℕ) → t < m → late t (state_at t js) ≡ false)
      → rest left now ≡ record { idle = idle_before m js; missed = Some m }
  rest-missed zero now m a b h g =
      let e : now ≡ m = omega arith in
      rw e (run-late 0 m (idle_before m js) (state_at m js) h)
  rest-missed (suc left) now m a b h g = go (leb m now) refl (rest-missed left (suc now) m)
    where
      go :
          (c : Bool)
          → leb m now ≡ c
          → (suc now ≤ m
          → m ≤ suc now + left
          → late m (state_at m js) ≡ true
          → ((t : ℕ) → t < m → late t (state_at t js) ≡ false)
          → rest left (suc now) ≡ record { idle = idle_before m js; missed = Some m })
          → rest (suc left) now ≡ record { idle = idle_before m js; missed = Some m }
      go true p ih =
          let e : now ≡ m = omega (arith, leb-true m now p) in
          rw e (run-late (suc left) m (idle_before m js) (state_at m js) h)
      go false p ih =
          let l : now < m = leb-false m now p in
          rest-on left now (g now l) ∙ ih l (omega arith) h g

  -- main

  rest_all : (ticks : ℕ) → run_of ticks js ≡ rest ticks 0
  unfolding state_at idle_before
  rest_all ticks = refl

  pub reports-kept : (ticks : ℕ) → ((t : ℕ) → t ≤ ticks → late t (state_at t js) ≡ false) → run_of ticks js ≡ record { idle = idle_before ticks js; missed = None }
  reports-kept ticks h = rest_all ticks ∙ rest-kept ticks 0 (λ t m. h t (omega arith)) ∙ rw (zero-add ticks)

  pub reports-missed :
      (ticks m : ℕ)
      → m ≤ ticks
      → late m (state_at m js) ≡ true
      → ((t : ℕ) → t < m → late t (state_at t js) ≡ false)
      → run_of ticks js ≡ record { idle = idle_before m js; missed = Some m }
  reports-missed ticks m l h g = rest_all ticks ∙ rest-missed ticks 0 m zero-le (omega arith) h g

-- No deadline is missed where the demand bound holds. For every d let a job owe, if it is due by d, what is left plus its run time for each further
-- deadline by d. The invariant, for every d from now on: all that is owed by d is at most d - now.
use Rattle.std.proofs.Common.{None}
use Prim.Native.Nat.{ℕ, zero, suc, ◌+◌, ◌-◌, ◌*◌, ◌/◌, ◌≤◌, ◌<◌, zero-le}
use mathlib.Core.Path.{◌≡◌, refl, sym, ap, ◌∙◌}
use mathlib.Core.List.{List, [], ◌∷◌}
use mathlib.Core.Bool.{Bool, true, false, cond, not, ◌&&◌, ◌||◌, false≢true}
use mathlib.Core.Logic.{◌⊎◌, inl, inr}
use native.Mathlib.Nat.{zero-mul, add-mul, mul_assoc, mul_comm, mul_right_comm, mul-le-mul_right, mul-div-le, le_of_mul-le-mul_right}
use native.Mathlib.Nat.{add-le-add, mul-le-mul_left, mul-add, mul-one, le_refl, le_trans, sub-zero, div-mul-le_self, le-div_iff_mul-le, div-eq-sub-div}
use native.Mathlib.Omega.{arith}
use borrow.Author.Tests.{leb-true, leb-false, le-leb, lt-leb, ltb-true, ltb-false, eqb-true, eqb-false, le-ltb}
use lib.Dec.{leb, ltb, eqb}
use Rattle.runs.specs.declared.Job.{Job}
use Rattle.runs.specs.Run.{fresh_job, started, started_job, late, arrived_job, arrived, earlier, sooner, chosen, worked_job, worked_at, worked, idle_tick}
use Rattle.runs.specs.Run.{run_from, run_of, demand, Demand, Periods, none, more}

-- intermediate: what is owed by d

unfoldable pub owes : ℕ → Job → ℕ
owes d j = cond (leb j.due d) (j.left + j.run * ((d - j.due) / j.period)) 0

unfoldable pub owed : ℕ → List Job → ℕ
owed d [] = 0
owed d (j ∷ js) = owes d j + owed d js

owes-in : (d : ℕ) (j : Job) → j.due ≤ d → owes d j ≡ j.left + j.run * ((d - j.due) / j.period)
unfolding owes
owes-in d j h = ap (λ (b : Bool). cond b (j.left + j.run * ((d - j.due) / j.period)) 0) (le-leb j.due d h)

owes-out : (d : ℕ) (j : Job) → d < j.due → owes d j ≡ 0
unfolding owes
owes-out d j h = ap (λ (b : Bool). cond b (j.left + j.run * ((d - j.due) / j.period)) 0) (lt-leb j.due d h)

by-or-past : (a d : ℕ) → (a ≤ d) ⊎ (d < a)
by-or-past a d = go (leb a d) refl
  where
    go : (b : Bool) → leb a d ≡ b → (a ≤ d) ⊎ (d < a)
    go true p = inl (leb-true a d p)
    go false p = inr (leb-false a d p)

div_mono : (p : ℕ) {m n : ℕ} → 1 ≤ p → m ≤ n → m / p ≤ n / p
div_mono p {m} {n} h l = (le-div_iff_mul-le {k = p} {x = m / p} {y = n} h).1 (le_trans (div-mul-le_self m p) l)

-- every deadline is at `now` or later
pub data Ahead (now : ℕ) : List Job → Type 0 where
  no-job : Ahead now []
  and-job : {j : Job} {js : List Job} → now ≤ j.due → Ahead now js → Ahead now (j ∷ js)

-- nothing pending is due by d
data Clear (d : ℕ) : List Job → Type 0 where
  no-job : Clear d []
  and-job : {j : Job} {js : List Job} → (j.due ≤ d → j.left ≡ 0) → Clear d js → Clear d (j ∷ js)

-- where nothing is owed by d, nothing pending is due by d
clear_of : (d : ℕ) (js : List Job) → owed d js ≤ 0 → Clear d js
unfolding owed
clear_of d [] h = no-job
clear_of d (j ∷ js) h = and-job {j = j} (λ (l : j.due ≤ d). omega (arith, owes-in d j l)) (clear_of d js (omega arith))

not_late : (now : ℕ) {js : List Job} → Clear now js → late now js ≡ false
unfolding late
not_late now no-job = refl
not_late now (and-job {j} {js} h r) = go (not_late now r) (eqb j.due now) refl
  where
    go : late now js ≡ false → (b : Bool) → eqb j.due now ≡ b → ((b && ltb 0 j.left) || late now js) ≡ false
    go ih false p = ih
    go ih true p =
        let z : j.left ≡ 0 = h (omega (arith, eqb-true j.due now p)) in
        ap (λ (b : Bool). b || late now js) (le-ltb 0 j.left (omega arith)) ∙ ih

-- an arrival asks for nothing that was not owed before
job-arrives : (now d : ℕ) (j : Job) → now ≤ d → (j.due ≤ now → j.left ≡ 0) → 1 ≤ j.period → owes d (arrived_job now j) ≤ owes d j
job-arrives now d j l h p = go (eqb j.due now) refl
  where
    next : Job
    next = fresh_job now j

    due : j.due ≡ now → (now + j.period ≤ d) ⊎ (d < now + j.period) → owes d next ≤ owes d j
    due e (inr q) = omega (arith, owes-out d next q)
    due e (inl q) =
        let a : owes d next ≡ j.run + j.run * ((d - (now + j.period)) / j.period) = owes-in d next q in
        let b : owes d j ≡ j.left + j.run * ((d - j.due) / j.period) = owes-in d j (omega arith) in
        let s : (d - j.due) / j.period ≡ (d - j.due - j.period) / j.period + 1 = div-eq-sub-div p (omega arith) in
        let t : d - j.due - j.period ≡ d - (now + j.period) = omega arith in
        let u : (d - j.due) / j.period ≡ (d - (now + j.period)) / j.period + 1 = s ∙ ap (λ (n : ℕ). n / j.period + 1) t in
        let v : j.run * ((d - j.due) / j.period) ≡ j.run * ((d - (now + j.period)) / j.period) + j.run * 1 = ap (λ (n : ℕ). j.run * n) u ∙ mul-add j.run _ 1 in
        omega (arith, mul-one j.run)

    go : (b : Bool) → eqb j.due now ≡ b → owes d (cond b next j) ≤ owes d j
    go false q = le_refl _
    go true q = due (eqb-true j.due now q) (by-or-past (now + j.period) d)

arrived-owed : (now d : ℕ) {js : List Job} → now ≤ d → Clear now js → Periods js → owed d (arrived now js) ≤ owed d js
unfolding owed arrived
arrived-owed now d l no-job none = zero-le
arrived-owed now d l (and-job {j} h r) (more p ps) = add-le-add (job-arrives now d j l h p) (arrived-owed now d l r ps)

arrived-ahead : (now : ℕ) {js : List Job} → Ahead now js → Periods js → Ahead (now + 1) (arrived now js)
unfolding arrived
arrived-ahead now no-job none = no-job
arrived-ahead now (and-job {j} h r) (more p ps) = and-job (go (eqb j.due now) refl) (arrived-ahead now r ps)
  where
    go : (b : Bool) → eqb j.due now ≡ b → now + 1 ≤ (cond b (fresh_job now j) j).due
    go true q = omega arith
    go false q = omega (arith, eqb-false j.due now q)

arrived-periods : (now : ℕ) {js : List Job} → Periods js → Periods (arrived now js)
unfolding arrived
arrived-periods now none = none
arrived-periods now (more {j} p ps) = more (go (eqb j.due now)) (arrived-periods now ps)
  where
    go : (b : Bool) → 1 ≤ (cond b (fresh_job now j) j).period
    go true = p
    go false = p

arrived-demand : (now n : ℕ) (js : List Job) → demand n (arrived now js) ≡ demand n js
unfolding arrived demand
arrived-demand now n [] = refl
arrived-demand now n (j ∷ js) = go (arrived-demand now n js) (eqb j.due now)
  where
    go :
        demand n (arrived now js) ≡ demand n js
        → (b : Bool)
        → (let k = cond b (fresh_job now j) j in k.run * (n / k.period) + demand n (arrived now js))
        ≡ j.run * (n / j.period) + demand n js
    go ih true = ap (λ (m : ℕ). j.run * (n / j.period) + m) ih
    go ih false = ap (λ (m : ℕ). j.run * (n / j.period) + m) ih

-- a tick of work keeps run times, periods and deadlines, and asks for nothing
worked-ahead : (now i : ℕ) {js : List Job} → Ahead now js → Ahead now (worked_at js i)
unfolding worked_at
worked-ahead now i no-job = no-job
worked-ahead now zero (and-job h r) = and-job h r
worked-ahead now (suc i) (and-job h r) = and-job h (worked-ahead now i r)

worked-periods : (i : ℕ) {js : List Job} → Periods js → Periods (worked_at js i)
unfolding worked_at
worked-periods i none = none
worked-periods zero (more p ps) = more p ps
worked-periods (suc i) (more p ps) = more p (worked-periods i ps)

worked-demand : (n i : ℕ) (js : List Job) → demand n (worked_at js i) ≡ demand n js
unfolding worked_at demand
worked-demand n i [] = refl
worked-demand n zero (j ∷ js) = refl
worked-demand n (suc i) (j ∷ js) = ap (λ (m : ℕ). j.run * (n / j.period) + m) (worked-demand n i js)

job-worked : (d : ℕ) (j : Job) → owes d (worked_job j) ≤ owes d j
job-worked d j = go (by-or-past j.due d)
  where
    go : (j.due ≤ d) ⊎ (d < j.due) → owes d (worked_job j) ≤ owes d j
    go (inl q) = omega (arith, owes-in d j q, owes-in d (worked_job j) q)
    go (inr q) = omega (arith, owes-out d (worked_job j) q)

worked-owed : (d i : ℕ) (js : List Job) → owed d (worked_at js i) ≤ owed d js
unfolding worked_at owed
worked-owed d i [] = le_refl 0
worked-owed d zero (j ∷ js) = add-le-add (job-worked d j) (le_refl _)
worked-owed d (suc i) (j ∷ js) = add-le-add (le_refl _) (worked-owed d i js)

-- where no pending job is due before e, nothing pending is due by what is before e
clear-unless : (d e : ℕ) (js : List Job) → d < e → sooner e js ≡ false → Clear d js
unfolding sooner
clear-unless d e [] l h = no-job
clear-unless d e (j ∷ js) l h = go (clear-unless d e js l) (ltb 0 j.left) refl (earlier j.due e) refl h
  where
    go : (sooner e js ≡ false → Clear d js) → (a : Bool) → ltb 0 j.left ≡ a → (b : Bool) → earlier j.due e ≡ b → ((a && b) || sooner e js) ≡ false → Clear d (j ∷ js)
    go ih false p b q r = and-job {j = j} (λ (_ : j.due ≤ d). omega (arith, ltb-false 0 j.left p)) (ih r)
    go ih true p false q r = and-job {j = j} (λ (m : j.due ≤ d). omega (arith, ltb-false j.due e q)) (ih r)
    go ih true p true q r = absurd (false≢true (sym r))

-- where nothing pending is due by d but some pending job is due before e, e is past d
past-clear : (d e : ℕ) {js : List Job} → Clear d js → sooner e js ≡ true → d < e
unfolding sooner
past-clear d e no-job h = absurd (false≢true h)
past-clear d e (and-job {j} {js} z r) h = go (past-clear d e r) (ltb 0 j.left) refl (earlier j.due e) refl h (by-or-past j.due d)
  where
    go : (sooner e js ≡ true → d < e) → (a : Bool) → ltb 0 j.left ≡ a → (b : Bool) → earlier j.due e ≡ b → ((a && b) || sooner e js) ≡ true → (j.due ≤ d) ⊎ (d < j.due) → d < e
    go ih false p b q t w = ih t
    go ih true p false q t w = ih t
    go ih true p true q t (inl w) = absurd (omega (arith, z w, ltb-true 0 j.left p))
    go ih true p true q t (inr w) = omega (arith, ltb-true j.due e q)

-- a tick either lowers what is owed by d, or finds nothing pending that is due by d
tick-cases : (d : ℕ) (js : List Job) → (owed d (worked js) + 1 ≤ owed d js) ⊎ Clear d js
unfolding owed chosen worked_at
tick-cases d [] = inr no-job
tick-cases d (j ∷ js) = go (ltb 0 j.left) refl (sooner j.due js) refl (tick-cases d js) (by-or-past j.due d)
  where
    go :
        (a : Bool)
        → ltb 0 j.left ≡ a
        → (b : Bool)
        → sooner j.due js ≡ b
        → (owed d (worked js) + 1 ≤ owed d js) ⊎ Clear d js
        → (j.due ≤ d) ⊎ (d < j.due)
        → (owed d (worked_at (j ∷ js) (cond (a && not b) 0 (suc (chosen js)))) + 1 ≤ owes d j + owed d js) ⊎ Clear d (j ∷ js)
    go true p false q w (inl l) = inl (omega (arith, owes-in d j l, owes-in d (worked_job j) l, ltb-true 0 j.left p))
    go true p false q w (inr l) = inr (and-job {j = j} (λ (m : j.due ≤ d). absurd (omega arith)) (clear-unless d j.due js l q))
    go true p true q (inl w) l = inl (omega arith)
    go true p true q (inr w) l = inr (and-job {j = j} (λ (m : j.due ≤ d). absurd (omega (arith, past-clear d j.due w q))) w)
    go false p b q (inl w) l = inl (omega arith)
    go false p b q (inr w) l = inr (and-job {j = j} (λ (m : j.due ≤ d). omega (arith, ltb-false 0 j.left p)) w)

-- where nothing pending is due by d, the demand bound closes what is owed by d
clear-demand : (now d : ℕ) {js : List Job} → Ahead now js → Clear d js → Periods js → owed d js ≤ demand (d - now) js
unfolding owed demand
clear-demand now d no-job no-job none = zero-le
clear-demand now d (and-job {j} a rest) (and-job z zs) (more p ps) = add-le-add (go (by-or-past j.due d)) (clear-demand now d rest zs ps)
  where
    go : (j.due ≤ d) ⊎ (d < j.due) → owes d j ≤ j.run * ((d - now) / j.period)
    go (inr l) = omega (arith, owes-out d j l)
    go (inl l) =
        let m : j.run * ((d - j.due) / j.period) ≤ j.run * ((d - now) / j.period) = mul-le-mul_left j.run (div_mono j.period p (omega arith)) in
        omega (arith, owes-in d j l, z l)

-- the start
started-owed : (d : ℕ) (js : List Job) → owed d (started js) ≡ demand d js
unfolding started owed demand
started-owed d [] = refl
started-owed d (j ∷ js) =
    omega (arith, owes-in d (started_job j) zero-le, ap (λ (n : ℕ). j.run * (n / j.period)) (sub-zero d), started-owed d js)

started-demand : (n : ℕ) (js : List Job) → demand n (started js) ≡ demand n js
unfolding started demand
started-demand n [] = refl
started-demand n (j ∷ js) = ap (λ (m : ℕ). j.run * (n / j.period) + m) (started-demand n js)

started-ahead : (js : List Job) → Ahead 0 (started js)
unfolding started
started-ahead [] = no-job
started-ahead (j ∷ js) = and-job zero-le (started-ahead js)

started-periods : {js : List Job} → Periods js → Periods (started js)
unfolding started
started-periods none = none
started-periods (more p ps) = more p (started-periods ps)

-- main

-- the invariant, at an instant before its arrivals
pub record Keeps (now : ℕ) (js : List Job) : Type 0 where
  pub periods : Periods js
  pub ahead : Ahead now js
  pub bound : Demand js
  pub owing : (d : ℕ) → now ≤ d → owed d js ≤ d - now

keeps-clear : (now : ℕ) (js : List Job) → Keeps now js → Clear now js
keeps-clear now js k = clear_of now js (omega (arith, k.owing now (le_refl now)))

-- a tick keeps it
keeps-tick : (now : ℕ) (js : List Job) → Keeps now js → Keeps (now + 1) (worked (arrived now js))
keeps-tick now js k =
    record { periods = worked-periods (chosen ks) periods; ahead = worked-ahead (now + 1) (chosen ks) ahead; bound = bound; owing = owing }
  where
    ks : List Job
    ks = arrived now js

    periods : Periods ks
    periods = arrived-periods now k.periods

    ahead : Ahead (now + 1) ks
    ahead = arrived-ahead now k.ahead k.periods

    bound : Demand (worked ks)
    bound n = rw (worked-demand n (chosen ks) ks, arrived-demand now n js) (k.bound n)

    owing : (d : ℕ) → now + 1 ≤ d → owed d (worked ks) ≤ d - (now + 1)
    owing d l = go (tick-cases d ks)
      where
        earlier : owed d ks ≤ d - now
        earlier = le_trans (arrived-owed now d (omega arith) (keeps-clear now js k) k.periods) (k.owing d (omega arith))

        go : (owed d (worked ks) + 1 ≤ owed d ks) ⊎ Clear d ks → owed d (worked ks) ≤ d - (now + 1)
        go (inl w) = omega (arith, earlier)
        go (inr w) =
            omega (
              arith,
              worked-owed d (chosen ks) ks,
              clear-demand (now + 1) d ahead w periods,
              arrived-demand now (d - (now + 1)) js,
              k.bound (d - (now + 1)),
            )

none-missed-from : (ticks now idle : ℕ) (js : List Job) → Keeps now js → (run_from ticks now idle js).missed ≡ None
unfolding run_from
none-missed-from zero now idle js k = rw (not_late now (keeps-clear now js k))
none-missed-from (suc ticks) now idle js k =
    rw (not_late now (keeps-clear now js k))
    (none-missed-from ticks (now + 1) (idle + idle_tick (arrived now js)) (worked (arrived now js)) (keeps-tick now js k))

-- where every period is at least 1 and the demand bound holds, no deadline is missed, at any horizon
pub none-missed : (ticks : ℕ) (js : List Job) → Periods js → Demand js → (run_of ticks js).missed ≡ None
none-missed ticks js ps b = none-missed-from ticks 0 0 (started js) start
  where
    start : Keeps 0 (started js)
    start = record {
      periods = started-periods ps;
      ahead = started-ahead js;
      bound = λ n. rw (started-demand n js) (b n);
      owing = λ d l. omega (arith, started-owed d js, b d);
    }

-- The demand bound from shares: job by job run × U ≤ u × period, and the u sum to at most U.

pub data Shares (whole : ℕ) : List Job → ℕ → Type 0 where
  no-share : Shares whole [] 0
  and-share : {j : Job} {js : List Job} {us : ℕ} (u : ℕ) → j.run * whole ≤ u * j.period → Shares whole js us → Shares whole (j ∷ js) (u + us)

shares-demand : (whole n : ℕ) {js : List Job} {us : ℕ} → Shares whole js us → demand n js * whole ≤ us * n
unfolding demand
shares-demand whole n no-share = omega (arith, zero-mul whole)
shares-demand whole n (and-share {j} {js} {us} u h r) =
    let q = n / j.period in
    let a : j.run * q * whole ≡ j.run * whole * q = mul_right_comm j.run q whole in
    let b : j.run * whole * q ≤ u * j.period * q = mul-le-mul_right q h in
    let c : u * j.period * q ≡ u * (j.period * q) = mul_assoc u j.period q in
    let d : u * (j.period * q) ≤ u * n = mul-le-mul_left u (mul-div-le n j.period) in
    let e = add-mul (j.run * q) (demand n js) whole in
    let f = add-mul u us n in
    omega (arith, shares-demand whole n r)

pub demand-of : (whole : ℕ) (js : List Job) (us : ℕ) → 1 ≤ whole → Shares whole js us → us ≤ whole → Demand js
demand-of whole js us w s h n =
    le_of_mul-le-mul_right (le_trans (shares-demand whole n s) (omega (arith, mul-le-mul_right n h, mul_comm whole n))) w

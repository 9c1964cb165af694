-- No engine of a plan of one kind misses a deadline: the u of its instances sum to at most U, and C × U is at most u × T for each, so that the demand bound holds.
use Rattle.std.proofs.Common.{Some}
use Prim.Native.Nat.{ℕ, zero, suc, ◌+◌, ◌-◌, ◌*◌, ◌≤◌, ◌<◌, zero-le}
use mathlib.Core.Path.{◌≡◌, refl, sym, ap, ◌∙◌}
use mathlib.Core.List.{List, [], ◌∷◌, ◌++◌}
use mathlib.Core.Bool.{Bool, true, false, cond}
use native.Mathlib.Nat.{zero-mul, one-mul, add-mul}
use native.Mathlib.Numerals.{add-one}
use native.Mathlib.Omega.{arith}
use borrow.Author.Tests.{leb-true, leb-false, ne_eqb}
use lib.ListN.{length, get_or, replicate}
use lib.Dec.{leb, eqb}
use Rattle.system.specs.declared.Cycle.{Cycle}
use Rattle.system.specs.declared.TaskType.{TaskType}
use Rattle.system.specs.declared.System.{System}
use Rattle.system.specs.Layout.{read_file, opened}
use Rattle.partition.specs.Assignment.{Assignment}
use Rattle.partition.specs.OwnWords.{over_instances, sum_on, time_on, no_type, place_of, Definition1}
use Rattle.partition.specs.Plain.{type_no, PaceWithin, LimitsOut, EngineOf, places_no, record_no}
use Rattle.runs.specs.declared.Job.{Job}
use Rattle.runs.specs.Run.{demand, Demand}
use Rattle.runs.proofs.Owed.{Shares, no-share, and-share, demand-of, none-missed}
use Rattle.deadlines.specs.Outcome.{miss_of, run_outcome_of}
use Rattle.deadlines.specs.Engine.{all_paced, job_of_type, jobs_of, run_over, run_engine}
use Rattle.deadlines.specs.Plans.{NoneMissed, PlansKept, ListsKept}
use Rattle.planner.specs.Demands.{entry_no}
use Rattle.deadlines.proofs.Places.{stood-type, stood-instance, kind_at, stood-here, length-jobs}
use Rattle.deadlines.proofs.Paced.{paced-each}
use Rattle.deadlines.proofs.Told.{cycle-within, periods-js}
use Rattle.deadlines.proofs.Promises.{ran-of}
use Rattle.deadlines.proofs.FromFile.{limits-read}

-- intermediate: the time that the instances on an engine take

-- u for each of them is u times their number
over-each : (e u : ℕ) (places : List ℕ) → over_instances e u places ≡ over_instances e 1 places * u
unfolding over_instances
over-each e u [] = sym (zero-mul u)
over-each e u (place ∷ places) = go (eqb place e) (over-each e u places)
  where
    go : (b : Bool) → over_instances e u places ≡ over_instances e 1 places * u → cond b u 0 + over_instances e u places ≡ (cond b 1 0 + over_instances e 1 places) * u
    go true ih = omega (arith, ih, add-mul 1 (over_instances e 1 places) u, one-mul u)
    go false ih = omega (arith, ih, add-mul 0 (over_instances e 1 places) u, zero-mul u)

-- on an engine that is none of 1 to m nobody is placed
none-there : (m e each : ℕ) (places : List ℕ) → m < e → ((j : ℕ) → j < length places → get_or places j 0 ≤ m) → over_instances e each places ≡ 0
unfolding over_instances
none-there m e each [] h all = refl
none-there m e each (place ∷ places) h all =
    rw (ne_eqb place e (λ (q : place ≡ e). omega (arith, all 0 (omega arith)))) (omega (arith, none-there m e each places h (λ j l. all (suc j) (omega arith))))

time-none : (m e : ℕ) (ts : List TaskType) (χ : Assignment) → m < e → ((t j : ℕ) → t < length χ → j < length (get_or χ t []) → place_of χ t j ≤ m) → time_on e ts χ ≡ 0
unfolding sum_on
time-none m e [] χ h all = refl
time-none m e (t ∷ ts) [] h all = refl
time-none m e (t ∷ ts) (places ∷ χ) h all =
    omega (
      arith,
      none-there m e t.time places h (λ j l. all 0 j (omega arith) l),
      time-none m e ts χ h (λ k j l. all (suc k) j (omega arith)),
    )

-- so the time of every engine is at most U, also of one that is none of the system's
time-within : (y : System) (χ : Assignment) (e : ℕ) → Definition1 y (EngineOf y) χ → 1 ≤ e → time_on e y.types χ ≤ y.timecap
time-within y χ e d l = go (leb e y.engines) refl
  where
    go : (b : Bool) → leb e y.engines ≡ b → time_on e y.types χ ≤ y.timecap
    go true q = d.time e (l, leb-true e y.engines q)
    go false q = omega (arith, time-none y.engines e y.types χ (leb-false e y.engines q) (λ t j h k. (d.placed t j h k).1))

-- intermediate: each instance has its share

shares-same : (whole n u : ℕ) (j : Job) → (1 ≤ n → j.run * whole ≤ u * j.period) → Shares whole (replicate n j) (n * u)
shares-same whole zero u j h = let e : 0 * u ≡ 0 = zero-mul u in rw e no-share
shares-same whole (suc n) u j h =
    let e : suc n * u ≡ u + n * u = omega (arith, ap (λ (k : ℕ). k * u) (sym (add-one n)), add-mul n 1 u, one-mul u) in
    rw e (and-share u (h (omega arith)) (shares-same whole n u j (λ l. h (omega arith))))

shares-both : (whole : ℕ) {a b : List Job} {us vs : ℕ} → Shares whole a us → Shares whole b vs → Shares whole (a ++ b) (us + vs)
shares-both whole {vs = vs} no-share q = let e : 0 + vs ≡ vs = omega arith in rw e q
shares-both whole {vs = vs} (and-share {us = us} u h p) q =
    let e : u + us + vs ≡ u + (us + vs) = omega arith in
    rw e (and-share u h (shares-both whole p q))

shares_of :
    (whole e : ℕ) (ts : List TaskType) (ns : List ℕ) (χ : Assignment)
    → length ts ≡ length ns
    → length ts ≡ length χ
    → ((k : ℕ) → k < length ts → get_or ns k 0 ≡ over_instances e 1 (get_or χ k []))
    → ((k : ℕ) → k < length ts → 1 ≤ get_or ns k 0 → (job_of_type (get_or ts k no_type)).run * whole ≤ (get_or ts k no_type).time * (job_of_type (get_or ts k no_type)).period)
    → Shares whole (jobs_of ts ns) (time_on e ts χ)
unfolding jobs_of sum_on
shares_of whole e [] [] χ a b same each = no-share
shares_of whole e [] (n ∷ ns) χ a b same each = absurd (omega arith)
shares_of whole e (t ∷ ts) [] χ a b same each = absurd (omega arith)
shares_of whole e (t ∷ ts) (n ∷ ns) [] a b same each = absurd (omega arith)
shares_of whole e (t ∷ ts) (n ∷ ns) (places ∷ χ) a b same each =
    let time : over_instances e t.time places ≡ n * t.time = over-each e t.time places ∙ ap (λ (k : ℕ). k * t.time) (sym (same 0 (omega arith))) in
    let first : Shares whole (replicate n (job_of_type t)) (n * t.time) = shares-same whole n t.time (job_of_type t) (each 0 (omega arith)) in
    let others : Shares whole (jobs_of ts ns) (time_on e ts χ) =
    shares_of whole e ts ns χ (omega arith) (omega arith) (λ k l. same (suc k) (omega arith)) (λ k l. each (suc k) (omega arith)) in
    rw time (shares-both whole first others)

-- the demand bound, also where there is no job and U is 0
demand-all : (whole : ℕ) (js : List Job) (us : ℕ) → Shares whole js us → us ≤ whole → (0 < length js → 1 ≤ whole) → Demand js
unfolding demand
demand-all whole [] us s h some n = zero-le
demand-all whole (j ∷ js) us s h some n = demand-of whole (j ∷ js) us (some (omega arith)) s h n

-- main: of an engine that a mapping sends these counts to

module _ (file : List ℕ) (y : System) (is : read_file file ≡ opened y) (χ : Assignment) (sent : length χ ≡ 6) (keeps : Definition1 y (EngineOf y) χ)
    (e : ℕ) (low : 1 ≤ e) (counts : List ℕ) (six : length counts ≡ 6) (tells : (t : ℕ) → 1 ≤ t → get_or counts (t - 1) 0 ≡ over_instances e 1 (places_no χ t)) where
  limits : LimitsOut y
  limits = limits-read file y is

  module _ (paced : all_paced y.types counts ≡ true) where
    -- C and T of a type on the engine
    within : (k : ℕ) → k < length y.types → 1 ≤ get_or counts k 0 → (c : Cycle) × ((get_or y.types k no_type).pace ≡ Some c) × PaceWithin y.timecap (get_or y.types k no_type).time c
    within k h s =
        let f = paced-each no_type y.types counts paced k h s in
        let back : suc k - 1 ≡ k = omega arith in
        let g : (type_no y (suc k)).pace ≡ Some f.0 = ap (λ (n : ℕ). (get_or y.types n no_type).pace) back ∙ f.1 in
        (f.0, f.1, rw back at (cycle-within y limits (suc k) f.0 (omega arith) g))

    shares : Shares y.timecap (jobs_of y.types counts) (time_on e y.types χ)
    shares =
        shares_of y.timecap e y.types counts χ (limits.six ∙ sym six) (limits.six ∙ sym sent)
        (λ k h. let back : suc k - 1 ≡ k = omega arith in rw back at (tells (suc k) (omega arith)))
        (λ k h s. let f = within k h s in rw f.1 f.2.share)

    some : 0 < length (jobs_of y.types counts) → 1 ≤ y.timecap
    some h =
        let stood = stood-here counts 0 (omega (arith, length-jobs y.types counts (limits.six ∙ sym six))) in
        let t = stood-type stood in
        let i = stood-instance stood in
        (within (kind_at counts 0 - 1) (omega (arith, t.0, t.1, limits.six)) (omega (arith, i.0, i.1))).2.some

    demands : Demand (jobs_of y.types counts)
    demands = demand-all y.timecap (jobs_of y.types counts) (time_on e y.types χ) shares (time-within y χ e keeps low) some

  pub none-missed-there : NoneMissed file counts
  unfolding run_engine
  none-missed-there ticks r idle miss promises told =
      let whole : run_outcome_of r ≡ run_over y counts ticks = rw is at promises.answers in
      let f = ran-of y counts ticks idle miss (sym whole ∙ told) in
      f.2 ∙ ap miss_of (none-missed ticks (jobs_of y.types counts) (periods-js y counts limits six f.0) (demands f.0))

-- of every engine of a plan
pub plans-kept : PlansKept
plans-kept file table room used outcome loads d given y e is on =
    let limits = limits-read file y is in
    let s = (d.given y used is given).stands in
    let inside : e ≤ 16 = omega (arith, limits.engines.1, on.1) in
    let record_is = s.records e on.0 (omega (arith, d.sixteen)) in
    none-missed-there file y is s.mapping s.partition.six s.partition.keeps e on.0 (record_no loads e).counts
    (d.six_counts y used e is given on.0 inside) record_is.counts

-- and of every record of a plan in a lent list
pub lists-kept : ListsKept
lists-kept file list after used e y outcome holds given is low high =
    let s = holds.lists y used is given in
    none-missed-there file y is s.mapping s.partition.six s.partition.keeps e low (entry_no after e).load.counts (s.six_counts e low high) (s.load e low high).counts

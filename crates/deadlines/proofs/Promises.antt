-- What the call promises follows from its whole answer: the order of its refusals, each exactly where it is due, and what a report means.
use Rattle.std.proofs.Common.{None, Option, Some, Result, Ok, Err}
use Prim.Native.Nat.{ℕ, suc, ◌-◌, ◌≤◌, ◌<◌}
use mathlib.Core.Path.{◌≡◌, refl, sym, ap, ◌∙◌}
use mathlib.Core.List.{List, [], ◌∷◌}
use mathlib.Core.Bool.{Bool, true, false, ◌&&◌, false≢true}
use mathlib.Core.Logic.{◌⊎◌, inl, inr, ◌↔◌}
use native.Mathlib.Omega.{arith}
use borrow.Author.Tests.{leb-true, leb-false}
use lib.ListN.{length, get_or}
use Rattle.system.specs.declared.Refusal.{Refusal}
use Rattle.system.specs.declared.Refusal.TheVariants.{Input, State}
use Rattle.system.specs.declared.System.{System}
use Rattle.system.specs.Layout.{Reading, opened}
use Rattle.system.specs.Outcome.{from_input}
use Rattle.partition.specs.OwnWords.{no_type}
use Rattle.partition.specs.Plain.{type_no, LimitsOut}
use Rattle.runs.specs.declared.Report.{Report}
use Rattle.runs.specs.Run.{run_of}
use Rattle.deadlines.specs.Outcome.{FirstMiss, RunOutcome, ran, not_run, miss_of, reported_as, not_run_for, run_outcome_of}
use Rattle.deadlines.specs.Engine.{all_paced, instances, jobs_of, few_instances, few_ticks, few_enough, run_over, run_engine}
use Rattle.deadlines.specs.Meaning.{NoPace, instances_on, TooMuch, RunMeans, RunPromises}
use Rattle.deadlines.proofs.Paced.{paced-each, unpaced-some}
use Rattle.deadlines.proofs.Told.{run-means}

-- no two answers say the same: what is promised of the outcome is promised of the whole answer

one-miss : (a b : Option ℕ) → miss_of a ≡ miss_of b → a ≡ b
one-miss None None e = refl
one-miss None (Some d) e = let z : ◌≡◌ {A = ℕ} 0 1 = cc in absurd (omega arith)
one-miss (Some d) None e = let z : ◌≡◌ {A = ℕ} 0 1 = cc in absurd (omega arith)
one-miss (Some d) (Some k) e = let same : d ≡ k = cc in ap Some same

one-report : (a b : Report) → reported_as a ≡ reported_as b → a ≡ b
one-report a b e =
    let idle : a.idle ≡ b.idle = cc in
    let miss : miss_of a.missed ≡ miss_of b.missed = cc in
    let missed = one-miss a.missed b.missed miss in
    λ i. record { idle = idle i; missed = missed i }

one-refusal : (a b : Refusal) → not_run_for a ≡ not_run_for b → a ≡ b
one-refusal (Input m) (Input n) e = let same : m ≡ n = cc in ap Input same
one-refusal (Input m) (State n) e = let z : ◌≡◌ {A = ℕ} 0 1 = cc in absurd (omega arith)
one-refusal (State m) (Input n) e = let z : ◌≡◌ {A = ℕ} 0 1 = cc in absurd (omega arith)
one-refusal (State m) (State n) e = let same : m ≡ n = cc in ap State same

run-no-refusal : (a : Report) (why : Refusal) → reported_as a ≡ not_run_for why → ⊥
run-no-refusal a (Input n) e = let z : ◌≡◌ {A = ℕ} 0 1 = cc in omega arith
run-no-refusal a (State n) e = let z : ◌≡◌ {A = ℕ} 0 1 = cc in omega arith

pub one_answer : (a b : Result Report Refusal) → run_outcome_of a ≡ run_outcome_of b → a ≡ b
one_answer (Ok a) (Ok b) e = ap Ok (one-report a b e)
one_answer (Ok a) (Err why) e = absurd (run-no-refusal a why e)
one_answer (Err why) (Ok b) e = absurd (run-no-refusal b why (sym e))
one_answer (Err why) (Err other) e = ap Err (one-refusal why other e)

-- the instances of six types
pub instances-out : (ns : List ℕ) → length ns ≡ 6 → instances ns ≡ instances_on ns
unfolding instances
instances-out [] e = absurd (omega arith)
instances-out (a ∷ []) e = absurd (omega arith)
instances-out (a ∷ b ∷ []) e = absurd (omega arith)
instances-out (a ∷ b ∷ c ∷ []) e = absurd (omega arith)
instances-out (a ∷ b ∷ c ∷ d ∷ []) e = absurd (omega arith)
instances-out (a ∷ b ∷ c ∷ d ∷ f ∷ []) e = absurd (omega arith)
instances-out (a ∷ b ∷ c ∷ d ∷ f ∷ g ∷ []) e = omega arith
instances-out (a ∷ b ∷ c ∷ d ∷ f ∷ g ∷ h ∷ ns) e = absurd (omega arith)

-- the three ways in which the run of a system is answered
module _ (y : System) (ns : List ℕ) (ticks : ℕ) where
  pub over-44 : all_paced y.types ns ≡ false → run_over y ns ticks ≡ not_run from_input 44
  unfolding run_over
  over-44 e = rw e

  pub over-45 : all_paced y.types ns ≡ true → few_enough ns ticks ≡ false → run_over y ns ticks ≡ not_run from_input 45
  unfolding run_over
  over-45 e f = rw (e, f)

  pub over-ran : all_paced y.types ns ≡ true → few_enough ns ticks ≡ true → run_over y ns ticks ≡ reported_as (run_of ticks (jobs_of y.types ns))
  unfolding run_over
  over-ran e f = rw (e, f)

  -- a report is that of the run, and then every type on the engine has C and T
  pub ran-of : (idle : ℕ) (miss : FirstMiss) → run_over y ns ticks ≡ ran idle miss
      → (all_paced y.types ns ≡ true) × (idle ≡ (run_of ticks (jobs_of y.types ns)).idle) × (miss ≡ miss_of (run_of ticks (jobs_of y.types ns)).missed)
  ran-of idle miss is = go (all_paced y.types ns) refl (few_enough ns ticks) refl
    where
      go : (a : Bool) → all_paced y.types ns ≡ a → (b : Bool) → few_enough ns ticks ≡ b
          → (all_paced y.types ns ≡ true) × (idle ≡ (run_of ticks (jobs_of y.types ns)).idle) × (miss ≡ miss_of (run_of ticks (jobs_of y.types ns)).missed)
      go true p true q = (p, cc (over-ran p q), cc (over-ran p q))
      go true p false q = let z : ◌≡◌ {A = ℕ} 0 1 = cc (over-45 p q) in absurd (omega arith)
      go false p b q = let z : ◌≡◌ {A = ℕ} 0 1 = cc (over-44 p) in absurd (omega arith)

  module _ (limits : LimitsOut y) (six : length ns ≡ 6) where
    -- 44 is for a type without C and T
    pub unpaced-told : all_paced y.types ns ≡ false → NoPace y ns
    unpaced-told e = go (unpaced-some no_type y.types ns e)
      where
        go : (k : ℕ) × (k < length y.types) × (1 ≤ get_or ns k 0) × ((get_or y.types k no_type).pace ≡ None) → NoPace y ns
        go (k, l, s, p) =
            let e : suc k - 1 ≡ k = omega arith in
            record { kind = suc k; is_type = (omega arith, omega (arith, limits.six)); some = rw e s; without = inr (ap (λ (n : ℕ). (get_or y.types n no_type).pace) e ∙ p) }

    pub told-unpaced : NoPace y ns → all_paced y.types ns ≡ false
    told-unpaced n = go (all_paced y.types ns) refl
      where
        none : (y.typecount < n.kind) ⊎ ((type_no y n.kind).pace ≡ None) → (type_no y n.kind).pace ≡ None
        none (inl h) = (limits.past n.kind h).5
        none (inr e) = e

        go : (b : Bool) → all_paced y.types ns ≡ b → b ≡ false
        go false e = refl
        go true e =
            let f = paced-each no_type y.types ns e (n.kind - 1) (omega (arith, limits.six, n.is_type.0, n.is_type.1)) n.some in
            let p : (type_no y n.kind).pace ≡ None = none n.without in
            let z : ◌≡◌ {A = ℕ} 0 1 = cc f.1 in
            absurd (omega arith)

    -- 45 is for too many instances or ticks
    pub large-told : few_enough ns ticks ≡ false → TooMuch ns ticks
    large-told e = go (few_instances ns) refl (few_ticks ticks) refl e
      where
        go : (a : Bool) → few_instances ns ≡ a → (b : Bool) → few_ticks ticks ≡ b → (a && b) ≡ false → TooMuch ns ticks
        go false p b q f = let l = leb-false (instances ns) _ p in inl (omega (arith, instances-out ns six))
        go true p false q f = let l = leb-false ticks _ q in inr (omega arith)
        go true p true q f = absurd (false≢true (sym f))

    pub told-large : TooMuch ns ticks → few_enough ns ticks ≡ false
    told-large m = go m (few_instances ns) refl (few_ticks ticks) refl
      where
        go : TooMuch ns ticks → (a : Bool) → few_instances ns ≡ a → (b : Bool) → few_ticks ticks ≡ b → (a && b) ≡ false
        go m false p b q = refl
        go m true p false q = refl
        go (inl h) true p true q = let l = leb-true (instances ns) _ p in absurd (omega (arith, instances-out ns six))
        go (inr h) true p true q = let l = leb-true ticks _ q in absurd (omega arith)

-- main
module _ (x : Reading) (counts : List ℕ) (ticks : ℕ) (limits : (y : System) → x ≡ opened y → LimitsOut y) (six : length counts ≡ 6) where
  pub promises-of : (r : Result Report Refusal) → run_outcome_of r ≡ run_engine x counts ticks → RunPromises x counts ticks r
  unfolding run_engine
  promises-of r whole = record { answers = whole; file_first = λ n is. rw is at whole; then44 = refused-44; then45 = refused-45; else = runs; means = meant }
    where
      over : (y : System) → x ≡ opened y → run_outcome_of r ≡ run_over y counts ticks
      over y is = rw is at whole

      differ : {o : RunOutcome} {m n : ℕ} → o ≡ not_run from_input m → o ≡ not_run from_input n → m ≡ n
      differ e f = cc

      never : {o : RunOutcome} {m idle : ℕ} {miss : FirstMiss} → o ≡ not_run from_input m → o ≡ ran idle miss → ⊥
      never e f = let z : ◌≡◌ {A = ℕ} 0 1 = cc in omega arith

      all-paced : (y : System) → x ≡ opened y → (NoPace y counts → ⊥) → all_paced y.types counts ≡ true
      all-paced y is n = go (all_paced y.types counts) refl
        where
          go : (b : Bool) → all_paced y.types counts ≡ b → b ≡ true
          go true e = refl
          go false e = absurd (n (unpaced-told y counts ticks (limits y is) six e))

      refused-44 : (y : System) → x ≡ opened y → (run_outcome_of r ≡ not_run from_input 44) ↔ NoPace y counts
      refused-44 y is = (there, λ n. over y is ∙ over-44 y counts ticks (told-unpaced y counts ticks (limits y is) six n))
        where
          there : run_outcome_of r ≡ not_run from_input 44 → NoPace y counts
          there e = go (all_paced y.types counts) refl (few_enough counts ticks) refl
            where
              go : (a : Bool) → all_paced y.types counts ≡ a → (b : Bool) → few_enough counts ticks ≡ b → NoPace y counts
              go false p b q = unpaced-told y counts ticks (limits y is) six p
              go true p false q = absurd (omega (arith, differ e (over y is ∙ over-45 y counts ticks p q)))
              go true p true q = absurd (never e (over y is ∙ over-ran y counts ticks p q))

      refused-45 : (y : System) → x ≡ opened y → (NoPace y counts → ⊥) → (run_outcome_of r ≡ not_run from_input 45) ↔ TooMuch counts ticks
      refused-45 y is n = (there, λ m. over y is ∙ over-45 y counts ticks (all-paced y is n) (told-large y counts ticks (limits y is) six m))
        where
          there : run_outcome_of r ≡ not_run from_input 45 → TooMuch counts ticks
          there e = go (few_enough counts ticks) refl
            where
              go : (b : Bool) → few_enough counts ticks ≡ b → TooMuch counts ticks
              go false q = large-told y counts ticks (limits y is) six q
              go true q = absurd (never e (over y is ∙ over-ran y counts ticks (all-paced y is n) q))

      runs : (y : System) → x ≡ opened y → (NoPace y counts → ⊥) → (TooMuch counts ticks → ⊥) → (idle : ℕ) × (miss : FirstMiss) × (run_outcome_of r ≡ ran idle miss)
      runs y is n m = go (few_enough counts ticks) refl
        where
          go : (b : Bool) → few_enough counts ticks ≡ b → (idle : ℕ) × (miss : FirstMiss) × (run_outcome_of r ≡ ran idle miss)
          go false q = absurd (m (large-told y counts ticks (limits y is) six q))
          go true q = ((run_of ticks (jobs_of y.types counts)).idle, miss_of (run_of ticks (jobs_of y.types counts)).missed, over y is ∙ over-ran y counts ticks (all-paced y is n) q)

      meant : (y : System) (idle : ℕ) (miss : FirstMiss) → x ≡ opened y → run_outcome_of r ≡ ran idle miss → RunMeans y counts ticks idle miss
      meant y idle miss is told =
          let f = ran-of y counts ticks idle miss (sym (over y is) ∙ told) in
          rw (f.1, f.2) (run-means y counts (limits y is) six f.0 ticks)

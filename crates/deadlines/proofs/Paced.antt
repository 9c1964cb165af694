-- Who has a C and a T: what the check of the call says, type by type, and that then every period is at least 1.
use Rattle.std.proofs.Common.{Option, None, Some}
use Prim.Native.Nat.{ℕ, zero, suc, ◌+◌, ◌-◌, ◌≤◌, ◌<◌}
use mathlib.Core.Path.{◌≡◌, refl, sym}
use mathlib.Core.List.{List, [], ◌∷◌, ◌++◌}
use mathlib.Core.Bool.{Bool, true, false, ◌&&◌, ◌||◌, false≢true}
use native.Mathlib.Nat.{le_of_suc-le-suc, not-suc-le-zero}
use native.Mathlib.Omega.{arith}
use borrow.Author.Tests.{eqb-true, eqb-false}
use lib.ListN.{length, get_or, replicate}
use lib.Dec.{eqb}
use Rattle.system.specs.declared.Cycle.{Cycle}
use Rattle.system.specs.declared.TaskType.{TaskType}
use Rattle.runs.specs.declared.Job.{Job}
use Rattle.runs.specs.Run.{Periods, none, more}
use Rattle.deadlines.specs.Engine.{has_pace, all_paced, job_of_type, jobs_of}

-- entry k, with d where there is none
module _ (d : TaskType) where
  has-pace : (p : Option Cycle) → has_pace p ≡ true → (c : Cycle) × (p ≡ Some c)
  has-pace None e = absurd (false≢true e)
  has-pace (Some c) e = (c, refl)

  no-pace : (p : Option Cycle) → has_pace p ≡ false → p ≡ None
  no-pace None e = refl
  no-pace (Some c) e = absurd (false≢true (sym e))

  -- every type of which an instance stands has them
  pub paced-each : (ts : List TaskType) (ns : List ℕ) → all_paced ts ns ≡ true → (k : ℕ) → k < length ts → 1 ≤ get_or ns k 0 → (c : Cycle) × ((get_or ts k d).pace ≡ Some c)
  unfolding all_paced
  paced-each [] ns e k h s = absurd (not-suc-le-zero h)
  paced-each (t ∷ ts) [] e k h s = absurd (omega arith)
  paced-each (t ∷ ts) (n ∷ ns) e k h s = go (eqb n 0) refl (has_pace t.pace) refl e (paced-each ts ns) k h s
    where
      go :
          (a : Bool)
          → eqb n 0 ≡ a
          → (b : Bool)
          → has_pace t.pace ≡ b
          → ((a || b) && all_paced ts ns) ≡ true
          → (all_paced ts ns ≡ true → (k : ℕ) → k < length ts → 1 ≤ get_or ns k 0 → (c : Cycle) × ((get_or ts k d).pace ≡ Some c))
          → (k : ℕ)
          → k < length (t ∷ ts)
          → 1 ≤ get_or (n ∷ ns) k 0
          → (c : Cycle) × ((get_or (t ∷ ts) k d).pace ≡ Some c)
      go true p b q e ih zero h s = absurd (omega (arith, eqb-true n 0 p))
      go true p b q e ih (suc k) h s = ih e k (le_of_suc-le-suc h) s
      go false p true q e ih zero h s = has-pace t.pace q
      go false p true q e ih (suc k) h s = ih e k (le_of_suc-le-suc h) s
      go false p false q e ih k h s = absurd (false≢true e)

  -- or there is one of which an instance stands and that has none
  pub unpaced-some : (ts : List TaskType) (ns : List ℕ) → all_paced ts ns ≡ false → (k : ℕ) × (k < length ts) × (1 ≤ get_or ns k 0) × ((get_or ts k d).pace ≡ None)
  unfolding all_paced
  unpaced-some [] ns e = absurd (false≢true (sym e))
  unpaced-some (t ∷ ts) [] e = absurd (false≢true (sym e))
  unpaced-some (t ∷ ts) (n ∷ ns) e = go (eqb n 0) refl (has_pace t.pace) refl e (unpaced-some ts ns)
    where
      Some : List TaskType → List ℕ → Type 0
      Some ts ns = (k : ℕ) × (k < length ts) × (1 ≤ get_or ns k 0) × ((get_or ts k d).pace ≡ None)

      later : Some ts ns → Some (t ∷ ts) (n ∷ ns)
      later f = (suc f.0, omega (arith, f.1), f.2, f.3)

      go : (a : Bool) → eqb n 0 ≡ a → (b : Bool) → has_pace t.pace ≡ b → ((a || b) && all_paced ts ns) ≡ false → (all_paced ts ns ≡ false → Some ts ns) → Some (t ∷ ts) (n ∷ ns)
      go true p b q e ih = later (ih e)
      go false p true q e ih = later (ih e)
      go false p false q e ih = (zero, omega arith, omega (arith, eqb-false n 0 p), no-pace t.pace q)

  -- the instances of one type, and those of two lists
  periods-same : (n : ℕ) (j : Job) → (1 ≤ n → 1 ≤ j.period) → Periods (replicate n j)
  periods-same zero j h = none
  periods-same (suc n) j h = more (h (omega arith)) (periods-same n j (λ m. h (omega arith)))

  periods-both : {a b : List Job} → Periods a → Periods b → Periods (a ++ b)
  periods-both none q = q
  periods-both (more h p) q = more h (periods-both p q)

  pub periods-of : (ts : List TaskType) (ns : List ℕ) → ((k : ℕ) → k < length ts → 1 ≤ get_or ns k 0 → 1 ≤ (job_of_type (get_or ts k d)).period) → Periods (jobs_of ts ns)
  unfolding jobs_of
  periods-of [] ns h = none
  periods-of (t ∷ ts) [] h = none
  periods-of (t ∷ ts) (n ∷ ns) h =
      let first : Periods (replicate n (job_of_type t)) = periods-same n (job_of_type t) (λ m. h zero (omega arith) m) in
      let others : Periods (jobs_of ts ns) = periods-of ts ns (λ k l m. h (suc k) (omega arith) m) in
      periods-both first others

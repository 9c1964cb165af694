-- Tests one after another, where the first that finds a fault decides; and one test of each type. The laws are of any test of a type, so that they serve 8 (u, s and d, and u and s on the second kind),
-- 31 (q) and 43 (C and T).
use Prim.Native.Nat.{ℕ, zero, suc, ◌≤◌}
use mathlib.Core.Path.{◌≡◌, refl, ap, ap₂}
use mathlib.Core.List.{List, [], ◌∷◌}
use mathlib.Core.Bool.{Bool, true, false, cond}
use native.Mathlib.Omega.{arith}
use borrow.Author.Tests.{eqb-true, eqb-false, eq-eqb}
use lib.ListN.{length, get_or}
use lib.Dec.{eqb}
use Rattle.system.specs.declared.TaskType.{TaskType}
use Rattle.system.specs.Values.{no_task}
use Rattle.system.specs.Limits.{most_fault, pace_fault, paces_fault}
use Rattle.writer.specs.Writing.{or_else, task_fault, types_fault, mosts_fault, engines_fault}

-- `or_else` is 0 exactly where both are

pub or-none : (fault later : ℕ) → or_else fault later ≡ 0 → (fault ≡ 0) × (later ≡ 0)
or-none fault later e = at (eqb fault 0) refl e
  where
    at : (b : Bool) → eqb fault 0 ≡ b → cond b later fault ≡ 0 → (fault ≡ 0) × (later ≡ 0)
    at true q e = (eqb-true fault 0 q, e)
    at false q e = absurd (eqb-false fault 0 q e)

pub none_or : (fault later : ℕ) → fault ≡ 0 → later ≡ 0 → or_else fault later ≡ 0
none_or fault later p q = rw (eq-eqb fault 0 p) q

-- and so the platform's fault and the second kind's as one, whichever comes first

pub engines-none : (platform second : ℕ) → engines_fault platform second ≡ 0 → (platform ≡ 0) × (second ≡ 0)
engines-none platform second e = at (eqb second 5) refl e
  where
    at : (b : Bool) → eqb second 5 ≡ b → cond b second (or_else platform second) ≡ 0 → (platform ≡ 0) × (second ≡ 0)
    at true q e = absurd (omega (arith, eqb-true second 5 q))
    at false q e = or-none platform second e

pub none-engines : (platform second : ℕ) → platform ≡ 0 → second ≡ 0 → engines_fault platform second ≡ 0
none-engines platform second p q = ap₂ engines_fault p q

-- the first type that a test finds at fault

unfoldable pub first_of : (TaskType → ℕ) → List TaskType → ℕ
first_of test [] = 0
first_of test (t ∷ ts) = or_else (test t) (first_of test ts)

-- 8 of some types, 31, and 43 on engines with this U, where none of the types stands past those that are asked
pub types-first : (ts : List TaskType) → types_fault ts ≡ first_of task_fault ts
unfolding types_fault first_of
types-first [] = refl
types-first (t ∷ ts) = ap (or_else (task_fault t)) (types-first ts)

abbrev pub replica_fault : TaskType → ℕ
replica_fault t = most_fault t.most

pub mosts-first : (ts : List TaskType) → mosts_fault ts ≡ first_of replica_fault ts
unfolding mosts_fault first_of
mosts-first [] = refl
mosts-first (t ∷ ts) = ap (or_else (replica_fault t)) (mosts-first ts)

abbrev pub cycle_fault : ℕ → TaskType → ℕ
cycle_fault whole t = pace_fault whole t.time t.pace

pub paces-first : (whole k : ℕ) (ts : List TaskType) → length ts ≤ k → paces_fault whole k ts ≡ first_of (cycle_fault whole) ts
unfolding paces_fault first_of
paces-first whole k [] h = refl
paces-first whole zero (t ∷ ts) h = absurd (omega arith)
paces-first whole (suc k) (t ∷ ts) h = ap (or_else (cycle_fault whole t)) (paces-first whole k ts (omega arith))

-- none is found exactly where each type passes
module _ (test : TaskType → ℕ) where
  pub first-each : test no_task ≡ 0 → (ts : List TaskType) → first_of test ts ≡ 0 → (i : ℕ) → test (get_or ts i no_task) ≡ 0
  unfolding first_of
  first-each free [] e i = free
  first-each free (t ∷ ts) e zero = (or-none (test t) (first_of test ts) e).0
  first-each free (t ∷ ts) e (suc i) = first-each free ts (or-none (test t) (first_of test ts) e).1 i

  pub first-none : (ts : List TaskType) → ((i : ℕ) → test (get_or ts i no_task) ≡ 0) → first_of test ts ≡ 0
  unfolding first_of
  first-none [] h = refl
  first-none (t ∷ ts) h = none_or (test t) (first_of test ts) (h zero) (first-none ts (λ i. h (suc i)))

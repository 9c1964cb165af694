-- Laws of time, memory, q and fit: of one instance, of two loads together, and of one instance more or less. Those of one type, of the empty load and of a
-- smaller load are LawsOfOne's.
use Prim.Native.Nat.{ℕ, zero, suc, ◌+◌, ◌-◌, ◌≤◌, ◌<◌, zero-le}
use mathlib.Core.Path.{◌≡◌}
use mathlib.Core.List.{List, [], ◌∷◌}
use mathlib.Core.Bool.{Bool, true, false, cond}
use native.Mathlib.Nat.{add-mul, mul-le-mul_right, sub-le, le_of_suc-le-suc, not-suc-le-zero}
use native.Mathlib.Omega.{arith}
use lib.ListN.{length, get_or}
use Rattle.system.specs.declared.TaskType.{TaskType}
use Rattle.system.specs.declared.System.{System}
use Rattle.system.specs.Values.{no_task}
use Rattle.loads.specs.Load.{sum_over, time_at, time_of, memory_at, memory_of, fits_engine, within, plus, one_more, one_less}
pub use Rattle.loads.proofs.LawsOfOne.{within-set-below, held_in, sum-empty, sum-within, sum-plus, sum-set, sum-one-more, sum-one-less, time_at-no_task, one-more-times, one-less-times, no-times, own_copies, shared_code, is_own, memory_at-none, memory_at-no_task, memory_at-le, own-all, shared-some, shared-none, apart-entries, fits-of, fits-time, fits-memory, fits-apart, time-empty, memory-empty, zeros-fit, empty-fits, engine_with-idle, time-within, memory-within, fits-within}

-- main: one instance of a load takes no more than the load

pub sum-entry : (each : TaskType → ℕ → ℕ) → ((x : ℕ) → each no_task x ≡ 0) → (ts : List TaskType) (x : List ℕ) (i : ℕ) → i < length x →
    each (get_or ts i no_task) (get_or x i 0) ≤ sum_over each ts x
unfolding sum_over
sum-entry each e [] x i h = rw (e (get_or x i 0)) zero-le
sum-entry each e (t ∷ ts) [] i h = absurd (not-suc-le-zero h)
sum-entry each e (t ∷ ts) (x ∷ xs) zero h = omega arith
sum-entry each e (t ∷ ts) (x ∷ xs) (suc i) h = omega (arith, sum-entry each e ts xs i (le_of_suc-le-suc h))

-- code and data of one instance, which are the same under both rules
one-memory : (rule : ℕ) (t : TaskType) → memory_at rule t 1 ≡ t.memory + t.data
one-memory rule t = go (is_own rule)
  where
    go : (b : Bool) → cond b (own_copies t 1) (shared_code t 1) ≡ t.memory + t.data
    go true = omega arith
    go false = omega arith

-- so each instance of a load that fits would fit an empty engine
module _ (y : System) (x : List ℕ) (i : ℕ) (fit : fits_engine y x ≡ true) (held : 1 ≤ get_or x i 0) where
  abbrev one : TaskType
  one = get_or y.types i no_task

  pub fits-held-time : (get_or y.types i no_task).time ≤ y.timecap
  fits-held-time =
      omega (arith, mul-le-mul_right one.time held, sum-entry time_at time_at-no_task y.types x i (held_in x i held), fits-time y x fit)

  pub fits-held-memory : (get_or y.types i no_task).memory + (get_or y.types i no_task).data ≤ y.memorycap
  fits-held-memory =
      omega (
        arith,
        one-memory y.rule one,
        memory_at-le y.rule one 1 (get_or x i 0) held,
        sum-entry (memory_at y.rule) (memory_at-no_task y.rule) y.types x i (held_in x i held),
        fits-memory y x fit,
      )

-- main: the two loads together

pub time-plus : (ts : List TaskType) (x z : List ℕ) → length x ≡ length z → time_of ts (plus x z) ≡ time_of ts x + time_of ts z
time-plus = sum-plus time_at (λ t x z. add-mul x z t.time)

-- main: one instance more, one instance less

pub within-one_less : (i : ℕ) (x : List ℕ) → within (one_less i x) x ≡ true
within-one_less i x = within-set-below x i (get_or x i 0 - 1) (sub-le (get_or x i 0) 1)

-- an instance that leaves keeps the engine good
pub fits-one-less : (y : System) (i : ℕ) (x : List ℕ) → fits_engine y x ≡ true → fits_engine y (one_less i x) ≡ true
fits-one-less y i x f = fits-within y (one_less i x) x (within-one_less i x) f

module _ (ts : List TaskType) (x : List ℕ) (i : ℕ) where
  abbrev t : TaskType
  t = get_or ts i no_task

  abbrev n : ℕ
  n = get_or x i 0

  pub time-one-more : i < length x → time_of ts (one_more i x) ≡ time_of ts x + (get_or ts i no_task).time
  time-one-more h = sum-one-more time_at time_at-no_task ts x i t.time h (one-more-times n t.time)

  pub time-one-less : 1 ≤ get_or x i 0 → time_of ts (one_less i x) + (get_or ts i no_task).time ≡ time_of ts x
  time-one-less h = sum-one-less time_at time_at-no_task ts x i t.time h (one-less-times n t.time h)

  -- rule 0, own copies: each instance has its s and its d
  pub memory-one-more-own : i < length x → memory_of 0 ts (one_more i x) ≡ memory_of 0 ts x + ((get_or ts i no_task).memory + (get_or ts i no_task).data)
  memory-one-more-own h =
      sum-one-more (memory_at 0) (memory_at-no_task 0) ts x i (t.memory + t.data) h
      (omega (arith, own-all t n, own-all t (n + 1), one-more-times n (t.memory + t.data)))

  pub memory-one-less-own : 1 ≤ get_or x i 0 → memory_of 0 ts (one_less i x) + ((get_or ts i no_task).memory + (get_or ts i no_task).data) ≡ memory_of 0 ts x
  memory-one-less-own h =
      sum-one-less (memory_at 0) (memory_at-no_task 0) ts x i (t.memory + t.data) h
      (omega (arith, own-all t n, own-all t (n - 1), one-less-times n (t.memory + t.data) h))

  -- rule 1, shared code: each instance brings its d and takes it away; only the first of a type brings its s too, only the last takes it away
  pub memory-one-more-shared-first : i < length x → get_or x i 0 ≡ 0 →
      memory_of 1 ts (one_more i x) ≡ memory_of 1 ts x + ((get_or ts i no_task).memory + (get_or ts i no_task).data)
  memory-one-more-shared-first h e =
      sum-one-more (memory_at 1) (memory_at-no_task 1) ts x i (t.memory + t.data) h
      (omega (arith, shared-none t n e, shared-some t (n + 1) (omega arith), one-more-times n t.data, no-times n t.data e))

  pub memory-one-more-shared-kept : 1 ≤ get_or x i 0 → memory_of 1 ts (one_more i x) ≡ memory_of 1 ts x + (get_or ts i no_task).data
  memory-one-more-shared-kept h =
      sum-one-more (memory_at 1) (memory_at-no_task 1) ts x i t.data (held_in x i h)
      (omega (arith, shared-some t n (omega arith), shared-some t (n + 1) (omega arith), one-more-times n t.data))

  pub memory-one-less-shared-kept : 2 ≤ get_or x i 0 → memory_of 1 ts (one_less i x) + (get_or ts i no_task).data ≡ memory_of 1 ts x
  memory-one-less-shared-kept h =
      sum-one-less (memory_at 1) (memory_at-no_task 1) ts x i t.data (omega arith)
      (omega (arith, shared-some t n (omega arith), shared-some t (n - 1) (omega arith), one-less-times n t.data (omega arith)))

  pub memory-one-less-shared-freed : get_or x i 0 ≡ 1 → memory_of 1 ts (one_less i x) + ((get_or ts i no_task).memory + (get_or ts i no_task).data) ≡ memory_of 1 ts x
  memory-one-less-shared-freed e =
      sum-one-less (memory_at 1) (memory_at-no_task 1) ts x i (t.memory + t.data) (omega arith)
      (omega (arith, shared-some t n (omega arith), shared-none t (n - 1) (omega arith), one-less-times n t.data (omega arith), no-times (n - 1) t.data (omega arith)))

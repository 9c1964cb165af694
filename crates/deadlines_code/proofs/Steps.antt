-- The loops over the six types: what is left of a definition after the types before i, by its next type, and nothing at the end. And the jobs written so far.
use Rattle.std.proofs.Common.{Option, Ok, Err}
use Rattle.std.specs.List.{list_all, zip}
use Prim.Native.Nat.{ℕ, ◌+◌, ◌^◌, ◌≤◌, ◌<◌}
use mathlib.Core.Path.{◌≡◌, refl, sym, ap, ap₂, ◌∙◌}
use mathlib.Core.List.{List, [], ◌∷◌, ◌++◌, append_assoc, append-nil}
use mathlib.Core.Bool.{Bool, true, false, ◌&&◌, ◌||◌, not, false≢true}
use native.Mathlib.Omega.{arith}
use borrow.Author.Tests.{leb-true, not-true, not-false}
use lib.ListN.{length, take, drop, replicate, length-replicate}
use lib.Seq.{take_all, paste, length-paste, take-paste}
use lib.Dec.{eqb}
use Rattle.system.specs.declared.Opened.{Opened}
use Rattle.system.specs.Layout.{Reading, opened, Reads}
use Rattle.system.proofs.Laws.{opened-unless}
use Rattle.system.specs.Outcome.{from_input, passes, fails, check, and_then, fails_with}
use Rattle.runs.specs.Run.{job_limit, run_of}
use Rattle.system.specs.declared.TaskType.{TaskType}
use Rattle.system.specs.declared.System.{System}
use Rattle.system.specs.declared.Refusal.{Refusal}
use Rattle.system.specs.declared.Refusal.TheVariants.{Input, State}
use Rattle.runs.specs.declared.Report.{Report}
use Rattle.runs.specs.declared.Job.{Job}
use Rattle.deadlines.specs.Engine.{paced_type, all_paced, instances, job_of_type, jobs_of, few_instances, few_ticks, few_enough, run_checks, run_over}
use Rattle.deadlines.specs.Outcome.{reported_as, not_run_for}

-- an answer that is no refusal is that of a file that opens
pub ok-opens : (x : Reading) (r : Opened) → Reads x r → {v : Option ℕ} → r.answer ≡ Ok v → x ≡ opened r.system
ok-opens x r reads {v = v} e = opened-unless x r reads (λ why f. ok_err why (sym e ∙ f))
  where
    ok_err : (why : Refusal) → Ok v ≡ Err why → ⊥
    ok_err why g = let z : ◌≡◌ {A = ℕ} 0 1 = cc in omega arith

-- every type with its count
pub paced-zip : (ts : List TaskType) (ns : List ℕ) → list_all (λ (p : TaskType × ℕ). eqb p.1 0 || paced_type p.0) (zip ts ns) ≡ all_paced ts ns
unfolding all_paced
paced-zip [] ns = refl
paced-zip (t ∷ ts) [] = refl
paced-zip (t ∷ ts) (n ∷ ns) = ap (λ (b : Bool). (eqb n 0 || paced_type t) && b) (paced-zip ts ns)

-- the jobs of one type, written from a place on

pub wrote-all : (jobs : List Job) (at count : ℕ) (j : Job) → paste jobs at (replicate count j) count ≡ take at jobs ++ (replicate count j ++ drop (at + count) jobs)
wrote-all jobs at count j =
    let n : length (replicate count j) ≡ count = length-replicate count j in
    append_assoc (take at jobs) (take count (replicate count j)) (drop (at + count) jobs)
    ∙ ap (λ (l : List Job). take at jobs ++ (l ++ drop (at + count) jobs)) (take_all count (replicate count j) (omega arith))

-- and what then stands up to the next type's place, and how many jobs there are
module _ (jobs next : List Job) (at count : ℕ) (j : Job) (e : next ≡ take at jobs ++ (replicate count j ++ drop (at + count) jobs)) (h : at + count ≤ length jobs) where
  whole : next ≡ paste jobs at (replicate count j) count
  whole = e ∙ sym (wrote-all jobs at count j)

  pub length-wrote : length next ≡ length jobs
  length-wrote =
      let n : length (replicate count j) ≡ count = length-replicate count j in
      ap length whole ∙ length-paste jobs at (replicate count j) count h (omega arith)

  pub take-wrote : take (at + count) next ≡ take at jobs ++ replicate count j
  take-wrote =
      let n : length (replicate count j) ≡ count = length-replicate count j in
      ap (take (at + count)) whole
      ∙ take-paste jobs at (replicate count j) count (omega arith) (omega arith)
      ∙ ap (λ (l : List Job). take at jobs ++ l) (take_all count (replicate count j) (omega arith))

-- one type more with its count
module _ (ts later : List TaskType) (ns rest : List ℕ) (t : TaskType) (n : ℕ) (et : ts ≡ t ∷ later) (en : ns ≡ n ∷ rest) where
  pub instances-next : instances ns ≡ n + instances rest
  unfolding instances
  instances-next = ap instances en

  jobs-next : jobs_of ts ns ≡ replicate n (job_of_type t) ++ jobs_of later rest
  unfolding jobs_of
  jobs-next = ap₂ jobs_of et en

  pub jobs-more : (at : ℕ) (jobs all-jobs : List Job) → take at jobs ++ jobs_of ts ns ≡ all-jobs → (next : List Job) (j : Job) → j ≡ job_of_type t
      → next ≡ take at jobs ++ (replicate n j ++ drop (at + n) jobs) → at + n ≤ length jobs → take (at + n) next ++ jobs_of later rest ≡ all-jobs
  jobs-more at jobs all-jobs e next j same is h =
      let left : List Job = jobs_of later rest in
      ap (λ (l : List Job). l ++ left) (take-wrote jobs next at n j is h)
      ∙ append_assoc (take at jobs) (replicate n j) left
      ∙ ap (λ (k : Job). take at jobs ++ (replicate n k ++ left)) same
      ∙ ap (λ (l : List Job). take at jobs ++ l) (sym jobs-next)
      ∙ e

-- after the last
pub instances-none : (ns : List ℕ) → ns ≡ [] → instances ns ≡ 0
unfolding instances
instances-none ns e = ap instances e

pub jobs-done : (ts : List TaskType) (ns all : List ℕ) (at : ℕ) (jobs all-jobs : List Job) → ts ≡ [] → take at jobs ++ jobs_of ts ns ≡ all-jobs → at ≡ instances all → take (instances all) jobs ≡ all-jobs
unfolding jobs_of
jobs-done ts ns all at jobs all-jobs none e a =
    ap (λ (n : ℕ). take n jobs) (sym a)
    ∙ sym (append-nil (take at jobs))
    ∙ ap (λ (l : List TaskType). take at jobs ++ jobs_of l ns) (sym none)
    ∙ e

-- two checks in their order: the first fails, the second does, neither
module _ (a b : Bool) (m n : ℕ) where
  pub first-fails : not a ≡ true → fails from_input m ≡ and_then (check a from_input m) (check b from_input n)
  first-fails h = rw (not-true a h)

  pub second-fails : not a ≡ false → not b ≡ true → fails from_input n ≡ and_then (check a from_input m) (check b from_input n)
  second-fails g h = rw (not-false a g, not-true b h)

  pub neither-fails : not a ≡ false → not b ≡ false → passes ≡ and_then (check a from_input m) (check b from_input n)
  neither-fails g h = rw (not-false a g, not-false b h)

  pub both-met : passes ≡ and_then (check a from_input m) (check b from_input n) → (a ≡ true) × (b ≡ true)
  both-met h = go a refl b refl h
    where
      never : (k : ℕ) → passes ≡ fails from_input k → ⊥
      never k e = let z : ◌≡◌ {A = ℕ} 0 1 = cc in omega arith

      go : (c : Bool) → a ≡ c → (d : Bool) → b ≡ d → passes ≡ and_then (check c from_input m) (check d from_input n) → (a ≡ true) × (b ≡ true)
      go true p true q e = (p, q)
      go true p false q e = absurd (never n e)
      go false p d q e = absurd (never m e)

-- few enough for the jobs' array and for a number of 32 bits
pub few-fits : (ns : List ℕ) (ticks : ℕ) → few_enough ns ticks ≡ true → (instances ns ≤ job_limit) × (ticks < 2 ^ 32)
few-fits ns ticks e = go (few_instances ns) refl (few_ticks ticks) refl e
  where
    go : (a : Bool) → few_instances ns ≡ a → (b : Bool) → few_ticks ticks ≡ b → (a && b) ≡ true → (instances ns ≤ job_limit) × (ticks < 2 ^ 32)
    go true p true q h = let l = leb-true ticks _ q in (leb-true (instances ns) _ p, omega arith)
    go true p false q h = absurd (false≢true h)
    go false p b q h = absurd (false≢true h)

-- what a check that passes says
pub passes-few : (ts : List TaskType) (ns : List ℕ) (ticks : ℕ) → passes ≡ run_checks ts ns ticks → (instances ns ≤ job_limit) × (ticks < 2 ^ 32)
passes-few ts ns ticks e = few-fits ns ticks (both-met (all_paced ts ns) (few_enough ns ticks) 44 45 e).1

-- the answers of `run_over`
module _ (y : System) (ns : List ℕ) (ticks : ℕ) where
  pub over-fails : (why : Refusal) → fails_with why ≡ run_checks y.types ns ticks → not_run_for why ≡ run_over y ns ticks
  unfolding run_over
  over-fails (Input n) e = rw (← e)
  over-fails (State n) e = rw (← e)

  pub over_runs :
      passes ≡ run_checks y.types ns ticks
      → (jobs : List Job) (all : ℕ) (r : Report)
      → take (instances ns) jobs ≡ jobs_of y.types ns
      → all ≡ instances ns
      → r ≡ run_of ticks (take all jobs)
      → reported_as r ≡ run_over y ns ticks
  unfolding run_over
  over_runs e jobs all r same a is = rw (← e) (ap reported_as (is ∙ ap (λ (n : ℕ). run_of ticks (take n jobs)) a ∙ ap (run_of ticks) same))

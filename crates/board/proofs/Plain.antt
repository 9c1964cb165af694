-- The plain words of a board mean what the code's words say: the sums over six types, fit, counts and totals, and the engines that are used.
use Rattle.std.proofs.Common.{Some}
use Prim.Native.Nat.{ℕ, zero, suc, ◌+◌, ◌-◌, ◌*◌, ◌≤◌}
use mathlib.Core.Path.{◌≡◌, refl, sym, ap, ap₂, subst, ◌∙◌}
use mathlib.Core.List.{List, [], ◌∷◌, map}
use mathlib.Core.Bool.{Bool, true, false, cond, ◌&&◌}
use native.Mathlib.Nat.{add-zero, zero-add, suc-add}
use native.Mathlib.Omega.{arith}
use borrow.Author.Tests.{eqb-true, eqb-false, eq-eqb, ne_eqb}
use lib.ListN.{length, get_or}
use lib.Dec.{eqb, eqb-suc-zero}
use Rattle.system.specs.declared.TaskType.{TaskType}
use Rattle.system.specs.declared.System.{System}
use Rattle.system.specs.Values.{no_task}
use Rattle.system.specs.Limits.{type_limit}
use Rattle.loads.specs.declared.EngineLoad.{EngineLoad}
use Rattle.loads.specs.Load.{sum_over, time_at, time_of, memory_at, memory_of, fits_engine, holds_none, engine_with, idle_engine, one_more, one_less}
use Rattle.loads.proofs.Laws.{own-all, apart-entries, fits-of, fits-time, fits-memory, fits-apart}
use Rattle.loads.proofs.Change.{get_or-plus, get_or-one_more, get_or-one_less}
use Rattle.partition.specs.Assignment.{every}
use Rattle.partition.specs.Shares.{sum_of, used_loads}
use Rattle.partition.specs.Plain.{type_no}
use Rattle.partition.proofs.Lists.{every-parts, get_or-padded}
use Rattle.partition.proofs.Cells.{length-sum_of}
use Rattle.board.specs.Words.{count_no, total_no, sum_six, time_out, own_out, shared_out, FitsOut, used_records, load_out}

-- six entries

pub six-parts : {A : Type 0} (l : List A) (z : A) → length l ≡ 6 → l ≡ get_or l 0 z ∷ get_or l 1 z ∷ get_or l 2 z ∷ get_or l 3 z ∷ get_or l 4 z ∷ get_or l 5 z ∷ []
six-parts [] z l = absurd (omega arith)
six-parts (a ∷ []) z l = absurd (omega arith)
six-parts (a ∷ b ∷ []) z l = absurd (omega arith)
six-parts (a ∷ b ∷ c ∷ []) z l = absurd (omega arith)
six-parts (a ∷ b ∷ c ∷ d ∷ []) z l = absurd (omega arith)
six-parts (a ∷ b ∷ c ∷ d ∷ e ∷ []) z l = absurd (omega arith)
six-parts (a ∷ b ∷ c ∷ d ∷ e ∷ f ∷ []) z l = refl
six-parts (a ∷ b ∷ c ∷ d ∷ e ∷ f ∷ g ∷ k) z l = absurd (omega arith)

-- a load of six counts is the list of them
pub load-out : (x : List ℕ) (count : ℕ → ℕ) → length x ≡ 6 → ((t : ℕ) → 1 ≤ t → get_or x (t - 1) 0 ≡ count t) → x ≡ load_out count
load-out x count l h =
    six-parts x 0 l
    ∙ rw (h 1 (omega arith), h 2 (omega arith), h 3 (omega arith), h 4 (omega arith), h 5 (omega arith), h 6 (omega arith))

-- main: sums, time, memory and fit

pub sums-out : (each : TaskType → ℕ → ℕ) (y : System) (x : List ℕ) → length y.types ≡ 6 → length x ≡ 6 → sum_over each y.types x ≡ sum_six (λ (t : ℕ). each (type_no y t) (get_or x (t - 1) 0))
unfolding sum_over
sums-out each y x ls lx =
    ap₂ (sum_over each) (six-parts y.types no_task ls) (six-parts x 0 lx) ∙ rw (add-zero (each (type_no y 6) (get_or x 5 0)))

pub sum_six-same : (f g : ℕ → ℕ) → ((t : ℕ) → 1 ≤ t → f t ≡ g t) → sum_six f ≡ sum_six g
sum_six-same f g h =
    omega (arith, h 1 (omega arith), h 2 (omega arith), h 3 (omega arith), h 4 (omega arith), h 5 (omega arith), h 6 (omega arith))

module _ (y : System) (f g : ℕ → ℕ) (h : (t : ℕ) → 1 ≤ t → f t ≡ g t) where
  pub time-same : time_out y f ≡ time_out y g
  time-same = sum_six-same (λ (t : ℕ). f t * (type_no y t).time) (λ (t : ℕ). g t * (type_no y t).time) (λ t k. rw (h t k))

  pub own_same : own_out y f ≡ own_out y g
  own_same =
      sum_six-same (λ (t : ℕ). f t * ((type_no y t).memory + (type_no y t).data)) (λ (t : ℕ). g t * ((type_no y t).memory + (type_no y t).data)) (λ t k. rw (h t k))

  pub shared_same : shared_out y f ≡ shared_out y g
  shared_same =
      sum_six-same
      (λ (t : ℕ). cond (eqb (f t) 0) 0 ((type_no y t).memory + f t * (type_no y t).data))
      (λ (t : ℕ). cond (eqb (g t) 0) 0 ((type_no y t).memory + g t * (type_no y t).data))
      (λ t k. rw (h t k))

  pub fits-same : FitsOut y f → FitsOut y g
  fits-same p = record {
    time = rw (← time-same) p.time;
    own_copies = λ r. rw (← own_same) (p.own_copies r);
    shared_code = λ r. rw (← shared_same) (p.shared_code r);
    separate = λ t q low given. rw (← (h t low)) (p.separate t q low given);
  }

module _ (y : System) (ls : length y.types ≡ 6) (x : List ℕ) (lx : length x ≡ 6) where
  abbrev counts : ℕ → ℕ
  counts t = get_or x (t - 1) 0

  pub time-out : time_of y.types x ≡ time_out y counts
  time-out = sums-out time_at y x ls lx

  pub own_out_lem : y.rule ≡ 0 → memory_of y.rule y.types x ≡ own_out y counts
  own_out_lem r =
      rw r (sums-out (memory_at 0) y x ls lx)
      ∙ sum_six-same (λ (t : ℕ). memory_at 0 (type_no y t) (counts t)) (λ (t : ℕ). counts t * ((type_no y t).memory + (type_no y t).data)) (λ t k. own-all (type_no y t) (counts t))

  pub shared-out : y.rule ≡ 1 → memory_of y.rule y.types x ≡ shared_out y counts
  shared-out r = rw r (sums-out (memory_at 1) y x ls lx)

  pub fits_out : fits_engine y x ≡ true → FitsOut y counts
  fits_out h = record {
    time = rw (← time-out) (fits-time y x h);
    own_copies = λ r. rw (← (own_out_lem r)) (fits-memory y x h);
    shared_code = λ r. rw (← (shared-out r)) (fits-memory y x h);
    separate = λ t q low given. (apart-entries y.types x).0 (fits-apart y x h) (t - 1) q given;
  }

  pub out-fits : y.rule ≤ 1 → FitsOut y counts → fits_engine y x ≡ true
  out-fits rule p = fits-of y x (rw time-out p.time) (memory (eqb y.rule 0) refl) ((apart-entries y.types x).1 kept)
    where
      kept : (i q : ℕ) → (get_or y.types i no_task).most ≡ Some q → get_or x i 0 ≤ q
      kept i =
          let same : suc i - 1 ≡ i = omega arith in
          subst (λ (j : ℕ). (q : ℕ) → (get_or y.types j no_task).most ≡ Some q → get_or x j 0 ≤ q) same (λ q. p.separate (suc i) q (omega arith))

      memory : (q : Bool) → eqb y.rule 0 ≡ q → memory_of y.rule y.types x ≤ y.memorycap
      memory true e = let r = eqb-true y.rule 0 e in rw (own_out_lem r) (p.own_copies r)
      memory false e = let n = eqb-false y.rule 0 e in let r : y.rule ≡ 1 = omega arith in rw (shared-out r) (p.shared_code r)

-- main: records

-- what a record past the last one has is 0, whichever stands for it
pub record RecordSame (ls : List EngineLoad) (i : ℕ) : Type 0 where
  pub time : (get_or ls i (record { time = 0; memory = 0; counts = [] })).time ≡ (get_or ls i idle_engine).time
  pub memory : (get_or ls i (record { time = 0; memory = 0; counts = [] })).memory ≡ (get_or ls i idle_engine).memory
  pub counts : (t : ℕ) → count_no (get_or ls i (record { time = 0; memory = 0; counts = [] })) t ≡ get_or (get_or ls i idle_engine).counts (t - 1) 0

pub record_same : (ls : List EngineLoad) (i : ℕ) → RecordSame ls i
record_same [] i = record { time = refl; memory = refl; counts = λ t. sym (get_or-padded [] type_limit (t - 1) 0) }
record_same (l ∷ ls) zero = record { time = refl; memory = refl; counts = λ t. refl }
record_same (l ∷ ls) (suc i) = let r = record_same ls i in record { time = r.time; memory = r.memory; counts = r.counts }

-- main: totals and used engines

abbrev Sized : List (List ℕ) → Type 0
Sized xs = every (λ (x : List ℕ). eqb (length x) 6) xs ≡ true

first-sized : (x : List ℕ) (xs : List (List ℕ)) → Sized (x ∷ xs) → (length x ≡ 6) × Sized xs
first-sized x xs s = let p = every-parts (λ (z : List ℕ). eqb (length z) 6) x xs s in (eqb-true (length x) 6 p.0, p.1)

pub total-out : (y : System) (xs : List (List ℕ)) (t : ℕ) → Sized xs → total_no t (map (engine_with y) xs) ≡ get_or (sum_of 6 xs) (t - 1) 0
unfolding total_no sum_of
total-out y [] t s = sym (get_or-padded [] 6 (t - 1) 0)
total-out y (x ∷ xs) t s =
    let p = first-sized x xs s in
    ap (λ (n : ℕ). get_or x (t - 1) 0 + n) (total-out y xs t p.1) ∙ sym (get_or-plus x (sum_of 6 xs) (t - 1) (p.0 ∙ sym (length-sum_of 6 xs p.1)))

none_both : (a b : ℕ) → eqb (a + b) 0 ≡ (eqb a 0 && eqb b 0)
none_both zero b = ap (λ (n : ℕ). eqb n 0) (zero-add b)
none_both (suc a) b = ap (λ (n : ℕ). eqb n 0) (suc-add a b) ∙ eqb-suc-zero (a + b) ∙ rw (eqb-suc-zero a)

and-end : (b : Bool) → b ≡ (b && true)
and-end true = refl
and-end false = refl

pub none-six : (x : List ℕ) → length x ≡ 6 → eqb (sum_six (λ (t : ℕ). get_or x (t - 1) 0)) 0 ≡ holds_none x
unfolding holds_none
none-six x l =
    let g : ℕ → ℕ = λ (i : ℕ). get_or x i 0 in
    none_both (g 0) _
    ∙ rw (none_both (g 1) (g 2 + (g 3 + (g 4 + g 5))), none_both (g 2) (g 3 + (g 4 + g 5)), none_both (g 3) (g 4 + g 5), none_both (g 4) (g 5))
    (ap (λ (b : Bool). eqb (g 0) 0 && (eqb (g 1) 0 && (eqb (g 2) 0 && (eqb (g 3) 0 && (eqb (g 4) 0 && b))))) (and-end (eqb (g 5) 0)) ∙ ap holds_none (sym (six-parts x 0 l)))

pub used-out : (y : System) (xs : List (List ℕ)) → Sized xs → used_records (map (engine_with y) xs) ≡ used_loads xs
unfolding used_records used_loads
used-out y [] s = refl
used-out y (x ∷ xs) s = let p = first-sized x xs s in rw (none-six x p.0, used-out y xs p.1) (go (holds_none x))
  where
    go : (b : Bool) → cond b 0 1 + used_loads xs ≡ cond b (used_loads xs) (suc (used_loads xs))
    go true = zero-add (used_loads xs)
    go false = omega arith

-- main: one instance more or less

-- type numbers and their indexes
pub same_number : (t u : ℕ) → 1 ≤ t → 1 ≤ u → eqb (t - 1) (u - 1) ≡ eqb u t
same_number t u h k = go (eqb u t) refl
  where
    go : (p : Bool) → eqb u t ≡ p → eqb (t - 1) (u - 1) ≡ p
    go true e = eq-eqb (t - 1) (u - 1) (ap (λ (n : ℕ). n - 1) (sym (eqb-true u t e)))
    go false e = ne_eqb (t - 1) (u - 1) (λ q. eqb-false u t e (omega arith))

module _ (t : ℕ) (low : 1 ≤ t) (x : List ℕ) where
  pub more-out : t ≤ length x → (u : ℕ) → 1 ≤ u → get_or (one_more (t - 1) x) (u - 1) 0 ≡ get_or x (u - 1) 0 + cond (eqb u t) 1 0
  more-out high u k = get_or-one_more (t - 1) (u - 1) x (omega arith) ∙ ap (λ (q : Bool). get_or x (u - 1) 0 + cond q 1 0) (same_number t u low k)

  pub less-out : 1 ≤ get_or x (t - 1) 0 → (u : ℕ) → 1 ≤ u → get_or x (u - 1) 0 ≡ get_or (one_less (t - 1) x) (u - 1) 0 + cond (eqb u t) 1 0
  less-out some u k = sym (get_or-one_less (t - 1) (u - 1) x some) ∙ ap (λ (q : Bool). get_or (one_less (t - 1) x) (u - 1) 0 + cond q 1 0) (same_number t u low k)

-- Laws of time, memory, q and fit: what one type takes, the sum over the types, the empty load and a smaller load.
-- Those of time and memory are proved once, of the sum over the types.
use Rattle.std.proofs.Common.{Option, None, Some}
use Prim.Native.Nat.{ℕ, zero, suc, ◌+◌, ◌-◌, ◌*◌, ◌≤◌, ◌<◌, zero-le}
use mathlib.Core.Path.{◌≡◌, refl, sym, ap, ◌∙◌}
use mathlib.Core.List.{List, [], ◌∷◌}
use mathlib.Core.Bool.{Bool, true, false, cond, ◌&&◌, false≢true}
use mathlib.Core.Logic.{◌↔◌}
use native.Mathlib.Nat.{zero-mul, mul-zero, add-mul, mul-le-mul_right, add-le-add, le_refl, le_trans, le_of_suc-le-suc, not-suc-le-zero, suc_inj}
use native.Mathlib.Nat.{sub-add_cancel, lt_of_not-le}
use native.Mathlib.Omega.{arith}
use borrow.Author.Tests.{leb-true, le-leb, eqb-true, eqb-false, eq-eqb, ne_eqb}
use lib.ListN.{length, get_or, set, replicate, get_or-eq_default}
use lib.Dec.{leb, eqb}
use Rattle.system.specs.declared.TaskType.{TaskType}
use Rattle.system.specs.declared.System.{System}
use Rattle.system.specs.Values.{no_task}
use Rattle.system.specs.Limits.{type_limit}
use Rattle.loads.specs.Load.{sum_over, time_at, time_of, memory_at, memory_of, apart_at, apart, fits_engine, empty_load, within, plus, one_more, one_less, engine_with, idle_engine}
use Rattle.loads.proofs.Order.{and_parts, and_both, within-refl}

-- intermediate: lists of counts

pub within-set-below : (x : List ℕ) (i v : ℕ) → v ≤ get_or x i 0 → within (set x i v) x ≡ true
unfolding within
within-set-below [] i v h = refl
within-set-below (x ∷ xs) zero v h = and_both (leb v x) _ (le-leb v x h) (within-refl xs)
within-set-below (x ∷ xs) (suc i) v h = and_both (leb x x) _ (le-leb x x (le_refl x)) (within-set-below xs i v h)

-- a type that has an instance is one of the list's
pub held_in : (x : List ℕ) (i : ℕ) → 1 ≤ get_or x i 0 → i < length x
held_in x i h = lt_of_not-le (λ (past : length x ≤ i). omega (arith, get_or-eq_default x 0 past))

-- main: the sum over the types

module _ (each : TaskType → ℕ → ℕ) where
  -- no instance takes nothing
  pub sum-empty : ((t : TaskType) → each t 0 ≡ 0) → (ts : List TaskType) (n : ℕ) → sum_over each ts (replicate n 0) ≡ 0
  unfolding sum_over
  sum-empty e [] n = refl
  sum-empty e (t ∷ ts) zero = refl
  sum-empty e (t ∷ ts) (suc n) = rw (e t, sum-empty e ts n)

  -- more instances take no less
  pub sum-within : ((t : TaskType) (x z : ℕ) → x ≤ z → each t x ≤ each t z) →
      (ts : List TaskType) (x z : List ℕ) → within x z ≡ true → sum_over each ts x ≤ sum_over each ts z
  unfolding sum_over within
  sum-within e [] x z h = zero-le
  sum-within e (t ∷ ts) [] z h = zero-le
  sum-within e (t ∷ ts) (x ∷ xs) [] h = absurd (false≢true h)
  sum-within e (t ∷ ts) (x ∷ xs) (z ∷ zs) h =
      let b = and_parts (leb x z) (within xs zs) h in
      add-le-add (e t x z (leb-true x z b.0)) (sum-within e ts xs zs b.1)

  -- each instance takes the same
  pub sum-plus : ((t : TaskType) (x z : ℕ) → each t (x + z) ≡ each t x + each t z) →
      (ts : List TaskType) (x z : List ℕ) → length x ≡ length z → sum_over each ts (plus x z) ≡ sum_over each ts x + sum_over each ts z
  unfolding sum_over plus
  sum-plus e [] x z h = refl
  sum-plus e (t ∷ ts) [] [] h = refl
  sum-plus e (t ∷ ts) [] (z ∷ zs) h = absurd (omega arith)
  sum-plus e (t ∷ ts) (x ∷ xs) [] h = absurd (omega arith)
  sum-plus e (t ∷ ts) (x ∷ xs) (z ∷ zs) h = omega (arith, e t x z, sum-plus e ts xs zs (suc_inj h))

  -- one count replaced; past the types nothing is taken
  pub sum-set : ((x : ℕ) → each no_task x ≡ 0) → (ts : List TaskType) (x : List ℕ) (i v : ℕ) → i < length x →
      sum_over each ts (set x i v) + each (get_or ts i no_task) (get_or x i 0) ≡ sum_over each ts x + each (get_or ts i no_task) v
  unfolding sum_over
  sum-set e [] x i v h = rw (e (get_or x i 0), e v)
  sum-set e (t ∷ ts) [] i v h = absurd (not-suc-le-zero h)
  sum-set e (t ∷ ts) (x ∷ xs) zero v h = omega arith
  sum-set e (t ∷ ts) (x ∷ xs) (suc i) v h = omega (arith, sum-set e ts xs i v (le_of_suc-le-suc h))

  -- one instance more brings what its type takes more, one instance less takes it away
  module _ (past : (x : ℕ) → each no_task x ≡ 0) (ts : List TaskType) (x : List ℕ) (i : ℕ) (share : ℕ) where
    pub sum-one-more : i < length x → each (get_or ts i no_task) (get_or x i 0 + 1) ≡ each (get_or ts i no_task) (get_or x i 0) + share →
        sum_over each ts (one_more i x) ≡ sum_over each ts x + share
    sum-one-more h e = omega (arith, sum-set past ts x i (get_or x i 0 + 1) h, e)

    pub sum-one-less : 1 ≤ get_or x i 0 → each (get_or ts i no_task) (get_or x i 0 - 1) + share ≡ each (get_or ts i no_task) (get_or x i 0) →
        sum_over each ts (one_less i x) + share ≡ sum_over each ts x
    sum-one-less h e = omega (arith, sum-set past ts x i (get_or x i 0 - 1) (held_in x i h), e)

-- intermediate: the time of one type, and its memory

pub time_at-no_task : (x : ℕ) → time_at no_task x ≡ 0
time_at-no_task x = mul-zero x

pub one-more-times : (n u : ℕ) → (n + 1) * u ≡ n * u + u
one-more-times n u = omega (arith, add-mul n 1 u)

pub one-less-times : (n u : ℕ) → 1 ≤ n → (n - 1) * u + u ≡ n * u
one-less-times n u h = omega (arith, add-mul (n - 1) 1 u, ap (λ (k : ℕ). k * u) (sub-add_cancel h))

pub no-times : (n u : ℕ) → n ≡ 0 → n * u ≡ 0
no-times n u e = ap (λ (k : ℕ). k * u) e ∙ zero-mul u

-- what x instances take where there is one: x own copies of code and data, or one copy of the code and x of the data
abbrev pub own_copies : TaskType → ℕ → ℕ
own_copies t x = x * (t.memory + t.data)

abbrev pub shared_code : TaskType → ℕ → ℕ
shared_code t x = t.memory + x * t.data

-- each instance has a copy of the code
abbrev pub is_own : ℕ → Bool
is_own rule = eqb rule 0

abbrev is_none : ℕ → Bool
is_none x = eqb x 0

pub memory_at-none : (rule : ℕ) (t : TaskType) → memory_at rule t 0 ≡ 0
memory_at-none rule t = refl

pub memory_at-no_task : (rule x : ℕ) → memory_at rule no_task x ≡ 0
memory_at-no_task rule x = go (is_none x) (is_own rule)
  where
    go : (e b : Bool) → cond e 0 (cond b (own_copies no_task x) (shared_code no_task x)) ≡ 0
    go true b = refl
    go false true = mul-zero x
    go false false = omega (arith, mul-zero x)

pub memory_at-le : (rule : ℕ) (t : TaskType) (x z : ℕ) → x ≤ z → memory_at rule t x ≤ memory_at rule t z
memory_at-le rule t x z h = go (is_none x) (is_none z) (is_own rule) refl refl
  where
    go : (e f b : Bool) → is_none x ≡ e → is_none z ≡ f → cond e 0 (cond b (own_copies t x) (shared_code t x)) ≤ cond f 0 (cond b (own_copies t z) (shared_code t z))
    go true f b p q = zero-le
    go false true b p q = absurd (eqb-false x 0 p (omega (arith, eqb-true z 0 q)))
    go false false true p q = mul-le-mul_right (t.memory + t.data) h
    go false false false p q = omega (arith, mul-le-mul_right t.data h)

-- "c × (s + d) under rule 0": none at all too, which take 0
pub own-all : (t : TaskType) (x : ℕ) → memory_at 0 t x ≡ x * (t.memory + t.data)
own-all t x = go (is_none x) refl
  where
    go : (e : Bool) → is_none x ≡ e → cond e 0 (own_copies t x) ≡ own_copies t x
    go true p = sym (ap (own_copies t) (eqb-true x 0 p) ∙ zero-mul (t.memory + t.data))
    go false p = refl

-- "s + c × d under rule 1", of an engine that holds one
pub shared-some : (t : TaskType) (x : ℕ) → 1 ≤ x → memory_at 1 t x ≡ t.memory + x * t.data
shared-some t x h = ap (λ (e : Bool). cond e 0 (shared_code t x)) (ne_eqb x 0 (λ e. omega arith))

pub shared-none : (t : TaskType) (x : ℕ) → x ≡ 0 → memory_at 1 t x ≡ 0
shared-none t x e = ap (λ (b : Bool). cond b 0 (shared_code t x)) (eq-eqb x 0 e)

-- intermediate: q of one type

not-given : (q : ℕ) → None ≡ Some q → ⊥
not-given q e = let z : ◌≡◌ {A = ℕ} 0 1 = cc in omega arith

same-most : (p q : ℕ) → Some p ≡ Some q → p ≡ q
same-most p q e = cc

-- "no engine holds more than q of that type. Without it there is no limit"
apart_at-keeps : (m : Option ℕ) (x : ℕ) → (apart_at m x ≡ true) ↔ ((q : ℕ) → m ≡ Some q → x ≤ q)
apart_at-keeps None x = ((λ h q e. absurd (not-given q e)), (λ h. refl))
apart_at-keeps (Some p) x = ((λ h q e. omega (arith, leb-true x p h, same-most p q e)), (λ h. le-leb x p (h p refl)))

apart_at-none : (m : Option ℕ) → apart_at m 0 ≡ true
apart_at-none m = (apart_at-keeps m 0).1 (λ q e. zero-le)

apart_at-le : (m : Option ℕ) (x z : ℕ) → x ≤ z → apart_at m z ≡ true → apart_at m x ≡ true
apart_at-le m x z h k = (apart_at-keeps m x).1 (λ q e. le_trans h ((apart_at-keeps m z).0 k q e))

-- main: a load keeps q exactly where each of its counts is at most the q of its type

apart-kept : (ts : List TaskType) (xs : List ℕ) → apart ts xs ≡ true → (i q : ℕ) → (get_or ts i no_task).most ≡ Some q → get_or xs i 0 ≤ q
unfolding apart
apart-kept [] xs h i q e = absurd (not-given q e)
apart-kept (t ∷ ts) [] h i q e = zero-le
apart-kept (t ∷ ts) (x ∷ xs) h zero q e = (apart_at-keeps t.most x).0 (and_parts (apart_at t.most x) (apart ts xs) h).0 q e
apart-kept (t ∷ ts) (x ∷ xs) h (suc i) q e = apart-kept ts xs (and_parts (apart_at t.most x) (apart ts xs) h).1 i q e

apart_of : (ts : List TaskType) (xs : List ℕ) → ((i q : ℕ) → (get_or ts i no_task).most ≡ Some q → get_or xs i 0 ≤ q) → apart ts xs ≡ true
unfolding apart
apart_of [] xs h = refl
apart_of (t ∷ ts) [] h = refl
apart_of (t ∷ ts) (x ∷ xs) h = and_both (apart_at t.most x) (apart ts xs) ((apart_at-keeps t.most x).1 (h zero)) (apart_of ts xs (λ i. h (suc i)))

pub apart-entries : (ts : List TaskType) (xs : List ℕ) → (apart ts xs ≡ true) ↔ ((i q : ℕ) → (get_or ts i no_task).most ≡ Some q → get_or xs i 0 ≤ q)
apart-entries ts xs = (apart-kept ts xs, apart_of ts xs)

apart-empty : (ts : List TaskType) (n : ℕ) → apart ts (replicate n 0) ≡ true
unfolding apart
apart-empty [] n = refl
apart-empty (t ∷ ts) zero = refl
apart-empty (t ∷ ts) (suc n) = and_both (apart_at t.most 0) (apart ts (replicate n 0)) (apart_at-none t.most) (apart-empty ts n)

apart-within : (ts : List TaskType) (x z : List ℕ) → within x z ≡ true → apart ts z ≡ true → apart ts x ≡ true
unfolding apart within
apart-within [] x z h k = refl
apart-within (t ∷ ts) [] z h k = refl
apart-within (t ∷ ts) (x ∷ xs) [] h k = absurd (false≢true h)
apart-within (t ∷ ts) (x ∷ xs) (z ∷ zs) h k =
    let b = and_parts (leb x z) (within xs zs) h in
    let a = and_parts (apart_at t.most z) (apart ts zs) k in
    and_both (apart_at t.most x) (apart ts xs) (apart_at-le t.most x z (leb-true x z b.0) a.0) (apart-within ts xs zs b.1 a.1)

-- main: fit is a bound on time, one on memory, and q kept

module _ (y : System) (x : List ℕ) where
  abbrev timely : Bool
  timely = leb (time_of y.types x) y.timecap

  abbrev stored : Bool
  stored = leb (memory_of y.rule y.types x) y.memorycap

  pub fits-of : time_of y.types x ≤ y.timecap → memory_of y.rule y.types x ≤ y.memorycap → apart y.types x ≡ true → fits_engine y x ≡ true
  unfolding fits_engine
  fits-of h k a = and_both (timely && stored) (apart y.types x) (and_both timely stored (le-leb _ _ h) (le-leb _ _ k)) a

  fits-sums : fits_engine y x ≡ true → (timely && stored) ≡ true
  unfolding fits_engine
  fits-sums h = (and_parts (timely && stored) (apart y.types x) h).0

  pub fits-time : fits_engine y x ≡ true → time_of y.types x ≤ y.timecap
  fits-time h = leb-true _ _ (and_parts timely stored (fits-sums h)).0

  pub fits-memory : fits_engine y x ≡ true → memory_of y.rule y.types x ≤ y.memorycap
  fits-memory h = leb-true _ _ (and_parts timely stored (fits-sums h)).1

  -- "A load fits only if it keeps q too"
  pub fits-apart : fits_engine y x ≡ true → apart y.types x ≡ true
  unfolding fits_engine
  fits-apart h = (and_parts (timely && stored) (apart y.types x) h).1

-- main: the empty load

pub time-empty : (ts : List TaskType) (n : ℕ) → time_of ts (replicate n 0) ≡ 0
time-empty = sum-empty time_at (λ t. zero-mul t.time)

pub memory-empty : (rule : ℕ) (ts : List TaskType) (n : ℕ) → memory_of rule ts (replicate n 0) ≡ 0
memory-empty rule = sum-empty (memory_at rule) (memory_at-none rule)

pub zeros-fit : (y : System) (n : ℕ) → fits_engine y (replicate n 0) ≡ true
zeros-fit y n =
    fits-of y (replicate n 0) (rw (time-empty y.types n) zero-le) (rw (memory-empty y.rule y.types n) zero-le) (apart-empty y.types n)

pub empty-fits : (y : System) → fits_engine y empty_load ≡ true
empty-fits y = zeros-fit y type_limit

pub engine_with-idle : (y : System) → engine_with y empty_load ≡ idle_engine
engine_with-idle y = λ i. record { time = time-empty y.types type_limit i; memory = memory-empty y.rule y.types type_limit i; counts = empty_load }

-- main: a smaller load

pub time-within : (ts : List TaskType) (x z : List ℕ) → within x z ≡ true → time_of ts x ≤ time_of ts z
time-within = sum-within time_at (λ t x z h. mul-le-mul_right t.time h)

pub memory-within : (rule : ℕ) (ts : List TaskType) (x z : List ℕ) → within x z ≡ true → memory_of rule ts x ≤ memory_of rule ts z
memory-within rule = sum-within (memory_at rule) (memory_at-le rule)

pub fits-within : (y : System) (x z : List ℕ) → within x z ≡ true → fits_engine y z ≡ true → fits_engine y x ≡ true
fits-within y x z h f =
    fits-of y x
    (le_trans (time-within y.types x z h) (fits-time y z f))
    (le_trans (memory-within y.rule y.types x z h) (fits-memory y z f))
    (apart-within y.types x z h (fits-apart y z f))

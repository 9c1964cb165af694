-- Which instance stands at which place of the list of jobs: those of type 1 first, each type's in order of their number.
use Prim.Native.Nat.{ℕ, zero, suc, ◌+◌, ◌-◌, ◌≤◌, ◌<◌}
use mathlib.Core.Path.{◌≡◌, refl, ap, ◌∙◌}
use mathlib.Core.List.{List, [], ◌∷◌, ◌++◌}
use mathlib.Core.Bool.{Bool, true, false, cond, ◌&&◌}
use mathlib.Core.Logic.{◌⊎◌, inl, inr}
use native.Mathlib.Nat.{not-suc-le-zero}
use native.Mathlib.Omega.{arith}
use borrow.Author.Tests.{leb-true, leb-false, le-leb, ltb-true, ltb-false, lt-ltb}
use lib.ListN.{length, get_or, replicate, length-append, length-replicate, get_or-replicate, get_or-append}
use lib.Seq.{get_or-append-add}
use lib.Dec.{leb, ltb}
use Rattle.system.specs.declared.TaskType.{TaskType}
use Rattle.runs.specs.declared.Job.{Job}
use Rattle.runs.specs.Run.{no_job}
use Rattle.deadlines.specs.Engine.{instances, job_of_type, jobs_of}

-- of n instances of a first type and those of the others, where the first type's begin, and where the others' do
abbrev first_from : ℕ → List ℕ → ℕ
first_from n ns = 0

abbrev others_from : ℕ → List ℕ → ℕ
others_from n ns = n

-- at place p stands instance i of type t, both counted from 1
pub data Stood : List ℕ → ℕ → ℕ → ℕ → Type 0 where
  here : {n p q : ℕ} {ns : List ℕ} → q ≡ first_from n ns + p → p < n → Stood (n ∷ ns) q (suc zero) (suc p)
  there : {n p q t i : ℕ} {ns : List ℕ} → q ≡ others_from n ns + p → Stood ns p t i → Stood (n ∷ ns) q (suc t) i

-- entry t of a list with one more before it, counted from 1
get_or-next : {A : Type 0} (a : A) (l : List A) (t : ℕ) (d : A) → 1 ≤ t → get_or (a ∷ l) (suc t - 1) d ≡ get_or l (t - 1) d
get_or-next a l zero d h = absurd (not-suc-le-zero h)
get_or-next a l (suc t) d h =
    let e : suc (suc t) - 1 ≡ suc t = omega arith in
    let f : suc t - 1 ≡ t = omega arith in
    rw (e, f)

-- the type and the instance are some
pub stood-type : {ns : List ℕ} {p t i : ℕ} → Stood ns p t i → (1 ≤ t) × (t ≤ length ns)
stood-type (here e h) = (omega arith, omega arith)
stood-type (there e s) = let k = stood-type s in (omega (arith, k.0), omega (arith, k.1))

pub stood-instance : {ns : List ℕ} {p t i : ℕ} → Stood ns p t i → (1 ≤ i) × (i ≤ get_or ns (t - 1) 0)
stood-instance (here e h) = (omega arith, h)
stood-instance (there {n} {p} {q} {t} {i} {ns} e s) = ((stood-instance s).0, rw (get_or-next n ns t 0 (stood-type s).0) (stood-instance s).1)

-- the place is one of the list
pub stood-inside : {ns : List ℕ} {p t i : ℕ} → Stood ns p t i → p < instances ns
unfolding instances
stood-inside (here e h) = omega arith
stood-inside (there e s) = omega (arith, stood-inside s)

-- each instance has a place
pub place_of : (ns : List ℕ) (t i : ℕ) → 1 ≤ t → 1 ≤ i → i ≤ get_or ns (t - 1) 0 → (p : ℕ) × Stood ns p t i
place_of [] t i l m h = absurd (omega arith)
place_of (n ∷ ns) zero i l m h = absurd (not-suc-le-zero l)
place_of (n ∷ ns) (suc zero) zero l m h = absurd (not-suc-le-zero m)
place_of (n ∷ ns) (suc zero) (suc p) l m h = (first_from n ns + p, here refl h)
place_of (n ∷ ns) (suc (suc t)) i l m h = let f = place_of ns (suc t) i (omega arith) m (rw (get_or-next n ns (suc t) 0 (omega arith)) at h) in (others_from n ns + f.0, there refl f.1)

-- and no other
pub stood-same : {ns : List ℕ} {p q t i : ℕ} → Stood ns p t i → Stood ns q t i → p ≡ q
stood-same (here e h) (here d k) = omega arith
stood-same (here d h) (there e s) = absurd (omega (arith, (stood-type s).0))
stood-same (there e s) (here d h) = absurd (omega (arith, (stood-type s).0))
stood-same (there e s) (there d r) = omega (arith, stood-same s r)

-- a lower place is that of a lower type, or of a lower instance of the same
pub stood-order : {ns : List ℕ} {p q t i t' i' : ℕ} → Stood ns p t i → Stood ns q t' i' → p < q → (t < t') ⊎ ((t ≡ t') × (i < i'))
stood-order (here e h) (here d k) l = inr (refl, omega arith)
stood-order (here d h) (there e s) l = inl (omega (arith, (stood-type s).0))
stood-order (there e s) (here d h) l = absurd (omega arith)
stood-order (there {n} {p} {q} {t} {i} {ns} e s) (there {n = n'} {p = p'} {q = q'} {t = t'} {i = i'} d r) l = go (stood-order s r (omega arith))
  where
    go : (t < t') ⊎ ((t ≡ t') × (i < i')) → (suc t < suc t') ⊎ ((suc t ≡ suc t') × (i < i'))
    go (inl a) = inl (omega arith)
    go (inr a) = inr (ap suc a.0, a.1)

-- the type and the instance at a place; past the last place type 0

abbrev pub next-type : ℕ → ℕ
next-type zero = 0
next-type (suc t) = suc (suc t)

-- one of the first type
abbrev pub of_first : ℕ → List ℕ → ℕ → Bool
of_first n ns p = leb (first_from n ns) p && ltb p (first_from n ns + n)

unfoldable pub kind_at : List ℕ → ℕ → ℕ
kind_at [] p = 0
kind_at (n ∷ ns) p = cond (of_first n ns p) 1 (next-type (kind_at ns (p - others_from n ns)))

unfoldable pub instance_at : List ℕ → ℕ → ℕ
instance_at [] p = 0
instance_at (n ∷ ns) p = cond (of_first n ns p) (suc (p - first_from n ns)) (instance_at ns (p - others_from n ns))

is-first : (n : ℕ) (ns : List ℕ) (p : ℕ) → first_from n ns ≤ p → p < first_from n ns + n → of_first n ns p ≡ true
is-first n ns p a b = rw (le-leb (first_from n ns) p a, lt-ltb p (first_from n ns + n) b)

not_first : (n : ℕ) (ns : List ℕ) (p : ℕ) → (first_from n ns ≤ p → p < first_from n ns + n → ⊥) → of_first n ns p ≡ false
not_first n ns p f = go (leb (first_from n ns) p) refl (ltb p (first_from n ns + n)) refl
  where
    go : (a : Bool) → leb (first_from n ns) p ≡ a → (b : Bool) → ltb p (first_from n ns + n) ≡ b → (a && b) ≡ false
    go false c b d = refl
    go true c false d = refl
    go true c true d = absurd (f (leb-true (first_from n ns) p c) (ltb-true p (first_from n ns + n) d))

-- or before the first type's places, or past them
data Side (n : ℕ) (ns : List ℕ) (p : ℕ) : Type 0 where
  within : first_from n ns ≤ p → p < first_from n ns + n → Side n ns p
  below : p < first_from n ns → Side n ns p
  above : first_from n ns + n ≤ p → Side n ns p

side : (n : ℕ) (ns : List ℕ) (p : ℕ) → Side n ns p
side n ns p = go (leb (first_from n ns) p) refl (ltb p (first_from n ns + n)) refl
  where
    go : (a : Bool) → leb (first_from n ns) p ≡ a → (b : Bool) → ltb p (first_from n ns + n) ≡ b → Side n ns p
    go false c b d = below (leb-false (first_from n ns) p c)
    go true c false d = above (ltb-false p (first_from n ns + n) d)
    go true c true d = within (leb-true (first_from n ns) p c) (ltb-true p (first_from n ns + n) d)

-- they are those that stand there
pub stood-at : {ns : List ℕ} {p t i : ℕ} → Stood ns p t i → (kind_at ns p ≡ t) × (instance_at ns p ≡ i)
unfolding kind_at instance_at
stood-at (here {n} {p} {q} {ns} e h) =
    let d : q - first_from n ns ≡ p = omega arith in
    (rw (is-first n ns q (omega arith) (omega arith)), rw (is-first n ns q (omega arith) (omega arith), d))
stood-at (there {n} {p} {q} {t} {i} {ns} e s) =
    let k = stood-at s in
    let d : q - others_from n ns ≡ p = omega arith in
    let f : of_first n ns q ≡ false = not_first n ns q (λ a b. omega (arith, stood-inside s)) in (
      rw (f, d, k.0) (go t (stood-type s).0),
      rw (f, d) k.1,
    )
  where
    go : (t : ℕ) → 1 ≤ t → next-type t ≡ suc t
    go zero l = absurd (not-suc-le-zero l)
    go (suc t) l = refl

-- each place of the list has an instance
pub stood-here : (ns : List ℕ) (p : ℕ) → p < instances ns → Stood ns p (kind_at ns p) (instance_at ns p)
unfolding instances kind_at instance_at
stood-here [] p h = absurd (not-suc-le-zero h)
stood-here (n ∷ ns) p h = go (side n ns p) (stood-here ns (p - others_from n ns))
  where
    others : ℕ
    others = p - others_from n ns

    This : Type 0
    This = Stood (n ∷ ns) p (cond (of_first n ns p) 1 (next-type (kind_at ns others))) (cond (of_first n ns p) (suc (p - first_from n ns)) (instance_at ns others))

    next : (t : ℕ) → Stood ns others t (instance_at ns others) → p ≡ others_from n ns + others → Stood (n ∷ ns) p (next-type t) (instance_at ns others)
    next zero s e = absurd (omega (arith, (stood-type s).0))
    next (suc t) s e = there e s

    later : of_first n ns p ≡ false → Stood ns others (kind_at ns others) (instance_at ns others) → p ≡ others_from n ns + others → This
    later f s e = rw f (next (kind_at ns others) s e)

    go : Side n ns p → (others < instances ns → Stood ns others (kind_at ns others) (instance_at ns others)) → This
    go (within a b) ih =
        let e : p ≡ first_from n ns + (p - first_from n ns) = omega arith in
        let l : p - first_from n ns < n = omega arith in
        rw (is-first n ns p a b) (here e l)
    go (below a) ih = later (not_first n ns p (λ c d. omega arith)) (ih (omega arith)) (omega arith)
    go (above a) ih = later (not_first n ns p (λ c d. omega arith)) (ih (omega arith)) (omega arith)

-- and past it nobody stands
pub kind-past : (ns : List ℕ) (p : ℕ) → instances ns ≤ p → kind_at ns p ≡ 0
unfolding instances kind_at
kind-past [] p h = refl
kind-past (n ∷ ns) p h = rw (not_first n ns p (λ a b. omega arith), kind-past ns (p - others_from n ns) (omega arith))

-- the job at a place is that of its type

-- a place of the left or of the right of two lists
in_left : (a b : List Job) (q : ℕ) → q < length a → get_or (a ++ b) q no_job ≡ get_or a q no_job
in_left a b q h = get_or-append a b no_job q h

in_right : (a b : List Job) (q p : ℕ) → q ≡ length a + p → get_or (a ++ b) q no_job ≡ get_or b p no_job
in_right a b q p e = rw e (get_or-append-add a b p no_job)

pub length-jobs : (ts : List TaskType) (ns : List ℕ) → length ts ≡ length ns → length (jobs_of ts ns) ≡ instances ns
unfolding jobs_of instances
length-jobs [] [] e = refl
length-jobs [] (n ∷ ns) e = absurd (omega arith)
length-jobs (t ∷ ts) [] e = absurd (omega arith)
length-jobs (t ∷ ts) (n ∷ ns) e =
    length-append (replicate n (job_of_type t)) (jobs_of ts ns)
    ∙ omega (arith, length-replicate n (job_of_type t), length-jobs ts ns (omega arith))

pub job-stood : (ts : List TaskType) {ns : List ℕ} {p t i : ℕ} (d : TaskType) → length ts ≡ length ns → Stood ns p t i → get_or (jobs_of ts ns) p no_job ≡ job_of_type (get_or ts (t - 1) d)
unfolding jobs_of
job-stood [] d e (here f h) = absurd (omega arith)
job-stood [] d e (there f s) = absurd (omega arith)
job-stood (k ∷ ts) d e (here {n} {p} {q} {ns} f h) =
    let l : length (replicate n (job_of_type k)) ≡ n = length-replicate n (job_of_type k) in
    in_left (replicate n (job_of_type k)) (jobs_of ts ns) q (omega arith)
    ∙ ap (λ (m : ℕ). get_or (replicate n (job_of_type k)) m no_job) (omega arith)
    ∙ get_or-replicate n p (job_of_type k) no_job h
job-stood (k ∷ ts) d e (there {n} {p} {q} {t} {i} {ns} f s) =
    let l : length (replicate n (job_of_type k)) ≡ n = length-replicate n (job_of_type k) in
    in_right (replicate n (job_of_type k)) (jobs_of ts ns) q p (omega arith)
    ∙ job-stood ts d (omega arith) s
    ∙ rw (get_or-next k ts t d (stood-type s).0)

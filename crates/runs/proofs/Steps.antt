-- One law for each turn of a loop, and for each end of one.
use Rattle.std.proofs.Common.{None, Some}
use Prim.Native.Nat.{ℕ, zero, suc, ◌+◌, ◌-◌, ◌≤◌, ◌<◌, zero-le}
use mathlib.Core.Path.{◌≡◌, refl, sym, ap, ◌∙◌}
use mathlib.Core.List.{List, [], ◌∷◌, ◌++◌}
use mathlib.Core.Bool.{Bool, true, false, cond, not, ◌&&◌, ◌||◌, false≢true}
use native.Mathlib.Nat.{le_refl, le_of_suc-le-suc, not-suc-le-zero}
use native.Mathlib.Numerals.{add-one}
use native.Mathlib.Omega.{arith}
use borrow.Author.Tests.{ltb-true, ltb-false, eqb-true, eqb-false, eq-eqb, ne_eqb, le-ltb}
use lib.ListN.{length, get_or, set, take, drop, length-drop}
use lib.Seq.{take-suc, take-suc-set, drop-cons, get_or-take, get_or-drop, take-set-lt, length-take-le}
use lib.Dec.{eqb, ltb, eqb-suc-suc, eqb-zero-suc}
use Rattle.runs.specs.declared.Job.{Job}
use Rattle.runs.specs.Run.{no_job, started_job, started, late_job, late, arrived_job, arrived, pending, earlier, sooner, chosen, due_before, worked_job, worked_at}
use Rattle.runs.specs.Run.{worked, idle_tick, run_from}

-- intermediate: one job more at the end

pub late-append : (now : ℕ) (l : List Job) (j : Job) → late now (l ++ (j ∷ [])) ≡ (late now l || late_job now j)
unfolding late
late-append now [] j = or-false (late_job now j)
  where
    or-false : (b : Bool) → (b || false) ≡ b
    or-false true = refl
    or-false false = refl
late-append now (k ∷ l) j = go (late_job now k) (late-append now l j)
  where
    go : (b : Bool) → late now (l ++ (j ∷ [])) ≡ (late now l || late_job now j) → (b || late now (l ++ (j ∷ []))) ≡ ((b || late now l) || late_job now j)
    go true e = refl
    go false e = e

pub arrived-append : (now : ℕ) (l : List Job) (j : Job) → arrived now (l ++ (j ∷ [])) ≡ arrived now l ++ (arrived_job now j ∷ [])
unfolding arrived
arrived-append now [] j = refl
arrived-append now (k ∷ l) j = ap (λ (m : List Job). arrived_job now k ∷ m) (arrived-append now l j)

started-append : (l : List Job) (j : Job) → started (l ++ (j ∷ [])) ≡ started l ++ (started_job j ∷ [])
unfolding started
started-append [] j = refl
started-append (k ∷ l) j = ap (λ (m : List Job). started_job k ∷ m) (started-append l j)

-- main: the turns of the loops that go up

pub late-none : (now : ℕ) → late now [] ≡ false
unfolding late
late-none now = refl

pub started_none : started [] ≡ []
unfolding started
started_none = refl

pub arrived-none : (now : ℕ) → arrived now [] ≡ []
unfolding arrived
arrived-none now = refl

pub late-turn : (now : ℕ) (jobs : List Job) (i : ℕ) → i < length jobs → late now (take (i + 1) jobs) ≡ (late now (take i jobs) || late_job now (get_or jobs i no_job))
late-turn now jobs i h = rw (add-one i, take-suc jobs i no_job h) (late-append now (take i jobs) (get_or jobs i no_job))

module _ (jobs out : List Job) (i : ℕ) (h : i < length jobs) (l : i < length out) where
  pub arrived-turn :
      (now : ℕ)
      → take i out ≡ arrived now (take i jobs)
      → take (i + 1) (set out i (arrived_job now (get_or jobs i no_job))) ≡ arrived now (take (i + 1) jobs)
  arrived-turn now e =
      rw (add-one i, take-suc-set out i (arrived_job now (get_or jobs i no_job)) l, take-suc jobs i no_job h, e)
      (sym (arrived-append now (take i jobs) (get_or jobs i no_job)))

  pub started-turn : take i out ≡ started (take i jobs) → take (i + 1) (set out i (started_job (get_or jobs i no_job))) ≡ started (take (i + 1) jobs)
  started-turn e =
      rw (add-one i, take-suc-set out i (started_job (get_or jobs i no_job)) l, take-suc jobs i no_job h, e)
      (sym (started-append (take i jobs) (get_or jobs i no_job)))

-- lengths

pub length-arrived : (now : ℕ) (l : List Job) → length (arrived now l) ≡ length l
unfolding arrived
length-arrived now [] = refl
length-arrived now (j ∷ l) = ap suc (length-arrived now l)

pub length-started : (l : List Job) → length (started l) ≡ length l
unfolding started
length-started [] = refl
length-started (j ∷ l) = ap suc (length-started l)

pub length-worked : (l : List Job) (i : ℕ) → length (worked_at l i) ≡ length l
unfolding worked_at
length-worked [] i = refl
length-worked (j ∷ l) zero = refl
length-worked (j ∷ l) (suc i) = ap suc (length-worked l i)

-- one tick of work

worked-set : (l : List Job) (i : ℕ) → i < length l → set l i (worked_job (get_or l i no_job)) ≡ worked_at l i
unfolding worked_at
worked-set [] i h = absurd (not-suc-le-zero h)
worked-set (j ∷ l) zero h = refl
worked-set (j ∷ l) (suc i) h = ap (λ (m : List Job). j ∷ m) (worked-set l i (le_of_suc-le-suc h))

worked-past : (l : List Job) (i : ℕ) → length l ≤ i → l ≡ worked_at l i
unfolding worked_at
worked-past [] i h = refl
worked-past (j ∷ l) zero h = absurd (not-suc-le-zero h)
worked-past (j ∷ l) (suc i) h = ap (λ (m : List Job). j ∷ m) (worked-past l i (le_of_suc-le-suc h))

module _ (jobs : List Job) (count i : ℕ) (within : count ≤ length jobs) where
  pub worked-here : i < count → take count (set jobs i (worked_job (get_or jobs i no_job))) ≡ worked_at (take count jobs) i
  worked-here h =
      rw (take-set-lt count jobs i (worked_job (get_or jobs i no_job)) h, ← (get_or-take count jobs i no_job h))
      (worked-set (take count jobs) i (rw (length-take-le count jobs within) h))

  pub worked-none : count ≤ i → take count jobs ≡ worked_at (take count jobs) i
  worked-none h = worked-past (take count jobs) i (rw (length-take-le count jobs within) h)

-- the choice

pub chosen-le : (l : List Job) → chosen l ≤ length l
unfolding chosen
chosen-le [] = le_refl 0
chosen-le (j ∷ l) = go (pending j && not (sooner j.due l)) (chosen-le l)
  where
    go : (b : Bool) → chosen l ≤ length l → cond b 0 (suc (chosen l)) ≤ suc (length l)
    go true h = zero-le
    go false h = omega arith

chosen-cons : (j : Job) (l : List Job) → chosen (j ∷ l) ≡ cond (pending j && not (sooner j.due l)) 0 (suc (chosen l))
unfolding chosen
chosen-cons j l = refl

-- the order of deadlines: what is not before e is not before what e is not before, and what is not before d is not before what is before d

pub no-earlier : (d e : ℕ) → earlier d e ≡ false → e ≤ d
no-earlier d e h = ltb-false d e h

not_earlier : (x d e : ℕ) → earlier e d ≡ false → earlier x e ≡ false → earlier x d ≡ false
not_earlier x d e p q = le-ltb x d (omega (arith, ltb-false e d p, ltb-false x e q))

not-earlier-still : (x d e : ℕ) → earlier e d ≡ true → earlier x d ≡ false → earlier x e ≡ false
not-earlier-still x d e p q = le-ltb x e (omega (arith, ltb-true e d p, ltb-false x d q))

-- no pending job is before d, if none is before e and none of those not before e is before d
not-sooner : (d e : ℕ) (l : List Job) → ((x : ℕ) → earlier x e ≡ false → earlier x d ≡ false) → sooner e l ≡ false → sooner d l ≡ false
unfolding sooner
not-sooner d e [] h p = refl
not-sooner d e (j ∷ l) h p = go (not-sooner d e l h) (pending j) (earlier j.due e) refl p
  where
    go : (sooner e l ≡ false → sooner d l ≡ false) → (a b : Bool) → earlier j.due e ≡ b → ((a && b) || sooner e l) ≡ false → ((a && earlier j.due d) || sooner d l) ≡ false
    go ih false b q r = ih r
    go ih true true q r = absurd (false≢true (sym r))
    go ih true false q r = ap (λ (b : Bool). b || sooner d l) (h j.due q) ∙ ih r

-- whether some pending job is due before d is seen at the chosen one
sooner-chosen : (d : ℕ) (l : List Job) → sooner d l ≡ due_before (length l) (chosen l) (get_or l (chosen l) no_job).due d
unfolding sooner chosen
sooner-chosen d [] = refl
sooner-chosen d (j ∷ l) = go (sooner-chosen d l) (pending j) (sooner j.due l) refl (earlier j.due d) refl
  where
    past : due_before (length l) (chosen l) (get_or l (chosen l) no_job).due d ≡ due_before (suc (length l)) (suc (chosen l)) (get_or l (chosen l) no_job).due d
    past = ap (λ (b : Bool). not b && earlier (get_or l (chosen l) no_job).due d) (sym (eqb-suc-suc (chosen l) (length l)))

    first : earlier j.due d ≡ due_before (suc (length l)) 0 j.due d
    first = ap (λ (b : Bool). not b && earlier j.due d) (sym (eqb-zero-suc (length l)))

    go :
        sooner d l ≡ due_before (length l) (chosen l) (get_or l (chosen l) no_job).due d
        → (a b : Bool)
        → sooner j.due l ≡ b
        → (c : Bool)
        → earlier j.due d ≡ c
        → ((a && c) || sooner d l) ≡ due_before (suc (length l)) (cond (a && not b) 0 (suc (chosen l))) (get_or (j ∷ l) (cond (a && not b) 0 (suc (chosen l))) no_job).due d
    go ih false b p c q = ih ∙ past
    go ih true false p true q = sym q ∙ first
    go ih true false p false q = not-sooner d j.due l (λ x. not_earlier x d j.due q) p ∙ sym q ∙ first
    go ih true true p false q = ih ∙ past
    go ih true true p true q = sym (more (sooner d l) refl) ∙ ih ∙ past
      where
        more : (b : Bool) → sooner d l ≡ b → sooner d l ≡ true
        more true e = e
        more false e = absurd (false≢true (sym (not-sooner j.due d l (λ x. not-earlier-still x d j.due q) e) ∙ p))

-- the same of the list's end, by places of the whole list; the deadline is that of the place, if there is a job there
due-shift :
    (jobs : List Job) (count m c due d : ℕ)
    → count ≤ length jobs
    → m ≤ count
    → c ≤ count - m
    → (m + c < count → due ≡ (get_or jobs (m + c) no_job).due)
    → due_before (count - m) c (get_or (drop m (take count jobs)) c no_job).due d ≡ due_before count (m + c) due d
due-shift jobs count m c due d w l h e = go (eqb c (count - m)) refl
  where
    go : (b : Bool) → eqb c (count - m) ≡ b → (not b && earlier (get_or (drop m (take count jobs)) c no_job).due d) ≡ due_before count (m + c) due d
    go true p = sym (ap (λ (b : Bool). not b && earlier due d) (eq-eqb (m + c) count (omega (arith, eqb-true c (count - m) p))))
    go false p =
        let inside : m + c < count = omega (arith, eqb-false c (count - m) p) in
        rw (get_or-drop m (take count jobs) c no_job, get_or-take count jobs (m + c) no_job inside, ← (e inside))
        (sym (ap (λ (b : Bool). not b && earlier due d) (ne_eqb (m + c) count (λ (q : m + c ≡ count). eqb-false c (count - m) p (omega arith)))))

module _ (jobs : List Job) (count : ℕ) (within : count ≤ length jobs) where
  left-length : (m : ℕ) → length (drop m (take count jobs)) ≡ count - m
  left-length m = length-drop m (take count jobs) ∙ ap (λ (n : ℕ). n - m) (length-take-le count jobs within)

  sooner-left :
      (m best due d : ℕ)
      → m ≤ count
      → best ≡ m + chosen (drop m (take count jobs))
      → (best < count → due ≡ (get_or jobs best no_job).due)
      → sooner d (drop m (take count jobs)) ≡ due_before count best due d
  sooner-left m best due d h e k =
      sooner-chosen d (drop m (take count jobs))
      ∙ ap (λ (n : ℕ). due_before n (chosen (drop m (take count jobs))) (get_or (drop m (take count jobs)) (chosen (drop m (take count jobs))) no_job).due d) (left-length m)
      ∙ due-shift jobs count m (chosen (drop m (take count jobs))) due d within h (omega (arith, chosen-le (drop m (take count jobs)), left-length m)) (rw e at k)
      ∙ ap (λ (n : ℕ). due_before count n due d) (sym e)

  pub choice-turn :
      (k best due : ℕ) (b : Bool)
      → k < count
      → best ≡ (k + 1) + chosen (drop (k + 1) (take count jobs))
      → (best < count → due ≡ (get_or jobs best no_job).due)
      → (pending (get_or jobs k no_job) && not (due_before count best due (get_or jobs k no_job).due)) ≡ b
      → cond b k best ≡ k + chosen (drop k (take count jobs))
  choice-turn k best due b h e s p =
      rw (drop-cons (take count jobs) k no_job (rw (length-take-le count jobs within) h), get_or-take count jobs k no_job h, chosen-cons (get_or jobs k no_job) (drop (suc k) (take count jobs)), ← (add-one k))
      (rw (sooner-left (k + 1) best due (get_or jobs k no_job).due (omega arith) e s, p) (go b))
    where
      go : (b : Bool) → cond b k best ≡ k + cond b 0 (suc (chosen (drop (k + 1) (take count jobs))))
      go true = omega arith
      go false = omega arith

  pub choice-start : count ≡ count + chosen (drop count (take count jobs))
  choice-start = omega (arith, chosen-le (drop count (take count jobs)), left-length count)

-- the run

pub run-late : (ticks now idle : ℕ) (js : List Job) → late now js ≡ true → run_from ticks now idle js ≡ record { idle = idle; missed = Some now }
unfolding run_from
run-late zero now idle js h = rw h
run-late (suc ticks) now idle js h = rw h

pub run_end : (ticks now idle : ℕ) (js : List Job) → ticks ≡ 0 → late now js ≡ false → run_from ticks now idle js ≡ record { idle = idle; missed = None }
unfolding run_from
run_end zero now idle js z h = rw h
run_end (suc ticks) now idle js z h = absurd (omega arith)

pub run_on :
    (left now idle : ℕ) (js : List Job)
    → late now js ≡ false
    → run_from (suc left) now idle js ≡ run_from left (now + 1) (idle + idle_tick (arrived now js)) (worked (arrived now js))
unfolding run_from
run_on left now idle js h = rw h

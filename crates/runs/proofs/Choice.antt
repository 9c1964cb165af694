-- The tie rule, in words of its own: the chosen job is pending, no pending job is due earlier, and none before it in the list is due as early.
use Prim.Native.Nat.{ℕ, zero, suc, ◌≤◌, ◌<◌}
use mathlib.Core.Path.{◌≡◌, refl, sym, ap}
use mathlib.Core.List.{List, [], ◌∷◌}
use mathlib.Core.Bool.{Bool, true, false, cond, not, ◌&&◌, ◌||◌, false≢true}
use mathlib.Core.Logic.{◌⊎◌, inl, inr}
use native.Mathlib.Nat.{le_refl, le_of_suc-le-suc, not-suc-le-zero}
use native.Mathlib.Omega.{arith}
use borrow.Author.Tests.{ltb-true, ltb-false}
use lib.ListN.{length, get_or}
use lib.Dec.{ltb}
use Rattle.runs.specs.declared.Job.{Job}
use Rattle.runs.specs.Run.{no_job, earlier, sooner, chosen}
use Rattle.runs.proofs.Steps.{no-earlier}

-- what stands at a place; past the last job one with nothing left
abbrev pub job_at : List Job → ℕ → Job
job_at l k = get_or l k no_job

pub record Earliest (l : List Job) (i : ℕ) : Type 0 where
  pub inside : i < length l
  pub works : 1 ≤ (job_at l i).left
  pub earliest : (k : ℕ) → 1 ≤ (job_at l k).left → (job_at l i).due ≤ (job_at l k).due
  pub first : (k : ℕ) → k < i → 1 ≤ (job_at l k).left → (job_at l i).due < (job_at l k).due

-- nobody is pending, and the choice is no place
pub record Nobody (l : List Job) (i : ℕ) : Type 0 where
  pub past : i ≡ length l
  pub rests : (k : ℕ) → (job_at l k).left ≡ 0

-- intermediate

not-sooner : (e : ℕ) (l : List Job) → sooner e l ≡ false → (k : ℕ) → 1 ≤ (job_at l k).left → e ≤ (job_at l k).due
unfolding sooner
not-sooner e [] h k p = absurd (omega arith)
not-sooner e (j ∷ l) h k p = go (ltb 0 j.left) refl (earlier j.due e) refl h (not-sooner e l) k p
  where
    go :
        (a : Bool)
        → ltb 0 j.left ≡ a
        → (b : Bool)
        → earlier j.due e ≡ b
        → ((a && b) || sooner e l) ≡ false
        → (sooner e l ≡ false → (m : ℕ) → 1 ≤ (job_at l m).left → e ≤ (job_at l m).due)
        → (m : ℕ)
        → 1 ≤ (job_at (j ∷ l) m).left
        → e ≤ (job_at (j ∷ l) m).due
    go true q true r s ih m t = absurd (false≢true (sym s))
    go true q false r s ih zero t = no-earlier j.due e r
    go true q false r s ih (suc m) t = ih s m t
    go false q b r s ih zero t = absurd (omega (arith, ltb-false 0 j.left q))
    go false q b r s ih (suc m) t = ih s m t

is-sooner : (e : ℕ) (l : List Job) → sooner e l ≡ true → (k : ℕ) × (1 ≤ (job_at l k).left) × ((job_at l k).due < e)
unfolding sooner
is-sooner e [] h = absurd (false≢true h)
is-sooner e (j ∷ l) h = go (ltb 0 j.left) refl (earlier j.due e) refl h (is-sooner e l)
  where
    next :
        ((k : ℕ) × (1 ≤ (job_at l k).left) × ((job_at l k).due < e))
        → (k : ℕ) × (1 ≤ (job_at (j ∷ l) k).left) × ((job_at (j ∷ l) k).due < e)
    next f = (suc f.0, f.1, f.2)

    go :
        (a : Bool)
        → ltb 0 j.left ≡ a
        → (b : Bool)
        → earlier j.due e ≡ b
        → ((a && b) || sooner e l) ≡ true
        → (sooner e l ≡ true → (k : ℕ) × (1 ≤ (job_at l k).left) × ((job_at l k).due < e))
        → (k : ℕ) × (1 ≤ (job_at (j ∷ l) k).left) × ((job_at (j ∷ l) k).due < e)
    go true q true r s ih = (zero, ltb-true 0 j.left q, ltb-true j.due e r)
    go true q false r s ih = next (ih s)
    go false q b r s ih = next (ih s)

-- the head is chosen
head-earliest : (j : Job) (l : List Job) → 1 ≤ j.left → sooner j.due l ≡ false → Earliest (j ∷ l) 0
head-earliest j l p s = record { inside = omega arith; works = p; earliest = least; first = λ k h. absurd (not-suc-le-zero h) }
  where
    least : (k : ℕ) → 1 ≤ (job_at (j ∷ l) k).left → j.due ≤ (job_at (j ∷ l) k).due
    least zero h = le_refl j.due
    least (suc k) h = not-sooner j.due l s k h

-- a later job is chosen: the head, if it is pending, is due after it
later-earliest : (j : Job) (l : List Job) (i : ℕ) → Earliest l i → (1 ≤ j.left → (job_at l i).due < j.due) → Earliest (j ∷ l) (suc i)
later-earliest j l i e h = record { inside = omega (arith, e.inside); works = e.works; earliest = least; first = strict }
  where
    least : (k : ℕ) → 1 ≤ (job_at (j ∷ l) k).left → (job_at l i).due ≤ (job_at (j ∷ l) k).due
    least zero p = omega (arith, h p)
    least (suc k) p = e.earliest k p

    strict : (k : ℕ) → k < suc i → 1 ≤ (job_at (j ∷ l) k).left → (job_at l i).due < (job_at (j ∷ l) k).due
    strict zero q p = h p
    strict (suc k) q p = e.first k (le_of_suc-le-suc q) p

nobody-more : (j : Job) (l : List Job) (i : ℕ) → Nobody l i → j.left ≡ 0 → Nobody (j ∷ l) (suc i)
nobody-more j l i n z = record { past = ap suc n.past; rests = all }
  where
    all : (k : ℕ) → (job_at (j ∷ l) k).left ≡ 0
    all zero = z
    all (suc k) = n.rests k

-- main: "the job with the earliest deadline runs, ties to the lower type, then the lower instance"
pub choice-is : (l : List Job) → Earliest l (chosen l) ⊎ Nobody l (chosen l)
unfolding chosen
choice-is [] = inr (record { past = refl; rests = λ k. refl })
choice-is (j ∷ l) = go (ltb 0 j.left) refl (sooner j.due l) refl (choice-is l)
  where
    go :
        (a : Bool)
        → ltb 0 j.left ≡ a
        → (b : Bool)
        → sooner j.due l ≡ b
        → Earliest l (chosen l) ⊎ Nobody l (chosen l)
        → Earliest (j ∷ l) (cond (a && not b) 0 (suc (chosen l))) ⊎ Nobody (j ∷ l) (cond (a && not b) 0 (suc (chosen l)))
    go true p false q w = inl (head-earliest j l (ltb-true 0 j.left p) q)
    go true p true q (inl e) =
        let f = is-sooner j.due l q in
        inl (later-earliest j l (chosen l) e (λ _. omega (arith, f.2, e.earliest f.0 f.1)))
    go true p true q (inr n) = let f = is-sooner j.due l q in absurd (omega (arith, f.1, n.rests f.0))
    go false p b q (inl e) = inl (later-earliest j l (chosen l) e (λ (h : 1 ≤ j.left). absurd (omega (arith, ltb-false 0 j.left p))))
    go false p b q (inr n) = inr (nobody-more j l (chosen l) n (omega (arith, ltb-false 0 j.left p)))

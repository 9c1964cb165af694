-- Laws of the search upward `lowest`.
use Prim.Native.Nat.{ℕ, zero, suc, ◌+◌, ◌≤◌, ◌<◌}
use mathlib.Core.Path.{◌≡◌, refl, sym, subst, ◌∙◌}
use mathlib.Core.Bool.{Bool, true, false}
use mathlib.Core.Logic.{◌⊎◌, inl, inr, ⊎_elim}
use native.Mathlib.Nat.{le_refl, eq-or-lt_of_le, zero-add, add-zero, suc-add, add-suc}
use native.Mathlib.Omega.{arith}
use Rattle.partition.specs.Cell.{lowest}
use Rattle.partition.proofs.Lists.{true-or-false, not-both}

module _ (p : ℕ → Bool) (none : ℕ) where
  pub lowest-here : (f a : ℕ) → p a ≡ true → lowest p none (suc f) a ≡ a
  unfolding lowest
  lowest-here f a h = rw h

  pub lowest-later : (f a : ℕ) → p a ≡ false → lowest p none (suc f) a ≡ lowest p none f (suc a)
  unfolding lowest
  lowest-later f a h = rw h

  -- what was found passes and is one of those searched
  pub record Found (f a r : ℕ) : Type 0 where
    pub passes : p r ≡ true
    pub from : a ≤ r
    pub to : r < a + f

  pub lowest-found : (f a : ℕ) → (lowest p none f a ≡ none) ⊎ Found f a (lowest p none f a)
  lowest-found zero a = inl (unfold lowest in refl)
  lowest-found (suc f) a = ⊎_elim here (λ h. ⊎_elim (λ e. inl (lowest-later f a h ∙ e)) (later h) (lowest-found f (suc a))) (true-or-false (p a))
    where
      here : p a ≡ true → (lowest p none (suc f) a ≡ none) ⊎ Found (suc f) a (lowest p none (suc f) a)
      here h = inr (rw (lowest-here f a h) (record { passes = h; from = le_refl a; to = omega arith }))

      later : p a ≡ false → Found f (suc a) (lowest p none f (suc a)) → (lowest p none (suc f) a ≡ none) ⊎ Found (suc f) a (lowest p none (suc f) a)
      later h r = inr (rw (lowest-later f a h) (record { passes = r.passes; from = omega arith; to = omega arith }))

  -- nothing below it passes
  pub lowest-le : (f a b : ℕ) → p b ≡ true → a ≤ b → b < a + f → lowest p none f a ≤ b
  lowest-le zero a b h l u = absurd (omega arith)
  lowest-le (suc f) a b h l u = ⊎_elim (λ t. rw (lowest-here f a t) l) (λ t. rw (lowest-later f a t) (lowest-le f (suc a) b h (past t) (omega arith))) (true-or-false (p a))
    where
      past : p a ≡ false → suc a ≤ b
      past t = ⊎_elim (λ e. absurd (not-both (subst (λ (x : ℕ). p x ≡ true) (sym e) h) t)) (λ s. s) (eq-or-lt_of_le l)

  -- a stretch in which nothing passes may be left out
  pub lowest-past : (d f a : ℕ) → ((b : ℕ) → a ≤ b → b < a + d → p b ≡ false) → lowest p none (d + f) a ≡ lowest p none f (a + d)
  lowest-past zero f a h = rw (zero-add f, add-zero a)
  lowest-past (suc d) f a h =
      rw (suc-add d f, add-suc a d, ← (suc-add a d))
      (lowest-later (d + f) a (h a (le_refl a) (omega arith)) ∙ lowest-past d f (suc a) (λ b l u. h b (omega arith) (omega arith)))

  pub lowest-none : (f a : ℕ) → ((b : ℕ) → a ≤ b → b < a + f → p b ≡ false) → lowest p none f a ≡ none
  lowest-none zero a h = unfold lowest in refl
  lowest-none (suc f) a h = lowest-later f a (h a (le_refl a) (omega arith)) ∙ lowest-none f (suc a) (λ b l u. h b (omega arith) (omega arith))

-- tests that agree on what is searched find the same
pub lowest-same : (p q : ℕ → Bool) (none f a : ℕ) → ((b : ℕ) → a ≤ b → b < a + f → p b ≡ q b) → lowest p none f a ≡ lowest q none f a
unfolding lowest
lowest-same p q none zero a h = refl
lowest-same p q none (suc f) a h =
    rw (h a (le_refl a) (omega arith), lowest-same p q none f (suc a) (λ b l u. h b (omega arith) (omega arith)))

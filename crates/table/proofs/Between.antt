-- Laws of `lowest` from a number a to below a number e, as a loop goes over it.
use Prim.Native.Nat.{ℕ, zero, suc, ◌+◌, ◌-◌, ◌≤◌, ◌<◌}
use mathlib.Core.Path.{◌≡◌, refl, sym, ◌∙◌}
use mathlib.Core.Bool.{Bool, true, false}
use mathlib.Core.Logic.{⊎_elim}
use native.Mathlib.Numerals.{add-one}
use native.Mathlib.Nat.{add-zero, zero-add, suc-add, add-suc}
use native.Mathlib.Omega.{arith}
use Rattle.partition.specs.Cell.{lowest}
use Rattle.partition.proofs.Lists.{true-or-false}
use Rattle.partition.proofs.Lowest.{lowest-here, lowest-later, lowest-past, lowest-none}

module _ (p : ℕ → Bool) (none : ℕ) where
  -- intermediate: the first f numbers, then g more

  first_found : (f g a : ℕ) → (lowest p none f a ≡ none → ⊥) → lowest p none (f + g) a ≡ lowest p none f a
  first_found zero g a h = absurd (h (unfold lowest in refl))
  first_found (suc f) g a h =
      ⊎_elim
      (λ t. rw (suc-add f g, lowest-here p none (f + g) a t, lowest-here p none f a t))
      (λ t. rw (suc-add f g, lowest-later p none (f + g) a t, lowest-later p none f a t)
      (first_found f g (suc a) (rw (lowest-later p none f a t) at h)))
      (true-or-false (p a))

  first-none : (f g a : ℕ) → a + f ≤ none → lowest p none f a ≡ none → lowest p none (f + g) a ≡ lowest p none g (a + f)
  first-none zero g a h e = rw (zero-add g, add-zero a)
  first-none (suc f) g a h e =
      ⊎_elim
      (λ t. let same : a ≡ none = sym (lowest-here p none f a t) ∙ e in absurd (omega arith))
      (λ t. rw (suc-add f g, add-suc a f, ← (suc-add a f), lowest-later p none (f + g) a t)
      (first-none f g (suc a) (omega arith) (sym (lowest-later p none f a t) ∙ e)))
      (true-or-false (p a))

  -- main: one number more, and the end

  pub between-here : (a e : ℕ) → a < e → p a ≡ true → lowest p none (e - a) a ≡ a
  between-here a e h t = let more : e - a ≡ suc (e - (a + 1)) = omega arith in rw more (lowest-here p none (e - (a + 1)) a t)

  pub between-later : (a e : ℕ) → a < e → p a ≡ false → lowest p none (e - (a + 1)) (a + 1) ≡ lowest p none (e - a) a
  between-later a e h t =
      let more : e - a ≡ suc (e - (a + 1)) = omega arith in
      rw (more, lowest-later p none (e - (a + 1)) a t, add-one a)

  pub between-end : (a e : ℕ) → e ≤ a → lowest p none (e - a) a ≡ none
  between-end a e h = let done : e - a ≡ 0 = omega arith in rw done (unfold lowest in refl)

  -- main: up to b, then from b on

  pub between-found : (a b e : ℕ) → a ≤ b → b ≤ e → (lowest p none (b - a) a ≡ none → ⊥) → lowest p none (e - a) a ≡ lowest p none (b - a) a
  between-found a b e h k n = let parts : e - a ≡ (b - a) + (e - b) = omega arith in rw parts (first_found (b - a) (e - b) a n)

  pub between_none : (a b e : ℕ) → a ≤ b → b ≤ e → b ≤ none → lowest p none (b - a) a ≡ none → lowest p none (e - a) a ≡ lowest p none (e - b) b
  between_none a b e h k l n =
      let parts : e - a ≡ (b - a) + (e - b) = omega arith in
      let up : a + (b - a) ≡ b = omega arith in
      rw parts (first-none (b - a) (e - b) a (omega arith) n ∙ rw up)

  pub between-skip : (a b e : ℕ) → a ≤ b → b ≤ e → ((q : ℕ) → a ≤ q → q < b → p q ≡ false) → lowest p none (e - a) a ≡ lowest p none (e - b) b
  between-skip a b e h k skip =
      let parts : e - a ≡ (b - a) + (e - b) = omega arith in
      let up : a + (b - a) ≡ b = omega arith in
      rw parts (lowest-past p none (b - a) (e - b) a (λ q l u. skip q l (omega arith)) ∙ rw up)

  -- main: nothing past b passes

  first-only : (f g a : ℕ) → ((q : ℕ) → a + f ≤ q → q < a + f + g → p q ≡ false) → lowest p none (f + g) a ≡ lowest p none f a
  first-only zero g a h = rw (zero-add g) (lowest-none p none g a (λ q l u. h q (omega arith) (omega arith)) ∙ unfold lowest in refl)
  first-only (suc f) g a h =
      ⊎_elim
      (λ t. rw (suc-add f g, lowest-here p none (f + g) a t, lowest-here p none f a t))
      (λ t. rw (suc-add f g, lowest-later p none (f + g) a t, lowest-later p none f a t)
      (first-only f g (suc a) (λ q l u. h q (omega arith) (omega arith))))
      (true-or-false (p a))

  pub lowest-cut : (b e : ℕ) → b ≤ e → ((q : ℕ) → b ≤ q → q < e → p q ≡ false) → lowest p none e 0 ≡ lowest p none b 0
  lowest-cut b e h skip =
      let parts : e ≡ b + (e - b) = omega arith in
      rw parts (first-only b (e - b) 0 (λ q l u. skip q (omega arith) (omega arith)))

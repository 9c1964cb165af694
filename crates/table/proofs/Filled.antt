-- Laws of a filled part: its entries, that what it held before changes none of them, and that the rest is unchanged.
use Prim.Native.Nat.{ℕ, zero, suc, ◌+◌, ◌-◌, ◌≤◌, ◌<◌}
use mathlib.Core.Path.{◌≡◌, refl, sym, ap, subst, ◌∙◌}
use mathlib.Core.Logic.{⊎_elim}
use mathlib.Core.List.{List, [], ◌∷◌}
use native.Mathlib.Nat.{le_of_suc-le-suc, eq-or-lt_of_le}
use native.Mathlib.Omega.{arith}
use lib.ListN.{length, get_or, drop, length-append, length-drop, get_or-append}
use lib.Seq.{get_or_at, drop_at, get_or-drop}
use Rattle.system.specs.declared.System.{System}
use Rattle.system.specs.Limits.{columns}
use Rattle.table.specs.Parts.{up_to, part_of}

-- intermediate: a list by its entries

pub length-up_to : (f : ℕ → ℕ) (n : ℕ) → length (up_to f n) ≡ n
unfolding up_to
length-up_to f zero = refl
length-up_to f (suc n) = omega (arith, length-append (up_to f n) (f n ∷ []), length-up_to f n)

pub get_or-up_to : (f : ℕ → ℕ) (n k : ℕ) → k < n → get_or (up_to f n) k 0 ≡ f k
unfolding up_to
get_or-up_to f zero k h = absurd (omega arith)
get_or-up_to f (suc n) k h =
    ⊎_elim
    (λ (e : k ≡ n). rw e (get_or_at (up_to f n) (f n) [] 0 n (length-up_to f n)))
    (λ (l : k < n). get_or-append (up_to f n) (f n ∷ []) 0 k (rw (length-up_to f n) l) ∙ get_or-up_to f n k l)
    (eq-or-lt_of_le (le_of_suc-le-suc h))

-- main: a part whose entries below the columns are given

module _ (y : System) (entry : ℕ → ℕ) (part : List ℕ) where
  pub length-part_of : columns y ≤ length part → length (part_of y entry part) ≡ length part
  length-part_of h = omega (arith, length-append (up_to entry (columns y)) (drop (columns y) part), length-up_to entry (columns y), length-drop (columns y) part)

  -- they do not depend on what the part held before
  pub get_or-part_of : (c : ℕ) → c < columns y → get_or (part_of y entry part) c 0 ≡ entry c
  get_or-part_of c h =
      let inside : c < length (up_to entry (columns y)) = omega (arith, length-up_to entry (columns y)) in
      get_or-append (up_to entry (columns y)) (drop (columns y) part) 0 c inside ∙ get_or-up_to entry (columns y) c h

  -- "entries past those are unchanged"
  pub past-part_of : (k : ℕ) → columns y ≤ k → get_or (part_of y entry part) k 0 ≡ get_or part k 0
  past-part_of k h =
      let n = columns y in
      let up : n + (k - n) ≡ k = omega arith in
      subst (λ (j : ℕ). get_or (part_of y entry part) j 0 ≡ get_or part j 0) up
      (sym (get_or-drop n (part_of y entry part) (k - n) 0)
      ∙ ap (λ (l : List ℕ). get_or l (k - n) 0) (drop_at (up_to entry n) (drop n part) n (length-up_to entry n))
      ∙ get_or-drop n part (k - n) 0)

-- The front of a list written over by the front of another, as `put_records` leaves the lent list.
use Prim.Native.Nat.{ℕ, ◌-◌, ◌<◌, ◌≤◌}
use native.Mathlib.Omega.{arith}
use mathlib.Core.Path.{◌≡◌, sym, ◌∙◌, ap}
use mathlib.Core.List.{List, ◌++◌}
use lib.ListN.{length, take, drop, get_or, get_or-append}
use lib.Seq.{length-take-le, length_front, get_or-take, get_or-drop, get_or-append-add}

module _ {A : Type 0} where
  -- the first i elements of new, then what old holds past them
  abbrev pub front : ℕ → List A → List A → List A
  front i new old = take i new ++ drop i old

  pub length-front-of : (i : ℕ) (new old : List A) → i ≤ length new → i ≤ length old → length (front i new old) ≡ length old
  length-front-of i new old p q = length_front old (take i new) i (length-take-le i new p ∙ sym (length-take-le i old q))

  -- an element before i is new's, one from i on is old's
  pub get_or-front-new : (i j : ℕ) (new old : List A) (d : A) → i ≤ length new → j < i → get_or (front i new old) j d ≡ get_or new j d
  get_or-front-new i j new old d p q = get_or-append (take i new) (drop i old) d j (rw (length-take-le i new p) q) ∙ get_or-take i new j d q

  pub get_or-front-old : (i j : ℕ) (new old : List A) (d : A) → i ≤ length new → i ≤ j → get_or (front i new old) j d ≡ get_or old j d
  get_or-front-old i j new old d p q =
      ap (λ (k : ℕ). get_or (front i new old) k d) (omega (arith, length-take-le i new p))
      ∙ get_or-append-add (take i new) (drop i old) (j - i) d
      ∙ get_or-drop i old (j - i) d
      ∙ ap (λ (k : ℕ). get_or old k d) (omega arith)

-- Laws of rows put on listed engines: none at first, then one row more.
use Prim.Native.Nat.{ℕ, ◌+◌, ◌-◌, ◌≤◌, ◌<◌}
use mathlib.Core.Path.{◌≡◌, refl, sym}
use mathlib.Core.Bool.{true}
use mathlib.Core.List.{List, [], ◌∷◌}
use native.Mathlib.Numerals.{add-one}
use native.Mathlib.Omega.{arith}
use lib.ListN.{length, get_or, take, set, replicate}
use lib.Seq.{get_or-take, length-take-le}
use Rattle.system.specs.Limits.{engine_limit}
use Rattle.partition.specs.Assignment.{among, every, numbers_from, engines_to}
use Rattle.partition.specs.Shares.{distinct, row_on, on_engines}
use Rattle.partition.proofs.Lists.{every-get_or, among-engines_to, get_or-inside}
use Rattle.partition.proofs.Engines.{map_same, on_engines-next}

row_on-nothing : {A : Type 0} (none : A) (es : List ℕ) (e : ℕ) → row_on none es [] e ≡ none
unfolding row_on
row_on-nothing none [] e = refl
row_on-nothing none (d ∷ es) e = refl

pub no_rows : {A : Type 0} (none : A) (es : List ℕ) → on_engines none engine_limit es [] ≡ replicate engine_limit none
unfolding numbers_from
no_rows {A = A} none es = map_same (row_on none es []) (λ (e : ℕ). none) (row_on-nothing none es) (engines_to engine_limit)

-- the numbers as an array has them, of which the first n are listed
module _ (numbers : List ℕ) (n i : ℕ) (apart : distinct (take n numbers) ≡ true) (known : every (among (engines_to engine_limit)) (take n numbers) ≡ true) (few : n ≤ length numbers) (small : i < n) where
  inside : i < length (take n numbers)
  inside = omega (arith, length-take-le n numbers few)

  same : get_or (take n numbers) i 0 ≡ get_or numbers i 0
  same = get_or-take n numbers i 0 small

  pub listed-bounds : (1 ≤ get_or numbers i 0) × (get_or numbers i 0 ≤ engine_limit)
  listed-bounds =
      rw same at ((among-engines_to engine_limit (get_or (take n numbers) i 0)).0 (every-get_or (among (engines_to engine_limit)) (take n numbers) 0 i known inside))

  -- row i goes to its engine; `d` is what the code reads past the end
  pub one-row-more : {A : Type 0} (none d : A) (rows loads : List A) → i < length rows → loads ≡ on_engines none engine_limit (take n numbers) (take i rows)
      → set loads (get_or numbers i 0 - 1) (get_or rows i d) ≡ on_engines none engine_limit (take n numbers) (take (i + 1) rows)
  one-row-more none d rows loads h is =
      rw (add-one i, is, ← same, get_or-inside rows i d none h)
      (sym (on_engines-next none engine_limit (take n numbers) rows i apart inside h (rw same listed-bounds.0) (rw same listed-bounds.1)))

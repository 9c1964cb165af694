-- Laws of one count changed: what it does to a sum of loads, and to the order against the ceilings.
use Prim.Native.Nat.{ℕ, zero, suc, ◌+◌, ◌-◌, ◌≤◌, ◌<◌, zero-le}
use mathlib.Core.Path.{◌≡◌, refl, sym, ap, ◌∙◌}
use mathlib.Core.List.{List, [], ◌∷◌}
use mathlib.Core.Bool.{Bool, true, false, cond, false≢true}
use native.Mathlib.Nat.{suc_inj}
use native.Mathlib.Omega.{arith}
use borrow.Author.Tests.{leb-true, le-leb, eqb-true, eqb-false}
use lib.ListN.{length, get_or, set, length-set}
use lib.Seq.{get_or-set_same, get_or-set_other}
use lib.Dec.{leb, eqb}
use Rattle.loads.specs.Load.{within, plus, one_more, one_less}
use Rattle.loads.proofs.Laws.{held_in}
use Rattle.loads.proofs.Order.{and_parts, and_both, cons-path, plus_comm}

-- main: a count of a sum

pub get_or-plus : (x z : List ℕ) (j : ℕ) → length x ≡ length z → get_or (plus x z) j 0 ≡ get_or x j 0 + get_or z j 0
unfolding plus
get_or-plus [] [] j l = refl
get_or-plus [] (b ∷ z) j l = absurd (omega arith)
get_or-plus (a ∷ x) [] j l = absurd (omega arith)
get_or-plus (a ∷ x) (b ∷ z) zero l = refl
get_or-plus (a ∷ x) (b ∷ z) (suc j) l = get_or-plus x z j (suc_inj l)

pub plus-set : (x z : List ℕ) (j v : ℕ) → length x ≡ length z → plus (set x j v) z ≡ set (plus x z) j (v + get_or z j 0)
unfolding plus
plus-set [] [] j v l = refl
plus-set [] (b ∷ z) j v l = absurd (omega arith)
plus-set (a ∷ x) [] j v l = absurd (omega arith)
plus-set (a ∷ x) (b ∷ z) zero v l = refl
plus-set (a ∷ x) (b ∷ z) (suc j) v l = cons-path refl (plus-set x z j v (suc_inj l))

-- main: one instance more or less in a sum

pub length-one_more : (j : ℕ) (x : List ℕ) → length (one_more j x) ≡ length x
length-one_more j x = length-set x j (get_or x j 0 + 1)

pub length-one_less : (j : ℕ) (x : List ℕ) → length (one_less j x) ≡ length x
length-one_less j x = length-set x j (get_or x j 0 - 1)

module _ (j : ℕ) (x z : List ℕ) (l : length x ≡ length z) where
  pub one_more-plus : plus (one_more j x) z ≡ one_more j (plus x z)
  one_more-plus = plus-set x z j (get_or x j 0 + 1) l ∙ ap (set (plus x z) j) (omega (arith, get_or-plus x z j l))

  pub one_less-plus : 1 ≤ get_or x j 0 → plus (one_less j x) z ≡ one_less j (plus x z)
  one_less-plus h = plus-set x z j (get_or x j 0 - 1) l ∙ ap (set (plus x z) j) (omega (arith, get_or-plus x z j l))

module _ (j : ℕ) (x z : List ℕ) (l : length x ≡ length z) where
  pub plus-one_more : plus x (one_more j z) ≡ one_more j (plus x z)
  plus-one_more = plus_comm x (one_more j z) ∙ one_more-plus j z x (sym l) ∙ ap (one_more j) (plus_comm z x)

  pub plus-one_less : 1 ≤ get_or z j 0 → plus x (one_less j z) ≡ one_less j (plus x z)
  plus-one_less h = plus_comm x (one_less j z) ∙ one_less-plus j z x (sym l) h ∙ ap (one_less j) (plus_comm z x)

-- main: against the ceilings

pub within-get_or : (x ns : List ℕ) (j : ℕ) → within x ns ≡ true → get_or x j 0 ≤ get_or ns j 0
unfolding within
within-get_or [] ns j h = zero-le
within-get_or (a ∷ x) [] j h = absurd (false≢true h)
within-get_or (a ∷ x) (n ∷ ns) zero h = leb-true a n (and_parts (leb a n) (within x ns) h).0
within-get_or (a ∷ x) (n ∷ ns) (suc j) h = within-get_or x ns j (and_parts (leb a n) (within x ns) h).1

pub within_of : (x ns : List ℕ) → length x ≡ length ns → ((j : ℕ) → get_or x j 0 ≤ get_or ns j 0) → within x ns ≡ true
unfolding within
within_of [] ns l h = refl
within_of (a ∷ x) [] l h = absurd (omega arith)
within_of (a ∷ x) (n ∷ ns) l h = and_both (leb a n) (within x ns) (le-leb a n (h 0)) (within_of x ns (suc_inj l) (λ j. h (suc j)))

pub within-set : (x ns : List ℕ) (j v : ℕ) → within x ns ≡ true → v ≤ get_or ns j 0 → within (set x j v) ns ≡ true
unfolding within
within-set [] ns j v h k = refl
within-set (a ∷ x) [] j v h k = absurd (false≢true h)
within-set (a ∷ x) (n ∷ ns) zero v h k = and_both (leb v n) (within x ns) (le-leb v n k) (and_parts (leb a n) (within x ns) h).1
within-set (a ∷ x) (n ∷ ns) (suc j) v h k =
    let b = and_parts (leb a n) (within x ns) h in
    and_both (leb a n) (within (set x j v) ns) b.0 (within-set x ns j v b.1 k)

-- a newcomer of a type below its ceiling
pub one_more-within : (j : ℕ) (x ns : List ℕ) → within x ns ≡ true → get_or x j 0 < get_or ns j 0 → within (one_more j x) ns ≡ true
one_more-within j x ns h k = within-set x ns j (get_or x j 0 + 1) h (omega arith)

-- main: a count after one instance more or less

pub get_or-one_more : (i j : ℕ) (x : List ℕ) → i < length x → get_or (one_more i x) j 0 ≡ get_or x j 0 + cond (eqb i j) 1 0
get_or-one_more i j x h = go (eqb i j) refl
  where
    go : (p : Bool) → eqb i j ≡ p → get_or (one_more i x) j 0 ≡ get_or x j 0 + cond p 1 0
    go true e =
        let same = eqb-true i j e in
        ap (λ (k : ℕ). get_or (one_more i x) k 0) (sym same) ∙ get_or-set_same x i (get_or x i 0 + 1) 0 h ∙ ap (λ (k : ℕ). get_or x k 0 + 1) same
    go false e = get_or-set_other x i j (get_or x i 0 + 1) 0 (λ q. eqb-false i j e (sym q)) ∙ omega arith

pub get_or-one_less : (i j : ℕ) (x : List ℕ) → 1 ≤ get_or x i 0 → get_or (one_less i x) j 0 + cond (eqb i j) 1 0 ≡ get_or x j 0
get_or-one_less i j x h = go (eqb i j) refl
  where
    go : (p : Bool) → eqb i j ≡ p → get_or (one_less i x) j 0 + cond p 1 0 ≡ get_or x j 0
    go true e =
        let same = eqb-true i j e in
        ap (λ (k : ℕ). get_or (one_less i x) k 0 + 1) (sym same)
        ∙ omega (arith, get_or-set_same x i (get_or x i 0 - 1) 0 (held_in x i h), ap (λ (k : ℕ). get_or x k 0) same)
    go false e = omega (arith, get_or-set_other x i j (get_or x i 0 - 1) 0 (λ q. eqb-false i j e (sym q)))

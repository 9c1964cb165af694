-- Loads by engine put together and cut down: the loads of two columns behind each other are loads of their sum, and loads of a column have parts that are loads of any column under it.
-- So the lowest yes row of a sum is at most the sum of the lowest yes rows, and never below either of them.
use Prim.Native.Nat.{ℕ, zero, suc, ◌+◌, ◌-◌, ◌≤◌, ◌<◌}
use mathlib.Core.Path.{◌≡◌, refl, sym, ap, subst, ◌∙◌}
use mathlib.Core.List.{List, [], ◌∷◌, ◌++◌}
use mathlib.Core.Bool.{Bool, true, false}
use native.Mathlib.Nat.{sub-le, suc_inj}
use native.Mathlib.Omega.{arith}
use borrow.Author.Tests.{leb-true, leb-false}
use lib.ListN.{length, replicate, length-append}
use lib.Dec.{eqb, leb}
use Rattle.system.specs.Limits.{columns_of}
use Rattle.loads.specs.Load.{within, plus, less}
use Rattle.loads.specs.Column.{load_of}
use Rattle.loads.proofs.Order.{Below, none, more, below→within, below_length, length-plus, plus-less-below, plus_comm, plus_assoc, zero-plus, cons-path}
use Rattle.partition.specs.Cell.{no_column, says_yes, cell, lowest_row, recovery}
use Rattle.partition.specs.Shares.{sum_of, Shares}
use Rattle.partition.proofs.Lists.{every-++}
use Rattle.partition.proofs.Shares.{Sized}
use Rattle.partition.proofs.Cells.{length-sum_of, no-shares, one-share, Split, split-shares, shares-cell}
use Rattle.partition.proofs.Rows.{lowest_row-le, lowest_row-most}
use Rattle.partition.proofs.Recovery.{length-recovery, recovery-shares}

-- intermediate: shares behind each other

-- what they make up is made up by both
pub sum_of-append : (k : ℕ) (xs zs : List (List ℕ)) → Sized k zs → sum_of k (xs ++ zs) ≡ plus (sum_of k xs) (sum_of k zs)
unfolding sum_of
sum_of-append k [] zs h = sym (ap (λ (n : ℕ). plus (replicate n 0) (sum_of k zs)) (sym (length-sum_of k zs h)) ∙ zero-plus (sum_of k zs))
sum_of-append k (x ∷ xs) zs h = ap (plus x) (sum_of-append k xs zs h) ∙ sym (plus_assoc x (sum_of k xs) (sum_of k zs))

shares-append : (fits : List ℕ → Bool) (k : ℕ) (xs zs : List (List ℕ)) (ν μ : List ℕ) → Shares fits k xs ν → Shares fits k zs μ → Shares fits k (xs ++ zs) (plus ν μ)
shares-append fits k xs zs ν μ s t = record {
  sized = every-++ (λ (x : List ℕ). eqb (length x) k) xs zs s.sized t.sized;
  all_fit = every-++ fits xs zs s.all_fit t.all_fit;
  sums = sum_of-append k xs zs t.sized ∙ rw (s.sums, t.sums);
}

-- intermediate: shares cut down to a part. Of x the part a gets as many as it wants, `a less (a less x)`; it still wants `a less x` of the others

below-any : (a x : List ℕ) → length a ≡ length x → Below (less a x) a
unfolding less
below-any [] x l = none
below-any (a ∷ rest) [] l = absurd (omega arith)
below-any (a ∷ rest) (x ∷ xs) l = more (sub-le a x) (below-any rest xs (suc_inj l))

taken-below : (a x : List ℕ) → length a ≡ length x → Below (less a (less a x)) x
unfolding less
taken-below [] [] l = none
taken-below [] (x ∷ xs) l = absurd (omega arith)
taken-below (a ∷ rest) [] l = absurd (omega arith)
taken-below (a ∷ rest) (x ∷ xs) l = more {x = a - (a - x)} {y = x} (omega arith) (taken-below rest xs (suc_inj l))

wanted-below : (a x s : List ℕ) → length x ≡ length s → Below a (plus x s) → Below (less a x) s
unfolding less plus
wanted-below [] [] [] l b = none
wanted-below [] [] (s ∷ ss) l b = absurd (omega arith)
wanted-below [] (x ∷ xs) [] l b = absurd (omega arith)
wanted-below (a ∷ rest) (x ∷ xs) (s ∷ ss) l (more h r) = more {x = a - x} {y = s} (omega arith) (wanted-below rest xs ss (suc_inj l) r)
wanted-below [] (x ∷ xs) (s ∷ ss) l b = elim b [ ]
wanted-below (a ∷ rest) [] s l b = elim b [ ]
wanted-below (a ∷ rest) (x ∷ xs) [] l b = elim b [ ]

below-zero : {a z : List ℕ} (k : ℕ) → z ≡ replicate k 0 → Below a z → replicate k 0 ≡ a
below-zero {a} {z} k e b = go k a (subst (Below a) e b)
  where
    go : (k : ℕ) (a : List ℕ) → Below a (replicate k 0) → replicate k 0 ≡ a
    go zero [] none = refl
    go (suc k) (a ∷ rest) (more h r) = cons-path (omega arith) (go k rest r)
    go zero (a ∷ rest) x'' = elim x'' [ ]
    go (suc k) [] x3 = elim x3 [ ]

-- as many loads, of which each fits and all make up the part
pub record Cut (fits : List ℕ → Bool) (k n : ℕ) (a : List ℕ) : Type 0 where
  pub loads : List (List ℕ)
  pub number : length loads ≡ n
  pub shares : Shares fits k loads a

module _ (fits : List ℕ → Bool) (k : ℕ) (parts : (x z : List ℕ) → within x z ≡ true → fits z ≡ true → fits x ≡ true) where
  cut-one : (x : List ℕ) (loads : List (List ℕ)) (ν a : List ℕ) → Split fits k x loads ν → Below a ν
      → (Below (less a x) (sum_of k loads) → Cut fits k (length loads) (less a x)) → Cut fits k (suc (length loads)) a
  cut-one x loads ν a p b cut = record {
    loads = taken ∷ rest.loads;
    number = ap suc rest.number;
    shares =
        subst (Shares fits k (taken ∷ rest.loads)) whole
        (one-share fits k taken rest.loads (less a x) sized (parts taken x (below→within (taken-below a x level)) p.first_fits) rest.shares);
  }
    where
      inside : Below a (plus x (sum_of k loads))
      inside = subst (Below a) (sym p.together) b

      others : length x ≡ length (sum_of k loads)
      others = p.first_sized ∙ sym (length-sum_of k loads p.rest.sized)

      rest : Cut fits k (length loads) (less a x)
      rest = cut (wanted-below a x (sum_of k loads) others inside)

      level : length a ≡ length x
      level = below_length inside ∙ length-plus x (sum_of k loads) others

      taken : List ℕ
      taken = less a (less a x)

      sized : length taken ≡ k
      sized = below_length (taken-below a x level) ∙ p.first_sized

      whole : plus taken (less a x) ≡ a
      whole = plus_comm taken (less a x) ∙ plus-less-below (below-any a x level)

  cut_down : (loads : List (List ℕ)) (ν a : List ℕ) → Shares fits k loads ν → Below a ν → Cut fits k (length loads) a
  unfolding sum_of
  cut_down [] ν a s b = record { loads = []; number = refl; shares = subst (Shares fits k []) (below-zero k (sym s.sums) b) (no-shares fits k) }
  cut_down (x ∷ loads) ν a s b =
      let p = split-shares fits k x loads ν s in
      cut-one x loads ν a p b (λ left. cut_down loads (sum_of k loads) (less a x) p.rest left)

-- main: the rows of a sum

module _ (fits : List ℕ → Bool) (ns : List ℕ) (room : columns_of ns ≤ no_column) (m a b c : ℕ)
    (small_a : a < columns_of ns) (small_b : b < columns_of ns) (small_c : c < columns_of ns) (adds : plus (load_of ns a) (load_of ns b) ≡ load_of ns c) where
  abbrev row_of : ℕ → ℕ
  row_of d = lowest_row fits ns m d

  -- where together they are at most m, the loads of one behind those of the other are loads of the sum
  pub rows-add : row_of a + row_of b ≤ m → row_of c ≤ row_of a + row_of b
  rows-add h =
      lowest_row-le fits ns m c (row_of a + row_of b) h
      (subst (λ (i : ℕ). says_yes (cell fits ns i c) ≡ true) number
      (shares-cell fits ns room (recovery fits ns m a ++ recovery fits ns m b) c small_c
      (subst (Shares fits (length ns) (recovery fits ns m a ++ recovery fits ns m b)) adds
      (shares-append fits (length ns) (recovery fits ns m a) (recovery fits ns m b) (load_of ns a) (load_of ns b)
      (recovery-shares fits ns room m a small_a (omega arith))
      (recovery-shares fits ns room m b small_b (omega arith))))))
    where
      number : length (recovery fits ns m a ++ recovery fits ns m b) ≡ row_of a + row_of b
      number = length-append (recovery fits ns m a) (recovery fits ns m b) ∙ ap (λ (n : ℕ). n + length (recovery fits ns m b)) (length-recovery fits ns m a) ∙ ap (λ (n : ℕ). row_of a + n) (length-recovery fits ns m b)

-- main: the row of a part. `parts`: a part of a load that fits fits
pub rows-part : (fits : List ℕ → Bool) (ns : List ℕ) → columns_of ns ≤ no_column → (m a c : ℕ) → a < columns_of ns → c < columns_of ns → Below (load_of ns a) (load_of ns c)
    → ((x z : List ℕ) → within x z ≡ true → fits z ≡ true → fits x ≡ true) → lowest_row fits ns m a ≤ lowest_row fits ns m c
rows-part fits ns room m a c small_a small_c below parts = go (leb (lowest_row fits ns m c) m) refl
  where
    go : (t : Bool) → leb (lowest_row fits ns m c) m ≡ t → lowest_row fits ns m a ≤ lowest_row fits ns m c
    go false e = omega (arith, leb-false (lowest_row fits ns m c) m e, lowest_row-most fits ns m a)
    go true e =
        let h = leb-true (lowest_row fits ns m c) m e in
        let part = cut_down fits (length ns) parts (recovery fits ns m c) (load_of ns c) (load_of ns a) (recovery-shares fits ns room m c small_c h) below in
        lowest_row-le fits ns m a (lowest_row fits ns m c) h
        (subst (λ (i : ℕ). says_yes (cell fits ns i a) ≡ true) (part.number ∙ length-recovery fits ns m c)
        (shares-cell fits ns room part.loads a small_a part.shares))

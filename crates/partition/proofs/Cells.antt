-- What a cell says: row i says yes at a column exactly when i loads that fit make up the column's load. Recovery gives such loads.
use Prim.Native.Nat.{ℕ, zero, suc, ◌+◌, ◌≤◌, ◌<◌}
use mathlib.Core.Path.{◌≡◌, refl, sym, ap, subst, ◌∙◌}
use mathlib.Core.List.{List, [], ◌∷◌, ◌++◌, append_assoc}
use mathlib.Core.Bool.{Bool, true, false, cond, ◌&&◌, false≢true}
use mathlib.Core.Logic.{⊎_elim}
use native.Mathlib.Nat.{lt_of_le_of_lt, zero-add}
use native.Mathlib.Omega.{arith}
use borrow.Author.Tests.{eqb-true, eqb-false, eq-eqb, ne_eqb, not-true}
use lib.ListN.{length, replicate, length-replicate}
use lib.Dec.{eqb}
use Rattle.system.specs.Limits.{columns_of}
use Rattle.loads.specs.Load.{within, plus, less}
use Rattle.loads.specs.Column.{load_of, column_of}
use Rattle.loads.proofs.Order.{Below, and_parts, and_both, below→within, below-trans, below-plus, length-plus, length-less, plus_comm, plus_assoc, plus-less, less-plus, zero-plus, holds_none-zero}
use Rattle.loads.proofs.Column.{length-load_of, load_of-below, load_of-column_of-below, column_of-lt, load_of-zero, holds_none-load_of, dominated-le}
use Rattle.partition.specs.Assignment.{every}
use Rattle.partition.specs.Cell.{no_column, says_yes, precedes, cell, recover}
use Rattle.partition.specs.Shares.{sum_of, Shares}
use Rattle.partition.proofs.Lists.{every-parts}
use Rattle.partition.proofs.Lowest.{Found, lowest-found, lowest-le}

-- intermediate: lists of loads

pub length-sum_of : (k : ℕ) (loads : List (List ℕ)) → every (λ (x : List ℕ). eqb (length x) k) loads ≡ true → length (sum_of k loads) ≡ k
unfolding sum_of
length-sum_of k [] h = length-replicate k 0
length-sum_of k (x ∷ loads) h =
    let b = every-parts (λ (y : List ℕ). eqb (length y) k) x loads h in
    let same = eqb-true (length x) k b.0 in
    length-plus x (sum_of k loads) (same ∙ sym (length-sum_of k loads b.1)) ∙ same

pub no-shares : (fits : List ℕ → Bool) (k : ℕ) → Shares fits k [] (replicate k 0)
unfolding every sum_of
no-shares fits k = record { sized = refl; all_fit = refl; sums = refl }

pub one-share : (fits : List ℕ → Bool) (k : ℕ) (x : List ℕ) (loads : List (List ℕ)) (ν : List ℕ) → length x ≡ k → fits x ≡ true → Shares fits k loads ν → Shares fits k (x ∷ loads) (plus x ν)
unfolding every sum_of
one-share fits k x loads ν l h s = record {
  sized = and_both (eqb (length x) k) (every (λ (y : List ℕ). eqb (length y) k) loads) (eq-eqb (length x) k l) s.sized;
  all_fit = and_both (fits x) (every fits loads) h s.all_fit;
  sums = ap (plus x) s.sums;
}

-- the first load apart
pub record Split (fits : List ℕ → Bool) (k : ℕ) (x : List ℕ) (loads : List (List ℕ)) (ν : List ℕ) : Type 0 where
  pub first_sized : length x ≡ k
  pub first_fits : fits x ≡ true
  pub rest : Shares fits k loads (sum_of k loads)
  pub together : plus x (sum_of k loads) ≡ ν

pub split-shares : (fits : List ℕ → Bool) (k : ℕ) (x : List ℕ) (loads : List (List ℕ)) (ν : List ℕ) → Shares fits k (x ∷ loads) ν → Split fits k x loads ν
unfolding sum_of
split-shares fits k x loads ν s =
    let a = every-parts (λ (y : List ℕ). eqb (length y) k) x loads s.sized in
    let b = every-parts fits x loads s.all_fit in
    record {
      first_sized = eqb-true (length x) k a.0;
      first_fits = b.0;
      rest = record { sized = a.1; all_fit = b.1; sums = refl };
      together = s.sums;
    }

-- intermediate: one cell

module _ (fits : List ℕ → Bool) (ns : List ℕ) where
  yes_of : (c : ℕ) → c < no_column → says_yes c ≡ true
  yes_of c h = rw (ne_eqb c no_column (λ q. omega arith))

  not_yes : (c : ℕ) → c ≡ no_column → says_yes c ≡ true → ⊥
  not_yes c e h = eqb-false c no_column (not-true (eqb c no_column) h) e

  -- what a yes cell of row i + 1 holds
  pub record Predecessor (i c p : ℕ) : Type 0 where
    pub dominated : within (load_of ns p) (load_of ns c) ≡ true
    pub difference_fits : fits (less (load_of ns c) (load_of ns p)) ≡ true
    pub yes_before : says_yes (cell fits ns i p) ≡ true
    pub not_above : p ≤ c

  pub cell-predecessor : (i c : ℕ) → says_yes (cell fits ns (suc i) c) ≡ true → Predecessor i c (cell fits ns (suc i) c)
  unfolding cell precedes
  cell-predecessor i c h = ⊎_elim (λ e. absurd (not_yes p e h)) found (lowest-found test no_column (suc c) 0)
    where
      test : ℕ → Bool
      test = precedes fits ns (cell fits ns i) c

      p : ℕ
      p = cell fits ns (suc i) c

      found : Found test no_column (suc c) 0 p → Predecessor i c p
      found r =
          let a = and_parts (within (load_of ns p) (load_of ns c) && fits (less (load_of ns c) (load_of ns p))) (says_yes (cell fits ns i p)) r.passes in
          let b = and_parts (within (load_of ns p) (load_of ns c)) (fits (less (load_of ns c) (load_of ns p))) a.0 in
          record { dominated = b.0; difference_fits = b.1; yes_before = a.1; not_above = omega (arith, r.to) }

  -- it is the lowest of these
  pub cell-lowest : (i c p : ℕ) → Predecessor i c p → cell fits ns (suc i) c ≤ p
  unfolding cell precedes
  cell-lowest i c p r = lowest-le (precedes fits ns (cell fits ns i) c) no_column (suc c) 0 p passes (omega arith) (omega (arith, r.not_above))
    where
      passes : precedes fits ns (cell fits ns i) c p ≡ true
      passes =
          and_both (within (load_of ns p) (load_of ns c) && fits (less (load_of ns c) (load_of ns p))) (says_yes (cell fits ns i p))
          (and_both (within (load_of ns p) (load_of ns c)) (fits (less (load_of ns c) (load_of ns p))) r.dominated r.difference_fits)
          r.yes_before

  pub predecessor-cell : (i c p : ℕ) → p < no_column → Predecessor i c p → says_yes (cell fits ns (suc i) c) ≡ true
  predecessor-cell i c p small r = yes_of (cell fits ns (suc i) c) (lt_of_le_of_lt (cell-lowest i c p r) small)

  pub cell-zero-yes : (c : ℕ) → says_yes (cell fits ns 0 c) ≡ true → c ≡ 0
  unfolding cell
  cell-zero-yes c h = go (eqb c 0) refl h
    where
      go : (b : Bool) → eqb c 0 ≡ b → says_yes (cond b 0 no_column) ≡ true → c ≡ 0
      go true e y = eqb-true c 0 e
      go false e y = absurd (false≢true y)

  -- main: recovery from a yes cell

  pub recover-shares : (i c : ℕ) (later : List (List ℕ)) (ν : List ℕ) → says_yes (cell fits ns i c) ≡ true → Shares fits (length ns) later ν → Shares fits (length ns) (recover fits ns i c later) (plus (load_of ns c) ν)
  unfolding recover
  recover-shares zero c later ν h s = rw (cell-zero-yes c h, load_of-zero ns) (subst (Shares fits (length ns) later) (sym same) s)
    where
      sized : length ν ≡ length ns
      sized = ap length (sym s.sums) ∙ length-sum_of (length ns) later s.sized

      same : plus (replicate (length ns) 0) ν ≡ ν
      same = rw (← sized) (zero-plus ν)
  recover-shares (suc i) c later ν h s =
      subst (Shares fits (length ns) (recover fits ns i p (d ∷ later))) whole
      (recover-shares i p (d ∷ later) (plus d ν) r.yes_before (one-share fits (length ns) d later ν sized r.difference_fits s))
    where
      p : ℕ
      p = cell fits ns (suc i) c

      r : Predecessor i c p
      r = cell-predecessor i c h

      d : List ℕ
      d = less (load_of ns c) (load_of ns p)

      equal : length (load_of ns p) ≡ length (load_of ns c)
      equal = length-load_of ns p ∙ sym (length-load_of ns c)

      sized : length d ≡ length ns
      sized = length-less (load_of ns c) (load_of ns p) (sym equal) ∙ length-load_of ns c

      whole : plus (load_of ns p) (plus d ν) ≡ plus (load_of ns c) ν
      whole = sym (plus_assoc (load_of ns p) d ν) ∙ ap (λ (x : List ℕ). plus x ν) (plus-less (load_of ns p) (load_of ns c) equal r.dominated)

  pub length-recover : (i c : ℕ) (later : List (List ℕ)) → length (recover fits ns i c later) ≡ i + length later
  unfolding recover
  length-recover zero c later = sym (zero-add (length later))
  length-recover (suc i) c later =
      let p = cell fits ns (suc i) c in
      length-recover i p (less (load_of ns c) (load_of ns p) ∷ later) ∙ omega arith

  pub recover-append : (i c : ℕ) (later : List (List ℕ)) → recover fits ns i c later ≡ recover fits ns i c [] ++ later
  unfolding recover
  recover-append zero c later = refl
  recover-append (suc i) c later =
      let p = cell fits ns (suc i) c in
      let d = less (load_of ns c) (load_of ns p) in
      recover-append i p (d ∷ later)
      ∙ sym (append_assoc (recover fits ns i p []) (d ∷ []) later)
      ∙ ap (λ (l : List (List ℕ)). l ++ later) (sym (recover-append i p (d ∷ [])))

  -- main: a yes cell from loads

  pub shares-cell : columns_of ns ≤ no_column → (loads : List (List ℕ)) (c : ℕ) → c < columns_of ns → Shares fits (length ns) loads (load_of ns c) → says_yes (cell fits ns (length loads) c) ≡ true
  unfolding cell sum_of
  shares-cell room [] c small s = rw (holds_none-load_of ns c small (rw (← s.sums) (holds_none-zero (length ns))))
  shares-cell room (x ∷ loads) c small s =
      predecessor-cell (length loads) c p (omega (arith, low)) (record {
        dominated = below→within under;
        difference_fits = rw same t.first_fits;
        yes_before = shares-cell room loads p low (subst (Shares fits k loads) (sym back) t.rest);
        not_above = dominated-le ns c p small low (below→within under);
      })
    where
      k : ℕ
      k = length ns

      t : Split fits k x loads (load_of ns c)
      t = split-shares fits k x loads (load_of ns c) s

      ν : List ℕ
      ν = sum_of k loads

      p : ℕ
      p = column_of ns ν

      equal : length ν ≡ length x
      equal = length-sum_of k loads t.rest.sized ∙ sym t.first_sized

      whole : plus ν x ≡ load_of ns c
      whole = plus_comm ν x ∙ t.together

      inside : Below ν (load_of ns c)
      inside = subst (Below ν) whole (below-plus ν x equal)

      fine : Below ν ns
      fine = below-trans inside (load_of-below ns c)

      back : load_of ns p ≡ ν
      back = load_of-column_of-below fine

      low : p < columns_of ns
      low = column_of-lt ns ν (below→within fine)

      under : Below (load_of ns p) (load_of ns c)
      under = subst (λ (y : List ℕ). Below y (load_of ns c)) (sym back) inside

      same : less (load_of ns c) (load_of ns p) ≡ x
      same = rw (back, ← whole) (less-plus ν x equal)

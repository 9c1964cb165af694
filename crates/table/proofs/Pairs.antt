-- Laws of the pairs that a fill tries: their number by rows and columns, and how many of the columns under a column are tried.
use Prim.Native.Nat.{ℕ, zero, suc, ◌+◌, ◌*◌, ◌≤◌, ◌<◌}
use mathlib.Core.Path.{◌≡◌, refl, sym, ap, subst, ◌∙◌}
use mathlib.Core.List.{List, ◌∷◌, map}
use mathlib.Core.Bool.{Bool, true, false, cond, ◌&&◌, and-true, and-false}
use mathlib.Core.Logic.{◌⊎◌, inl, inr, ⊎_elim}
use native.Mathlib.Numerals.{add-one}
use native.Mathlib.Nat.{zero-add, add-zero}
use native.Mathlib.Omega.{arith}
use borrow.Author.Tests.{eqb-true, eq-eqb, ne_eqb, not-false, le-leb, lt-leb}
use lib.ListN.{length, length-append, length-map}
use lib.Dec.{leb, eqb}
use Rattle.system.specs.declared.System.{System}
use Rattle.system.specs.Limits.{columns_of, columns}
use Rattle.loads.specs.Load.{within}
use Rattle.loads.specs.Column.{load_of}
use Rattle.loads.proofs.Order.{Below, none, more}
use Rattle.loads.proofs.Column.{load_of-digit, load_of-below, dominated-le}
use Rattle.partition.specs.Assignment.{numbers_from}
use Rattle.partition.specs.Cell.{no_column, says_yes, cell}
use Rattle.partition.proofs.Lists.{true-or-false}
use Rattle.partition.proofs.Cells.{cell-predecessor}
use Rattle.table.specs.Pairs.{those, up_to_one, for_each, columns_under}
use Rattle.table.specs.Under.{visited_to}
use Rattle.table.specs.Meaning.{sum_below}
use Rattle.table.proofs.Sums.{sum_same, sum-constant, sum-times, sum_more, sum-cut, sum_first, sum-blocks}

-- main: the number of pairs, row by row and column by column

pub length-for_each : {A : Type 0} (each : ℕ → List A) (a n : ℕ) → length (for_each (numbers_from a n) each) ≡ sum_below n (λ (i : ℕ). length (each (a + i)))
unfolding for_each numbers_from
length-for_each each a zero = unfold sum_below in refl
length-for_each {A = A} each a (suc n) =
    let f : ℕ → ℕ = λ (i : ℕ). length (each (a + i)) in
    let g : ℕ → ℕ = λ (i : ℕ). length (each (suc a + i)) in
    let here : f 0 ≡ length (each a) = ap (λ (k : ℕ). length (each k)) (add-zero a) in
    let later : sum_below n (λ (i : ℕ). f (suc i)) ≡ sum_below n g =
    sum_same n (λ (i : ℕ). f (suc i)) g (λ i l. ap (λ (k : ℕ). length (each k)) (omega arith)) in
    omega (arith, length-append (each a) (for_each (numbers_from (suc a) n) each), length-for_each each (suc a) n, sum_first n f)

-- one number more
pub length-for_each-more : {A : Type 0} (each : ℕ → List A) (a n : ℕ) → length (for_each (numbers_from a (n + 1)) each) ≡ length (for_each (numbers_from a n) each) + length (each (a + n))
unfolding sum_below
length-for_each-more each a n = rw (add-one n, length-for_each each a n, length-for_each each a (suc n))

-- intermediate: how many pass a test, up to one that does

module _ (test : ℕ → Bool) where
  -- 1 for a number that passes
  abbrev mark : ℕ → ℕ
  mark a = cond (test a) 1 0

  abbrev marks : ℕ → ℕ → ℕ
  marks a n = sum_below n (λ (i : ℕ). mark (a + i))

  marks-first : (a n : ℕ) → marks a (suc n) ≡ mark a + marks (suc a) n
  marks-first a n =
      let first : mark (a + 0) ≡ mark a = ap mark (add-zero a) in
      let later : sum_below n (λ (i : ℕ). mark (a + suc i)) ≡ marks (suc a) n =
      sum_same n (λ (i : ℕ). mark (a + suc i)) (λ (i : ℕ). mark (suc a + i)) (λ i l. ap mark (omega arith)) in
      omega (arith, sum_first n (λ (i : ℕ). mark (a + i)))

  -- one number more in front, that is not the last
  count-step : (r a n k : ℕ) → (a ≡ r → ⊥) → length (up_to_one r (those test (numbers_from (suc a) n))) ≡ marks (suc a) k
      → length (up_to_one r (those test (numbers_from a (suc n)))) ≡ marks a (suc k)
  unfolding numbers_from those up_to_one
  count-step r a n k other rest = go (test a) refl ∙ sym (marks-first a k)
    where
      go : (b : Bool) → test a ≡ b → length (up_to_one r (those test (numbers_from a (suc n)))) ≡ mark a + marks (suc a) k
      go true e = rw (e, ne_eqb a r other) (omega arith)
      go false e = rw e (omega arith)

  count-all : (r a n : ℕ) → a + n ≤ r → length (up_to_one r (those test (numbers_from a n))) ≡ marks a n
  count-all r a zero h = unfold numbers_from those up_to_one sum_below in refl
  count-all r a (suc n) h = count-step r a n n (λ e. omega arith) (count-all r (suc a) n (omega arith))

  count-one : (a n : ℕ) → test a ≡ true → length (up_to_one a (those test (numbers_from a (suc n)))) ≡ marks a 1
  unfolding numbers_from those up_to_one sum_below
  count-one a n e = rw (add-zero a, e, eq-eqb a a refl)

  count-to : (a n d : ℕ) → d < n → test (a + d) ≡ true → length (up_to_one (a + d) (those test (numbers_from a n))) ≡ marks a (suc d)
  count-to a zero d h e = absurd (omega arith)
  count-to a (suc n) zero h e =
      let same = add-zero a in
      subst (λ (r : ℕ). length (up_to_one r (those test (numbers_from a (suc n)))) ≡ marks a 1) (sym same)
      (count-one a n (subst (λ (r : ℕ). test r ≡ true) same e))
  count-to a (suc n) (suc d) h e =
      let next : suc a + d ≡ a + suc d = omega arith in
      count-step (a + suc d) a n (suc d) (λ q. omega arith)
      (subst (λ (r : ℕ). length (up_to_one r (those test (numbers_from (suc a) n))) ≡ marks (suc a) (suc d)) next
      (count-to (suc a) n d (omega arith) (subst (λ (r : ℕ). test r ≡ true) (sym next) e)))

-- main: the columns visited

module _ (ns x : List ℕ) where
  -- 1 for a column to visit
  abbrev visit : ℕ → ℕ
  visit q = cond (within (load_of ns q) x) 1 0

  pub visited-sum : (b : ℕ) → visited_to ns x b ≡ sum_below b (λ (q : ℕ). cond (within (load_of ns q) x) 1 0)
  unfolding visited_to sum_below
  visited-sum zero = refl
  visited-sum (suc b) = omega (arith, visited-sum b)

  pub visited-next : (b : ℕ) → visited_to ns x (b + 1) ≡ visited_to ns x b + cond (within (load_of ns b) x) 1 0
  unfolding visited_to
  visited-next b = rw (add-one b)

  pub visited-le : (b : ℕ) → visited_to ns x b ≤ b
  unfolding visited_to
  visited-le zero = omega arith
  visited-le (suc b) = go (within (load_of ns b) x) (visited-le b)
    where
      go : (w : Bool) → visited_to ns x b ≤ b → visited_to ns x b + cond w 1 0 ≤ suc b
      go true h = omega arith
      go false h = omega arith

  pub visited-more : (a b : ℕ) → a ≤ b → visited_to ns x a ≤ visited_to ns x b
  visited-more a b h = rw (visited-sum a, visited-sum b) (sum_more a b visit h)

-- intermediate: of n + 1 counts those up to a, where the rest is under

up-to-count : (n a : ℕ) (w : Bool) → a ≤ n → sum_below (n + 1) (λ (j : ℕ). cond (leb j a && w) 1 0) ≡ (a + 1) * cond w 1 0
up-to-count n a w h =
    sum-cut (a + 1) (n + 1) f (omega arith) (λ j from to. rw (lt-leb j a (omega arith)))
    ∙ sum_same (a + 1) f (λ (j : ℕ). cond w 1 0) (λ j l. rw (le-leb j a (omega arith)))
    ∙ sum-constant (a + 1) (cond w 1 0)
  where
    f : ℕ → ℕ
    f j = cond (leb j a && w) 1 0

-- main: the columns under a load are as many as its own columns
pub visited-all : {ns x : List ℕ} → Below x ns → visited_to ns x (columns_of ns) ≡ columns_of x
unfolding columns_of within
visited-all none = unfold visited_to load_of in refl
visited-all (more {x = a} {y = n} {xs = x} {ys = ns} h r) =
    visited-sum (n ∷ ns) (a ∷ x) ((n + 1) * columns_of ns)
    ∙ sum-blocks (n + 1) (columns_of ns) (visit (n ∷ ns) (a ∷ x))
    ∙ sum_same (columns_of ns) (λ (q : ℕ). sum_below (n + 1) (λ (j : ℕ). visit (n ∷ ns) (a ∷ x) (j + (n + 1) * q))) (λ (q : ℕ). (a + 1) * visit ns x q) (λ q l. block q)
    ∙ sum-times (columns_of ns) (a + 1) (visit ns x)
    ∙ ap (λ (k : ℕ). (a + 1) * k) (sym (visited-sum ns x (columns_of ns)) ∙ visited-all r)
  where
    block : (q : ℕ) → sum_below (n + 1) (λ (j : ℕ). visit (n ∷ ns) (a ∷ x) (j + (n + 1) * q)) ≡ (a + 1) * visit ns x q
    block q =
        sum_same (n + 1) (λ (j : ℕ). visit (n ∷ ns) (a ∷ x) (j + (n + 1) * q)) (λ (j : ℕ). cond (leb j a && within (load_of ns q) x) 1 0)
        (λ j l. ap (λ (z : List ℕ). cond (within z (a ∷ x)) 1 0) (load_of-digit n j q ns (omega arith)))
        ∙ up-to-count n a (within (load_of ns q) x) h

pub visited-own : (ns : List ℕ) (c : ℕ) → visited_to ns (load_of ns c) (columns_of ns) ≡ columns_of (load_of ns c)
visited-own ns c = visited-all (load_of-below ns c)

-- "the last" is the column itself: no later one is under it
pub visited-self : (ns : List ℕ) (c : ℕ) → c < columns_of ns → visited_to ns (load_of ns c) (c + 1) ≡ columns_of (load_of ns c)
visited-self ns c small =
    visited-sum ns (load_of ns c) (c + 1)
    ∙ sym (sum-cut (c + 1) (columns_of ns) (visit ns (load_of ns c)) (omega arith) (λ q from to. past q (omega arith) to))
    ∙ sym (visited-sum ns (load_of ns c) (columns_of ns))
    ∙ visited-own ns c
  where
    past : (q : ℕ) → c < q → q < columns_of ns → visit ns (load_of ns c) q ≡ 0
    past q h l =
        ⊎_elim
        (λ w. absurd (omega (arith, dominated-le ns c q small l w)))
        (λ w. rw w)
        (true-or-false (within (load_of ns q) (load_of ns c)))

-- main: the columns tried

module _ (ns : List ℕ) (c : ℕ) where
  abbrev under : ℕ → Bool
  under q = within (load_of ns q) (load_of ns c)

  -- from column 0 on
  marks-visited : (n : ℕ) → marks under 0 n ≡ visited_to ns (load_of ns c) n
  marks-visited n =
      sum_same n (λ (i : ℕ). mark under (0 + i)) (mark under) (λ i l. ap (mark under) (zero-add i)) ∙ sym (visited-sum ns (load_of ns c) n)

  -- up to the one accepted, which counts
  pub tried-accepted : (p : ℕ) → p < columns_of ns → within (load_of ns p) (load_of ns c) ≡ true
      → length (up_to_one p (columns_under ns c)) ≡ visited_to ns (load_of ns c) (p + 1)
  tried-accepted p small w =
      let same = zero-add p in
      rw (add-one p)
      (subst (λ (r : ℕ). length (up_to_one r (columns_under ns c)) ≡ marks under 0 (suc p)) same
      (count-to under 0 (columns_of ns) p small (subst (λ (r : ℕ). under r ≡ true) (sym same) w))
      ∙ marks-visited (suc p))

  -- to the last, where none is accepted
  pub tried-all : (r : ℕ) → columns_of ns ≤ r → length (up_to_one r (columns_under ns c)) ≡ visited_to ns (load_of ns c) (columns_of ns)
  tried-all r h = count-all under r 0 (columns_of ns) (omega arith) ∙ marks-visited (columns_of ns)

  -- where a search ends: past every column, or at one that is under
  abbrev pub EndsAt : ℕ → Type 0
  EndsAt r = (columns_of ns ≤ r) ⊎ ((r < columns_of ns) × (within (load_of ns r) (load_of ns c) ≡ true))

  pub tried-le : (r : ℕ) → EndsAt r → length (up_to_one r (columns_under ns c)) ≤ columns_of (load_of ns c)
  tried-le r e =
      ⊎_elim
      (λ h. omega (arith, tried-all r h, visited-own ns c))
      (λ (small, w). omega (arith, tried-accepted r small w, visited-more ns (load_of ns c) (r + 1) (columns_of ns) (omega arith), visited-own ns c))
      e

  -- counted column by column: those under c that are not past the end
  pub tried-counted : (r : ℕ) → EndsAt r
      → length (up_to_one r (columns_under ns c)) ≡ sum_below (columns_of ns) (λ (p : ℕ). cond (within (load_of ns p) (load_of ns c) && leb p r) 1 0)
  tried-counted r e = ⊎_elim all accepted e
    where
      f : ℕ → ℕ
      f p = cond (under p && leb p r) 1 0

      not-past : (p : ℕ) → p ≤ r → mark under p ≡ f p
      not-past p h = rw (le-leb p r h) (ap (λ (b : Bool). cond b 1 0) (sym (and-true (under p))))

      all : columns_of ns ≤ r → length (up_to_one r (columns_under ns c)) ≡ sum_below (columns_of ns) f
      all h = tried-all r h ∙ visited-sum ns (load_of ns c) (columns_of ns) ∙ sum_same (columns_of ns) (mark under) f (λ p l. not-past p (omega arith))

      accepted : (r < columns_of ns) × (under r ≡ true) → length (up_to_one r (columns_under ns c)) ≡ sum_below (columns_of ns) f
      accepted (small, w) =
          tried-accepted r small w
          ∙ visited-sum ns (load_of ns c) (r + 1)
          ∙ sum_same (r + 1) (mark under) f (λ p l. not-past p (omega arith))
          ∙ sym (sum-cut (r + 1) (columns_of ns) f (omega arith) (λ p from to. rw (lt-leb p r (omega arith)) (ap (λ (b : Bool). cond b 1 0) (and-false (under p)))))

-- main: a cell of a row from 1 is where its search ends
pub cell-ends : (fits : List ℕ → Bool) (ns : List ℕ) → columns_of ns ≤ no_column → (i c : ℕ) → c < columns_of ns → EndsAt ns c (cell fits ns (suc i) c)
cell-ends fits ns room i c small =
    let p = cell fits ns (suc i) c in
    ⊎_elim
    (λ (h : says_yes p ≡ true). let r = cell-predecessor fits ns i c h in inr (omega (arith, r.not_above), r.dominated))
    (λ (h : says_yes p ≡ false). inl (omega (arith, eqb-true p no_column (not-false (eqb p no_column) h))))
    (true-or-false (says_yes p))

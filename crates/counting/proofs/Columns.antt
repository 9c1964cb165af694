-- The sum over columns is the sum over loads: the code goes from the last type to the first, the definition of the tally from the first to the last.
use Prim.Native.Nat.{ℕ, zero, suc, ◌+◌, ◌-◌, ◌*◌, ◌≤◌}
use mathlib.Core.Path.{◌≡◌, refl, sym, ap, ◌∙◌}
use mathlib.Core.List.{List, [], ◌∷◌}
use mathlib.Core.Bool.{Bool, true}
use native.Mathlib.Nat.{suc_inj, mul-zero, mul-one, mul-add, mul_left_comm, add_comm, one-mul, le_trans, mul-le-mul_right}
use native.Mathlib.Omega.{arith}
use lib.ListN.{length, get_or}
use Rattle.loads.specs.Load.{within, less}
use Rattle.loads.specs.Column.{column_from, column_of, load_of}
use Rattle.loads.proofs.Order.{Below, within→below, below-trans, below_less}
use Rattle.loads.proofs.Column.{column_of-horner, load_of-column_of-below, column_of-less}
use Rattle.counting.specs.Tally.{sum_to, choose, bit, over_parts, tally, stride_at, over_columns}
use Rattle.counting.proofs.Sums.{sum_to-equal, sum_to-swap-times, sum_to-rises, term-le-sum_to, first_terms, first_terms-all, first_terms-more}
use Rattle.counting.proofs.Pascal.{choose-pos}
use Rattle.counting.proofs.Totals.{over_parts-equal}

-- intermediate: the first type apart

-- a column in Horner's form, where one type more is chosen
horner-step : (n p i t : ℕ) → (n + 1) * p + i * ((n + 1) * t) ≡ (n + 1) * (p + i * t)
horner-step n p i t = rw (mul_left_comm i (n + 1) t) (sym (mul-add (n + 1) p (i * t)))

columns-first : (n a : ℕ) (ns x : List ℕ) (t p : ℕ) (s : ℕ → ℕ) → over_columns (n ∷ ns) (a ∷ x) (suc t) ((n + 1) * p) s ≡ sum_to a (λ (j : ℕ). choose a j * over_columns ns x t p (λ (q : ℕ). s (j + (n + 1) * q)))
unfolding over_columns stride_at
columns-first n a ns x zero p s =
    sum_to-equal a (λ (j : ℕ). choose a j * s ((n + 1) * p + j * stride_at (n ∷ ns) 0)) (λ (j : ℕ). choose a j * s (j + (n + 1) * p))
    (λ j h. rw (mul-one j) (ap (λ (q : ℕ). choose a j * s q) (add_comm ((n + 1) * p) j)))
columns-first n a ns x (suc t) p s =
    sum_to-equal b (λ (i : ℕ). choose b i * over_columns (n ∷ ns) (a ∷ x) (suc t) ((n + 1) * p + i * stride_at (n ∷ ns) (suc t)) s) (λ (i : ℕ). choose b i * sum_to a (λ (j : ℕ). choose a j * inner i j))
    (λ i h.
    ap (λ (k : ℕ). choose b i * k)
    (ap (λ (q : ℕ). over_columns (n ∷ ns) (a ∷ x) (suc t) q s) (horner-step n p i (stride_at ns t))
    ∙ columns-first n a ns x t (p + i * stride_at ns t) s))
    ∙ sum_to-swap-times b a (choose b) (choose a) inner
  where
    b : ℕ
    b = get_or x t 0

    inner : ℕ → ℕ → ℕ
    inner i j = over_columns ns x t (p + i * stride_at ns t) (λ (q : ℕ). s (j + (n + 1) * q))

-- main: the sum over columns is the sum over loads

pub columns-parts : (ns x : List ℕ) → length x ≡ length ns → (s : ℕ → ℕ) → over_columns ns x (length ns) 0 s ≡ over_parts x (λ (z : List ℕ). s (column_of ns z))
columns-parts [] [] l s = unfold over_columns over_parts column_from in refl
columns-parts [] (a ∷ x) l s = absurd (omega arith)
columns-parts (n ∷ ns) [] l s = absurd (omega arith)
columns-parts (n ∷ ns) (a ∷ x) l s =
    ap (λ (p : ℕ). over_columns (n ∷ ns) (a ∷ x) (suc (length ns)) p s) (sym (mul-zero (n + 1)))
    ∙ columns-first n a ns x (length ns) 0 s
    ∙ sum_to-equal a (λ (j : ℕ). choose a j * over_columns ns x (length ns) 0 (λ (q : ℕ). s (j + (n + 1) * q))) (λ (j : ℕ). choose a j * over_parts x (λ (z : List ℕ). s (column_of (n ∷ ns) (j ∷ z))))
    (λ j h. ap (λ (k : ℕ). choose a j * k) (columns-parts ns x (suc_inj l) (λ (q : ℕ). s (j + (n + 1) * q)) ∙ digits j))
    ∙ (unfold over_parts in refl)
  where
    digits : (j : ℕ) → over_parts x (λ (z : List ℕ). s (j + (n + 1) * column_of ns z)) ≡ over_parts x (λ (z : List ℕ). s (column_of (n ∷ ns) (j ∷ z)))
    digits j = λ i. over_parts x (λ (z : List ℕ). s (sym (column_of-horner n j ns z) i))

-- main: one cell of a pass

-- with the tally for i engines at every column, the sum over the columns under c is the tally for one engine more at c
pub pass-cell : (f : List ℕ → Bool) (i : ℕ) (ns x : List ℕ) (c : ℕ) → length x ≡ length ns → within x ns ≡ true → c ≡ column_of ns x → over_columns ns x (length ns) 0 (λ (p : ℕ). bit (f (load_of ns p)) * tally f i (load_of ns (c - p))) ≡ tally f (suc i) x
unfolding tally
pass-cell f i ns x c l w e =
    columns-parts ns x l (λ (p : ℕ). bit (f (load_of ns p)) * tally f i (load_of ns (c - p)))
    ∙ over_parts-equal x (λ (z : List ℕ). bit (f (load_of ns (column_of ns z))) * tally f i (load_of ns (c - column_of ns z))) (λ (z : List ℕ). bit (f z) * tally f i (less x z)) term
  where
    inside : Below x ns
    inside = within→below x ns l w

    term : (z : List ℕ) → Below z x → bit (f (load_of ns (column_of ns z))) * tally f i (load_of ns (c - column_of ns z)) ≡ bit (f z) * tally f i (less x z)
    term z b =
        let rest : c - column_of ns z ≡ column_of ns (less x z) = omega (arith, column_of-less ns b) in
        rw (rest, load_of-column_of-below (below-trans b inside), load_of-column_of-below (below-trans (below_less b) inside))

-- main: every part of the sum is at most the whole

module _ (ns x : List ℕ) (t p : ℕ) (s : ℕ → ℕ) where
  -- the term of count j of the type at index t
  abbrev pub term_at : ℕ → ℕ
  term_at j = choose (get_or x t 0) j * over_columns ns x t (p + j * stride_at ns t) s

  pub over-sum : over_columns ns x (suc t) p s ≡ sum_to (get_or x t 0) term_at
  unfolding over_columns
  over-sum = refl

  pub over-term : (j : ℕ) → j ≤ get_or x t 0 → term_at j ≤ over_columns ns x (suc t) p s
  over-term j h = rw over-sum (term-le-sum_to j (get_or x t 0) term_at h)

  -- the sum so far
  pub over-part : (k : ℕ) → k ≤ get_or x t 0 → sum_to k term_at ≤ over_columns ns x (suc t) p s
  over-part k h = rw over-sum (sum_to-rises k (get_or x t 0) term_at h)

  -- the same as a loop adds up: one term more, and all
  pub over-more : (k : ℕ) → k ≤ get_or x t 0 → first_terms k term_at + term_at k ≤ over_columns ns x (suc t) p s
  over-more k h = rw over-sum (first_terms-more k (get_or x t 0) term_at h)

  pub over-all : first_terms (suc (get_or x t 0)) term_at ≡ over_columns ns x (suc t) p s
  over-all = first_terms-all (get_or x t 0) term_at ∙ sym over-sum

  pub over-inner : (j : ℕ) → j ≤ get_or x t 0 → over_columns ns x t (p + j * stride_at ns t) s ≤ over_columns ns x (suc t) p s
  over-inner j h =
      le_trans (rw (one-mul (over_columns ns x t (p + j * stride_at ns t) s)) at (mul-le-mul_right (over_columns ns x t (p + j * stride_at ns t) s) (choose-pos (get_or x t 0) j h))) (over-term j h)

-- over the first type alone, whose stride is 1
pub over_first : (ns x : List ℕ) (p : ℕ) (s : ℕ → ℕ) → over_columns ns x 1 p s ≡ sum_to (get_or x 0 0) (λ (j : ℕ). choose (get_or x 0 0) j * s (p + j))
unfolding over_columns stride_at
over_first ns x p s =
    sum_to-equal (get_or x 0 0) (λ (j : ℕ). choose (get_or x 0 0) j * s (p + j * 1)) (λ (j : ℕ). choose (get_or x 0 0) j * s (p + j))
    (λ j h. rw (mul-one j))

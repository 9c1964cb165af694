-- Laws of the sums that a pass goes through: every partial sum and every term is at most the whole, an inner sum reads no farther, and by a system's strides they are the sums over columns.
use Prim.Native.Nat.{ℕ, zero, suc, ◌+◌, ◌-◌, ◌*◌, ◌≤◌, ◌<◌}
use mathlib.Core.Path.{◌≡◌, refl, sym, ap, subst, ◌∙◌}
use mathlib.Core.List.{List}
use native.Mathlib.Nat.{le_trans, mul-one, mul-le-mul_right}
use native.Mathlib.Numerals.{add-one}
use native.Mathlib.Omega.{arith}
use lib.ListN.{length, get_or}
use Rattle.counting.specs.Counts.{greatest}
use Rattle.counting.specs.Tally.{sum_to, choose, stride_at, over_columns}
use Rattle.counting.specs.Reach.{reach_of}
use Rattle.counting.specs.Walk.{Choices, held_ways, over_one, over_two, over_by, reach_by, SumIn}
use Rattle.counting.proofs.Sums.{sum_to-equal, term-le-sum_to, first_terms, first_terms-all, first_terms-more}
use Rattle.counting.proofs.Pascal.{choose-pos}

-- main: one term of a sum over the counts 0 to n of a type

-- the term of count j, where `inner` says what the other types add
abbrev pub ways_of : ℕ → (ℕ → ℕ) → ℕ → ℕ
ways_of n inner j = choose n j * inner j

pub record Term (ways : List ℕ) (n j sum here : ℕ) : Type 0 where
  pub entry : get_or ways (64 * n + j) 0 ≡ choose n j
  pub listed : 64 * n + j < length ways
  pub held : here ≤ greatest
  pub times : choose n j * here ≤ greatest
  pub next : sum + choose n j * here ≤ greatest

pub term-at : (ways : List ℕ) (n j sum : ℕ) (inner : ℕ → ℕ) → Choices ways → n < 64 → j ≤ n → sum ≡ first_terms j (ways_of n inner) → sum_to n (ways_of n inner) ≤ greatest → Term ways n j sum (inner j)
term-at ways n j sum inner w few h e small =
    let more = first_terms-more j n (ways_of n inner) h in
    let some = mul-le-mul_right {m = 1} {n = choose n j} (inner j) (choose-pos n j h) in
    let whole = term-le-sum_to j n (ways_of n inner) h in
    record {
      entry = w.entry n j few (omega arith);
      listed = omega (arith, w.long);
      held = omega arith;
      times = le_trans whole small;
      next = rw e (le_trans more small);
    }

-- what the other types add at one count is at most the whole
pub inner-small : (n j : ℕ) (inner : ℕ → ℕ) → j ≤ n → sum_to n (ways_of n inner) ≤ greatest → inner j ≤ greatest
inner-small n j inner h small =
    let some = mul-le-mul_right {m = 1} {n = choose n j} (inner j) (choose-pos n j h) in
    let whole = term-le-sum_to j n (ways_of n inner) h in
    omega (arith, some, whole, small)

-- the sum with one term more, and all of it
pub terms-more : (j : ℕ) (f : ℕ → ℕ) → first_terms (j + 1) f ≡ first_terms j f + f j
unfolding first_terms
terms-more j f = rw (add-one j)

pub terms-all : (n j : ℕ) (f : ℕ → ℕ) → j ≡ n + 1 → first_terms j f ≡ sum_to n f
terms-all n j f e = rw (e, add-one n) (first_terms-all n f)

-- the sum with the term that the code adds
pub more-at : (ways : List ℕ) (n j sum m i : ℕ) (inner : ℕ → ℕ) → get_or ways (64 * n + j) 0 ≡ choose n j → sum ≡ first_terms j (ways_of n inner) → m ≡ n → i ≡ inner j → sum + get_or ways (64 * m + j) 0 * i ≡ first_terms (j + 1) (ways_of n inner)
more-at ways n j sum m i inner entry e is found = rw (is, entry, found, e) (sym (terms-more j (ways_of n inner)))

-- main: the sum over the types up to one is over the counts of that one

-- what the types below index t add, where the type at t has count j
abbrev pub inner_at : List ℕ → List ℕ → List ℕ → ℕ → ℕ → ℕ → ℕ → ℕ → ℕ
inner_at part strides x half column t p j = over_by strides x t (p + j * get_or strides t 0) (held_ways part half column)

module _ (part strides x : List ℕ) (half column t p : ℕ) where
  pub over_by_lem : over_by strides x (suc t) p (held_ways part half column) ≡ sum_to (get_or x t 0) (ways_of (get_or x t 0) (inner_at part strides x half column t p))
  unfolding over_by
  over_by_lem = refl

  -- what the inner sum asks
  pub sum-inner : (ways : List ℕ) (j : ℕ) → j ≤ get_or x t 0 → SumIn part ways half column (p + reach_by strides x (suc t)) (over_by strides x (suc t) p (held_ways part half column)) →
      SumIn part ways half column (p + j * get_or strides t 0 + reach_by strides x t) (inner_at part strides x half column t p j)
  unfolding over_by reach_by
  sum-inner ways j h g =
      record {
        chosen = g.chosen;
        reach = omega (arith, g.reach, mul-le-mul_right (get_or strides t 0) h);
        inside = g.inside;
        halves = g.halves;
        small = inner-small (get_or x t 0) j (inner_at part strides x half column t p) h g.small;
      }

-- main: over the counts of type 1, whose stride is 1

module _ (part strides x : List ℕ) (half column p : ℕ) (one : get_or strides 0 0 ≡ 1) where
  pub over-one : over_by strides x 1 p (held_ways part half column) ≡ over_one part half column (get_or x 0 0) p
  unfolding over_by over_one
  over-one =
      sum_to-equal (get_or x 0 0) (λ (j : ℕ). choose (get_or x 0 0) j * held_ways part half column (p + j * get_or strides 0 0)) (λ (j : ℕ). choose (get_or x 0 0) j * held_ways part half column (p + j))
      (λ j h. rw (one, mul-one j))

  pub reach-one : reach_by strides x 1 ≡ get_or x 0 0
  unfolding reach_by
  reach-one = rw (one, mul-one (get_or x 0 0)) (omega arith)

-- main: over the counts of types 1 and 2

-- what type 1 adds, where type 2 has count j
abbrev pub first_at : List ℕ → ℕ → ℕ → ℕ → ℕ → ℕ → ℕ → ℕ
first_at part half column first stride p j = over_one part half column first (p + j * stride)

-- what that inner sum asks
pub sum_first : (part ways : List ℕ) (half column first second stride p j : ℕ) → j ≤ second → SumIn part ways half column (p + (first + second * stride)) (over_two part half column first second stride p) →
    SumIn part ways half column (p + j * stride + first) (first_at part half column first stride p j)
unfolding over_two
sum_first part ways half column first second stride p j h g =
    record {
      chosen = g.chosen;
      reach = omega (arith, g.reach, mul-le-mul_right stride h);
      inside = g.inside;
      halves = g.halves;
      small = inner-small second j (first_at part half column first stride p) h g.small;
    }

module _ (part strides x : List ℕ) (half column p : ℕ) (one : get_or strides 0 0 ≡ 1) where
  pub over-two : over_by strides x 2 p (held_ways part half column) ≡ over_two part half column (get_or x 0 0) (get_or x 1 0) (get_or strides 1 0) p
  unfolding over_two
  over-two =
      over_by_lem part strides x half column 1 p
      ∙ sum_to-equal (get_or x 1 0) (ways_of (get_or x 1 0) (inner_at part strides x half column 1 p)) (ways_of (get_or x 1 0) (first_at part half column (get_or x 0 0) (get_or strides 1 0) p))
      (λ j h. ap (λ (a : ℕ). choose (get_or x 1 0) j * a) (over-one part strides x half column (p + j * get_or strides 1 0) one))

  pub reach-two : reach_by strides x 2 ≡ get_or x 0 0 + get_or x 1 0 * get_or strides 1 0
  unfolding reach_by
  reach-two = ap (λ (a : ℕ). a + get_or x 1 0 * get_or strides 1 0) (reach-one part strides x half column p one)

-- main: what the inner sum asks of the function that finds it

module _ (part ways strides x : List ℕ) (half column t p : ℕ) (g : SumIn part ways half column (p + reach_by strides x t) (over_by strides x t p (held_ways part half column))) where
  pub second-inner : t ≡ 2 → get_or strides 0 0 ≡ 1 → SumIn part ways half column (p + (get_or x 0 0 + get_or x 1 0 * get_or strides 1 0)) (over_two part half column (get_or x 0 0) (get_or x 1 0) (get_or strides 1 0) p)
  second-inner e one = rw (e, over-two part strides x half column p one, reach-two part strides x half column p one) at g

  pub types-inner : (r : ℕ) → t ≡ suc r → SumIn part ways half column (p + reach_by strides x (suc r)) (over_by strides x (suc r) p (held_ways part half column))
  types-inner r e = rw e at g

-- what that function finds is the inner sum
module _ (part strides x : List ℕ) (half column t p : ℕ) where
  pub second-found : (n m : ℕ) → t ≡ 2 → get_or strides 0 0 ≡ 1 → n ≡ get_or x 0 0 → m ≡ get_or x 1 0 → over_two part half column n m (get_or strides 1 0) p ≡ over_by strides x t p (held_ways part half column)
  second-found n m e one is also = rw (e, is, also) (sym (over-two part strides x half column p one))

  pub types-found : (r : ℕ) → t ≡ suc r → over_by strides x (suc r) p (held_ways part half column) ≡ over_by strides x t p (held_ways part half column)
  types-found r e = rw e

-- main: by a system's strides

module _ (ns strides x : List ℕ) where
  pub over-strides : (t p : ℕ) (s : ℕ → ℕ) → ((i : ℕ) → i < t → get_or strides i 0 ≡ stride_at ns i) → over_by strides x t p s ≡ over_columns ns x t p s
  unfolding over_by over_columns
  over-strides zero p s same = refl
  over-strides (suc t) p s same =
      sum_to-equal (get_or x t 0) (λ (j : ℕ). choose (get_or x t 0) j * over_by strides x t (p + j * get_or strides t 0) s) (λ (j : ℕ). choose (get_or x t 0) j * over_columns ns x t (p + j * stride_at ns t) s)
      (λ j h. ap (λ (a : ℕ). choose (get_or x t 0) j * a) (over-strides t (p + j * get_or strides t 0) s (λ i l. same i (omega arith)) ∙ ap (λ (d : ℕ). over_columns ns x t (p + j * d) s) (same t (omega arith))))

  pub reach-strides : (t : ℕ) → ((i : ℕ) → i < t → get_or strides i 0 ≡ stride_at ns i) → reach_by strides x t ≡ reach_of ns x t
  unfolding reach_by reach_of
  reach-strides zero same = refl
  reach-strides (suc t) same = rw (reach-strides t (λ i l. same i (omega arith)), same t (omega arith))

-- main: sums whose terms are equal at every column that they reach

pub over_equal : (ns x : List ℕ) (t p far : ℕ) (s r : ℕ → ℕ) → ((q : ℕ) → q ≤ far → s q ≡ r q) → p + reach_of ns x t ≤ far → over_columns ns x t p s ≡ over_columns ns x t p r
unfolding over_columns reach_of
over_equal ns x zero p far s r same h = same p (omega arith)
over_equal ns x (suc t) p far s r same h =
    sum_to-equal (get_or x t 0) (λ (j : ℕ). choose (get_or x t 0) j * over_columns ns x t (p + j * stride_at ns t) s) (λ (j : ℕ). choose (get_or x t 0) j * over_columns ns x t (p + j * stride_at ns t) r)
    (λ j l. ap (λ (a : ℕ). choose (get_or x t 0) j * a) (over_equal ns x t (p + j * stride_at ns t) far s r same (omega (arith, mul-le-mul_right (stride_at ns t) l))))

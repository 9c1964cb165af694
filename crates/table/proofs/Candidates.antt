-- Laws of the search from run to run: in a run every column is one to visit, and between two runs there is none. So the columns tried are counted by whole runs.
use Prim.Native.Nat.{ℕ, zero, suc, ◌+◌, ◌-◌, ◌≤◌, ◌<◌}
use mathlib.Core.Path.{◌≡◌, refl, sym, ap, subst, ◌∙◌}
use mathlib.Core.List.{List, [], ◌∷◌, ◌++◌}
use mathlib.Core.Bool.{Bool, true, false, not, cond, false≢true}
use mathlib.Core.Logic.{⊎_elim}
use native.Mathlib.Nat.{le_refl, add-zero, add-suc, mul-le-mul}
use native.Mathlib.Omega.{arith}
use borrow.Author.Tests.{ne_eqb, eq-eqb, eqb-true}
use lib.ListN.{length, get_or, take, drop, replicate}
use lib.Dec.{eqb}
use Rattle.std.proofs.Common.{Option, None, Some}
use Rattle.std.specs.Option.{is_some, unwrap_or}
use Rattle.system.specs.Limits.{columns_of, column_limit}
use Rattle.loads.specs.Load.{within, less}
use Rattle.loads.specs.Column.{column_of, load_of}
use Rattle.loads.proofs.Order.{Below, none, more, below→within, within→below, below-refl, below-trans, below_length, below_less}
use Rattle.loads.proofs.Column.{column_of-horner, column_of-lt, column_of-less, column_of-load_of, length-load_of, load_of-column_of-below, column_of-zero}
use Rattle.partition.specs.Cell.{lowest, no_column}
use Rattle.partition.proofs.Lists.{true-or-false}
use Rattle.partition.proofs.Lowest.{Found, lowest-same, lowest-none, lowest-found}
use Rattle.table.specs.Under.{candidate, visited_to, some_but, found_at, next_under, rises_at, jumps_from, NoneInFirst}
use Rattle.table.proofs.Between.{between-found, between_none, between-skip}
use Rattle.table.proofs.Stepping.{next_under-turn, rises_at-later, rises_at-le, next_under-below, none_between, column_from-next, column_of-next-gt}

-- what is found: a number, or none

pub some_but-number : (m q : ℕ) → unwrap_or (some_but m q) m ≡ q
some_but-number m q = go (eqb q m) refl
  where
    go : (b : Bool) → eqb q m ≡ b → unwrap_or (cond b None (Some q)) m ≡ q
    go true h = sym (eqb-true q m h)
    go false h = refl

pub some_but-some : (m q : ℕ) → is_some (some_but m q) ≡ not (eqb q m)
some_but-some m q = go (eqb q m)
  where
    go : (b : Bool) → is_some (cond {A = Option ℕ} b None (Some q)) ≡ not b
    go true = refl
    go false = refl

-- what is found is the number, and not the one that says none
pub found_some : {m p q : ℕ} → Some p ≡ some_but m q → (p ≡ q) × (p ≡ m → ⊥)
found_some {m} {p} {q} e =
    let same : p ≡ q = ap (λ (o : Option ℕ). unwrap_or o m) e ∙ some_but-number m q in
    let says : true ≡ not (eqb q m) = ap is_some e ∙ some_but-some m q in
    (same, λ z. false≢true (sym (says ∙ ap not (eq-eqb q m (sym same ∙ z)))))

pub is-found : {m p q : ℕ} → p ≡ q → (p ≡ m → ⊥) → Some p ≡ some_but m q
is-found {m} {p} {q} e h = sym (rw (ne_eqb p m h)) ∙ ap (some_but m) e

pub found_nothing : {m q : ℕ} → None ≡ some_but m q → q ≡ m
found_nothing {m} {q} e = sym (ap (λ (o : Option ℕ). unwrap_or o m) e ∙ some_but-number m q)

pub is-nothing : {m q : ℕ} → q ≡ m → None ≡ some_but m q
is-nothing {m} {q} e = sym (rw (eq-eqb q m e))

-- where a run starts: counts under those of the load x, none of the first type, and their column
pub record AtRun (ns x counts : List ℕ) (base : ℕ) : Type 0 where
  pub under : Below counts x
  pub first : get_or counts 0 0 ≡ 0
  pub column : column_of ns counts ≡ base

-- intermediate

pub zeros-below : (x : List ℕ) → Below (replicate (length x) 0) x
zeros-below [] = none
zeros-below (a ∷ x) = more {x = 0} {y = a} (omega arith) (zeros-below x)

-- a stretch of columns that are all to visit, and one of which none is
visited-run : (ns x : List ℕ) (a d : ℕ) → ((q : ℕ) → a ≤ q → q < a + d → within (load_of ns q) x ≡ true) → visited_to ns x (a + d) ≡ visited_to ns x a + d
unfolding visited_to
visited-run ns x a zero h = rw (add-zero a) (omega arith)
visited-run ns x a (suc d) h = rw (add-suc a d, h (a + d) (omega arith) (omega arith)) (omega (arith, visited-run ns x a d (λ q l u. h q l (omega arith))))

visited-skip : (ns x : List ℕ) (a d : ℕ) → ((q : ℕ) → a ≤ q → q < a + d → within (load_of ns q) x ≡ false) → visited_to ns x (a + d) ≡ visited_to ns x a
unfolding visited_to
visited-skip ns x a zero h = rw (add-zero a)
visited-skip ns x a (suc d) h = rw (add-suc a d, h (a + d) (omega arith) (omega arith)) (omega (arith, visited-skip ns x a d (λ q l u. h q l (omega arith))))

column_of-le : (ns : List ℕ) {x y : List ℕ} → Below x y → column_of ns x ≤ column_of ns y
column_of-le ns b = omega (arith, column_of-less ns b)

-- less is left where more of the first type is taken away
less-first : (t j : ℕ) (ts ds : List ℕ) → j ≤ t → Below (less (t ∷ ts) (t ∷ ds)) (less (t ∷ ts) (j ∷ ds))
unfolding less
less-first t j ts ds h = more {x = t - t} {y = t - j} (omega arith) (below-refl (less ts ds))

-- a smaller load has no more columns under it
pub columns_of-le : {x y : List ℕ} → Below x y → columns_of x ≤ columns_of y
unfolding columns_of
columns_of-le none = le_refl 1
columns_of-le (more {x = a} {y = b} {xs = x} {ys = y} h r) = mul-le-mul {n₁ = a + 1} {m₁ = columns_of x} {n₂ = b + 1} {m₂ = columns_of y} (omega arith) (columns_of-le r)

module _ (S : ℕ → Bool) (n t : ℕ) (ds ts ns : List ℕ) (hn : t ≤ n) (rd : Below ds ts) (rn : Below ts ns) where
  -- the ceilings, the load, the first column of the run, and the test of a column to visit
  abbrev N : List ℕ
  N = n ∷ ns

  abbrev X : List ℕ
  X = t ∷ ts

  abbrev base : ℕ
  base = column_of N (0 ∷ ds)

  abbrev C : ℕ → Bool
  C = candidate S N X

  -- the run's columns have the counts ds, and any number of the first type up to t
  in-run : (j : ℕ) → j ≤ t → column_of N (j ∷ ds) ≡ base + j
  in-run j h = column_of-horner n j ns ds ∙ rw (column_of-horner n 0 ns ds) (omega arith)

  run-below : (j : ℕ) → j ≤ t → Below (j ∷ ds) X
  run-below j h = more h rd

  in-run-under : (q : ℕ) → base ≤ q → q < base + t + 1 → within (load_of N q) X ≡ true
  in-run-under q l u =
      let j = q - base in
      let small : j ≤ t = omega arith in
      let same : column_of N (j ∷ ds) ≡ q = in-run j small ∙ omega arith in
      let load : load_of N q ≡ j ∷ ds = ap (load_of N) (sym same) ∙ load_of-column_of-below (below-trans (run-below j small) (more hn rn)) in
      rw load (below→within (run-below j small))

  in-run-same : (q : ℕ) → base ≤ q → q < base + t + 1 → C q ≡ S q
  unfolding candidate
  in-run-same q l u = rw (in-run-under q l u)

  run-same : lowest C no_column (base + t + 1 - base) base ≡ lowest S no_column (base + t + 1 - base) base
  run-same = lowest-same C S no_column (base + t + 1 - base) base (λ q l u. in-run-same q l (omega arith))

  run-le : base + t ≤ column_of N X
  run-le = omega (arith, in-run t (le_refl t), column_of-le N (run-below t (le_refl t)))

  run-lt : base + t < columns_of N
  run-lt = omega (arith, run-le, column_of-lt N X (below→within (more hn rn)))

  -- past the run, the next column to visit is that of the next counts
  past-run : (q : ℕ) → base + t < q → q < columns_of N → within (load_of N q) X ≡ true → (rises_at ts ds < length ts) × (column_of N (0 ∷ next_under ts ds) ≤ q)
  past-run q l u w =
      let under = within→below (load_of N q) X (length-load_of N q ∙ sym (below_length (more hn rn))) w in
      let here = column_of-load_of N q u in
      let r = none_between (run-below t (le_refl t)) under (more hn rn) (omega (arith, in-run t (le_refl t))) in
      (omega (arith, r.0, rises_at-later t t ts ds (le_refl t)), rw (next_under-turn t t ts ds (le_refl t), here) at r.1)

  not-visited : (q : ℕ) → within (load_of N q) X ≡ false → C q ≡ false
  unfolding candidate
  not-visited q h = rw h

  -- the column of the next counts, by the jump of the type that rises
  abbrev rise : ℕ
  rise = rises_at ts ds

  abbrev next : ℕ
  next = base + (t + get_or (jumps_from 1 0 N X) (1 + rise) 0)

  next-column : rise < length ts → column_of N (0 ∷ next_under ts ds) ≡ next
  next-column h =
      let b = le_refl t in
      let up : rises_at X (t ∷ ds) ≡ 1 + rise = rises_at-later t t ts ds b ∙ omega arith in
      let j = column_from-next 1 0 (run-below t b) (more hn rn) (omega arith) (rw up (omega arith)) in
      omega (arith, rw (next_under-turn t t ts ds b, up, in-run t b) at j)

  next_past : rise < length ts → base + t < next
  next_past h =
      let b = le_refl t in
      let up : rises_at X (t ∷ ds) < length X = rw (rises_at-later t t ts ds b) (omega arith) in
      let g = column_of-next-gt (run-below t b) (more hn rn) up in
      omega (arith, rw (next_under-turn t t ts ds b, in-run t b) at g, next-column h)

  next-inside : rise < length ts → next < columns_of N
  next-inside h =
      let b = column_of-lt N (0 ∷ next_under ts ds) (below→within (below-trans (more {x = 0} {y = t} (omega arith) (next_under-below rd)) (more hn rn))) in
      omega (arith, b, next-column h)

  -- the load of the difference from the column of the load: what the run's column leaves of it
  left_over : (j : ℕ) → j ≤ t → load_of N (column_of N X - (base + j)) ≡ less X (j ∷ ds)
  left_over j h =
      let b = run-below j h in
      let column : column_of N (less X (j ∷ ds)) ≡ column_of N X - (base + j) = omega (arith, column_of-less N b, in-run j h) in
      ap (load_of N) (sym column) ∙ load_of-column_of-below (below-trans (below_less b) (more hn rn))

  -- main: the smallest difference of the run is a part of each of the others

  smallest-part : (p : ℕ) → base ≤ p → p ≤ base + t → within (load_of N (column_of N X - (base + t))) (load_of N (column_of N X - p)) ≡ true
  smallest-part p l u =
      let j = p - base in
      let small : j ≤ t = omega arith in
      let same : base + j ≡ p = omega arith in
      subst (λ (k : ℕ). within (load_of N (column_of N X - (base + t))) (load_of N (column_of N X - k)) ≡ true) same
      (rw (left_over t (le_refl t), left_over j small) (below→within (less-first t j ts ds small)))

  -- main: a run that finds, the last run, and a run that goes on

  run-finds : (lowest S no_column (base + t + 1 - base) base ≡ no_column → ⊥) → lowest C no_column (columns_of N - base) base ≡ lowest S no_column (base + t + 1 - base) base
  run-finds h = between-found C no_column base (base + t + 1) (columns_of N) (omega arith) (omega (arith, run-lt)) (λ e. h (sym run-same ∙ e)) ∙ run-same

  run-passes : columns_of N ≤ no_column → lowest S no_column (base + t + 1 - base) base ≡ no_column →
      lowest C no_column (columns_of N - base) base ≡ lowest C no_column (columns_of N - (base + t + 1)) (base + t + 1)
  run-passes few e =
      between_none C no_column base (base + t + 1) (columns_of N) (omega arith) (omega (arith, run-lt)) (omega (arith, run-lt)) (run-same ∙ e)

  run_ends : rise ≡ length ts → lowest C no_column (columns_of N - (base + t + 1)) (base + t + 1) ≡ no_column
  run_ends h =
      lowest-none C no_column (columns_of N - (base + t + 1)) (base + t + 1)
      (λ q l u. ⊎_elim (λ w. absurd (omega (arith, (past-run q (omega arith) (omega arith) w).0))) (not-visited q) (true-or-false (within (load_of N q) X)))

  run-goes : rise < length ts → lowest C no_column (columns_of N - (base + t + 1)) (base + t + 1) ≡ lowest C no_column (columns_of N - next) next
  run-goes h =
      between-skip C no_column (base + t + 1) next (columns_of N) (omega (arith, next_past h)) (omega (arith, next-inside h))
      (λ q l u. ⊎_elim
      (λ w. absurd (omega (arith, (past-run q (omega arith) (omega (arith, next-inside h)) w).1, next-column h)))
      (not-visited q)
      (true-or-false (within (load_of N q) X)))

  -- main: how many columns to visit there are up to one of the run, up to the next run, and past the last

  visits-to : (p : ℕ) → base ≤ p → p ≤ base + t → visited_to N X (p + 1) ≡ visited_to N X base + (p + 1 - base)
  visits-to p l u =
      let parts : p + 1 ≡ base + (p + 1 - base) = omega arith in
      subst (λ (k : ℕ). visited_to N X k ≡ visited_to N X base + (p + 1 - base)) (sym parts)
      (visited-run N X base (p + 1 - base) (λ q from to. in-run-under q from (omega arith)))

  no-visit : (b e : ℕ) → b ≤ e → ((q : ℕ) → b ≤ q → q < e → within (load_of N q) X ≡ true → ⊥) → visited_to N X e ≡ visited_to N X b
  no-visit b e h out =
      let parts : e ≡ b + (e - b) = omega arith in
      subst (λ (k : ℕ). visited_to N X k ≡ visited_to N X b) (sym parts)
      (visited-skip N X b (e - b) (λ q l u. ⊎_elim (λ w. absurd (out q l (omega arith) w)) (λ w. w) (true-or-false (within (load_of N q) X))))

  visits-next : rise < length ts → visited_to N X next ≡ visited_to N X (base + t + 1)
  visits-next h =
      no-visit (base + t + 1) next (omega (arith, next_past h))
      (λ q l u w. omega (arith, (past-run q (omega arith) (omega (arith, next-inside h)) w).1, next-column h))

  visits-all : rise ≡ length ts → visited_to N X (columns_of N) ≡ visited_to N X (base + t + 1)
  visits-all h = no-visit (base + t + 1) (columns_of N) (omega (arith, run-lt)) (λ q l u w. omega (arith, (past-run q (omega arith) u w).0))

-- main: over the lists as the code has them

abbrev pub last_of : List ℕ → ℕ → ℕ
last_of x base = base + get_or x 0 0

abbrev pub stepped : List ℕ → List ℕ → List ℕ
stepped x counts = take 1 counts ++ next_under (drop 1 x) (drop 1 counts)

abbrev pub risen : List ℕ → List ℕ → ℕ
risen x counts = 1 + rises_at (drop 1 x) (drop 1 counts)

abbrev pub next_base : List ℕ → List ℕ → List ℕ → ℕ → ℕ
next_base ns x counts base = base + (get_or x 0 0 + get_or (jumps_from 1 0 ns x) (risen x counts) 0)

-- what the search knows where a run starts
pub record Run (test : ℕ → Bool) (ns x counts : List ℕ) (base : ℕ) : Type 0 where
  pub reach : last_of x base ≤ column_of ns x
  pub inside : last_of x base < columns_of ns
  pub smallest : (p : ℕ) → base ≤ p → p ≤ last_of x base → within (load_of ns (column_of ns x - last_of x base)) (load_of ns (column_of ns x - p)) ≡ true
  pub risen-le : risen x counts ≤ length x
  pub finds : (lowest test no_column (last_of x base + 1 - base) base ≡ no_column → ⊥) →
      lowest (candidate test ns x) no_column (columns_of ns - base) base ≡ lowest test no_column (last_of x base + 1 - base) base
  pub ends : lowest test no_column (last_of x base + 1 - base) base ≡ no_column → risen x counts ≡ length x →
      lowest (candidate test ns x) no_column (columns_of ns - base) base ≡ no_column
  pub goes : lowest test no_column (last_of x base + 1 - base) base ≡ no_column → risen x counts < length x →
      lowest (candidate test ns x) no_column (columns_of ns - base) base
      ≡ lowest (candidate test ns x) no_column (columns_of ns - next_base ns x counts base) (next_base ns x counts base)
  pub visits : (p : ℕ) → base ≤ p → p ≤ last_of x base → visited_to ns x (p + 1) ≡ visited_to ns x base + (p + 1 - base)
  pub visits_all : risen x counts ≡ length x → visited_to ns x (columns_of ns) ≡ visited_to ns x (last_of x base + 1)
  pub visits_next : risen x counts < length x → visited_to ns x (next_base ns x counts base) ≡ visited_to ns x (last_of x base + 1)
  pub rises : risen x counts < length x → base < next_base ns x counts base
  pub next : risen x counts < length x → AtRun ns x (stepped x counts) (next_base ns x counts base)

pub run_at : (test : ℕ → Bool) {ns x counts : List ℕ} (base : ℕ) → columns_of ns ≤ no_column → 0 < length x → Below x ns → AtRun ns x counts base →
    Run test ns x counts base
run_at test {ns} {x} {counts} base few some b r = go b r.under few some r.first r.column
  where
    go : {ns x counts : List ℕ} → Below x ns → Below counts x → columns_of ns ≤ no_column → 0 < length x → get_or counts 0 0 ≡ 0 → column_of ns counts ≡ base →
        Run test ns x counts base
    go none none few some e q = absurd (omega arith)
    go (more {x = t} {y = n} {xs = ts} {ys = ns} hn rn) (more {x = d} {xs = ds} hd rd) few some e q =
        subst (λ (z : ℕ). Run test (n ∷ ns) (t ∷ ts) (z ∷ ds) base) (sym e)
        (subst (Run test (n ∷ ns) (t ∷ ts) (0 ∷ ds)) (rw e at q)
        (record {
          reach = run-le test n t ds ts ns hn rd rn;
          inside = run-lt test n t ds ts ns hn rd rn;
          smallest = smallest-part test n t ds ts ns hn rd rn;
          risen-le = omega (arith, rises_at-le rd);
          finds = run-finds test n t ds ts ns hn rd rn;
          ends = λ f h. run-passes test n t ds ts ns hn rd rn few f ∙ run_ends test n t ds ts ns hn rd rn (omega arith);
          goes = λ f h. run-passes test n t ds ts ns hn rd rn few f ∙ run-goes test n t ds ts ns hn rd rn (omega arith);
          visits = visits-to test n t ds ts ns hn rd rn;
          visits_all = λ h. visits-all test n t ds ts ns hn rd rn (omega arith);
          visits_next = λ h. visits-next test n t ds ts ns hn rd rn (omega arith);
          rises = λ h. omega (arith, next_past test n t ds ts ns hn rd rn (omega arith));
          next = λ h. record {
            under = more {x = 0} {y = t} (omega arith) (next_under-below rd);
            first = refl;
            column = next-column test n t ds ts ns hn rd rn (omega arith);
          };
        }))

-- what does not change while the search goes on, of the ceilings ns: the code no longer has them
pub record Given (test : ℕ → Bool) (ns x jumps : List ℕ) : Type 0 where
  pub under : within x ns ≡ true
  pub few : columns_of ns ≤ column_limit
  pub six : length ns ≡ 6
  pub sized : length x ≡ 6
  pub jumps_are : jumps ≡ jumps_from 1 0 ns x

-- the search has come to a run: what is left to search has the answer
pub record Searching (test : ℕ → Bool) (ns x counts : List ℕ) (base : ℕ) : Type 0 where
  pub run : AtRun ns x counts base
  pub rest : lowest (candidate test ns x) no_column (columns_of ns - base) base ≡ lowest (candidate test ns x) no_column (columns_of ns) 0

module _ {test : ℕ → Bool} {ns x jumps : List ℕ} (given : Given test ns x jumps) where
  loads-below : Below x ns
  loads-below = within→below x ns (given.sized ∙ sym given.six) given.under

  pub searching-start : Searching test ns x (replicate 6 0) 0
  searching-start = record {
    run = record { under = subst (λ (k : ℕ). Below (replicate k 0) x) given.sized (zeros-below x); first = refl; column = subst (λ (k : ℕ). column_of ns (replicate k 0) ≡ 0) given.six (column_of-zero ns) };
    rest = ap (λ (k : ℕ). lowest (candidate test ns x) no_column k 0) (omega arith);
  }

  pub searching-run : {counts : List ℕ} {base : ℕ} → Searching test ns x counts base → Run test ns x counts base
  searching-run {counts} {base} s =
      run_at test base (omega (arith, given.few)) (omega (arith, given.sized)) loads-below s.run

  pub searching-next : {counts : List ℕ} {base : ℕ} → Searching test ns x counts base →
      lowest test no_column (last_of x base + 1 - base) base ≡ no_column → risen x counts < 6 →
      Searching test ns x (stepped x counts) (next_base ns x counts base)
  searching-next {counts} {base} s f h =
      let r = searching-run s in
      let l : risen x counts < length x = omega (arith, given.sized) in
      record { run = r.next l; rest = sym (r.goes f l) ∙ s.rest }

  -- main: the columns tried, where a run finds, where the last one does not, and from run to run

  abbrev answer : ℕ
  answer = lowest (candidate test ns x) no_column (columns_of ns) 0

  abbrev in_run : ℕ → ℕ
  in_run base = lowest test no_column (last_of x base + 1 - base) base

  found-at : (p : ℕ) → (p ≡ no_column → ⊥) → found_at ns x p ≡ record { column = Some p; tried = visited_to ns x (p + 1) }
  found-at p h = rw (ne_eqb p no_column h)

  pub run-found : {counts : List ℕ} {base : ℕ} → Searching test ns x counts base → (p : ℕ) → p ≡ in_run base → (p ≡ no_column → ⊥) →
      (base ≤ p) × (p ≤ last_of x base) × (record { column = Some p; tried = visited_to ns x base + (p + 1 - base) } ≡ found_at ns x answer)
  run-found {counts = counts} {base = base} s p e h = ⊎_elim (λ z. absurd (h (e ∙ z))) inside (lowest-found test no_column (last_of x base + 1 - base) base)
    where
      r : Run test ns x counts base
      r = searching-run s

      is-answer : p ≡ answer
      is-answer = e ∙ sym (r.finds (λ z. h (e ∙ z))) ∙ s.rest

      inside : Found test no_column (last_of x base + 1 - base) base (in_run base) →
          (base ≤ p) × (p ≤ last_of x base) × (record { column = Some p; tried = visited_to ns x base + (p + 1 - base) } ≡ found_at ns x answer)
      inside f =
          let low : base ≤ p = omega (arith, f.from) in
          let high : p ≤ last_of x base = omega (arith, f.to) in
          (low, high, ap (λ (k : ℕ). record { column = Some p; tried = k }) (sym (r.visits p low high)) ∙ sym (found-at p h) ∙ ap (found_at ns x) is-answer)

  -- the first run, before which nothing is tried
  pub run-first : (p : ℕ) → p ≡ lowest test no_column (get_or x 0 0 + 1 - 0) 0 → (p ≡ no_column → ⊥) →
      record { column = Some p; tried = p + 1 } ≡ found_at ns x (lowest (candidate test ns x) no_column (columns_of ns) 0)
  unfolding visited_to
  run-first p e h =
      let one : get_or x 0 0 + 1 - 0 ≡ last_of x 0 + 1 - 0 = omega arith in
      let same : p + 1 ≡ 0 + (p + 1 - 0) = omega arith in
      ap (λ (k : ℕ). record { column = Some p; tried = k }) same
      ∙ (run-found searching-start p (e ∙ ap (λ (k : ℕ). lowest test no_column k 0) one) h).2

-- the search has passed a run in which it found nothing, and has tried all columns to visit up to its end
pub record Passed (test : ℕ → Bool) (ns x counts : List ℕ) (base tried : ℕ) : Type 0 where
  pub searching : Searching test ns x counts base
  pub nothing : lowest test no_column (last_of x base + 1 - base) base ≡ no_column
  pub counted : tried ≡ visited_to ns x (last_of x base + 1)

module _ {test : ℕ → Bool} {ns x jumps : List ℕ} (given : Given test ns x jumps) where
  -- one run more
  pub passed_on : {counts : List ℕ} {base tried : ℕ} → Searching test ns x counts base → tried ≡ visited_to ns x base →
      lowest test no_column (last_of x base + 1 - base) base ≡ no_column → Passed test ns x counts base (tried + (get_or x 0 0 + 1))
  passed_on {base = base} s e f =
      let r = searching-run given s in
      record { searching = s; nothing = f; counted = omega (arith, e, r.visits (last_of x base) (omega arith) (omega arith)) }

  pub passed_start : NoneInFirst test x → Passed test ns x (replicate 6 0) 0 (get_or x 0 0 + 1)
  unfolding visited_to
  passed_start f =
      let same : 0 + (get_or x 0 0 + 1) ≡ get_or x 0 0 + 1 = omega arith in
      let one : last_of x 0 + 1 - 0 ≡ get_or x 0 0 + 1 - 0 = omega arith in
      subst (Passed test ns x (replicate 6 0) 0) same
      (passed_on {tried = 0} (searching-start given) refl (ap (λ (k : ℕ). lowest test no_column k 0) one ∙ f))

  module _ {counts : List ℕ} {base tried : ℕ} (p : Passed test ns x counts base tried) where
    run : Run test ns x counts base
    run = searching-run given p.searching

    pub passed-last : risen x counts ≡ 6 → record { column = None; tried = tried } ≡ found_at ns x (lowest (candidate test ns x) no_column (columns_of ns) 0)
    passed-last h =
        let all : risen x counts ≡ length x = omega (arith, given.sized) in
        ap (λ (k : ℕ). record { column = None; tried = k }) (p.counted ∙ sym (run.visits_all all)) ∙ ap (found_at ns x) (sym (run.ends p.nothing all) ∙ p.searching.rest)

    pub passed-next : risen x counts < 6 → Searching test ns x (stepped x counts) (next_base ns x counts base) × (tried ≡ visited_to ns x (next_base ns x counts base))
    passed-next h =
        let more : risen x counts < length x = omega (arith, given.sized) in
        (searching-next given p.searching p.nothing h, p.counted ∙ sym (run.visits_next more))

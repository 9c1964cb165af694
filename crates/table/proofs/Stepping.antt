-- Laws of the step to the next load under the tops: its column, that it is under them, and that no load under them lies between.
use Prim.Native.Nat.{ℕ, zero, suc, ◌+◌, ◌-◌, ◌*◌, ◌/◌, ◌%◌, ◌≤◌, ◌<◌}
use mathlib.Core.Path.{◌≡◌, refl, sym, ◌∙◌}
use mathlib.Core.List.{List, [], ◌∷◌, ◌++◌, append-nil}
use mathlib.Core.Logic.{◌⊎◌, inl, inr, ⊎_elim}
use native.Mathlib.Nat.{add-mul, mul-add, mul-one, mul-suc, mul_comm, mul_assoc, mul-le-mul_right, le-mul_of_pos_right, mul-le-mul_left, le_of_suc-le-suc, mod-lt, mod-add-div}
use native.Mathlib.Numerals.{add-one}
use native.Mathlib.Omega.{arith}
use borrow.Author.Tests.{lt-ltb, le-ltb, ltb-true, ltb-false}
use lib.ListN.{length, get_or, set, take, drop, drop_of_length-le}
use lib.Seq.{drop-cons, set_split, drop-set-lt, take-suc-set, append_snoc, take_all}
use lib.Dec.{ltb}
use Rattle.system.specs.Limits.{columns_of}
use Rattle.system.proofs.Laws.{columns_of-pos}
use Rattle.loads.specs.Column.{column_from, column_of, load_of}
use Rattle.loads.proofs.Order.{Below, none, more}
use Rattle.loads.proofs.Column.{column_of-horner, load_of-digit}
use Rattle.partition.proofs.Lists.{true-or-false}
use Rattle.table.specs.Under.{next_under, rises_at, jumps_from}

-- intermediate: the two cases of a step

le-or-lt : (a b : ℕ) → (a ≤ b) ⊎ (b < a)
le-or-lt a b = ⊎_elim (λ t. inr (ltb-true b a t)) (λ t. inl (ltb-false b a t)) (true-or-false (ltb b a))

module _ (t x : ℕ) (ts xs : List ℕ) where
  pub next_under-rise : x < t → next_under (t ∷ ts) (x ∷ xs) ≡ (x + 1) ∷ xs
  unfolding next_under
  next_under-rise h = rw (lt-ltb x t h)

  pub next_under-turn : t ≤ x → next_under (t ∷ ts) (x ∷ xs) ≡ 0 ∷ next_under ts xs
  unfolding next_under
  next_under-turn h = rw (le-ltb x t h)

  pub rises_at-here : x < t → rises_at (t ∷ ts) (x ∷ xs) ≡ 0
  unfolding rises_at
  rises_at-here h = rw (lt-ltb x t h)

  pub rises_at-later : t ≤ x → rises_at (t ∷ ts) (x ∷ xs) ≡ suc (rises_at ts xs)
  unfolding rises_at
  rises_at-later h = rw (le-ltb x t h)

-- intermediate: the step at index i of a list that a loop goes over

module _ (ts xs : List ℕ) (i : ℕ) (ht : i < length ts) (hx : i < length xs) where
  pub step-rise : get_or xs i 0 < get_or ts i 0 →
      (set xs i (get_or xs i 0 + 1) ≡ take i xs ++ next_under (drop i ts) (drop i xs)) × (rises_at (drop i ts) (drop i xs) ≡ 0)
  step-rise h = (
    rw (drop-cons ts i 0, drop-cons xs i 0, next_under-rise (get_or ts i 0) (get_or xs i 0) (drop (suc i) ts) (drop (suc i) xs) h)
        (set_split xs i (get_or xs i 0 + 1) hx),
    rw (drop-cons ts i 0, drop-cons xs i 0) (rises_at-here (get_or ts i 0) (get_or xs i 0) (drop (suc i) ts) (drop (suc i) xs) h),
  )

  pub step-turn : get_or ts i 0 ≤ get_or xs i 0 →
      (take (i + 1) (set xs i 0) ++ next_under (drop (i + 1) ts) (drop (i + 1) (set xs i 0)) ≡ take i xs ++ next_under (drop i ts) (drop i xs))
      × (suc (rises_at (drop (i + 1) ts) (drop (i + 1) (set xs i 0))) ≡ rises_at (drop i ts) (drop i xs))
  step-turn h = (
    rw (
      add-one i,
      drop-set-lt (suc i) xs i 0 (omega arith),
      take-suc-set xs i 0,
      drop-cons ts i 0,
      drop-cons xs i 0,
      next_under-turn (get_or ts i 0) (get_or xs i 0) (drop (suc i) ts) (drop (suc i) xs) h,
    )
        (append_snoc (take i xs) 0 (next_under (drop (suc i) ts) (drop (suc i) xs))),
    rw (add-one i, drop-set-lt (suc i) xs i 0 (omega arith), drop-cons ts i 0, drop-cons xs i 0)
        (sym (rises_at-later (get_or ts i 0) (get_or xs i 0) (drop (suc i) ts) (drop (suc i) xs) h)),
  )

pub step_end : (ts xs : List ℕ) (i : ℕ) → length ts ≤ i → length xs ≤ i →
    (take i xs ++ next_under (drop i ts) (drop i xs) ≡ xs) × (rises_at (drop i ts) (drop i xs) ≡ 0)
unfolding next_under rises_at
step_end ts xs i ht hx = (rw (drop_of_length-le ts {i = i}) (append-nil (take i xs) ∙ take_all i xs hx), rw (drop_of_length-le ts {i = i}))

pub jumps-turn : (s p : ℕ) (ns ts : List ℕ) (i : ℕ) → i < length ns → i < length ts →
    jumps_from s p (drop i ns) (drop i ts) ≡ (s - p) ∷ jumps_from (s * (get_or ns i 0 + 1)) (p + get_or ts i 0 * s) (drop (i + 1) ns) (drop (i + 1) ts)
unfolding jumps_from
jumps-turn s p ns ts i hn ht = rw (add-one i, drop-cons ns i 0, drop-cons ts i 0)

pub jumps-end : (s p : ℕ) (ns ts : List ℕ) (i : ℕ) → length ns ≤ i → jumps_from s p (drop i ns) ts ≡ []
unfolding jumps_from
jumps-end s p ns ts i h = rw (drop_of_length-le ns {i = i})

below-get_or : {xs ts : List ℕ} (i : ℕ) → Below xs ts → get_or xs i 0 ≤ get_or ts i 0
below-get_or i none = omega arith
below-get_or zero (more h r) = h
below-get_or (suc i) (more h r) = below-get_or i r

-- the next stride, and what the counts up to it take at their tops
module _ (ns ts : List ℕ) (i s p : ℕ) (h : i < length ns) (e : s * columns_of (drop i ns) ≡ columns_of ns) where
  pub next-stride : s * (get_or ns i 0 + 1) * columns_of (drop (i + 1) ns) ≡ columns_of ns
  unfolding columns_of
  next-stride = rw (mul_assoc, add-one i) (rw (drop-cons ns i 0) at e)

  pub next-stride-le : s * (get_or ns i 0 + 1) ≤ columns_of ns
  next-stride-le =
      omega (arith, next-stride, le-mul_of_pos_right (s * (get_or ns i 0 + 1)) (columns_of-pos (drop (i + 1) ns)))

  pub next-passed : Below ts ns → p < s → p + get_or ts i 0 * s < s * (get_or ns i 0 + 1)
  next-passed b l = omega (arith, mul-le-mul_right s (below-get_or i b), mul_comm s (get_or ns i 0), mul-add s (get_or ns i 0) 1, mul-one s)

-- main: the next load is under the tops

pub next_under-below : {xs ts : List ℕ} → Below xs ts → Below (next_under ts xs) ts
next_under-below none = unfold next_under in none
next_under-below (more {x = x} {y = t} {xs = xs} {ys = ts} h r) =
    ⊎_elim
    (λ (l : t ≤ x). rw (next_under-turn t x ts xs l) (more {x = 0} {y = t} (omega arith) (next_under-below r)))
    (λ (l : x < t). rw (next_under-rise t x ts xs l) (more {x = x + 1} {y = t} (omega arith) r))
    (le-or-lt t x)

pub rises_at-le : {xs ts : List ℕ} → Below xs ts → rises_at ts xs ≤ length ts
rises_at-le none = unfold rises_at in omega arith
rises_at-le (more {x = x} {y = t} {xs = xs} {ys = ts} h r) =
    ⊎_elim
    (λ (l : t ≤ x). rw (rises_at-later t x ts xs l) (omega (arith, rises_at-le r)))
    (λ (l : x < t). rw (rises_at-here t x ts xs l) (omega arith))
    (le-or-lt t x)

-- main: no load under the tops lies between

smaller-rest : (n d e D E : ℕ) → e ≤ d → d + (n + 1) * D < e + (n + 1) * E → D < E
smaller-rest n d e D E h l = ⊎_elim (λ (b : E ≤ D). absurd (omega (arith, mul-le-mul_left (n + 1) b))) (λ (b : D < E). b) (le-or-lt E D)

pub none_between : {ds es ts ns : List ℕ} → Below ds ts → Below es ts → Below ts ns → column_of ns ds < column_of ns es
    → (rises_at ts ds < length ts) × (column_of ns (next_under ts ds) ≤ column_of ns es)
none_between none none none h = absurd (omega arith)
none_between (more {x = d} {y = t} {xs = ds} {ys = ts} hd rd) (more {x = e} {xs = es} he re) (more {y = n} {ys = ns} hn rn) h =
    let l : d + (n + 1) * column_of ns ds < e + (n + 1) * column_of ns es = rw (column_of-horner n d ns ds, column_of-horner n e ns es) at h in
    ⊎_elim
    (λ (b : t ≤ d).
    let rest = none_between rd re rn (smaller-rest n d e (column_of ns ds) (column_of ns es) (omega arith) l) in (
      rw (rises_at-later t d ts ds b) (omega (arith, rest.0)),
      rw (next_under-turn t d ts ds b, column_of-horner n 0 ns (next_under ts ds), column_of-horner n e ns es)
          (omega (arith, mul-le-mul_left (n + 1) rest.1)),
    ))
    (λ (b : d < t). (
      rw (rises_at-here t d ts ds b) (omega arith),
      rw (next_under-rise t d ts ds b, column_of-horner n (d + 1) ns ds, column_of-horner n e ns es) (omega arith),
    ))
    (le-or-lt t d)

-- main: the column of the next load

pub column_of-next-gt : {ds ts ns : List ℕ} → Below ds ts → Below ts ns → rises_at ts ds < length ts → column_of ns ds < column_of ns (next_under ts ds)
column_of-next-gt none none h = absurd (omega arith)
column_of-next-gt (more {x = d} {y = t} {xs = ds} {ys = ts} hd rd) (more {y = n} {ys = ns} hn rn) h =
    ⊎_elim
    (λ (b : t ≤ d).
    let inner : rises_at ts ds < length ts = le_of_suc-le-suc (rw (rises_at-later t d ts ds b) at h) in
    let up = mul-le-mul_left (n + 1) (column_of-next-gt rd rn inner) in
    let more-rest : (n + 1) * suc (column_of ns ds) ≡ (n + 1) * column_of ns ds + (n + 1) = mul-suc (n + 1) (column_of ns ds) in
    rw (next_under-turn t d ts ds b, column_of-horner n 0 ns (next_under ts ds), column_of-horner n d ns ds) (omega arith))
    (λ (b : d < t). rw (next_under-rise t d ts ds b, column_of-horner n (d + 1) ns ds, column_of-horner n d ns ds) (omega arith))
    (le-or-lt t d)

pub column_from-next : (s p : ℕ) {ds ts ns : List ℕ} → Below ds ts → Below ts ns → p < s → rises_at ts ds < length ts
    → column_from s ns (next_under ts ds) ≡ column_from s ns ds + (p + get_or (jumps_from s p ns ts) (rises_at ts ds) 0)
unfolding column_from jumps_from
column_from-next s p none none l h = absurd (omega arith)
column_from-next s p (more {x = d} {y = t} {xs = ds} {ys = ts} hd rd) (more {y = n} {ys = ns} hn rn) l h =
    ⊎_elim
    (λ (b : t ≤ d).
    let e : d ≡ t = omega arith in
    let next : p + t * s < s * (n + 1) = omega (arith, mul-le-mul_left s hn, mul-add s n 1, mul-one s) in
    let inner : rises_at ts ds < length ts = le_of_suc-le-suc (rw (rises_at-later t d ts ds b) at h) in
    rw (next_under-turn t d ts ds b, rises_at-later t d ts ds b, column_from-next (s * (n + 1)) (p + t * s) rd rn next inner, e)
    (omega arith))
    (λ (b : d < t). rw (next_under-rise t d ts ds b, rises_at-here t d ts ds b) (omega (arith, add-mul d 1 s)))
    (le-or-lt t d)

-- main: with the ceilings as tops it is the load of the next column

pub next_under-load_of : (ns : List ℕ) (c : ℕ) → next_under ns (load_of ns c) ≡ load_of ns (c + 1)
next_under-load_of [] c = unfold next_under load_of in refl
next_under-load_of (n ∷ ns) c = ⊎_elim (turn (next_under-load_of ns (c / (n + 1)))) rise (le-or-lt n r)
  where
    r : ℕ
    r = c % (n + 1)

    q : ℕ
    q = c / (n + 1)

    whole : r + (n + 1) * q ≡ c
    whole = mod-add-div c (n + 1)

    small : r < n + 1
    small = mod-lt c (omega arith)

    here : load_of (n ∷ ns) c ≡ r ∷ load_of ns q
    here = unfold load_of in refl

    turn : next_under ns (load_of ns q) ≡ load_of ns (q + 1) → n ≤ r → next_under (n ∷ ns) (load_of (n ∷ ns) c) ≡ load_of (n ∷ ns) (c + 1)
    turn later h =
        let next : c + 1 ≡ 0 + (n + 1) * (q + 1) = omega (arith, whole, small, mul-add (n + 1) q 1) in
        rw (here, next_under-turn n r ns (load_of ns q) h, later, next, load_of-digit n 0 (q + 1) ns (omega arith))

    rise : r < n → next_under (n ∷ ns) (load_of (n ∷ ns) c) ≡ load_of (n ∷ ns) (c + 1)
    rise h =
        let next : c + 1 ≡ (r + 1) + (n + 1) * q = omega (arith, whole, small) in
        rw (here, next_under-rise n r ns (load_of ns q) h, next, load_of-digit n (r + 1) q ns (omega arith))

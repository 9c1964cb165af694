-- Laws of the loops that fill a list entry by entry, or multiply: the triangle of ways, the strides, the first row, the instances, the power.
use Rattle.std.proofs.Common.{Some, None}
use Prim.Native.Nat.{ℕ, zero, suc, ◌+◌, ◌-◌, ◌*◌, ◌/◌, ◌%◌, ◌^◌, ◌≤◌, ◌<◌}
use mathlib.Core.Path.{◌≡◌, refl, sym, ap, ◌∙◌}
use mathlib.Core.List.{List, [], ◌∷◌, map}
use mathlib.Core.Bool.{Bool, true, false, cond}
use native.Mathlib.Nat.{le_trans, mul_comm, pow-suc, pow-le-pow_right, div-lt_iff_lt-mul}
use native.Mathlib.Numerals.{add-one}
use native.Mathlib.Omega.{arith}
use borrow.Author.Tests.{eqb-true, eqb-false, le-leb, lt-leb}
use lib.ListN.{length, get_or, set, drop, replicate, length-set, length-replicate, get_or-replicate, drop_of_length-le, get_or-map}
use lib.Seq.{drop-cons, get_or-set_same, get_or-set_other, drop-set-lt}
use lib.Dec.{eqb, leb}
use Rattle.system.specs.declared.TaskType.{TaskType}
use Rattle.system.specs.Values.{no_task}
use Rattle.loads.proofs.Steps.{ceilings}
use Rattle.partition.specs.Listing.{instances}
use Rattle.counting.specs.Counts.{greatest}
use Rattle.counting.specs.Tally.{choose, stride_at}
use Rattle.counting.specs.Walk.{power_of}
use Rattle.counting.proofs.Pascal.{choose-past, choose-le-pow, entry-sum, entry-digits}

-- main: a list filled up to k, with one entry more

pub set-turn : (P : ℕ → ℕ) (l : List ℕ) (k v : ℕ) → k < length l → v ≡ P k → ((i : ℕ) → i < k → get_or l i 0 ≡ P i) → (i : ℕ) → i < k + 1 → get_or (set l k v) i 0 ≡ P i
set-turn P l k v h e done i below = go (eqb i k) refl
  where
    go : (b : Bool) → eqb i k ≡ b → get_or (set l k v) i 0 ≡ P i
    go true p = let is = eqb-true i k p in rw is (get_or-set_same l k v 0 h ∙ e)
    go false p = let other = eqb-false i k p in get_or-set_other l k i v 0 other ∙ done i (omega arith)

-- the same in both halves
module _ (P : ℕ → ℕ) (l : List ℕ) (half k v : ℕ) (h : k < half) (long : half + half ≤ length l) (e : v ≡ P k) where
  abbrev pub set_both : List ℕ
  set_both = set (set l k v) (half + k) v

  pub length_both : length set_both ≡ length l
  length_both = length-set (set l k v) (half + k) v ∙ length-set l k v

  pub first-turn : ((i : ℕ) → i < k → get_or l i 0 ≡ P i) → (i : ℕ) → i < k + 1 → get_or set_both i 0 ≡ P i
  first-turn done i below =
      let apart : i ≡ half + k → ⊥ = λ is. omega arith in
      get_or-set_other (set l k v) (half + k) i v 0 apart ∙ set-turn P l k v (omega arith) e done i below

  pub second-turn : ((i : ℕ) → i < k → get_or l (half + i) 0 ≡ P i) → (i : ℕ) → i < k + 1 → get_or set_both (half + i) 0 ≡ P i
  second-turn done i below = go (eqb i k) refl
    where
      go : (b : Bool) → eqb i k ≡ b → get_or set_both (half + i) 0 ≡ P i
      go true p =
          let is = eqb-true i k p in
          let room : half + k < length (set l k v) = rw (length-set l k v) (omega arith) in
          rw is (get_or-set_same (set l k v) (half + k) v 0 room ∙ e)
      go false p =
          let other = eqb-false i k p in
          let past : half + i ≡ half + k → ⊥ = λ is. other (omega arith) in
          let before : half + i ≡ k → ⊥ = λ is. omega arith in
          get_or-set_other (set l k v) (half + k) (half + i) v 0 past ∙ get_or-set_other l k (half + i) v 0 before ∙ done i (omega arith)

  pub past-both : drop (half + half) set_both ≡ drop (half + half) l
  past-both = drop-set-lt (half + half) (set l k v) (half + k) v (omega arith) ∙ drop-set-lt (half + half) l k v (omega arith)

-- main: the triangle of ways, entry i

abbrev pub ways_at : ℕ → ℕ
ways_at i = choose (i / 64) (i % 64)

small_row : (k : ℕ) → k < 64 → ways_at k ≡ choose 0 k
small_row k h = ap ways_at e ∙ entry-digits 0 k h
  where
    e : k ≡ k + 64 * 0
    e = omega arith

abbrev zeros : ℕ → List ℕ
zeros n = replicate n 0

-- row 0 and the first entry of row 1
pub triangle-starts : (n : ℕ) → 64 < n → (k : ℕ) → k < 65 → get_or (set (set (replicate n 0) 0 1) 64 1) k 0 ≡ ways_at k
unfolding choose
triangle-starts n h k below = go (eqb k 64) (eqb k 0) refl refl
  where
    room : 64 < length (set (zeros n) 0 1)
    room = rw (length-set (zeros n) 0 1, length-replicate {A = ℕ} n 0) h

    go : (b d : Bool) → eqb k 64 ≡ b → eqb k 0 ≡ d → get_or (set (set (zeros n) 0 1) 64 1) k 0 ≡ ways_at k
    go true d p q = rw (eqb-true k 64 p) (get_or-set_same (set (zeros n) 0 1) 64 1 0 room)
    go false true p q =
        let is = eqb-true k 0 q in
        rw is (get_or-set_other (set (zeros n) 0 1) 64 0 1 0 (λ no. omega arith) ∙ get_or-set_same (zeros n) 0 1 0 (rw (length-replicate {A = ℕ} n 0) (omega arith)))
    go false false p q =
        let other = eqb-false k 64 p in
        let some = eqb-false k 0 q in
        let low : k < 64 = omega arith in
        let one : 0 < k = omega arith in
        get_or-set_other (set (zeros n) 0 1) 64 k 1 0 other
        ∙ get_or-set_other (zeros n) 0 k 1 0 some
        ∙ get_or-replicate n k 0 0 (omega arith)
        ∙ sym (small_row k low ∙ choose-past 0 k one)

module _ (table : List ℕ) (i : ℕ) (some : 65 ≤ i) (inside : i < 4096) (done : (k : ℕ) → k < i → get_or table k 0 ≡ ways_at k) where
  pub triangle-next : get_or table (i - 64) 0 + get_or table (i - 64 - 1) 0 ≡ ways_at i
  triangle-next =
      let e : i - 64 - 1 ≡ i - 65 = omega arith in
      rw (e, done (i - 64) (omega arith), done (i - 65) (omega arith)) (sym (entry-sum i some inside))

  pub triangle-small : ways_at i ≤ 2 ^ 63
  triangle-small =
      let row : i / 64 < 64 = (div-lt_iff_lt-mul {k = 64} (omega arith)).1 inside in
      le_trans (choose-le-pow (i / 64) (i % 64)) (pow-le-pow_right {n = 2} (omega arith) {i = i / 64} {j = 63} (omega arith))

pub triangle-entry : (n x : ℕ) → x < 64 → ways_at (64 * n + x) ≡ choose n x
triangle-entry n x h = ap ways_at e ∙ entry-digits n x h
  where
    e : 64 * n + x ≡ x + 64 * n
    e = omega arith

-- main: the instances of the types

module _ (ts : List TaskType) (t : ℕ) where
  pub ceiling-at : get_or (ceilings ts) t 0 ≡ (get_or ts t no_task).ceiling
  ceiling-at = get_or-map (λ (task : TaskType). task.ceiling) ts t no_task

  pub instances-turn : t < length ts → instances (ceilings (drop t ts)) ≡ (get_or ts t no_task).ceiling + instances (ceilings (drop (t + 1) ts))
  unfolding instances
  instances-turn h = rw (add-one t, drop-cons ts t no_task)

  pub instances-end : length ts ≤ t → instances (ceilings (drop t ts)) ≡ 0
  unfolding instances
  instances-end h = rw (drop_of_length-le ts {i = t})

-- main: a power

module _ (base times : ℕ) where
  pub past-said : None ≡ power_of base times → leb (base ^ times) greatest ≡ false
  past-said = go (leb (base ^ times) greatest)
    where
      go : (b : Bool) → None ≡ cond b (Some (base ^ times)) None → b ≡ false
      go true e = let z : ◌≡◌ {A = ℕ} 0 1 = cc in absurd (omega arith)
      go false e = refl

  pub within-said : (n : ℕ) → Some n ≡ power_of base times → (leb (base ^ times) greatest ≡ true) × (n ≡ base ^ times)
  within-said n = go (leb (base ^ times) greatest)
    where
      go : (b : Bool) → Some n ≡ cond b (Some (base ^ times)) None → (b ≡ true) × (n ≡ base ^ times)
      go true e = (refl, cc)
      go false e = let z : ◌≡◌ {A = ℕ} 0 1 = cc in absurd (omega arith)

  pub power-within : base ^ times ≤ greatest → Some (base ^ times) ≡ power_of base times
  power-within h = rw (le-leb (base ^ times) greatest h)

  pub power-past : (k : ℕ) → 1 ≤ base → k < times → greatest < base ^ k * base → None ≡ power_of base times
  power-past k some h over =
      let up : base ^ suc k ≤ base ^ times = pow-le-pow_right {n = base} some {i = suc k} {j = times} h in
      rw (lt-leb (base ^ times) greatest (omega (arith, pow-suc base k)))

-- Each test of the code says its cause's fact in plain words, of a system within the limits and a load of six counts within its ceilings.
use Rattle.std.proofs.Common.{Option, None, Some}
use Prim.Native.Nat.{ℕ, zero, suc, ◌+◌, ◌-◌, ◌*◌, ◌≤◌, ◌<◌}
use mathlib.Core.Path.{◌≡◌, refl, sym, ap, subst, ◌∙◌}
use mathlib.Core.List.{List, [], ◌∷◌}
use mathlib.Core.Bool.{Bool, true, false, not, cond, false≢true}
use mathlib.Core.Logic.{◌↔◌, inl, inr, ⊎_elim}
use native.Mathlib.Nat.{le_refl, lt_of_not-le, le_of_suc-le-suc}
use native.Mathlib.Omega.{arith}
use borrow.Author.Tests.{leb-true, leb-false, le-leb, ltb-true, lt-ltb, eqb-true, eqb-false, eq-eqb, not-true}
use lib.ListN.{length, get_or}
use lib.Dec.{leb, eqb}
use Rattle.system.specs.declared.TaskType.{TaskType}
use Rattle.system.specs.declared.System.{System}
use Rattle.system.specs.Values.{no_task, ceilings_of}
use Rattle.system.specs.Limits.{type_limit}
use Rattle.system.proofs.Laws.{Limits, some-replica}
use Rattle.loads.specs.Load.{time_of, memory_of, fits_engine, holds_none, empty_load, within, one_more}
use Rattle.loads.proofs.Order.{and_parts, and_both}
use Rattle.loads.proofs.Laws.{apart-entries, fits-of, time-empty, memory-empty, time-one-more, memory-one-more-own, memory-one-more-shared-first}
use Rattle.loads.proofs.Change.{length-one_more, within-get_or, get_or-one_more}
use Rattle.partition.specs.Cell.{lowest}
use Rattle.partition.proofs.Lists.{true-or-false, not-both, or_cases, or_left, or_right_lem, get_or-padded}
use Rattle.partition.proofs.Lowest.{Found, lowest-here, lowest-later, lowest-found, lowest-le}
use Rattle.partition.proofs.Plain.{ceiling-out}
use Rattle.board.specs.Words.{plus_one, sum_six, time_out, own_out, shared_out, FitsOut}
use Rattle.board.proofs.Plain.{sum_six-same, none-six, time-same, own_same, shared_same, fits-same, time-out, own_out_lem, shared-out, fits_out, out-fits, more-out}
use Rattle.causes.specs.Causes.{no_engine, unfit_at, lowest_unfit, time_short, memory_short, over_most, replicas_short}
use Rattle.causes.specs.Meaning.{NoneInService, nothing, DoesNotFit, TooLarge, TimeExceeds, MemoryExceeds, CountExceeds}

-- intermediate

-- not true is false
pub no_true : (b : Bool) → (b ≡ true → ⊥) → b ≡ false
no_true true h = absurd (h refl)
no_true false h = refl

-- what is found is not below where the search starts
lowest-from : (p : ℕ → Bool) (none f a b : ℕ) → p b ≡ true → a ≤ b → b < a + f → a ≤ lowest p none f a
lowest-from p none zero a b h l u = absurd (omega arith)
lowest-from p none (suc f) a b h l u =
    ⊎_elim
    (λ t. rw (lowest-here p none f a t) (le_refl a))
    (λ t. omega (arith, lowest-later p none f a t, lowest-from p none f (suc a) b h (past t) (omega arith)))
    (true-or-false (p a))
  where
    past : p a ≡ false → suc a ≤ b
    past t = lt_of_not-le (λ (k : b ≤ a). let e : a ≡ b = omega arith in not-both (subst (λ (z : ℕ). p z ≡ true) (sym e) h) t)

-- q of one type, and of some type of a list

over-out : (r : ℕ) (m : Option ℕ) (x : ℕ) → over_most r m x ≡ true → (q : ℕ) × (m ≡ Some q) × (q * r < x)
over-out r None x h = absurd (false≢true h)
over-out r (Some q) x h = (q, refl, ltb-true (q * r) x h)

out-over : (r : ℕ) (m : Option ℕ) (x q : ℕ) → m ≡ Some q → q * r < x → over_most r m x ≡ true
out-over r m x q e h = rw e (lt-ltb (q * r) x h)

short-entry : (r : ℕ) (ts : List TaskType) (xs : List ℕ) → replicas_short r ts xs ≡ true → (i : ℕ) × ((q : ℕ) × ((get_or ts i no_task).most ≡ Some q) × (q * r < get_or xs i 0))
unfolding replicas_short
short-entry r [] xs h = absurd (false≢true h)
short-entry r (t ∷ ts) [] h = absurd (false≢true h)
short-entry r (t ∷ ts) (x ∷ xs) h =
    ⊎_elim
    (λ q. (0, over-out r t.most x q))
    (λ q. let (i, s) = short-entry r ts xs q in (suc i, s))
    (or_cases (over_most r t.most x) (replicas_short r ts xs) h)

entry-short : (r : ℕ) (ts : List TaskType) (xs : List ℕ) (i q : ℕ) → (get_or ts i no_task).most ≡ Some q → q * r < get_or xs i 0 → replicas_short r ts xs ≡ true
unfolding replicas_short
entry-short r [] xs i q e h = let z : ◌≡◌ {A = ℕ} 0 1 = cc in absurd (omega arith)
entry-short r (t ∷ ts) [] i q e h = absurd (omega arith)
entry-short r (t ∷ ts) (x ∷ xs) zero q e h = or_left (over_most r t.most x) (replicas_short r ts xs) (out-over r t.most x q e h)
entry-short r (t ∷ ts) (x ∷ xs) (suc i) q e h = or_right_lem (over_most r t.most x) (replicas_short r ts xs) (entry-short r ts xs i q e h)

-- main

module _ (y : System) (limits : Limits y) (x : List ℕ) (six : length x ≡ type_limit) (inside : within x (ceilings_of y) ≡ true)
    (count : ℕ → ℕ) (counts : (t : ℕ) → 1 ≤ t → get_or x (t - 1) 0 ≡ count t) where
  -- 1

  -- the load is empty exactly where the counts add up to 0
  empty-is : holds_none x ≡ eqb (sum_six count) 0
  empty-is = sym (none-six x six) ∙ ap (λ (n : ℕ). eqb n 0) (sum_six-same (λ (t : ℕ). get_or x (t - 1) 0) count counts)

  pub one_out : (r : ℕ) → (no_engine r x ≡ true) ↔ NoneInService r count
  one_out r = (there, back)
    where
      there : no_engine r x ≡ true → NoneInService r count
      there h =
          let b = and_parts (eqb r 0) (not (holds_none x)) h in
          let some = eqb-false (sum_six count) 0 (sym empty-is ∙ not-true (holds_none x) b.1) in
          record { none = eqb-true r 0 b.0; some = lt_of_not-le (λ (k : sum_six count ≤ 0). some (omega arith)) }

      back : NoneInService r count → no_engine r x ≡ true
      back h =
          and_both (eqb r 0) (not (holds_none x)) (eq-eqb r 0 h.none)
          (ap not (no_true (holds_none x) (λ q. omega (arith, h.some, eqb-true (sum_six count) 0 (sym empty-is ∙ q)))))

  -- 2

  -- a type of which there is an instance is one of the system's
  known : (t : ℕ) → 1 ≤ t → 1 ≤ count t → t ≤ y.typecount
  known t low some =
      le_of_suc-le-suc
      (lt_of_not-le (λ (past : suc y.typecount ≤ t).
      omega (
        arith,
        counts t low,
        within-get_or x (ceilings_of y) (t - 1) inside,
        ceiling-out y t,
        ap (λ (task : TaskType). task.ceiling) (limits.past (t - 1) (omega arith)),
      )))

  module _ (t : ℕ) (low : 1 ≤ t) (high : t ≤ type_limit) where
    abbrev one : List ℕ
    one = one_more (t - 1) empty_load

    one-six : length one ≡ 6
    one-six = length-one_more (t - 1) empty_load

    one-counts : (u : ℕ) → 1 ≤ u → get_or one (u - 1) 0 ≡ plus_one t nothing u
    one-counts u k = more-out t low empty_load high u k ∙ ap (λ (n : ℕ). n + cond (eqb u t) 1 0) (get_or-padded [] type_limit (u - 1) 0)

    one-fits : fits_engine y one ≡ true → FitsOut y (plus_one t nothing)
    one-fits h = fits-same y (λ (u : ℕ). get_or one (u - 1) 0) (plus_one t nothing) one-counts (fits_out y limits.six one one-six h)

    fits_one : FitsOut y (plus_one t nothing) → fits_engine y one ≡ true
    fits_one f =
        out-fits y limits.six one one-six limits.rule
        (fits-same y (plus_one t nothing) (λ (u : ℕ). get_or one (u - 1) 0) (λ u k. sym (one-counts u k)) f)

    -- one instance whose time is at most U, and whose code and data are at most S, fits
    abbrev task : TaskType
    task = get_or y.types (t - 1) no_task

    none_yet : (j : ℕ) → get_or empty_load j 0 ≡ 0
    none_yet j = get_or-padded {A = ℕ} [] type_limit j 0

    one-memory : task.memory + task.data ≤ y.memorycap → memory_of y.rule y.types one ≤ y.memorycap
    one-memory h = go (eqb y.rule 0) refl
      where
        go : (b : Bool) → eqb y.rule 0 ≡ b → memory_of y.rule y.types one ≤ y.memorycap
        go true q =
            rw (eqb-true y.rule 0 q) (omega (arith, memory-one-more-own y.types empty_load (t - 1) (omega arith), memory-empty 0 y.types type_limit))
        go false q =
            let other = eqb-false y.rule 0 q in
            let rule : y.rule ≡ 1 = omega (arith, limits.rule) in
            rw rule (omega (arith, memory-one-more-shared-first y.types empty_load (t - 1) (omega arith) (none_yet (t - 1)), memory-empty 1 y.types type_limit))

    one_apart : (j q : ℕ) → (get_or y.types j no_task).most ≡ Some q → get_or one j 0 ≤ q
    one_apart j q given =
        omega (arith, get_or-one_more (t - 1) j empty_load (omega arith), none_yet j, at_most (eqb (t - 1) j), some-replica (get_or y.types j no_task).most q (limits.replicas j) given)
      where
        at_most : (b : Bool) → cond b 1 0 ≤ 1
        at_most true = omega arith
        at_most false = omega arith

    one_of : task.time ≤ y.timecap → task.memory + task.data ≤ y.memorycap → fits_engine y one ≡ true
    one_of h k =
        fits-of y one (omega (arith, time-one-more y.types empty_load (t - 1) (omega arith), time-empty y.types type_limit)) (one-memory k)
        ((apart-entries y.types one).1 one_apart)

    pub too_large_lem : DoesNotFit y count t → TooLarge y t
    too_large_lem h = go (leb task.time y.timecap) (leb (task.memory + task.data) y.memorycap) refl refl
      where
        go : (a b : Bool) → leb task.time y.timecap ≡ a → leb (task.memory + task.data) y.memorycap ≡ b → TooLarge y t
        go false b p q = inl (leb-false task.time y.timecap p)
        go true false p q = inr (leb-false (task.memory + task.data) y.memorycap q)
        go true true p q =
            absurd (h.large (one-fits (one_of (leb-true task.time y.timecap p) (leb-true (task.memory + task.data) y.memorycap q))))

    pub unfit-out : (unfit_at y x t ≡ true) ↔ DoesNotFit y count t
    unfit-out = (there, back)
      where
        there : unfit_at y x t ≡ true → DoesNotFit y count t
        there h =
            let b = and_parts (leb 1 (get_or x (t - 1) 0)) (not (fits_engine y one)) h in
            let some : 1 ≤ count t = omega (arith, counts t low, leb-true 1 (get_or x (t - 1) 0) b.0) in
            record { is_type = (low, known t low some); in_load = some; large = λ f. not-both (fits_one f) (not-true (fits_engine y one) b.1) }

        back : DoesNotFit y count t → unfit_at y x t ≡ true
        back h =
            and_both (leb 1 (get_or x (t - 1) 0)) (not (fits_engine y one)) (le-leb 1 (get_or x (t - 1) 0) (omega (arith, counts t low, h.in_load)))
            (ap not (no_true (fits_engine y one) (λ q. h.large (one-fits q))))

  -- the lowest of them, where there is one

  type-six : (t : ℕ) → DoesNotFit y count t → t ≤ type_limit
  type-six t h = omega (arith, h.is_type.1, limits.typecount)

  pub record LowestIs (l : ℕ) : Type 0 where
    pub some : 1 ≤ l
    pub unfit : DoesNotFit y count l
    pub least : (u : ℕ) → u < l → DoesNotFit y count u → ⊥

  pub lowest-is : (t : ℕ) → DoesNotFit y count t → (lowest_unfit y x ≤ t) × LowestIs (lowest_unfit y x)
  unfolding lowest_unfit
  lowest-is t h = (under t h, ⊎_elim (λ e. absurd (omega (arith, some, e))) found (lowest-found (unfit_at y x) 0 type_limit 1))
    where
      under : (u : ℕ) → DoesNotFit y count u → lowest (unfit_at y x) 0 type_limit 1 ≤ u
      under u k =
          lowest-le (unfit_at y x) 0 type_limit 1 u ((unfit-out u k.is_type.0 (type-six u k)).1 k) k.is_type.0 (omega (arith, type-six u k))

      some : 1 ≤ lowest (unfit_at y x) 0 type_limit 1
      some =
          lowest-from (unfit_at y x) 0 type_limit 1 t ((unfit-out t h.is_type.0 (type-six t h)).1 h) h.is_type.0 (omega (arith, type-six t h))

      found : Found (unfit_at y x) 0 type_limit 1 (lowest (unfit_at y x) 0 type_limit 1) → LowestIs (lowest (unfit_at y x) 0 type_limit 1)
      found f = record {
        some = some;
        unfit = (unfit-out _ f.from (omega (arith, f.to))).0 f.passes;
        least = λ u l k. omega (arith, under u k);
      }

  pub lowest-some : 1 ≤ lowest_unfit y x → (t : ℕ) × DoesNotFit y count t
  unfolding lowest_unfit
  lowest-some h =
      ⊎_elim
      (λ e. absurd (omega arith))
      (λ f. (lowest (unfit_at y x) 0 type_limit 1, (unfit-out _ f.from (omega (arith, f.to))).0 f.passes))
      (lowest-found (unfit_at y x) 0 type_limit 1)

  -- 3

  time-is : time_of y.types x ≡ time_out y count
  time-is = time-out y limits.six x six ∙ time-same y (λ (t : ℕ). get_or x (t - 1) 0) count counts

  pub time-iff : (r : ℕ) → (time_short y r x ≡ true) ↔ TimeExceeds y r count
  time-iff r =
      ((λ h. omega (arith, time-is, ltb-true (r * y.timecap) (time_of y.types x) h)), (λ h. lt-ltb (r * y.timecap) (time_of y.types x) (omega (arith, time-is, h))))

  -- 4

  -- the memory of the whole load as one
  whole : ℕ
  whole = memory_of y.rule y.types x

  own_is : y.rule ≡ 0 → whole ≡ own_out y count
  unfolding whole
  own_is rule = own_out_lem y limits.six x six rule ∙ own_same y (λ (t : ℕ). get_or x (t - 1) 0) count counts

  shared-is : y.rule ≡ 1 → whole ≡ shared_out y count
  unfolding whole
  shared-is rule = shared-out y limits.six x six rule ∙ shared_same y (λ (t : ℕ). get_or x (t - 1) 0) count counts

  memory-there : (r : ℕ) → r * y.memorycap < whole → MemoryExceeds y r count
  memory-there r h = go (eqb y.rule 0) refl
    where
      go : (b : Bool) → eqb y.rule 0 ≡ b → MemoryExceeds y r count
      go true q = let rule = eqb-true y.rule 0 q in MemoryExceeds.own_copies rule (omega (arith, own_is rule))
      go false q =
          let other = eqb-false y.rule 0 q in
          let rule : y.rule ≡ 1 = omega (arith, limits.rule) in
          MemoryExceeds.shared_code rule (omega (arith, shared-is rule))

  memory-back : (r : ℕ) → MemoryExceeds y r count → r * y.memorycap < whole
  memory-back r (MemoryExceeds.own_copies rule h) = omega (arith, own_is rule)
  memory-back r (MemoryExceeds.shared_code rule h) = omega (arith, shared-is rule)

  pub memory-iff : (r : ℕ) → (memory_short y r x ≡ true) ↔ MemoryExceeds y r count
  unfolding whole
  memory-iff r = ((λ h. memory-there r (ltb-true _ _ h)), (λ h. lt-ltb _ _ (memory-back r h)))

  -- 5

  pub replicas-iff : (r : ℕ) → (replicas_short r y.types x ≡ true) ↔ CountExceeds y r count
  replicas-iff r = (there, λ h. entry-short r y.types x (h.type - 1) h.most h.given (omega (arith, counts h.type h.is_type, h.exceeds)))
    where
      there : replicas_short r y.types x ≡ true → CountExceeds y r count
      there h =
          let (i, (q, given, over)) = short-entry r y.types x h in
          let same : suc i - 1 ≡ i = omega arith in
          record {
            type = suc i;
            is_type = omega arith;
            most = q;
            given = rw same given;
            exceeds = omega (arith, counts (suc i) (omega arith), ap (λ (j : ℕ). get_or x j 0) same);
          }

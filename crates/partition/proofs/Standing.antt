-- What stands on the engines 1 to m of a system, as a load for each: a newcomer joins an engine, an instance leaves one, all become a recovery,
-- and in every case what stands is a good assignment within the ceilings.
use Prim.Native.Nat.{ℕ, zero, suc, ◌+◌, ◌≤◌, ◌<◌, zero-le}
use mathlib.Core.Path.{◌≡◌, refl, sym, ap, subst, ◌∙◌}
use mathlib.Core.List.{List, [], ◌∷◌, ◌++◌, map}
use mathlib.Core.Bool.{Bool, true}
use mathlib.Core.Logic.{◌⊎◌, inl, inr, ⊎_elim}
use native.Mathlib.Nat.{le_of_suc-le-suc, le_trans}
use native.Mathlib.Numerals.{add-one}
use native.Mathlib.Omega.{arith}
use borrow.Author.Tests.{le-leb, eq-eqb, eqb-true}
use lib.ListN.{length, get_or, set, replicate, length-set, length-map, length-append, length-replicate, get_or-map}
use lib.Dec.{leb, eqb}
use Rattle.system.specs.declared.System.{System}
use Rattle.system.specs.Values.{ceilings_of}
use Rattle.system.specs.Limits.{type_limit}
use Rattle.system.proofs.Laws.{Limits}
use Rattle.loads.specs.declared.EngineLoad.{EngineLoad}
use Rattle.loads.specs.Load.{fits_engine, engine_with, idle_engine, empty_load, holds_none, within, plus, one_more, one_less}
use Rattle.loads.proofs.Order.{and_parts, and_both, within-trans}
use Rattle.loads.proofs.Laws.{empty-fits, engine_with-idle, within-one_less, fits-one-less}
use Rattle.loads.proofs.Change.{get_or-plus, length-one_more, length-one_less, one_more-plus, one_less-plus, plus-one_more, plus-one_less, one_more-within}
use Rattle.partition.specs.Assignment.{Assignment, count_on, load_on, among, every, good, engines_to}
use Rattle.partition.specs.Shares.{sum_of, distinct, Shares}
use Rattle.partition.specs.ForSystem.{FeasibleOn, placeable, recovered_for, Placed}
use Rattle.partition.proofs.Lists.{every-parts, every-get_or, every-replicate, among-tested, tested-among, among-engines_to, get_or-padded, not-both, among-counted}
use Rattle.partition.proofs.Cells.{length-sum_of}
use Rattle.partition.proofs.Recovery.{sum_of-padded}
use Rattle.partition.proofs.ForSystem.{length-ceilings, recovered_for-shares, length-recovered_for, shares-placed, placed-feasible}

-- intermediate: one load of a list changed

every_set : {A : Type 0} (p : A → Bool) (l : List A) (i : ℕ) (x : A) → every p l ≡ true → p x ≡ true → every p (set l i x) ≡ true
unfolding every
every_set p [] i x h k = refl
every_set p (a ∷ l) zero x h k = and_both (p x) (every p l) k (every-parts p a l h).1
every_set p (a ∷ l) (suc i) x h k =
    let b = every-parts p a l h in
    and_both (p a) (every p (set l i x)) b.0 (every_set p l i x b.1 k)

abbrev Sized : ℕ → List (List ℕ) → Type 0
Sized k xs = every (λ (x : List ℕ). eqb (length x) k) xs ≡ true

module _ (k : ℕ) where
  abbrev none : List ℕ
  none = replicate k 0

  first-sized : (x : List ℕ) (xs : List (List ℕ)) → Sized k (x ∷ xs) → (length x ≡ k) × Sized k xs
  first-sized x xs h =
      let b = every-parts (λ (z : List ℕ). eqb (length z) k) x xs h in
      (eqb-true (length x) k b.0, b.1)

  -- a load has as many counts as its sum
  level : (x : List ℕ) (xs : List (List ℕ)) → Sized k (x ∷ xs) → length x ≡ length (sum_of k xs)
  level x xs h = let b = first-sized x xs h in b.0 ∙ sym (length-sum_of k xs b.1)

  pub count-le-sum : (xs : List (List ℕ)) (i j : ℕ) → Sized k xs → i < length xs → get_or (get_or xs i none) j 0 ≤ get_or (sum_of k xs) j 0
  unfolding sum_of
  count-le-sum [] i j s h = absurd (omega arith)
  count-le-sum (x ∷ xs) zero j s h = omega (arith, get_or-plus x (sum_of k xs) j (level x xs s))
  count-le-sum (x ∷ xs) (suc i) j s h =
      omega (arith, get_or-plus x (sum_of k xs) j (level x xs s), count-le-sum xs i j (first-sized x xs s).1 (le_of_suc-le-suc h))

  pub sum_of-one_more : (xs : List (List ℕ)) (i j : ℕ) → Sized k xs → i < length xs → sum_of k (set xs i (one_more j (get_or xs i none))) ≡ one_more j (sum_of k xs)
  unfolding sum_of
  sum_of-one_more [] i j s h = absurd (omega arith)
  sum_of-one_more (x ∷ xs) zero j s h = one_more-plus j x (sum_of k xs) (level x xs s)
  sum_of-one_more (x ∷ xs) (suc i) j s h =
      ap (plus x) (sum_of-one_more xs i j (first-sized x xs s).1 (le_of_suc-le-suc h)) ∙ plus-one_more j x (sum_of k xs) (level x xs s)

  pub sum_of-one_less : (xs : List (List ℕ)) (i j : ℕ) → Sized k xs → i < length xs → 1 ≤ get_or (get_or xs i none) j 0
      → sum_of k (set xs i (one_less j (get_or xs i none))) ≡ one_less j (sum_of k xs)
  unfolding sum_of
  sum_of-one_less [] i j s h held = absurd (omega arith)
  sum_of-one_less (x ∷ xs) zero j s h held = one_less-plus j x (sum_of k xs) (level x xs s) held
  sum_of-one_less (x ∷ xs) (suc i) j s h held =
      let rest = (first-sized x xs s).1 in
      ap (plus x) (sum_of-one_less xs i j rest (le_of_suc-le-suc h) held)
      ∙ plus-one_less j x (sum_of k xs) (level x xs s) (le_trans held (count-le-sum xs i j rest (le_of_suc-le-suc h)))

-- main: what stands on the engines

-- all that stands
abbrev pub total : List (List ℕ) → List ℕ
total xs = sum_of type_limit xs

-- the load of the engine at index i
abbrev pub load_in : List (List ℕ) → ℕ → List ℕ
load_in xs i = get_or xs i empty_load

-- one load for each of the engines 1 to m, which fits, and no more of a type in all than its ceiling
pub record Valid (y : System) (xs : List (List ℕ)) : Type 0 where
  pub rows : length xs ≡ y.engines
  pub sized : every (λ (x : List ℕ). eqb (length x) type_limit) xs ≡ true
  pub all_fit : every (fits_engine y) xs ≡ true
  pub ceiling : within (total xs) (ceilings_of y) ≡ true

pub length-total : {y : System} {xs : List (List ℕ)} → Valid y xs → length (total xs) ≡ type_limit
length-total {y} {xs} v = length-sum_of type_limit xs v.sized

pub length-load_in : {y : System} {xs : List (List ℕ)} → Valid y xs → (i : ℕ) → i < length xs → length (load_in xs i) ≡ type_limit
length-load_in {y} {xs} v i h = eqb-true (length (load_in xs i)) type_limit (every-get_or (λ (x : List ℕ). eqb (length x) type_limit) xs empty_load i v.sized h)

pub load_in-fits : {y : System} {xs : List (List ℕ)} → Valid y xs → (i : ℕ) → i < length xs → fits_engine y (load_in xs i) ≡ true
load_in-fits {y} {xs} v i h = every-get_or (fits_engine y) xs empty_load i v.all_fit h

-- the record of the engine at index i, also past the last one
pub engine-in : (y : System) (xs : List (List ℕ)) (i : ℕ) → get_or (map (engine_with y) xs) i idle_engine ≡ engine_with y (load_in xs i)
engine-in y xs i = ap (get_or (map (engine_with y) xs) i) (sym (engine_with-idle y)) ∙ get_or-map (engine_with y) xs i empty_load

-- main: a good assignment

-- also with empty engines past them
pub valid-placed : {y : System} {xs : List (List ℕ)} → Valid y xs → (n : ℕ) → Placed y (engines_to y.engines) (total xs) (map (engine_with y) (xs ++ replicate n empty_load))
valid-placed {y} {xs} v n =
    shares-placed y y.engines xs n (total xs) v.rows (length-total v) (record { sized = v.sized; all_fit = v.all_fit; sums = refl })

-- an instance on an engine is counted there
among-counts : (places : List ℕ) (e : ℕ) → among places e ≡ true → eqb (count_on e places) 0 ≡ true → ⊥
among-counts places e h k = not-both h (among-counted places e ∙ rw k)

-- an assignment to some engines is one to those of them outside which nothing is
module _ (es ds : List ℕ) where
  places-narrowed : (places : List ℕ) → every (among es) places ≡ true → ((e : ℕ) → among es e ≡ true → (among ds e ≡ true) ⊎ (eqb (count_on e places) 0 ≡ true)) → every (among ds) places ≡ true
  places-narrowed places h w =
      tested-among (among ds) places (λ e k. ⊎_elim (λ s. s) (λ z. absurd (among-counts places e k z)) (w e (among-tested (among es) places e h k)))

  all-narrowed : (χ : Assignment) → every (every (among es)) χ ≡ true → ((e : ℕ) → among es e ≡ true → (among ds e ≡ true) ⊎ (holds_none (load_on e χ) ≡ true)) → every (every (among ds)) χ ≡ true
  unfolding every holds_none
  all-narrowed [] h w = refl
  all-narrowed (places ∷ χ) h w =
      let b = every-parts (every (among es)) places χ h in
      and_both (every (among ds) places) (every (every (among ds)) χ)
      (places-narrowed places b.0 (λ e k. ⊎_elim (λ s. inl s) (λ s. inr (and_parts (eqb (count_on e places) 0) (holds_none (load_on e χ)) s).0) (w e k)))
      (all-narrowed χ b.1 (λ e k. ⊎_elim (λ s. inl s) (λ s. inr (and_parts (eqb (count_on e places) 0) (holds_none (load_on e χ)) s).1) (w e k)))

  good-narrowed : (test : ℕ → List ℕ → Bool) (χ : Assignment) → every (among es) ds ≡ true → ((e : ℕ) → among es e ≡ true → (among ds e ≡ true) ⊎ (holds_none (load_on e χ) ≡ true))
      → good test es χ ≡ true → good test ds χ ≡ true
  unfolding good
  good-narrowed test χ part w h =
      let b = and_parts (every (every (among es)) χ) (every (λ (e : ℕ). test e (load_on e χ)) es) h in
      and_both (every (every (among ds)) χ) (every (λ (e : ℕ). test e (load_on e χ)) ds) (all-narrowed χ b.0 w)
      (tested-among (λ (e : ℕ). test e (load_on e χ)) ds (λ e k. among-tested (λ (d : ℕ). test d (load_on d χ)) es e b.1 (among-tested (among es) ds e part k)))

-- so what stands on the engines 1 to m is a good assignment to those of them outside which nothing stands (request 2026-07)
module _ {y : System} {xs : List (List ℕ)} (v : Valid y xs) (ds : List ℕ) (known : every (among (engines_to y.engines)) ds ≡ true)
    (idle : (i : ℕ) → i < y.engines → (among ds (suc i) ≡ true) ⊎ (load_in xs i ≡ empty_load)) where
  nothing : holds_none empty_load ≡ true
  unfolding holds_none
  nothing = refl

  pub served-placed : (n : ℕ) → Placed y ds (total xs) (map (engine_with y) (xs ++ replicate n empty_load))
  served-placed n = record {
    mapping = whole.mapping;
    assigns = whole.assigns;
    is_good = good-narrowed (engines_to y.engines) ds (λ (e : ℕ). fits_engine y) whole.mapping known (λ e h. empty e ((among-engines_to y.engines e).0 h)) whole.is_good;
    holds = whole.holds;
  }
    where
      whole : Placed y (engines_to y.engines) (total xs) (map (engine_with y) (xs ++ replicate n empty_load))
      whole = valid-placed v n

      inside : (i : ℕ) → i < y.engines → i < length (map (engine_with y) (xs ++ replicate n empty_load))
      inside i h = omega (arith, length-map (xs ++ replicate n empty_load) (engine_with y), length-append xs (replicate n empty_load), v.rows)

      load_at : (i : ℕ) → i < y.engines → load_on (i + 1) whole.mapping ≡ load_in xs i
      load_at i h =
          ap (λ (l : EngineLoad). l.counts) (sym (whole.holds i (inside i h)) ∙ engine-in y (xs ++ replicate n empty_load) i) ∙ get_or-padded xs n i empty_load

      empty : (e : ℕ) → (1 ≤ e) × (e ≤ y.engines) → (among ds e ≡ true) ⊎ (holds_none (load_on e whole.mapping) ≡ true)
      empty zero r = absurd (omega (arith, r.0))
      empty (suc i) r =
          let h : i < y.engines = omega (arith, r.1) in
          ⊎_elim (λ s. inl s)
          (λ s. inr (subst (λ (e : ℕ). holds_none (load_on e whole.mapping) ≡ true) (add-one i) (ap holds_none (load_at i h ∙ s) ∙ nothing)))
          (idle i h)

  pub served-feasible : FeasibleOn y ds (total xs)
  served-feasible = placed-feasible (served-placed 0)

-- main: the fresh state

pub total-empty : (m : ℕ) → total (replicate m empty_load) ≡ empty_load
total-empty m = sum_of-padded type_limit m [] ∙ unfold sum_of in refl

zeros_within : (ns : List ℕ) → within (replicate (length ns) 0) ns ≡ true
unfolding within
zeros_within [] = refl
zeros_within (n ∷ ns) = and_both (leb 0 n) (within (replicate (length ns) 0) ns) (le-leb 0 n zero-le) (zeros_within ns)

pub valid-empty : (y : System) → Limits y → Valid y (replicate y.engines empty_load)
valid-empty y limits = record {
  rows = length-replicate y.engines empty_load;
  sized = every-replicate (λ (x : List ℕ). eqb (length x) type_limit) y.engines empty_load refl;
  all_fit = every-replicate (fits_engine y) y.engines empty_load (empty-fits y);
  ceiling = rw (total-empty y.engines) (subst (λ (k : ℕ). within (replicate k 0) (ceilings_of y) ≡ true) (length-ceilings y limits) (zeros_within (ceilings_of y)));
}

-- main: one instance more, one less

module _ (y : System) (xs : List (List ℕ)) (v : Valid y xs) (i j : ℕ) (h : i < y.engines) where
  inside : i < length xs
  inside = rw v.rows h

  pub total-joined : total (set xs i (one_more j (load_in xs i))) ≡ one_more j (total xs)
  total-joined = sum_of-one_more type_limit xs i j v.sized inside

  pub total_left : 1 ≤ get_or (load_in xs i) j 0 → total (set xs i (one_less j (load_in xs i))) ≡ one_less j (total xs)
  total_left held = sum_of-one_less type_limit xs i j v.sized inside held

  pub valid-joined : get_or (total xs) j 0 < get_or (ceilings_of y) j 0 → fits_engine y (one_more j (load_in xs i)) ≡ true
      → Valid y (set xs i (one_more j (load_in xs i)))
  valid-joined below fit = record {
    rows = length-set xs i (one_more j (load_in xs i)) ∙ v.rows;
    sized =
        every_set (λ (x : List ℕ). eqb (length x) type_limit) xs i (one_more j (load_in xs i)) v.sized
        (eq-eqb (length (one_more j (load_in xs i))) type_limit (length-one_more j (load_in xs i) ∙ length-load_in v i inside));
    all_fit = every_set (fits_engine y) xs i (one_more j (load_in xs i)) v.all_fit fit;
    ceiling = rw total-joined (one_more-within j (total xs) (ceilings_of y) v.ceiling below);
  }

  pub valid-left : 1 ≤ get_or (load_in xs i) j 0 → Valid y (set xs i (one_less j (load_in xs i)))
  valid-left held = record {
    rows = length-set xs i (one_less j (load_in xs i)) ∙ v.rows;
    sized =
        every_set (λ (x : List ℕ). eqb (length x) type_limit) xs i (one_less j (load_in xs i)) v.sized
        (eq-eqb (length (one_less j (load_in xs i))) type_limit (length-one_less j (load_in xs i) ∙ length-load_in v i inside));
    all_fit = every_set (fits_engine y) xs i (one_less j (load_in xs i)) v.all_fit (fits-one-less y j (load_in xs i) (load_in-fits v i inside));
    ceiling =
        rw (total_left held)
        (within-trans (one_less j (total xs)) (total xs) (ceilings_of y) (within-one_less j (total xs)) v.ceiling);
  }

-- main: a recovery

module _ (y : System) (limits : Limits y) (es : List ℕ) (apart : distinct es ≡ true) (known : every (among (engines_to y.engines)) es ≡ true)
    (x : List ℕ) (six : length x ≡ type_limit) (below : within x (ceilings_of y) ≡ true) (can : placeable y es x ≡ true) where
  shares : Shares (fits_engine y) type_limit (recovered_for y.engines y es x) x
  shares = recovered_for-shares y limits es apart x six below can y.engines known

  pub total-recovered : total (recovered_for y.engines y es x) ≡ x
  total-recovered = shares.sums

  pub valid-recovered : Valid y (recovered_for y.engines y es x)
  valid-recovered = record {
    rows = length-recovered_for y limits es apart x six below can y.engines;
    sized = shares.sized;
    all_fit = shares.all_fit;
    ceiling = rw total-recovered below;
  }

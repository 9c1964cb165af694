-- What statements suppose of two loads and of two releases holds of every system and any counts.
use Rattle.std.proofs.Common.{Option}
use Rattle.system.specs.declared.Cycle.{Cycle}
use Prim.Native.Nat.{ℕ, zero, suc, ◌+◌, ◌-◌, ◌≤◌, ◌<◌}
use mathlib.Core.List.{List, [], ◌∷◌}
use mathlib.Core.Path.{◌≡◌, refl, sym, ap, subst, ◌∙◌}
use native.Mathlib.Omega.{arith}
use lib.ListN.{length, get_or}
use Rattle.system.specs.declared.TaskType.{TaskType}
use Rattle.system.specs.declared.System.{System}
use Rattle.loads.specs.Load.{plus}
use Rattle.loads.proofs.Order.{length-plus}
use Rattle.loads.proofs.Change.{get_or-plus}
use Rattle.partition.specs.OwnWords.{no_type}
use Rattle.partition.specs.Releases.{AddsWithin, SameButCeilings}
use Rattle.cases.specs.Supposed.{SumsGiven, type_released, types_released, released, ReleasesGiven}

-- main: two loads

module _ (y : System) (a b : List ℕ) where
  adds : (both : List ℕ) → length a ≡ 6 → length b ≡ 6 → length both ≡ 6 → ((i : ℕ) → get_or both i 0 ≡ get_or a i 0 + get_or b i 0) → ((i : ℕ) → get_or both i 0 ≤ (get_or y.types i no_type).ceiling) → AddsWithin y a b both
  adds both la lb lc sums inside = record { six = (la, lb); sums = λ t low. sums (t - 1); inside = record { six = lc; ceilings = λ t low. inside (t - 1) } }

  pub sums-given : SumsGiven y a b
  sums-given = record {
    sums = adds;
    some = λ la lb inside.
        (let long : length a ≡ length b = la ∙ sym lb in
        (plus a b, adds (plus a b) la lb (length-plus a b long ∙ la) (λ i. get_or-plus a b i long) (λ i. rw (get_or-plus a b i long) (inside i))));
  }

-- intermediate: type by type

module _ (n : ℕ → ℕ) (pace : ℕ → Option Cycle) where
  -- what is said of a type without its n, C and T is as it was
  kept_at : {A : Type 0} (f : TaskType → A) → ((t : TaskType) (c : ℕ) (p : Option Cycle) → f (type_released t c p) ≡ f t) → (i : ℕ) (ts : List TaskType) (j : ℕ) → f (get_or (types_released n pace i ts) j no_type) ≡ f (get_or ts j no_type)
  unfolding types_released
  kept_at f same i [] j = refl
  kept_at f same i (t ∷ ts) zero = same t (n (suc i)) (pace (suc i))
  kept_at f same i (t ∷ ts) (suc j) = kept_at f same (suc i) ts j

  -- and these are those of its number
  given-at : (i : ℕ) (ts : List TaskType) (j : ℕ) → j < length ts
      → ((get_or (types_released n pace i ts) j no_type).ceiling ≡ n (suc i + j)) × ((get_or (types_released n pace i ts) j no_type).pace ≡ pace (suc i + j))
  unfolding types_released
  given-at i [] j h = absurd (omega arith)
  given-at i (t ∷ ts) zero h = let same : suc i ≡ suc i + 0 = omega arith in (ap n same, ap pace same)
  given-at i (t ∷ ts) (suc j) h =
      let same : suc (suc i) + j ≡ suc i + suc j = omega arith in
      let rest = given-at (suc i) ts j (omega arith) in
      (rest.0 ∙ ap n same, rest.1 ∙ ap pace same)

sums_at : (n m : ℕ → ℕ) (p q r : ℕ → Option Cycle) (i : ℕ) (ts : List TaskType) (j : ℕ)
    → (get_or (types_released (λ (t : ℕ). n t + m t) r i ts) j no_type).ceiling ≡ (get_or (types_released n p i ts) j no_type).ceiling + (get_or (types_released m q i ts) j no_type).ceiling
unfolding types_released
sums_at n m p q r i [] j = refl
sums_at n m p q r i (t ∷ ts) zero = refl
sums_at n m p q r i (t ∷ ts) (suc j) = sums_at n m p q r (suc i) ts j

-- main: two releases

module _ (y : System) where
  -- two releases of one card differ in their n, and in their C and T
  alike : (n m : ℕ → ℕ) (p q : ℕ → Option Cycle) → SameButCeilings (released y n p) (released y m q)
  alike n m p q = record {
    engines = refl;
    rule = refl;
    timecap = refl;
    memorycap = refl;
    typecount = refl;
    times = λ t low. same (λ (x : TaskType). x.time) (λ x c z. refl) t;
    codes = λ t low. same (λ (x : TaskType). x.memory) (λ x c z. refl) t;
    datas = λ t low. same (λ (x : TaskType). x.data) (λ x c z. refl) t;
    mosts = λ t low. same (λ (x : TaskType). x.most) (λ x c z. refl) t;
    theres = λ t low. same (λ (x : TaskType). x.there) (λ x c z. refl) t;
    second = refl;
  }
    where
      same : {A : Type 0} (f : TaskType → A) → ((x : TaskType) (c : ℕ) (z : Option Cycle) → f (type_released x c z) ≡ f x) → (t : ℕ) → f (get_or (types_released m q 0 y.types) (t - 1) no_type) ≡ f (get_or (types_released n p 0 y.types) (t - 1) no_type)
      same f h t = kept_at m q f h 0 y.types (t - 1) ∙ sym (kept_at n p f h 0 y.types (t - 1))

  pub releases-given : ReleasesGiven y
  releases-given = record {
    counts = λ n pace t low high.
        (let at = given-at n pace 0 y.types (t - 1) (omega (arith, low, high)) in
        let same : 1 + (t - 1) ≡ t = omega (arith, low) in
        (at.0 ∙ ap n same, at.1 ∙ ap pace same));
    both = λ n m p q r.
        record {
          alike_first = alike (λ (t : ℕ). n t + m t) n r p;
          alike_second = alike (λ (t : ℕ). n t + m t) m r q;
          sums = λ t low. sums_at n m p q r 0 y.types (t - 1);
        };
  }

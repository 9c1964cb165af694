-- Both numbers are lengths of listings: the listing of all assignments has each exactly once, and so has the list of the good ones among them.
use Prim.Native.Nat.{ℕ, zero, suc, ◌+◌, ◌-◌, ◌^◌, ◌≤◌, ◌<◌}
use mathlib.Core.Path.{◌≡◌, refl, sym, ap, subst, ◌∙◌}
use mathlib.Core.List.{List, [], ◌∷◌, map}
use mathlib.Core.Bool.{Bool, true, false, cond}
use native.Mathlib.Nat.{pow-zero}
use native.Mathlib.Omega.{arith}
use lib.ListN.{length, get_or, replicate, length-map, get_or-map}
use Rattle.system.specs.declared.TaskType.{TaskType}
use Rattle.system.specs.declared.System.{System}
use Rattle.system.specs.Values.{no_task, ceilings_of}
use Rattle.system.specs.Limits.{type_limit}
use Rattle.system.proofs.Laws.{Limits}
use Rattle.loads.specs.Load.{fits_engine, empty_load}
use Rattle.loads.proofs.Order.{and_parts, and_both, cons-path}
use Rattle.loads.proofs.Laws.{empty-fits}
use Rattle.partition.specs.Assignment.{Assignment, count_on, load_on, assigned, among, every, any_of, good, engines_to, each_before, places_of, assignments_of}
use Rattle.partition.specs.Listing.{same_list, same_assignment, occurrences, instances}
use Rattle.partition.specs.ForSystem.{good_on}
use Rattle.partition.specs.Plain.{ceiling_no, EngineOf, places_no, Partition}
use Rattle.partition.proofs.Lists.{or_left, or_right_lem, every-get_or, every-of-get_or, every-always, every-among, length-engines_to, distinct-engines_to, among-engines_to}
use Rattle.partition.proofs.Shares.{good-parts}
use Rattle.partition.proofs.Brute.{same_assignment-refl, same_assignment-true, listed-once, listed-only, length-assignments_of}
use Rattle.partition.proofs.Plain.{ceiling-out, lists-same, partition-of, partition-assigns, partition-good}
use Rattle.counting.specs.Counts.{count_of, good_count, total_count}
use Rattle.counting.specs.Meaning.{ListsOnce, SendsAll, instances_out, CountMeans}

-- intermediate: how often an assignment stands in a list, and at which places

abbrev times : Assignment → List Assignment → ℕ
times χ l = occurrences same_assignment χ l

-- what stands at a place stands in the list
times-at : (l : List Assignment) (i : ℕ) → i < length l → 1 ≤ times (get_or l i []) l
unfolding occurrences
times-at [] i h = absurd (omega arith)
times-at (χ ∷ l) zero h = rw (same_assignment-refl χ) (omega arith)
times-at (χ ∷ l) (suc i) h = go (same_assignment χ (get_or l i [])) (times-at l i (omega arith))
  where
    go : (b : Bool) → 1 ≤ times (get_or l i []) l → 1 ≤ cond b (suc (times (get_or l i []) l)) (times (get_or l i []) l)
    go true k = omega arith
    go false k = k

-- what stands in the list stands at some place
place_of : (χ : Assignment) (l : List Assignment) → 1 ≤ times χ l → (i : ℕ) × (i < length l) × (get_or l i [] ≡ χ)
unfolding occurrences
place_of χ [] h = absurd (omega arith)
place_of χ (x ∷ l) h = go (same_assignment x χ) refl h (place_of χ l)
  where
    go : (b : Bool) → same_assignment x χ ≡ b → 1 ≤ cond b (suc (times χ l)) (times χ l) → (1 ≤ times χ l → (i : ℕ) × (i < length l) × (get_or l i [] ≡ χ)) → (i : ℕ) × (i < suc (length l)) × (get_or (x ∷ l) i [] ≡ χ)
    go true same k rest = (0, omega arith, same_assignment-true x χ same)
    go false same k rest = let r = rest k in (suc r.0, omega (arith, r.1), r.2)

-- the same search, as a search of the list
times-any : (χ : Assignment) (l : List Assignment) → 1 ≤ times χ l → any_of (λ (x : Assignment). same_assignment x χ) l ≡ true
unfolding occurrences any_of
times-any χ [] h = absurd (omega arith)
times-any χ (x ∷ l) h = go (same_assignment x χ) refl h (times-any χ l)
  where
    go : (b : Bool) → same_assignment x χ ≡ b → 1 ≤ cond b (suc (times χ l)) (times χ l) → (1 ≤ times χ l → any_of (λ (z : Assignment). same_assignment z χ) l ≡ true) → any_of (λ (z : Assignment). same_assignment z χ) (x ∷ l) ≡ true
    go true same k rest = or_left (same_assignment x χ) (any_of (λ (z : Assignment). same_assignment z χ) l) same
    go false same k rest = or_right_lem (same_assignment x χ) (any_of (λ (z : Assignment). same_assignment z χ) l) (rest k)

-- one that stands there at most once stands at one place only
one_place : (l : List Assignment) (i j : ℕ) → i < length l → j < length l → times (get_or l i []) l ≤ 1 → get_or l i [] ≡ get_or l j [] → i ≡ j
unfolding occurrences
one_place [] i j h k once same = absurd (omega arith)
one_place (χ ∷ l) zero zero h k once same = refl
one_place (χ ∷ l) zero (suc j) h k once same =
    let twice : suc (times χ l) ≤ 1 = rw (same_assignment-refl χ) at once in
    let later : 1 ≤ times χ l = subst (λ (z : Assignment). 1 ≤ times z l) (sym same) (times-at l j (omega arith)) in
    absurd (omega arith)
one_place (χ ∷ l) (suc i) zero h k once same =
    let once' : cond (same_assignment χ χ) (suc (times χ l)) (times χ l) ≤ 1 = subst (λ (z : Assignment). cond (same_assignment χ z) (suc (times z l)) (times z l) ≤ 1) same once in
    let twice : suc (times χ l) ≤ 1 = rw (same_assignment-refl χ) at once' in
    let later : 1 ≤ times χ l = subst (λ (z : Assignment). 1 ≤ times z l) same (times-at l i (omega arith)) in
    absurd (omega arith)
one_place (χ ∷ l) (suc i) (suc j) h k once same = ap suc (one_place l i j (omega arith) (omega arith) (go (same_assignment χ (get_or l i [])) once) same)
  where
    go : (b : Bool) → cond b (suc (times (get_or l i []) l)) (times (get_or l i []) l) ≤ 1 → times (get_or l i []) l ≤ 1
    go true q = omega arith
    go false q = q

-- a list in which what is meant stands once, and nothing else stands
lists-once : (Meant : Assignment → Type 0) (l : List Assignment) → ((χ : Assignment) → Meant χ → times χ l ≡ 1) → ((χ : Assignment) → 1 ≤ times χ l → Meant χ) → ListsOnce Meant l
lists-once Meant l one meant = record {
  only = λ i h. meant (get_or l i []) (times-at l i h);
  all = λ χ m. place_of χ l (omega (arith, one χ m));
  once = λ i j h k same. one_place l i j h k (omega (arith, one (get_or l i []) (meant (get_or l i []) (times-at l i h)))) same;
}

-- intermediate: those of a list that pass a test

unfoldable kept : (Assignment → Bool) → List Assignment → List Assignment
kept p [] = []
kept p (χ ∷ l) = cond (p χ) (χ ∷ kept p l) (kept p l)

count_of-kept : (p : Assignment → Bool) (l : List Assignment) → count_of p l ≡ length (kept p l)
unfolding count_of kept
count_of-kept p [] = refl
count_of-kept p (χ ∷ l) = go (p χ) (count_of-kept p l)
  where
    go : (b : Bool) → count_of p l ≡ length (kept p l) → cond b (suc (count_of p l)) (count_of p l) ≡ length (cond b (χ ∷ kept p l) (kept p l))
    go true e = ap suc e
    go false e = e

times-kept : (p : Assignment → Bool) (χ : Assignment) (l : List Assignment) → times χ (kept p l) ≡ cond (p χ) (times χ l) 0
unfolding occurrences kept
times-kept p χ [] = go (p χ)
  where
    go : (b : Bool) → ◌≡◌ {A = ℕ} 0 (cond b 0 0)
    go true = refl
    go false = refl
times-kept p χ (x ∷ l) = go (same_assignment x χ) refl (times-kept p χ l)
  where
    both : (b : Bool) → p x ≡ b → same_assignment x χ ≡ true → times χ (kept p l) ≡ cond b (times χ l) 0 → times χ (cond b (x ∷ kept p l) (kept p l)) ≡ cond b (suc (times χ l)) 0
    both true e same rest = rw same (ap suc rest)
    both false e same rest = rest

    other : (b : Bool) → same_assignment x χ ≡ false → times χ (cond b (x ∷ kept p l) (kept p l)) ≡ times χ (kept p l)
    other true no' = rw no'
    other false no' = refl

    go : (b : Bool) → same_assignment x χ ≡ b → times χ (kept p l) ≡ cond (p χ) (times χ l) 0 → times χ (cond (p x) (x ∷ kept p l) (kept p l)) ≡ cond (p χ) (cond b (suc (times χ l)) (times χ l)) 0
    go true same rest =
        let e : p x ≡ p χ = ap p (same_assignment-true x χ same) in
        both (p x) refl same (rest ∙ ap (λ (b : Bool). cond b (times χ l) 0) (sym e)) ∙ ap (λ (b : Bool). cond b (suc (times χ l)) 0) e
    go false same rest = other (p x) same ∙ rest

-- intermediate: six types

six-instances : (ts : List TaskType) → length ts ≡ 6
    → (get_or ts 0 no_task).ceiling + ((get_or ts 1 no_task).ceiling + ((get_or ts 2 no_task).ceiling + ((get_or ts 3 no_task).ceiling + ((get_or ts 4 no_task).ceiling + (get_or ts 5 no_task).ceiling))))
    ≡ instances (map (λ (t : TaskType). t.ceiling) ts)
unfolding instances
six-instances [] l = absurd (omega arith)
six-instances (a ∷ []) l = absurd (omega arith)
six-instances (a ∷ b ∷ []) l = absurd (omega arith)
six-instances (a ∷ b ∷ c ∷ []) l = absurd (omega arith)
six-instances (a ∷ b ∷ c ∷ d ∷ []) l = absurd (omega arith)
six-instances (a ∷ b ∷ c ∷ d ∷ e ∷ []) l = absurd (omega arith)
six-instances (a ∷ b ∷ c ∷ d ∷ e ∷ f ∷ []) l = omega arith
six-instances (a ∷ b ∷ c ∷ d ∷ e ∷ f ∷ g ∷ ts) l = absurd (omega arith)

pub instances-out : (y : System) → length y.types ≡ type_limit → instances_out y ≡ instances (ceilings_of y)
instances-out y l = six-instances y.types l

-- intermediate: nothing to send

no-instances : (x : List ℕ) → instances x ≡ 0 → x ≡ replicate (length x) 0
unfolding instances
no-instances [] h = refl
no-instances (n ∷ x) h = cons-path (omega arith) (no-instances x (omega arith))

-- the one assignment of no instances is good
none-good : (y : System) (es : List ℕ) → count_of (good_on y es) (assignments_of es empty_load) ≡ 1
unfolding count_of assignments_of places_of each_before
none-good y es = rw goodness
  where
    empty : (e : ℕ) → fits_engine y (load_on e (replicate type_limit [])) ≡ true
    empty e = unfold count_on in empty-fits y

    placed : every (every (among es)) (replicate type_limit []) ≡ true
    placed = unfold every in refl

    goodness : good_on y es (replicate type_limit []) ≡ true
    goodness = unfold good in and_both (every (every (among es)) (replicate type_limit [])) (every (λ (e : ℕ). fits_engine y (load_on e (replicate type_limit []))) es) placed (every-always (λ (e : ℕ). fits_engine y (load_on e (replicate type_limit []))) empty es)

-- intermediate: the places of one type

every-places : (p : List ℕ → Bool) (χ : Assignment) (j : ℕ) → p [] ≡ true → every p χ ≡ true → p (get_or χ j []) ≡ true
unfolding every
every-places p [] j none h = none
every-places p (places ∷ χ) zero none h = (and_parts (p places) (every p χ) h).0
every-places p (places ∷ χ) (suc j) none h = every-places p χ j none (and_parts (p places) (every p χ) h).1

-- main: the numbers of a system that keeps the limits

module _ (y : System) (limits : Limits y) where
  abbrev es : List ℕ
  es = engines_to y.engines

  abbrev listing : List Assignment
  listing = assignments_of es (ceilings_of y)

  abbrev is_good : Assignment → Bool
  is_good = good_on y es

  abbrev Meant : Assignment → Type 0
  Meant = Partition y (EngineOf y) (ceiling_no y)

  six : length (ceilings_of y) ≡ type_limit
  six = length-map y.types (λ (t : TaskType). t.ceiling) ∙ limits.six

  -- an assignment of all instances to the engines stands in the listing once, and no other does
  listed : (χ : Assignment) → assigned χ ≡ ceilings_of y → every (every (among es)) χ ≡ true → times χ listing ≡ 1
  listed χ a h = subst (λ (x : List ℕ). times χ (assignments_of es x) ≡ 1) a (listed-once es χ (distinct-engines_to y.engines) h)

  unlisted : (χ : Assignment) → 1 ≤ times χ listing → (assigned χ ≡ ceilings_of y) × (every (every (among es)) χ ≡ true)
  unlisted χ h = listed-only es (ceilings_of y) χ (times-any χ listing h)

  -- the good ones

  means : (χ : Assignment) → assigned χ ≡ ceilings_of y → is_good χ ≡ true → Meant χ
  means =
      partition-of y limits.rule es (distinct-engines_to y.engines) (every-among es) (EngineOf y) (among-engines_to y.engines) (ceilings_of y) six (ceiling_no y)
      (λ t low. ceiling-out y t)

  assigns : (χ : Assignment) → Meant χ → assigned χ ≡ ceilings_of y
  assigns =
      partition-assigns y limits.rule es (distinct-engines_to y.engines) (every-among es) (EngineOf y) (among-engines_to y.engines) (ceilings_of y) six (ceiling_no y)
      (λ t low. ceiling-out y t)

  good-is : (χ : Assignment) → Meant χ → is_good χ ≡ true
  good-is =
      partition-good y limits.rule es (distinct-engines_to y.engines) (every-among es) (EngineOf y) (among-engines_to y.engines) (ceilings_of y) six (ceiling_no y)
      (λ t low. ceiling-out y t)

  good-once : (χ : Assignment) → Meant χ → times χ (kept is_good listing) ≡ 1
  good-once χ p =
      times-kept is_good χ listing
      ∙ ap (λ (b : Bool). cond b (times χ listing) 0) (good-is χ p)
      ∙ listed χ (assigns χ p) (good-parts (λ (e : ℕ). fits_engine y) es χ (good-is χ p)).0

  good-meant : (χ : Assignment) → 1 ≤ times χ (kept is_good listing) → Meant χ
  good-meant χ h = go (is_good χ) refl (rw (times-kept is_good χ listing) at h)
    where
      go : (b : Bool) → is_good χ ≡ b → 1 ≤ cond b (times χ listing) 0 → Meant χ
      go true g k = means χ (unlisted χ k).0 g
      go false g k = absurd (omega arith)

  -- all

  all-assigns : (χ : Assignment) → SendsAll y χ → assigned χ ≡ ceilings_of y
  all-assigns χ s =
      lists-same (assigned χ) (ceilings_of y) (length-map χ length ∙ s.six ∙ sym six)
      (λ i. subst (λ (j : ℕ). get_or (assigned χ) j 0 ≡ get_or (ceilings_of y) j 0) (back i)
      (get_or-map length χ (suc i - 1) [] ∙ s.each (suc i) (omega arith) ∙ sym (ceiling-out y (suc i))))
    where
      back : (i : ℕ) → suc i - 1 ≡ i
      back i = omega arith

  all_placed : (χ : Assignment) → SendsAll y χ → every (every (among es)) χ ≡ true
  all_placed χ s = every-of-get_or (every (among es)) χ [] (λ t h. every-of-get_or (among es) (get_or χ t []) 0 (λ i k. at t i k))
    where
      at : (t i : ℕ) → i < length (get_or χ t []) → among es (get_or (get_or χ t []) i 0) ≡ true
      at t i k =
          let back : suc t - 1 ≡ t = omega arith in
          (among-engines_to y.engines (get_or (get_or χ t []) i 0)).1
          (subst (λ (j : ℕ). EngineOf y (get_or (get_or χ j []) i 0)) back
          (s.engines (suc t) i (omega arith) (subst (λ (n : ℕ). i < n) (s.each (suc t) (omega arith)) (subst (λ (j : ℕ). i < length (get_or χ j [])) (sym back) k))))

  all_once : (χ : Assignment) → SendsAll y χ → times χ listing ≡ 1
  all_once χ s = listed χ (all-assigns χ s) (all_placed χ s)

  all-meant : (χ : Assignment) → 1 ≤ times χ listing → SendsAll y χ
  all-meant χ h = record {
    six = sym (length-map χ length) ∙ ap length a ∙ six;
    each = λ t low. counted t;
    engines = λ t i low k. (among-engines_to y.engines (get_or (places_no χ t) i 0)).0
        (every-get_or (among es) (places_no χ t) 0 i (every-places (every (among es)) χ (t - 1) (unfold every in refl) (unlisted χ h).1) (subst (λ (n : ℕ). i < n) (sym (counted t)) k));
  }
    where
      a : assigned χ ≡ ceilings_of y
      a = (unlisted χ h).0

      counted : (t : ℕ) → length (places_no χ t) ≡ ceiling_no y t
      counted t = sym (get_or-map length χ (t - 1) []) ∙ ap (λ (l : List ℕ). get_or l (t - 1) 0) a ∙ ceiling-out y t

  -- no instances at all

  nothing_left : instances_out y ≡ 0 → ceilings_of y ≡ empty_load
  nothing_left h = no-instances (ceilings_of y) (sym (instances-out y limits.six) ∙ h) ∙ ap (λ (n : ℕ). replicate n 0) six

  pub counts-mean : CountMeans y (good_count y) (total_count y)
  counts-mean = record {
    good_ones = kept is_good listing;
    good_listed = lists-once Meant (kept is_good listing) good-once good-meant;
    good_is = count_of-kept is_good listing;
    all_ones = listing;
    all_listed = lists-once (SendsAll y) listing all_once all-meant;
    total_is = sym (length-assignments_of es (ceilings_of y) ∙ ap (λ (n : ℕ). n ^ instances (ceilings_of y)) (length-engines_to y.engines));
    power = ap (λ (n : ℕ). y.engines ^ n) (sym (instances-out y limits.six));
    nothing = λ h. (
      ap (λ (x : List ℕ). count_of is_good (assignments_of es x)) (nothing_left h) ∙ none-good y es,
      ap (λ (n : ℕ). y.engines ^ n) (sym (instances-out y limits.six) ∙ h) ∙ pow-zero y.engines,
    );
  }

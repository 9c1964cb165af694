-- Brute force: the listing has every assignment of ν to the engines es and no other, each exactly once if es are distinct, so that `some_good` decides `Feasible`, for any test.
use Prim.Native.Nat.{ℕ, zero, suc, ◌+◌, ◌*◌, ◌^◌}
use mathlib.Core.Path.{◌≡◌, refl, sym, ap, subst, ◌∙◌}
use mathlib.Core.List.{List, [], ◌∷◌, ◌++◌, map}
use mathlib.Core.Bool.{Bool, true, false, cond, ◌&&◌, ◌||◌, or_assoc, or-false, false≢true}
use mathlib.Core.Logic.{⊎_elim, ◌↔◌}
use native.Mathlib.Nat.{zero-mul, suc-mul, zero-add, suc-add, add_comm, pow-zero, pow-succ'}
use borrow.Author.Tests.{eqb-true, eq-eqb}
use lib.ListN.{length, length-append, length-map}
use lib.Dec.{eqb}
use lib.Pow.{pow-add}
use Rattle.loads.proofs.Order.{and_parts, and_both, cons-path}
use Rattle.partition.specs.Assignment.{Assignment, assigned, among, every, any_of, good, Feasible, each_before, places_of, assignments_of, some_good}
use Rattle.partition.specs.Shares.{distinct}
use Rattle.partition.specs.Listing.{same_list, same_assignment, occurrences, instances}
use Rattle.partition.proofs.Shares.{good-parts}
use Rattle.partition.proofs.Lists.{true-or-false, or_cases, or-neither, distinct-parts, among-more, among-here, any_of-among}

-- intermediate: searching a listing

any_of-++ : {A : Type 0} (p : A → Bool) (l r : List A) → any_of p (l ++ r) ≡ (any_of p l || any_of p r)
unfolding any_of
any_of-++ p [] r = refl
any_of-++ p (x ∷ l) r = ap (λ (b : Bool). p x || b) (any_of-++ p l r) ∙ sym (or_assoc (p x) (any_of p l) (any_of p r))

any_of-map : {A B : Type 0} (p : B → Bool) (f : A → B) (l : List A) → any_of p (map f l) ≡ any_of (λ (x : A). p (f x)) l
unfolding any_of
any_of-map p f [] = refl
any_of-map p f (x ∷ l) = ap (λ (b : Bool). p (f x) || b) (any_of-map p f l)

any_of-each_before : {A : Type 0} (p : List A → Bool) (xs : List A) (rests : List (List A)) → any_of p (each_before xs rests) ≡ any_of (λ (x : A). any_of (λ (rest : List A). p (x ∷ rest)) rests) xs
unfolding any_of each_before
any_of-each_before p [] rests = refl
any_of-each_before {A = A} p (x ∷ xs) rests =
    let f : List A → List A = λ rest. x ∷ rest in
    any_of-++ p (map f rests) (each_before xs rests)
    ∙ ap (λ (b : Bool). b || any_of p (each_before xs rests)) (any_of-map p f rests)
    ∙ ap (λ (b : Bool). any_of (λ (rest : List A). p (x ∷ rest)) rests || b) (any_of-each_before p xs rests)

some-among : (q : ℕ → Bool) (es : List ℕ) → any_of q es ≡ true → (e : ℕ) × (among es e ≡ true) × (q e ≡ true)
unfolding any_of
some-among q [] h = absurd (false≢true h)
some-among q (d ∷ es) h =
    ⊎_elim
    (λ s. (d, among-here d es, s))
    (λ r. let f = some-among q es r in (f.0, among-more d f.0 es f.1, f.2))
    (or_cases (q d) (any_of q es) h)

places-found : (es : List ℕ) (n : ℕ) (q : List ℕ → Bool) → any_of q (places_of es n) ≡ true → (places : List ℕ) × (length places ≡ n) × (every (among es) places ≡ true) × (q places ≡ true)
unfolding places_of any_of every
places-found es zero q h = ([], refl, refl, sym (or-false (q [])) ∙ h)
places-found es (suc n) q h =
    let a = some-among (λ (e : ℕ). any_of (λ (rest : List ℕ). q (e ∷ rest)) (places_of es n)) es (sym (any_of-each_before q es (places_of es n)) ∙ h) in
    let b = places-found es n (λ (rest : List ℕ). q (a.0 ∷ rest)) a.2 in
    (a.0 ∷ b.0, ap suc b.1, and_both (among es a.0) (every (among es) b.0) a.1 b.2, b.3)

places-listed : (es places : List ℕ) (q : List ℕ → Bool) → every (among es) places ≡ true → q places ≡ true → any_of q (places_of es (length places)) ≡ true
unfolding places_of any_of every
places-listed es [] q h k = or-false (q []) ∙ k
places-listed es (p ∷ places) q h k =
    let b = and_parts (among es p) (every (among es) places) h in
    any_of-each_before q es (places_of es (length places))
    ∙ any_of-among (λ (e : ℕ). any_of (λ (rest : List ℕ). q (e ∷ rest)) (places_of es (length places))) es p b.0
    (places-listed es places (λ (rest : List ℕ). q (p ∷ rest)) b.1 k)

-- main: the listing has all assignments of ν to es, and no other

pub listing-found : (es ν : List ℕ) (p : Assignment → Bool) → any_of p (assignments_of es ν) ≡ true → (χ : Assignment) × (assigned χ ≡ ν) × (every (every (among es)) χ ≡ true) × (p χ ≡ true)
unfolding assignments_of any_of every
listing-found es [] p h = ([], refl, refl, sym (or-false (p [])) ∙ h)
listing-found es (n ∷ ν) p h =
    let a = places-found es n (λ (places : List ℕ). any_of (λ (rest : Assignment). p (places ∷ rest)) (assignments_of es ν)) (sym (any_of-each_before p (places_of es n) (assignments_of es ν)) ∙ h) in
    let b = listing-found es ν (λ (rest : Assignment). p (a.0 ∷ rest)) a.3 in
    (a.0 ∷ b.0, cons-path a.1 b.1, and_both (every (among es) a.0) (every (every (among es)) b.0) a.2 b.2, b.3)

pub listing-holds : (es : List ℕ) (χ : Assignment) (p : Assignment → Bool) → every (every (among es)) χ ≡ true → p χ ≡ true → any_of p (assignments_of es (assigned χ)) ≡ true
unfolding assignments_of any_of every
listing-holds es [] p h k = or-false (p []) ∙ k
listing-holds es (places ∷ χ) p h k =
    let b = and_parts (every (among es) places) (every (every (among es)) χ) h in
    any_of-each_before p (places_of es (length places)) (assignments_of es (assigned χ))
    ∙ places-listed es places (λ (x : List ℕ). any_of (λ (rest : Assignment). p (x ∷ rest)) (assignments_of es (assigned χ))) b.0
    (listing-holds es χ (λ (rest : Assignment). p (places ∷ rest)) b.1 k)

-- brute force decides whether a good assignment exists
pub some_good-iff-feasible : (test : ℕ → List ℕ → Bool) (es ν : List ℕ) → (some_good test es ν ≡ true) ↔ Feasible test es ν
unfolding some_good
some_good-iff-feasible test es ν = (there, back)
  where
    there : any_of (good test es) (assignments_of es ν) ≡ true → Feasible test es ν
    there h = let a = listing-found es ν (good test es) h in record { mapping = a.0; assigns = a.1; is_good = a.3 }

    back : Feasible test es ν → any_of (good test es) (assignments_of es ν) ≡ true
    back f =
        subst (λ (z : List ℕ). any_of (good test es) (assignments_of es z) ≡ true) f.assigns
        (listing-holds es f.mapping (good test es) (good-parts test es f.mapping f.is_good).0 f.is_good)

-- intermediate: the same list

module _ {A : Type 0} (same : A → A → Bool) where
  pub same_list-refl : ((x : A) → same x x ≡ true) → (l : List A) → same_list same l l ≡ true
  unfolding same_list
  same_list-refl h [] = refl
  same_list-refl h (x ∷ l) = and_both (same x x) (same_list same l l) (h x) (same_list-refl h l)

  pub same_list-true : ((x y : A) → same x y ≡ true → x ≡ y) → (l r : List A) → same_list same l r ≡ true → l ≡ r
  unfolding same_list
  same_list-true h [] [] e = refl
  same_list-true h [] (y ∷ r) e = absurd (false≢true e)
  same_list-true h (x ∷ l) [] e = absurd (false≢true e)
  same_list-true h (x ∷ l) (y ∷ r) e =
      let b = and_parts (same x y) (same_list same l r) e in
      let p = h x y b.0 in
      let q = same_list-true h l r b.1 in
      λ i. p i ∷ q i

-- main: `same_assignment` says that two assignments are equal

pub same_assignment-refl : (χ : Assignment) → same_assignment χ χ ≡ true
same_assignment-refl χ = same_list-refl (same_list eqb) (same_list-refl eqb (λ n. eq-eqb n n refl)) χ

pub same_assignment-true : (χ χ' : Assignment) → same_assignment χ χ' ≡ true → χ ≡ χ'
same_assignment-true χ χ' h = same_list-true (same_list eqb) (same_list-true eqb eqb-true) χ χ' h

-- intermediate: counting a listing

occurrences-++ : {A : Type 0} (same : A → A → Bool) (x : A) (l r : List A) → occurrences same x (l ++ r) ≡ occurrences same x l + occurrences same x r
unfolding occurrences
occurrences-++ same x [] r = sym (zero-add (occurrences same x r))
occurrences-++ same x (y ∷ l) r = go (same y x) (occurrences-++ same x l r)
  where
    go : (b : Bool) → occurrences same x (l ++ r) ≡ occurrences same x l + occurrences same x r → cond b (suc (occurrences same x (l ++ r))) (occurrences same x (l ++ r)) ≡ cond b (suc (occurrences same x l)) (occurrences same x l) + occurrences same x r
    go true e = ap suc e ∙ sym (suc-add (occurrences same x l) (occurrences same x r))
    go false e = e

module _ {A : Type 0} (same : A → A → Bool) where
  occurrences-before : (x y : A) (ys : List A) (rests : List (List A)) → occurrences (same_list same) (y ∷ ys) (map (λ (rest : List A). x ∷ rest) rests) ≡ cond (same x y) (occurrences (same_list same) ys rests) 0
  unfolding occurrences same_list
  occurrences-before x y ys [] = go (same x y)
    where
      go : (b : Bool) → ◌≡◌ {A = ℕ} 0 (cond b 0 0)
      go true = refl
      go false = refl
  occurrences-before x y ys (rest ∷ rests) = rw (occurrences-before x y ys rests) (go (same x y))
    where
      go : (b : Bool) → cond (b && same_list same rest ys) (suc (cond b (occurrences (same_list same) ys rests) 0)) (cond b (occurrences (same_list same) ys rests) 0) ≡ cond b (cond (same_list same rest ys) (suc (occurrences (same_list same) ys rests)) (occurrences (same_list same) ys rests)) 0
      go true = refl
      go false = refl

  occurrences-each_before : (y : A) (ys xs : List A) (rests : List (List A)) → occurrences (same_list same) (y ∷ ys) (each_before xs rests) ≡ occurrences same y xs * occurrences (same_list same) ys rests
  unfolding occurrences each_before
  occurrences-each_before y ys [] rests = sym (zero-mul (occurrences (same_list same) ys rests))
  occurrences-each_before y ys (x ∷ xs) rests =
      occurrences-++ (same_list same) (y ∷ ys) (map (λ (rest : List A). x ∷ rest) rests) (each_before xs rests)
      ∙ rw (occurrences-before x y ys rests, occurrences-each_before y ys xs rests) (go (same x y))
    where
      n : ℕ
      n = occurrences same y xs

      r : ℕ
      r = occurrences (same_list same) ys rests

      go : (b : Bool) → cond b r 0 + n * r ≡ cond b (suc n) n * r
      go true = add_comm r (n * r) ∙ sym (suc-mul n r)
      go false = zero-add (n * r)

occurrences-outside : (es : List ℕ) (p : ℕ) → among es p ≡ false → occurrences eqb p es ≡ 0
unfolding occurrences among
occurrences-outside [] p h = refl
occurrences-outside (e ∷ es) p h =
    let b = or-neither (eqb e p) (among es p) h in
    rw b.0 (occurrences-outside es p b.1)

occurrences-inside : (es : List ℕ) (p : ℕ) → distinct es ≡ true → among es p ≡ true → occurrences eqb p es ≡ 1
unfolding occurrences among
occurrences-inside [] p d h = absurd (false≢true h)
occurrences-inside (e ∷ es) p d h = ⊎_elim here (λ s. rw s (occurrences-inside es p apart.1 (rw s at h))) (true-or-false (eqb e p))
  where
    apart : (among es e ≡ false) × (distinct es ≡ true)
    apart = distinct-parts e es d

    here : eqb e p ≡ true → cond (eqb e p) (suc (occurrences eqb p es)) (occurrences eqb p es) ≡ 1
    here s = rw (s, ← (eqb-true e p s)) (ap suc (occurrences-outside es e apart.0))

occurrences-places : (es places : List ℕ) → distinct es ≡ true → every (among es) places ≡ true → occurrences (same_list eqb) places (places_of es (length places)) ≡ 1
unfolding places_of every
occurrences-places es [] d h = unfold occurrences same_list in refl
occurrences-places es (p ∷ places) d h =
    let b = and_parts (among es p) (every (among es) places) h in
    occurrences-each_before eqb p places es (places_of es (length places))
    ∙ rw (occurrences-inside es p d b.0, occurrences-places es places d b.1)

-- main: each assignment stands in the listing exactly once, and the listing's length

pub listed-once : (es : List ℕ) (χ : Assignment) → distinct es ≡ true → every (every (among es)) χ ≡ true → occurrences same_assignment χ (assignments_of es (assigned χ)) ≡ 1
unfolding assignments_of every
listed-once es [] d h = unfold occurrences same_list in refl
listed-once es (places ∷ χ) d h =
    let b = and_parts (every (among es) places) (every (every (among es)) χ) h in
    occurrences-each_before (same_list eqb) places χ (places_of es (length places)) (assignments_of es (assigned χ))
    ∙ rw (occurrences-places es places d b.0, listed-once es χ d b.1)

-- what stands in the listing is an assignment of ν to es
pub listed-only : (es ν : List ℕ) (χ : Assignment) → any_of (λ (x : Assignment). same_assignment x χ) (assignments_of es ν) ≡ true → (assigned χ ≡ ν) × (every (every (among es)) χ ≡ true)
listed-only es ν χ h =
    let a = listing-found es ν (λ (x : Assignment). same_assignment x χ) h in
    let e = same_assignment-true a.0 χ a.3 in
    (ap assigned (sym e) ∙ a.1, subst (λ (x : Assignment). every (every (among es)) x ≡ true) e a.2)

length-each_before : {A : Type 0} (xs : List A) (rests : List (List A)) → length (each_before xs rests) ≡ length xs * length rests
unfolding each_before
length-each_before [] rests = sym (zero-mul (length rests))
length-each_before {A = A} (x ∷ xs) rests =
    let f : List A → List A = λ rest. x ∷ rest in
    length-append (map f rests) (each_before xs rests)
    ∙ rw (length-map rests f, length-each_before xs rests, suc-mul (length xs) (length rests)) (add_comm (length rests) (length xs * length rests))

length-places_of : (es : List ℕ) (n : ℕ) → length (places_of es n) ≡ length es ^ n
unfolding places_of
length-places_of es zero = sym (pow-zero (length es))
length-places_of es (suc n) = length-each_before es (places_of es n) ∙ rw (length-places_of es n) (sym (pow-succ' (length es) n))

pub length-assignments_of : (es ν : List ℕ) → length (assignments_of es ν) ≡ length es ^ instances ν
unfolding assignments_of instances
length-assignments_of es [] = sym (pow-zero (length es))
length-assignments_of es (n ∷ ν) =
    length-each_before (places_of es n) (assignments_of es ν)
    ∙ rw (length-places_of es n, length-assignments_of es ν) (sym (pow-add (length es) n (instances ν)))

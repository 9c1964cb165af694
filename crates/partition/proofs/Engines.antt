-- A list of engines among others: what is on them is all that there is, whichever list of engines is looked at, and rows put on engines are what each of these holds.
use Prim.Native.Nat.{ℕ, zero, suc, ◌+◌, ◌-◌, ◌≤◌, ◌<◌, zero-le}
use mathlib.Core.Path.{◌≡◌, refl, sym, ap, subst, ◌∙◌}
use mathlib.Core.List.{List, [], ◌∷◌, ◌++◌, map}
use mathlib.Core.Bool.{Bool, true, false, cond, ◌||◌, false≢true}
use mathlib.Core.Logic.{⊎_elim}
use native.Mathlib.Nat.{le_refl, le_of_suc-le-suc, zero-add, add-zero, suc-add, add-suc}
use native.Mathlib.Omega.{arith}
use borrow.Author.Tests.{ltb-true, ltb-false, eqb-true, eq-eqb, ne_eqb}
use lib.ListN.{length, replicate, get_or, set, take, length-map, get_or-eq_default}
use lib.Dec.{eqb, ltb}
use Rattle.loads.specs.Load.{holds_none}
use Rattle.loads.proofs.Order.{and_both, cons-path, holds_none-zero}
use Rattle.partition.specs.Assignment.{Assignment, load_on, among, every, good, used_of, numbers_from, engines_to}
use Rattle.partition.specs.Shares.{distinct, loads_on, row_on, on_engines}
use Rattle.partition.proofs.Lists.{true-or-false, not-both, or_cases, or_left, or_right_lem, or-neither, among-here, distinct-parts, every-parts, every-weaker, every-always, every-get_or, every-among, among-tested, length-engines_to, engines_to-outside, get_or-map-engines_to}
use Rattle.partition.proofs.Shares.{load_on-outside, good-parts}

-- intermediate: rows on engines

row_on-empty : {A : Type 0} (none : A) (n : ℕ) (es : List ℕ) (e : ℕ) → row_on none es (replicate n none) e ≡ none
unfolding row_on
row_on-empty none n [] e = refl
row_on-empty none zero (d ∷ es) e = refl
row_on-empty {A = A} none (suc n) (d ∷ es) e = go (eqb d e) (row_on-empty none n es e)
  where
    go : (b : Bool) → row_on none es (replicate n none) e ≡ none → cond b none (row_on none es (replicate n none) e) ≡ none
    go true rest = refl
    go false rest = rest

-- empty rows past the last one change nothing
pub row_on-padded : {A : Type 0} (none : A) (n : ℕ) (es : List ℕ) (rows : List A) (e : ℕ) → row_on none es (rows ++ replicate n none) e ≡ row_on none es rows e
unfolding row_on
row_on-padded none n [] rows e = refl
row_on-padded none n (d ∷ es) [] e = row_on-empty none n (d ∷ es) e
row_on-padded none n (d ∷ es) (x ∷ rows) e = ap (cond (eqb d e) x) (row_on-padded none n es rows e)

-- the same of what the rows are made into
pub row_on-map : {A B : Type 0} (f : A → B) (none : A) (es : List ℕ) (rows : List A) (e : ℕ) → f (row_on none es rows e) ≡ row_on (f none) es (map f rows) e
unfolding row_on
row_on-map f none [] rows e = refl
row_on-map f none (d ∷ es) [] e = refl
row_on-map {A = A} {B = B} f none (d ∷ es) (x ∷ rows) e = go (eqb d e) (row_on-map f none es rows e)
  where
    go : (b : Bool) → f (row_on none es rows e) ≡ row_on (f none) es (map f rows) e → f (cond b x (row_on none es rows e)) ≡ cond b (f x) (row_on (f none) es (map f rows) e)
    go true rest = refl
    go false rest = rest

row_on-among : (none : List ℕ) (es : List ℕ) (χ : Assignment) (e : ℕ) → row_on none es (loads_on es χ) e ≡ cond (among es e) (load_on e χ) none
unfolding row_on among
row_on-among none [] χ e = refl
row_on-among none (d ∷ es) χ e = go (eqb d e) refl (row_on-among none es χ e)
  where
    go : (b : Bool) → eqb d e ≡ b → row_on none es (loads_on es χ) e ≡ cond (among es e) (load_on e χ) none
        → cond b (load_on d χ) (row_on none es (loads_on es χ) e) ≡ cond (b || among es e) (load_on e χ) none
    go true q rest = ap (λ (z : ℕ). load_on z χ) (eqb-true d e q)
    go false q rest = rest

-- main: the loads of an assignment to the engines es, as rows on these, are what it sends to each engine
pub row_on-loads_on : (es : List ℕ) (χ : Assignment) (e : ℕ) → every (every (among es)) χ ≡ true → row_on (replicate (length χ) 0) es (loads_on es χ) e ≡ load_on e χ
row_on-loads_on es χ e h = row_on-among (replicate (length χ) 0) es χ e ∙ go (among es e) refl
  where
    go : (b : Bool) → among es e ≡ b → cond b (load_on e χ) (replicate (length χ) 0) ≡ load_on e χ
    go true q = refl
    go false q = sym (load_on-outside es e χ h q)

-- main: good on some engines is good on more of them, where an empty engine fits

among-every : (L es : List ℕ) (e : ℕ) → every (among L) es ≡ true → among es e ≡ true → among L e ≡ true
unfolding among
among-every L [] e h k = absurd (false≢true k)
among-every L (d ∷ es) e h k =
    let b = every-parts (among L) d es h in
    ⊎_elim (λ q. subst (λ (z : ℕ). among L z ≡ true) (eqb-true d e q) b.0) (λ q. among-every L es e b.1 q) (or_cases (eqb d e) (among es e) k)

pub good-wider : (fits : List ℕ → Bool) (es L : List ℕ) (χ : Assignment) → every (among L) es ≡ true → fits (replicate (length χ) 0) ≡ true
    → good (λ (e : ℕ). fits) es χ ≡ true → good (λ (e : ℕ). fits) L χ ≡ true
unfolding good
good-wider fits es L χ wide idle h =
    and_both (every (every (among L)) χ) (every (λ (e : ℕ). fits (load_on e χ)) L)
    (every-weaker (every (among es)) (every (among L)) (λ places. every-weaker (among es) (among L) (λ e. among-every L es e wide) places) χ parts.0)
    (every-always (λ (e : ℕ). fits (load_on e χ)) (λ e. go e (among es e) refl) L)
  where
    parts : (every (every (among es)) χ ≡ true) × (every (λ (e : ℕ). fits (load_on e χ)) es ≡ true)
    parts = good-parts (λ (e : ℕ). fits) es χ h

    go : (e : ℕ) (b : Bool) → among es e ≡ b → fits (load_on e χ) ≡ true
    go e true q = among-tested (λ (d : ℕ). fits (load_on d χ)) es e parts.1 q
    go e false q = rw (load_on-outside es e χ parts.0 q) idle

-- main: the used engines are the same, whichever list has them

-- es without its first e
without : ℕ → List ℕ → List ℕ
without e [] = []
without e (d ∷ es) = cond (eqb d e) es (d ∷ without e es)

among-without : (e d : ℕ) (es : List ℕ) → (e ≡ d → ⊥) → among es d ≡ true → among (without e es) d ≡ true
unfolding without among
among-without e d [] n h = h
among-without e d (c ∷ es) n h = go (eqb c e) refl (among-without e d es n)
  where
    go : (b : Bool) → eqb c e ≡ b → (among es d ≡ true → among (without e es) d ≡ true) → among (cond b es (c ∷ without e es)) d ≡ true
    go true q rest = ⊎_elim (λ r. absurd (n (sym (eqb-true c e q) ∙ eqb-true c d r))) (λ r. r) (or_cases (eqb c d) (among es d) h)
    go false q rest = ⊎_elim (λ r. or_left (eqb c d) (among (without e es) d) r) (λ r. or_right_lem (eqb c d) (among (without e es) d) (rest r)) (or_cases (eqb c d) (among es d) h)

used-without : (e : ℕ) (es : List ℕ) (χ : Assignment) → among es e ≡ true → holds_none (load_on e χ) ≡ false → suc (used_of (without e es) χ) ≡ used_of es χ
unfolding without among used_of
used-without e [] χ h u = absurd (false≢true h)
used-without e (c ∷ es) χ h u = go (eqb c e) refl (used-without e es χ)
  where
    tail : (b : Bool) → suc (used_of (without e es) χ) ≡ used_of es χ → suc (cond b (used_of (without e es) χ) (suc (used_of (without e es) χ))) ≡ cond b (used_of es χ) (suc (used_of es χ))
    tail true r = r
    tail false r = ap suc r

    go : (b : Bool) → eqb c e ≡ b → (among es e ≡ true → holds_none (load_on e χ) ≡ false → suc (used_of (without e es) χ) ≡ used_of es χ)
        → suc (used_of (cond b es (c ∷ without e es)) χ) ≡ cond (holds_none (load_on c χ)) (used_of es χ) (suc (used_of es χ))
    go true q rest = rw (eqb-true c e q, u)
    go false q rest = tail (holds_none (load_on c χ)) (rest (⊎_elim (λ r. absurd (not-both r q)) (λ r. r) (or_cases (eqb c e) (among es e) h)) u)

-- no list of distinct engines has more used ones than a list that has all used ones
used_le : (L es : List ℕ) (χ : Assignment) → distinct L ≡ true → ((e : ℕ) → among L e ≡ true → holds_none (load_on e χ) ≡ false → among es e ≡ true) → used_of L χ ≤ used_of es χ
unfolding used_of
used_le [] es χ d h = zero-le
used_le (e ∷ L) es χ d h = go (holds_none (load_on e χ)) refl (λ fs k. used_le L fs χ (distinct-parts e L d).1 k)
  where
    more : (c : ℕ) → among L c ≡ true → among (e ∷ L) c ≡ true
    more c r = unfold among in or_right_lem (eqb e c) (among L c) r

    other : (c : ℕ) → among L c ≡ true → e ≡ c → ⊥
    other c r same = not-both r (subst (λ (z : ℕ). among L z ≡ false) same (distinct-parts e L d).0)

    go : (b : Bool) → holds_none (load_on e χ) ≡ b → ((fs : List ℕ) → ((c : ℕ) → among L c ≡ true → holds_none (load_on c χ) ≡ false → among fs c ≡ true) → used_of L χ ≤ used_of fs χ)
        → cond b (used_of L χ) (suc (used_of L χ)) ≤ used_of es χ
    go true q rest = rest es (λ c r u. h c (more c r) u)
    go false q rest =
        omega (arith, rest (without e es) (λ c r u. among-without e c es (other c r) (h c (more c r) u)), used-without e es χ (h e (among-here e L) q) q)

pub used_of-wider : (es L : List ℕ) (χ : Assignment) → distinct es ≡ true → distinct L ≡ true → every (among L) es ≡ true → every (every (among es)) χ ≡ true → used_of L χ ≡ used_of es χ
used_of-wider es L χ d d_l wide h =
    omega (arith, used_le L es χ d_l inside, used_le es L χ d (λ e r u. among-every L es e wide r))
  where
    inside : (e : ℕ) → among L e ≡ true → holds_none (load_on e χ) ≡ false → among es e ≡ true
    inside e r u = ⊎_elim (λ q. q) (λ q. absurd (not-both (holds_none-zero (length χ)) (subst (λ (x : List ℕ). holds_none x ≡ false) (load_on-outside es e χ h q) u))) (true-or-false (among es e))

-- main: engines past those that have a row hold nothing

pub map_same : {A B : Type 0} (f g : A → B) → ((x : A) → f x ≡ g x) → (l : List A) → map f l ≡ map g l
map_same f g h [] = refl
map_same f g h (x ∷ l) = cons-path (h x) (map_same f g h l)

pub row_on-outside : {A : Type 0} (none : A) (es : List ℕ) (rows : List A) (e : ℕ) → among es e ≡ false → row_on none es rows e ≡ none
unfolding row_on among
row_on-outside none [] rows e h = refl
row_on-outside none (d ∷ es) [] e h = refl
row_on-outside none (d ∷ es) (x ∷ rows) e h =
    let b = or-neither (eqb d e) (among es e) h in
    rw b.0 (row_on-outside none es rows e b.1)

rows-outside : {A : Type 0} (none : A) (a n : ℕ) (es : List ℕ) (rows : List A) → ((e : ℕ) → a ≤ e → among es e ≡ false) → map (row_on none es rows) (numbers_from a n) ≡ replicate n none
unfolding numbers_from
rows-outside none a zero es rows h = refl
rows-outside none a (suc n) es rows h =
    cons-path (row_on-outside none es rows a (h a (le_refl a))) (rows-outside none (suc a) n es rows (λ e l. h e (omega arith)))

-- the numbers from a, as many as m + n, are as many as m and after them as many as n
pub numbers_from-more : {B : Type 0} (f : ℕ → B) (a m n : ℕ) → map f (numbers_from a (m + n)) ≡ map f (numbers_from a m) ++ map f (numbers_from (a + m) n)
unfolding numbers_from
numbers_from-more f a zero n = rw (zero-add n, add-zero a)
numbers_from-more f a (suc m) n = rw (suc-add m n) (cons-path refl (numbers_from-more f (suc a) m n ∙ rw (suc-add a m, ← (add-suc a m))))

pub on_engines-more : {A : Type 0} (none : A) (all n : ℕ) (es : List ℕ) (rows : List A) → every (among (engines_to all)) es ≡ true → on_engines none (all + n) es rows ≡ on_engines none all es rows ++ replicate n none
on_engines-more {A = A} none all n es rows known =
    numbers_from-more (row_on none es rows) 1 all n ∙ ap (λ (l : List A). on_engines none all es rows ++ l) (rows-outside none (1 + all) n es rows past)
  where
    past : (e : ℕ) → 1 + all ≤ e → among es e ≡ false
    past e h = ⊎_elim (λ q. absurd (not-both (among-every (engines_to all) es e known q) (engines_to-outside all e (omega arith)))) (λ q. q) (true-or-false (among es e))

-- main: with row i on engine i, the engines past the last row have none

row_on-past : {A : Type 0} (none : A) (a n : ℕ) (rows : List A) (j : ℕ) → length rows ≤ j → row_on none (numbers_from a n) rows (a + j) ≡ none
unfolding row_on numbers_from
row_on-past none a zero rows j h = refl
row_on-past none a (suc n) [] j h = refl
row_on-past none a (suc n) (x ∷ rows) zero h = absurd (omega arith)
row_on-past none a (suc n) (x ∷ rows) (suc j) h =
    rw (ne_eqb a (a + suc j) (λ q. absurd (omega arith)))
    (ap (row_on none (numbers_from (suc a) n) rows) (add-suc a j ∙ sym (suc-add a j)) ∙ row_on-past none (suc a) n rows j (le_of_suc-le-suc h))

pub on_engines-past : {A : Type 0} (none : A) (all m : ℕ) (rows : List A) (j : ℕ) → length rows ≤ j → get_or (on_engines none all (engines_to m) rows) j none ≡ none
on_engines-past none all m rows j h =
    ⊎_elim
    (λ t. get_or-map-engines_to (row_on none (engines_to m) rows) all j none (ltb-true j all t) ∙ ap (row_on none (engines_to m) rows) (omega arith) ∙ row_on-past none 1 m rows j h)
    (λ t. get_or-eq_default (on_engines none all (engines_to m) rows) none (omega (arith, ltb-false j all t, length-map (engines_to all) (row_on none (engines_to m) rows), length-engines_to all)))
    (true-or-false (ltb j all))

-- main: with row i on engine i, engine i has row i

row_on-at : {A : Type 0} (none : A) (a n : ℕ) (rows : List A) (j : ℕ) → j < n → row_on none (numbers_from a n) rows (a + j) ≡ get_or rows j none
unfolding row_on numbers_from
row_on-at none a zero rows j h = absurd (omega arith)
row_on-at none a (suc n) [] j h = refl
row_on-at none a (suc n) (x ∷ rows) zero h = rw (add-zero a, eq-eqb a a refl)
row_on-at none a (suc n) (x ∷ rows) (suc j) h =
    rw (ne_eqb a (a + suc j) (λ q. absurd (omega arith)))
    (ap (row_on none (numbers_from (suc a) n) rows) (add-suc a j ∙ sym (suc-add a j)) ∙ row_on-at none (suc a) n rows j (le_of_suc-le-suc h))

pub on_engines-at : {A : Type 0} (none : A) (all m : ℕ) (rows : List A) (j : ℕ) → j < m → j < all → get_or (on_engines none all (engines_to m) rows) j none ≡ get_or rows j none
on_engines-at none all m rows j h k =
    get_or-map-engines_to (row_on none (engines_to m) rows) all j none k ∙ ap (row_on none (engines_to m) rows) (omega arith) ∙ row_on-at none 1 m rows j h

-- main: one row more put on its engine

row_on-next : {A : Type 0} (none : A) (es : List ℕ) (rows : List A) (i d : ℕ) → distinct es ≡ true → i < length es → i < length rows
    → row_on none es (take (suc i) rows) d ≡ cond (eqb (get_or es i 0) d) (get_or rows i none) (row_on none es (take i rows) d)
unfolding row_on
row_on-next none [] rows i d apart h k = absurd (omega arith)
row_on-next none (c ∷ es) [] i d apart h k = absurd (omega arith)
row_on-next none (c ∷ es) (x ∷ rows) zero d apart h k = ap (cond (eqb c d) x) (row_on-empty none 0 es d)
row_on-next {A = A} none (c ∷ es) (x ∷ rows) (suc i) d apart h k =
    go (eqb c d) refl (row_on-next none es rows i d (distinct-parts c es apart).1 (le_of_suc-le-suc h) (le_of_suc-le-suc k))
  where
    e : ℕ
    e = get_or es i 0

    other : eqb c d ≡ true → eqb e d ≡ false
    other q =
        ne_eqb e d
        (λ same. not-both (subst (λ (z : ℕ). among es z ≡ true) (same ∙ sym (eqb-true c d q)) (every-get_or (among es) es 0 i (every-among es) (le_of_suc-le-suc h))) (distinct-parts c es apart).0)

    go : (b : Bool) → eqb c d ≡ b → row_on none es (take (suc i) rows) d ≡ cond (eqb e d) (get_or rows i none) (row_on none es (take i rows) d)
        → cond b x (row_on none es (take (suc i) rows) d) ≡ cond (eqb e d) (get_or rows i none) (cond b x (row_on none es (take i rows) d))
    go true q rest = rw (other q)
    go false q rest = rest

map-from : {B : Type 0} (f g : ℕ → B) (a n : ℕ) → ((d : ℕ) → a ≤ d → f d ≡ g d) → map f (numbers_from a n) ≡ map g (numbers_from a n)
unfolding numbers_from
map-from f g a zero h = refl
map-from f g a (suc n) h = cons-path (h a (le_refl a)) (map-from f g (suc a) n (λ d l. h d (omega arith)))

set-numbers_from : {B : Type 0} (f : ℕ → B) (v : B) (a n j : ℕ) → j < n → set (map f (numbers_from a n)) j v ≡ map (λ (d : ℕ). cond (eqb (a + j) d) v (f d)) (numbers_from a n)
unfolding numbers_from
set-numbers_from f v a zero j h = absurd (omega arith)
set-numbers_from {B = B} f v a (suc n) zero h =
    cons-path (rw (add-zero a, eq-eqb a a refl)) (map-from f (λ (d : ℕ). cond (eqb (a + 0) d) v (f d)) (suc a) n (λ d l. rw (ne_eqb (a + 0) d (λ q. absurd (omega arith)))))
set-numbers_from {B = B} f v a (suc n) (suc j) h =
    cons-path (rw (ne_eqb (a + suc j) a (λ q. absurd (omega arith))))
    (set-numbers_from f v (suc a) n j (le_of_suc-le-suc h) ∙ ap (λ (z : ℕ). map (λ (d : ℕ). cond (eqb z d) v (f d)) (numbers_from (suc a) n)) (suc-add a j ∙ sym (add-suc a j)))

-- the row at index i goes to the i-th engine
pub on_engines-next : {A : Type 0} (none : A) (all : ℕ) (es : List ℕ) (rows : List A) (i : ℕ) → distinct es ≡ true → i < length es → i < length rows → 1 ≤ get_or es i 0 → get_or es i 0 ≤ all
    → on_engines none all es (take (suc i) rows) ≡ set (on_engines none all es (take i rows)) (get_or es i 0 - 1) (get_or rows i none)
on_engines-next none all es rows i apart h k low high =
    map_same (row_on none es (take (suc i) rows)) (λ (d : ℕ). cond (eqb (get_or es i 0) d) (get_or rows i none) (row_on none es (take i rows) d)) (λ d. row_on-next none es rows i d apart h k) (engines_to all)
    ∙ ap (λ (z : ℕ). map (λ (d : ℕ). cond (eqb z d) (get_or rows i none) (row_on none es (take i rows) d)) (engines_to all)) same
    ∙ sym (set-numbers_from (row_on none es (take i rows)) (get_or rows i none) 1 all (get_or es i 0 - 1) (omega arith))
  where
    same : get_or es i 0 ≡ 1 + (get_or es i 0 - 1)
    same = omega arith

-- Laws of the tests over lists: `every`, `any_of`, `among`, `distinct`, the engines 1 to m, and those of a list that pass a test.
use Prim.Native.Nat.{ℕ, zero, suc, ◌+◌, ◌≤◌, ◌<◌, suc-le-suc}
use mathlib.Core.Path.{◌≡◌, refl, sym, ap, subst, ◌∙◌}
use mathlib.Core.List.{List, [], ◌∷◌, ◌++◌, map}
use mathlib.Core.Bool.{Bool, true, false, cond, not, ◌&&◌, ◌||◌, true≢false, false≢true}
use mathlib.Core.Logic.{◌⊎◌, inl, inr, ⊎_elim, ◌↔◌}
use native.Mathlib.Nat.{add-zero, zero-add, add-suc, suc-add, le_of_suc-le-suc, eq-or-lt_of_le}
use native.Mathlib.Omega.{arith}
use borrow.Author.Tests.{eqb-true, eq-eqb, ne_eqb, not-true, leb-true, leb-false}
use lib.ListN.{length, get_or, replicate}
use lib.Dec.{eqb, leb, eqb-suc-zero}
use Rattle.loads.proofs.Order.{and_parts, and_both}
use Rattle.partition.specs.Assignment.{count_on, among, every, any_of, passing, numbers_from, engines_to}
use Rattle.partition.specs.Shares.{distinct}

-- intermediate: cases of a test

pub true-or-false : (b : Bool) → (b ≡ true) ⊎ (b ≡ false)
true-or-false true = inl refl
true-or-false false = inr refl

pub not-both : {b : Bool} → b ≡ true → b ≡ false → ⊥
not-both p q = true≢false (sym p ∙ q)

pub or_cases : (a b : Bool) → (a || b) ≡ true → (a ≡ true) ⊎ (b ≡ true)
or_cases true b e = inl refl
or_cases false b e = inr e

pub or_left : (a b : Bool) → a ≡ true → (a || b) ≡ true
or_left true b e = refl
or_left false b e = absurd (false≢true e)

pub or_right_lem : (a b : Bool) → b ≡ true → (a || b) ≡ true
or_right_lem true b e = refl
or_right_lem false b e = e

pub or-neither : (a b : Bool) → (a || b) ≡ false → (a ≡ false) × (b ≡ false)
or-neither true b e = absurd (true≢false e)
or-neither false b e = (refl, e)

-- main: every

pub every-parts : {A : Type 0} (p : A → Bool) (x : A) (l : List A) → every p (x ∷ l) ≡ true → (p x ≡ true) × (every p l ≡ true)
unfolding every
every-parts p x l h = and_parts (p x) (every p l) h

pub every-weaker : {A : Type 0} (p q : A → Bool) → ((x : A) → p x ≡ true → q x ≡ true) → (l : List A) → every p l ≡ true → every q l ≡ true
unfolding every
every-weaker p q w [] h = refl
every-weaker p q w (x ∷ l) h =
    let b = and_parts (p x) (every p l) h in
    and_both (q x) (every q l) (w x b.0) (every-weaker p q w l b.1)

pub every_map : {A B : Type 0} (p : B → Bool) (f : A → B) (l : List A) → every p (map f l) ≡ every (λ (x : A). p (f x)) l
unfolding every
every_map p f [] = refl
every_map p f (x ∷ l) = ap (λ (b : Bool). p (f x) && b) (every_map p f l)

pub every-get_or : {A : Type 0} (p : A → Bool) (l : List A) (d : A) (j : ℕ) → every p l ≡ true → j < length l → p (get_or l j d) ≡ true
unfolding every
every-get_or p [] d j h small = absurd (omega arith)
every-get_or p (x ∷ l) d zero h small = (and_parts (p x) (every p l) h).0
every-get_or p (x ∷ l) d (suc j) h small = every-get_or p l d j (and_parts (p x) (every p l) h).1 (le_of_suc-le-suc small)

pub every-of-get_or : {A : Type 0} (p : A → Bool) (l : List A) (d : A) → ((j : ℕ) → j < length l → p (get_or l j d) ≡ true) → every p l ≡ true
unfolding every
every-of-get_or p [] d h = refl
every-of-get_or p (x ∷ l) d h =
    and_both (p x) (every p l) (h zero (omega arith)) (every-of-get_or p l d (λ j small. h (suc j) (suc-le-suc small)))

pub every-always : {A : Type 0} (p : A → Bool) → ((x : A) → p x ≡ true) → (l : List A) → every p l ≡ true
unfolding every
every-always p w [] = refl
every-always p w (x ∷ l) = and_both (p x) (every p l) (w x) (every-always p w l)

pub every-++ : {A : Type 0} (p : A → Bool) (l r : List A) → every p l ≡ true → every p r ≡ true → every p (l ++ r) ≡ true
unfolding every
every-++ p [] r h k = k
every-++ p (x ∷ l) r h k =
    let b = and_parts (p x) (every p l) h in
    and_both (p x) (every p (l ++ r)) b.0 (every-++ p l r b.1 k)

pub every-replicate : {A : Type 0} (p : A → Bool) (n : ℕ) (x : A) → p x ≡ true → every p (replicate n x) ≡ true
unfolding every
every-replicate p zero x h = refl
every-replicate p (suc n) x h = and_both (p x) (every p (replicate n x)) h (every-replicate p n x h)

-- main: among

pub among-more : (d e : ℕ) (es : List ℕ) → among es e ≡ true → among (d ∷ es) e ≡ true
unfolding among
among-more d e es h = or_right_lem (eqb d e) (among es e) h

pub among-here : (e : ℕ) (es : List ℕ) → among (e ∷ es) e ≡ true
unfolding among
among-here e es = or_left (eqb e e) (among es e) (eq-eqb e e refl)

pub every-among : (es : List ℕ) → every (among es) es ≡ true
unfolding every
every-among [] = refl
every-among (e ∷ es) =
    and_both (among (e ∷ es) e) (every (among (e ∷ es)) es) (among-here e es)
    (every-weaker (among es) (among (e ∷ es)) (λ d. among-more e d es) es (every-among es))

pub any_of-among : (q : ℕ → Bool) (es : List ℕ) (e : ℕ) → among es e ≡ true → q e ≡ true → any_of q es ≡ true
unfolding among any_of
any_of-among q [] e h k = absurd (false≢true h)
any_of-among q (d ∷ es) e h k =
    ⊎_elim
    (λ s. or_left (q d) (any_of q es) (subst (λ (a : ℕ). q a ≡ true) (sym (eqb-true d e s)) k))
    (λ r. or_right_lem (q d) (any_of q es) (any_of-among q es e r k))
    (or_cases (eqb d e) (among es e) h)

-- an instance is on an engine exactly where it is counted there
pub among-counted : (places : List ℕ) (e : ℕ) → among places e ≡ not (eqb (count_on e places) 0)
unfolding among count_on
among-counted [] e = refl
among-counted (p ∷ ps) e = go (eqb p e) (among-counted ps e)
  where
    go : (b : Bool) → among ps e ≡ not (eqb (count_on e ps) 0) → (b || among ps e) ≡ not (eqb (cond b (suc (count_on e ps)) (count_on e ps)) 0)
    go true rest = rw (eqb-suc-zero (count_on e ps))
    go false rest = rest

-- main: distinct

pub distinct-parts : (e : ℕ) (es : List ℕ) → distinct (e ∷ es) ≡ true → (among es e ≡ false) × (distinct es ≡ true)
unfolding distinct
distinct-parts e es h =
    let b = and_parts (not (among es e)) (distinct es) h in
    (not-true (among es e) b.0, b.1)

-- main: the engines 1 to m

pub length-numbers_from : (a n : ℕ) → length (numbers_from a n) ≡ n
unfolding numbers_from
length-numbers_from a zero = refl
length-numbers_from a (suc n) = ap suc (length-numbers_from (suc a) n)

pub numbers_from-above : (a n e : ℕ) → e < a → among (numbers_from a n) e ≡ false
unfolding numbers_from among
numbers_from-above a zero e h = refl
numbers_from-above a (suc n) e h = rw (ne_eqb a e (λ q. omega arith)) (numbers_from-above (suc a) n e (omega arith))

pub numbers_from-outside : (a n e : ℕ) → a + n ≤ e → among (numbers_from a n) e ≡ false
unfolding numbers_from among
numbers_from-outside a zero e h = refl
numbers_from-outside a (suc n) e h = rw (ne_eqb a e (λ q. omega arith)) (numbers_from-outside (suc a) n e (omega arith))

pub distinct-numbers_from : (a n : ℕ) → distinct (numbers_from a n) ≡ true
unfolding numbers_from distinct
distinct-numbers_from a zero = refl
distinct-numbers_from a (suc n) = rw (numbers_from-above (suc a) n a (omega arith)) (distinct-numbers_from (suc a) n)

pub every-numbers_from : (p : ℕ → Bool) (a n : ℕ) → every p (numbers_from a n) ≡ true → (e : ℕ) → a ≤ e → e < a + n → p e ≡ true
unfolding numbers_from
every-numbers_from p a zero h e l u = absurd (omega arith)
every-numbers_from p a (suc n) h e l u =
    let b = every-parts p a (numbers_from (suc a) n) h in
    ⊎_elim
    (λ q. subst (λ (d : ℕ). p d ≡ true) q b.0)
    (λ r. every-numbers_from p (suc a) n b.1 e r (omega arith))
    (eq-or-lt_of_le l)

pub numbers_from-every : (p : ℕ → Bool) (a n : ℕ) → ((e : ℕ) → a ≤ e → e < a + n → p e ≡ true) → every p (numbers_from a n) ≡ true
unfolding numbers_from every
numbers_from-every p a zero h = refl
numbers_from-every p a (suc n) h =
    and_both (p a) (every p (numbers_from (suc a) n)) (h a (omega arith) (omega arith))
    (numbers_from-every p (suc a) n (λ e l u. h e (omega arith) (omega arith)))

pub length-engines_to : (m : ℕ) → length (engines_to m) ≡ m
length-engines_to m = length-numbers_from 1 m

pub distinct-engines_to : (m : ℕ) → distinct (engines_to m) ≡ true
distinct-engines_to m = distinct-numbers_from 1 m

pub engines_to-outside : (m e : ℕ) → m < e → among (engines_to m) e ≡ false
engines_to-outside m e h = numbers_from-outside 1 m e (omega arith)

pub get_or-map-numbers_from : {A : Type 0} (f : ℕ → A) (a n j : ℕ) (d : A) → j < n → get_or (map f (numbers_from a n)) j d ≡ f (a + j)
unfolding numbers_from
get_or-map-numbers_from f a zero j d h = absurd (omega arith)
get_or-map-numbers_from f a (suc n) zero d h = ap f (sym (add-zero a))
get_or-map-numbers_from f a (suc n) (suc j) d h = get_or-map-numbers_from f (suc a) n j d (le_of_suc-le-suc h) ∙ ap f (omega arith)

-- a test of all the engines 1 to m, engine by engine
pub every-engines_to : (p : ℕ → Bool) (m : ℕ) → (every p (engines_to m) ≡ true) ↔ ((e : ℕ) → 1 ≤ e → e ≤ m → p e ≡ true)
every-engines_to p m =
    ((λ h e l u. every-numbers_from p 1 m h e l (omega arith)), (λ h. numbers_from-every p 1 m (λ e l u. h e l (omega arith))))

pub among-engines_to : (m e : ℕ) → (among (engines_to m) e ≡ true) ↔ ((1 ≤ e) × (e ≤ m))
among-engines_to m e = (there, λ h. (every-engines_to (among (engines_to m)) m).0 (every-among (engines_to m)) e h.0 h.1)
  where
    low : among (engines_to m) e ≡ true → (b : Bool) → leb 1 e ≡ b → 1 ≤ e
    low h true q = leb-true 1 e q
    low h false q = absurd (not-both h (numbers_from-above 1 m e (leb-false 1 e q)))

    high : among (engines_to m) e ≡ true → (b : Bool) → leb e m ≡ b → e ≤ m
    high h true q = leb-true e m q
    high h false q = absurd (not-both h (engines_to-outside m e (leb-false e m q)))

    there : among (engines_to m) e ≡ true → (1 ≤ e) × (e ≤ m)
    there h = (low h (leb 1 e) refl, high h (leb e m) refl)

-- the value at engine j + 1
pub get_or-map-engines_to : {A : Type 0} (f : ℕ → A) (m j : ℕ) (d : A) → j < m → get_or (map f (engines_to m)) j d ≡ f (suc j)
get_or-map-engines_to f m j d h = get_or-map-numbers_from f 1 m j d h ∙ ap f (omega arith)

-- main: a list padded with its default

pub get_or-padded : {A : Type 0} (l : List A) (n j : ℕ) (d : A) → get_or (l ++ replicate n d) j d ≡ get_or l j d
get_or-padded [] zero j d = refl
get_or-padded [] (suc n) zero d = refl
get_or-padded [] (suc n) (suc j) d = get_or-padded [] n j d
get_or-padded (x ∷ l) n zero d = refl
get_or-padded (x ∷ l) n (suc j) d = get_or-padded l n j d

-- one number, one engine more
numbers_from-last : (a n : ℕ) → numbers_from a (suc n) ≡ numbers_from a n ++ ((a + n) ∷ [])
unfolding numbers_from
numbers_from-last a zero = rw (add-zero a)
numbers_from-last a (suc n) = ap (λ (l : List ℕ). a ∷ l) (numbers_from-last (suc a) n ∙ ap (λ (z : ℕ). numbers_from (suc a) n ++ (z ∷ [])) (suc-add a n ∙ sym (add-suc a n)))

pub engines_to-last : (m : ℕ) → engines_to (suc m) ≡ engines_to m ++ (suc m ∷ [])
engines_to-last m = numbers_from-last 1 m ∙ ap (λ (z : ℕ). engines_to m ++ (z ∷ [])) (omega arith)

-- inside a list it does not matter what stands past it
pub get_or-inside : {A : Type 0} (l : List A) (i : ℕ) (d e : A) → i < length l → get_or l i d ≡ get_or l i e
get_or-inside [] i d e h = absurd (omega arith)
get_or-inside (x ∷ l) zero d e h = refl
get_or-inside (x ∷ l) (suc i) d e h = get_or-inside l i d e (le_of_suc-le-suc h)

-- a test of every engine of a list, engine by engine
pub among-tested : (p : ℕ → Bool) (es : List ℕ) (e : ℕ) → every p es ≡ true → among es e ≡ true → p e ≡ true
unfolding among
among-tested p [] e h k = absurd (false≢true k)
among-tested p (d ∷ es) e h k =
    let b = every-parts p d es h in
    ⊎_elim (λ q. subst (λ (z : ℕ). p z ≡ true) (eqb-true d e q) b.0) (λ q. among-tested p es e b.1 q) (or_cases (eqb d e) (among es e) k)

pub tested-among : (p : ℕ → Bool) (es : List ℕ) → ((e : ℕ) → among es e ≡ true → p e ≡ true) → every p es ≡ true
unfolding every among
tested-among p [] h = refl
tested-among p (d ∷ es) h =
    and_both (p d) (every p es) (h d (or_left (eqb d d) (among es d) (eq-eqb d d refl))) (tested-among p es (λ e k. h e (or_right_lem (eqb d e) (among es e) k)))

-- main: those that pass

pub among-passing : (p : ℕ → Bool) (es : List ℕ) (e : ℕ) → (among (passing p es) e ≡ true) ↔ ((among es e ≡ true) × (p e ≡ true))
unfolding among passing
among-passing p [] e = ((λ h. absurd (false≢true h)), (λ h. h.0))
among-passing p (d ∷ es) e = go (p d) refl (among-passing p es e)
  where
    go : (q : Bool) → p d ≡ q → (among (passing p es) e ≡ true) ↔ ((among es e ≡ true) × (p e ≡ true))
        → (among (cond q (d ∷ passing p es) (passing p es)) e ≡ true) ↔ (((eqb d e || among es e) ≡ true) × (p e ≡ true))
    go true q r = (
      (λ h.
          ⊎_elim (λ s. (or_left (eqb d e) (among es e) s, subst (λ (z : ℕ). p z ≡ true) (eqb-true d e s) q)) (λ s. (or_right_lem (eqb d e) (among es e) (r.0 s).0, (r.0 s).1))
          (or_cases (eqb d e) (among (passing p es) e) h)),
      (λ h.
          ⊎_elim (λ s. or_left (eqb d e) (among (passing p es) e) s) (λ s. or_right_lem (eqb d e) (among (passing p es) e) (r.1 (s, h.1)))
          (or_cases (eqb d e) (among es e) h.0)),
    )
    go false q r = (
      (λ h. (or_right_lem (eqb d e) (among es e) (r.0 h).0, (r.0 h).1)),
      (λ h.
          ⊎_elim (λ s. absurd (not-both h.1 (subst (λ (z : ℕ). p z ≡ false) (eqb-true d e s) q))) (λ s. r.1 (s, h.1))
          (or_cases (eqb d e) (among es e) h.0)),
    )

-- what every one of the list passes, every one of these does
pub every-passing : (q p : ℕ → Bool) (es : List ℕ) → every q es ≡ true → every q (passing p es) ≡ true
every-passing q p es h = tested-among q (passing p es) (λ e k. among-tested q es e h ((among-passing p es e).0 k).0)

pub distinct-passing : (p : ℕ → Bool) (es : List ℕ) → distinct es ≡ true → distinct (passing p es) ≡ true
unfolding distinct passing
distinct-passing p [] h = refl
distinct-passing p (d ∷ es) h = go (p d) (distinct-passing p es parts.1)
  where
    parts : (among es d ≡ false) × (distinct es ≡ true)
    parts = distinct-parts d es h

    away : (q : Bool) → among (passing p es) d ≡ q → among (passing p es) d ≡ false
    away true q = absurd (not-both ((among-passing p es d).0 q).0 parts.0)
    away false q = q

    go : (q : Bool) → distinct (passing p es) ≡ true → distinct (cond q (d ∷ passing p es) (passing p es)) ≡ true
    go true r = rw (away (among (passing p es) d) refl) r
    go false r = r

pub length-passing : (p : ℕ → Bool) (es : List ℕ) → length (passing p es) ≤ length es
unfolding passing
length-passing p [] = omega arith
length-passing p (d ∷ es) = go (p d) (length-passing p es)
  where
    go : (q : Bool) → length (passing p es) ≤ length es → length (cond q (d ∷ passing p es) (passing p es)) ≤ suc (length es)
    go true h = omega arith
    go false h = omega arith

pub passing-++ : (p : ℕ → Bool) (es ds : List ℕ) → passing p (es ++ ds) ≡ passing p es ++ passing p ds
unfolding passing
passing-++ p [] ds = refl
passing-++ p (e ∷ es) ds = go (p e) (passing-++ p es ds)
  where
    go : (q : Bool) → passing p (es ++ ds) ≡ passing p es ++ passing p ds → cond q (e ∷ passing p (es ++ ds)) (passing p (es ++ ds)) ≡ cond q (e ∷ passing p es) (passing p es) ++ passing p ds
    go true h = ap (λ (l : List ℕ). e ∷ l) h
    go false h = h

-- where all pass, they are the list
pub passing-all : (p : ℕ → Bool) (es : List ℕ) → every p es ≡ true → passing p es ≡ es
unfolding passing
passing-all p [] h = refl
passing-all p (e ∷ es) h = let b = every-parts p e es h in rw (b.0, passing-all p es b.1)

-- the engines 1 to m, cut at one of them
pub numbers_from-cut : (a n k : ℕ) → numbers_from a (n + k) ≡ numbers_from a n ++ numbers_from (a + n) k
unfolding numbers_from
numbers_from-cut a zero k = rw (add-zero a) (ap (numbers_from a) (zero-add k))
numbers_from-cut a (suc n) k =
    ap (numbers_from a) (suc-add n k) ∙ ap (λ (l : List ℕ). a ∷ l) (numbers_from-cut (suc a) n k ∙ ap (λ (z : ℕ). numbers_from (suc a) n ++ numbers_from z k) (suc-add a n ∙ sym (add-suc a n)))

-- One engine taken away: the good assignments to the engines e and es are, for each choice of what e holds, those of the rest to es.
-- The instances of a type that are not on e, in their order, are a list of places over es; so are those of all types an assignment to es.
use Prim.Native.Nat.{ℕ, zero, suc, ◌+◌, ◌-◌, ◌*◌}
use mathlib.Core.Path.{◌≡◌, refl, sym, ap, ◌∙◌}
use mathlib.Core.List.{List, [], ◌∷◌, map}
use mathlib.Core.Bool.{Bool, true, false, cond, ◌&&◌, ◌||◌}
use native.Mathlib.Nat.{one-mul}
use borrow.Author.Tests.{eqb-true, eqb-false, eq-eqb, ne_eqb}
use lib.Dec.{eqb}
use Rattle.loads.specs.Load.{less}
use Rattle.loads.proofs.Order.{cons-path}
use Rattle.partition.specs.Assignment.{Assignment, count_on, load_on, among, every, good, each_before, places_of, assignments_of}
use Rattle.partition.specs.Shares.{distinct}
use Rattle.partition.proofs.Lists.{or-neither, distinct-parts}
use Rattle.counting.specs.Counts.{count_of}
use Rattle.counting.specs.Tally.{sum_to, choose, bit, over_parts}
use Rattle.counting.proofs.Sums.{sum_to-equal}
use Rattle.counting.proofs.Pascal.{chosen-of-suc}
use Rattle.counting.proofs.Totals.{total, total-equal, total-times, total-swap, total-each_before, count_of-total, bit_and, over_parts-equal, total-over_parts}

-- the places of one type other than e, in order
without : ℕ → List ℕ → List ℕ
without e [] = []
without e (p ∷ ps) = cond (eqb p e) (without e ps) (p ∷ without e ps)

-- intermediate: the tests

eqb-sym : (a b : ℕ) → eqb a b ≡ eqb b a
eqb-sym a b = go (eqb b a) refl
  where
    go : (q : Bool) → eqb b a ≡ q → eqb a b ≡ q
    go true e = eq-eqb a b (sym (eqb-true b a e))
    go false e = ne_eqb a b (λ p. eqb-false b a e (sym p))

and-swap : (a b c : Bool) → (a && (b && c)) ≡ (b && (a && c))
and-swap true b c = refl
and-swap false true c = refl
and-swap false false c = refl

-- every place is e or one of es exactly where every other place is one of es
every-without : (e : ℕ) (es ps : List ℕ) → every (among (e ∷ es)) ps ≡ every (among es) (without e ps)
unfolding every among without
every-without e es [] = refl
every-without e es (p ∷ ps) = rw (eqb-sym e p) (go (eqb p e) (every-without e es ps))
  where
    go : (b : Bool) → every (among (e ∷ es)) ps ≡ every (among es) (without e ps) → ((b || among es p) && every (among (e ∷ es)) ps) ≡ every (among es) (cond b (without e ps) (p ∷ without e ps))
    go true r = r
    go false r = ap (λ (q : Bool). among es p && q) r

every-every-without : (e : ℕ) (es : List ℕ) (χ : Assignment) → every (every (among (e ∷ es))) χ ≡ every (every (among es)) (map (without e) χ)
unfolding every
every-every-without e es [] = refl
every-every-without e es (ps ∷ χ) = rw (every-without e es ps, every-every-without e es χ)

-- what is on another engine stays
count_on-without : (e d : ℕ) → eqb d e ≡ false → (ps : List ℕ) → count_on d (without e ps) ≡ count_on d ps
unfolding count_on without
count_on-without e d h [] = refl
count_on-without e d h (p ∷ ps) = go (eqb p e) refl (count_on-without e d h ps)
  where
    go : (b : Bool) → eqb p e ≡ b → count_on d (without e ps) ≡ count_on d ps → count_on d (cond b (without e ps) (p ∷ without e ps)) ≡ cond (eqb p d) (suc (count_on d ps)) (count_on d ps)
    go true q r =
        let other : eqb p d ≡ false = ap (λ (a : ℕ). eqb a d) (eqb-true p e q) ∙ eqb-sym e d ∙ h in
        rw other r
    go false q r = ap (λ (a : ℕ). cond (eqb p d) (suc a) a) r

load_on-without : (e d : ℕ) → eqb d e ≡ false → (χ : Assignment) → load_on d (map (without e) χ) ≡ load_on d χ
load_on-without e d h [] = refl
load_on-without e d h (ps ∷ χ) = cons-path (count_on-without e d h ps) (load_on-without e d h χ)

every-load : (test : ℕ → List ℕ → Bool) (e : ℕ) (χ : Assignment) (es : List ℕ) → among es e ≡ false → every (λ (d : ℕ). test d (load_on d (map (without e) χ))) es ≡ every (λ (d : ℕ). test d (load_on d χ)) es
unfolding every among
every-load test e χ [] h = refl
every-load test e χ (d ∷ es) h =
    let b = or-neither (eqb d e) (among es e) h in
    rw (load_on-without e d b.0 χ, every-load test e χ es b.1)

-- `good` over e and es is the test of e and `good` of the rest
good-split : (test : ℕ → List ℕ → Bool) (e : ℕ) (es : List ℕ) → among es e ≡ false → (χ : Assignment) → good test (e ∷ es) χ ≡ (test e (load_on e χ) && good test es (map (without e) χ))
unfolding good every
good-split test e es h χ =
    and-swap (every (every (among (e ∷ es))) χ) (test e (load_on e χ)) (every (λ (d : ℕ). test d (load_on d χ)) es)
    ∙ rw (every-every-without e es χ, every-load test e χ es h)

-- intermediate: the places of one type

total-apart : (e : ℕ) (f g : ℕ → ℕ) → ((d : ℕ) → eqb d e ≡ false → f d ≡ g d) → (es : List ℕ) → among es e ≡ false → total f es ≡ total g es
unfolding total among
total-apart e f g k [] h = refl
total-apart e f g k (d ∷ es) h =
    let b = or-neither (eqb d e) (among es e) h in
    rw (k d b.0, total-apart e f g k es b.1)

module _ (e : ℕ) (es : List ℕ) (apart : among es e ≡ false) where
  -- what is summed depends on how many places are e and on the others in order
  apartly : (ℕ → List ℕ → ℕ) → List ℕ → ℕ
  apartly h ps = h (count_on e ps) (without e ps)

  places-suc : (n : ℕ) (h : ℕ → List ℕ → ℕ) → total (apartly h) (places_of (e ∷ es) (suc n)) ≡ total (apartly (λ (x : ℕ) (qs : List ℕ). h (suc x) qs)) (places_of (e ∷ es) n) + total (apartly (λ (x : ℕ) (qs : List ℕ). total (λ (d : ℕ). h x (d ∷ qs)) es)) (places_of (e ∷ es) n)
  unfolding places_of total apartly count_on without
  places-suc n h =
      total-each_before (apartly h) (e ∷ es) before
      ∙ rw (eq-eqb e e refl)
      (ap (λ (a : ℕ). total (λ (ps : List ℕ). h (suc (count_on e ps)) (without e ps)) before + a)
      (total-apart e (λ (d : ℕ). total (λ (ps : List ℕ). h (count_on e (d ∷ ps)) (without e (d ∷ ps))) before) (λ (d : ℕ). total (λ (ps : List ℕ). h (count_on e ps) (d ∷ without e ps)) before) (λ d q. rw q) es apart
      ∙ total-swap (λ (d : ℕ) (ps : List ℕ). h (count_on e ps) (d ∷ without e ps)) es before))
    where
      before : List (List ℕ)
      before = places_of (e ∷ es) n

  places-split : (n : ℕ) (h : ℕ → List ℕ → ℕ) → total (apartly h) (places_of (e ∷ es) n) ≡ sum_to n (λ (j : ℕ). choose n j * total (h j) (places_of es (n - j)))
  unfolding places_of
  places-split zero h = unfold sum_to choose total apartly count_on without in sym (one-mul (h 0 [] + 0))
  places-split (suc n) h =
      places-suc n h
      ∙ rw (places-split n (λ (x : ℕ) (qs : List ℕ). h (suc x) qs), places-split n (λ (x : ℕ) (qs : List ℕ). total (λ (d : ℕ). h x (d ∷ qs)) es))
      (ap (λ (a : ℕ). sum_to n (λ (j : ℕ). choose n j * total (h (suc j)) (places_of es (n - j))) + a)
      (sum_to-equal n (λ (j : ℕ). choose n j * total (λ (qs : List ℕ). total (λ (d : ℕ). h j (d ∷ qs)) es) (places_of es (n - j))) (λ (j : ℕ). choose n j * total (h j) (places_of es (suc (n - j)))) (λ j k. ap (λ (a : ℕ). choose n j * a) (rest j))))
      ∙ sym (chosen-of-suc n (λ (x k : ℕ). total (h x) (places_of es k)))
    where
      rest : (j : ℕ) → total (λ (qs : List ℕ). total (λ (d : ℕ). h j (d ∷ qs)) es) (places_of es (n - j)) ≡ total (h j) (each_before es (places_of es (n - j)))
      rest j = total-swap (λ (qs : List ℕ) (d : ℕ). h j (d ∷ qs)) (places_of es (n - j)) es ∙ sym (total-each_before (h j) es (places_of es (n - j)))

  -- intermediate: the assignments

  assignments-split : (ν : List ℕ) (h : List ℕ → Assignment → ℕ) → total (λ (χ : Assignment). h (load_on e χ) (map (without e) χ)) (assignments_of (e ∷ es) ν) ≡ over_parts ν (λ (z : List ℕ). total (h z) (assignments_of es (less ν z)))
  unfolding assignments_of over_parts less apartly
  assignments-split [] h = unfold total in refl
  assignments-split (n ∷ ν) h =
      total-each_before (λ (χ : Assignment). h (load_on e χ) (map (without e) χ)) (places_of (e ∷ es) n) (assignments_of (e ∷ es) ν)
      ∙ total-equal (λ (ps : List ℕ). total (λ (χ : Assignment). h (count_on e ps ∷ load_on e χ) (without e ps ∷ map (without e) χ)) (assignments_of (e ∷ es) ν)) (apartly inner) (places_of (e ∷ es) n)
      (λ ps. assignments-split ν (λ (z : List ℕ) (χ : Assignment). h (count_on e ps ∷ z) (without e ps ∷ χ)))
      ∙ places-split n inner
      ∙ sum_to-equal n (λ (j : ℕ). choose n j * total (inner j) (places_of es (n - j))) (λ (j : ℕ). choose n j * over_parts ν (λ (z : List ℕ). total (h (j ∷ z)) (each_before (places_of es (n - j)) (assignments_of es (less ν z)))))
      (λ j k. ap (λ (a : ℕ). choose n j * a) (outer j))
    where
      inner : ℕ → List ℕ → ℕ
      inner x qs = over_parts ν (λ (z : List ℕ). total (λ (χ : Assignment). h (x ∷ z) (qs ∷ χ)) (assignments_of es (less ν z)))

      outer : (j : ℕ) → total (inner j) (places_of es (n - j)) ≡ over_parts ν (λ (z : List ℕ). total (h (j ∷ z)) (each_before (places_of es (n - j)) (assignments_of es (less ν z))))
      outer j =
          total-over_parts ν (λ (qs z : List ℕ). total (λ (χ : Assignment). h (j ∷ z) (qs ∷ χ)) (assignments_of es (less ν z))) (places_of es (n - j))
          ∙ over_parts-equal ν (λ (z : List ℕ). total (λ (qs : List ℕ). total (λ (χ : Assignment). h (j ∷ z) (qs ∷ χ)) (assignments_of es (less ν z))) (places_of es (n - j))) (λ (z : List ℕ). total (h (j ∷ z)) (each_before (places_of es (n - j)) (assignments_of es (less ν z))))
          (λ z b. sym (total-each_before (h (j ∷ z)) (places_of es (n - j)) (assignments_of es (less ν z))))

-- main: the count over one engine more, for any test that may know the engine's number

pub count-split : (test : ℕ → List ℕ → Bool) (e : ℕ) (es ν : List ℕ) → distinct (e ∷ es) ≡ true → count_of (good test (e ∷ es)) (assignments_of (e ∷ es) ν) ≡ over_parts ν (λ (z : List ℕ). bit (test e z) * count_of (good test es) (assignments_of es (less ν z)))
count-split test e es ν d =
    count_of-total (good test (e ∷ es)) (assignments_of (e ∷ es) ν)
    ∙ total-equal (λ (χ : Assignment). bit (good test (e ∷ es) χ)) (λ (χ : Assignment). holds (load_on e χ) (map (without e) χ)) (assignments_of (e ∷ es) ν)
    (λ χ. ap (λ (b : Bool). bit b) (good-split test e es apart χ) ∙ bit_and (test e (load_on e χ)) (good test es (map (without e) χ)))
    ∙ assignments-split e es apart ν holds
    ∙ over_parts-equal ν (λ (z : List ℕ). total (holds z) (assignments_of es (less ν z))) (λ (z : List ℕ). bit (test e z) * count_of (good test es) (assignments_of es (less ν z)))
    (λ z b.
    total-times (bit (test e z)) (λ (χ : Assignment). bit (good test es χ)) (assignments_of es (less ν z))
    ∙ ap (λ (a : ℕ). bit (test e z) * a) (sym (count_of-total (good test es) (assignments_of es (less ν z)))))
  where
    apart : among es e ≡ false
    apart = (distinct-parts e es d).0

    holds : List ℕ → Assignment → ℕ
    holds z χ = bit (test e z) * bit (good test es χ)

-- Assignments and lists of loads are two views of the same thing: the loads of a good assignment fit and sum to what it assigns,
-- and loads that do are those of a good assignment, `placing`.
use Prim.Native.Nat.{ℕ, zero, suc, ◌+◌}
use mathlib.Core.Path.{◌≡◌, refl, sym, ap, subst, ◌∙◌}
use mathlib.Core.List.{List, [], ◌∷◌, ◌++◌}
use mathlib.Core.Bool.{Bool, true, false, cond, false≢true}
use mathlib.Core.Logic.{⊎_elim}
use native.Mathlib.Nat.{suc_inj, suc-add, add-suc, zero-add}
use native.Mathlib.Omega.{arith}
use borrow.Author.Tests.{eqb-true, eqb-false, eq-eqb, ne_eqb, ltb-true, ltb-false}
use lib.ListN.{length, replicate, get_or, length-append, length-replicate, length-map, get_or-eq_default}
use lib.Dec.{eqb, ltb}
use Rattle.loads.specs.Load.{plus}
use Rattle.loads.proofs.Order.{and_parts, and_both, cons-path, plus-zero}
use Rattle.partition.specs.Assignment.{Assignment, count_on, load_on, assigned, among, every, good, used_of, engines_to}
use Rattle.partition.specs.Shares.{distinct, loads_on, sum_of, used_loads, Shares, Carried}
use Rattle.partition.proofs.Lists.{true-or-false, not-both, or-neither, distinct-parts, every-parts, every_map, every-always, every-++, every-replicate, every-among, get_or-map-engines_to, engines_to-outside, length-engines_to}

-- intermediate: one type

-- the instances of one type on all the engines es
count_all : List ℕ → List ℕ → ℕ
count_all [] places = 0
count_all (e ∷ es) places = count_on e places + count_all es places

count_on-here : (e : ℕ) (places : List ℕ) → count_on e (e ∷ places) ≡ suc (count_on e places)
unfolding count_on
count_on-here e places = rw (eq-eqb e e refl)

count_on-other : (e p : ℕ) (places : List ℕ) → (p ≡ e → ⊥) → count_on e (p ∷ places) ≡ count_on e places
unfolding count_on
count_on-other e p places h = rw (ne_eqb p e h)

count_all-nowhere : (es : List ℕ) → count_all es [] ≡ 0
unfolding count_all count_on
count_all-nowhere [] = refl
count_all-nowhere (e ∷ es) = zero-add (count_all es []) ∙ count_all-nowhere es

count_all-outside : (es : List ℕ) (p : ℕ) (places : List ℕ) → among es p ≡ false → count_all es (p ∷ places) ≡ count_all es places
unfolding count_all among
count_all-outside [] p places h = refl
count_all-outside (e ∷ es) p places h =
    let b = or-neither (eqb e p) (among es p) h in
    rw (count_on-other e p places (λ q. eqb-false e p b.0 (sym q)), count_all-outside es p places b.1)

count_all-inside : (es : List ℕ) (p : ℕ) (places : List ℕ) → distinct es ≡ true → among es p ≡ true → count_all es (p ∷ places) ≡ suc (count_all es places)
unfolding count_all among
count_all-inside [] p places d h = absurd (false≢true h)
count_all-inside (e ∷ es) p places d h = ⊎_elim here (λ s. there s (count_all-inside es p places apart.1 (rw s at h))) (true-or-false (eqb e p))
  where
    apart : (among es e ≡ false) × (distinct es ≡ true)
    apart = distinct-parts e es d

    here : eqb e p ≡ true → count_on e (p ∷ places) + count_all es (p ∷ places) ≡ suc (count_on e places + count_all es places)
    here s =
        let q = eqb-true e p s in
        rw (← q, count_on-here e places, count_all-outside es e places apart.0) (suc-add (count_on e places) (count_all es places))

    there : eqb e p ≡ false → count_all es (p ∷ places) ≡ suc (count_all es places) → count_on e (p ∷ places) + count_all es (p ∷ places) ≡ suc (count_on e places + count_all es places)
    there s more = rw (count_on-other e p places (λ q. eqb-false e p s (sym q)), more) (add-suc (count_on e places) (count_all es places))

-- each instance is on exactly one of the engines
count_all-length : (es places : List ℕ) → distinct es ≡ true → every (among es) places ≡ true → count_all es places ≡ length places
unfolding every
count_all-length es [] d h = count_all-nowhere es
count_all-length es (p ∷ places) d h =
    let b = and_parts (among es p) (every (among es) places) h in
    count_all-inside es p places d b.0 ∙ ap suc (count_all-length es places d b.1)

count_on-++ : (e : ℕ) (ps qs : List ℕ) → count_on e (ps ++ qs) ≡ count_on e ps + count_on e qs
unfolding count_on
count_on-++ e [] qs = sym (zero-add (count_on e qs))
count_on-++ e (p ∷ ps) qs = go (eqb p e) (count_on-++ e ps qs)
  where
    go : (b : Bool) → count_on e (ps ++ qs) ≡ count_on e ps + count_on e qs → cond b (suc (count_on e (ps ++ qs))) (count_on e (ps ++ qs)) ≡ cond b (suc (count_on e ps)) (count_on e ps) + count_on e qs
    go true rest = ap suc rest ∙ sym (suc-add (count_on e ps) (count_on e qs))
    go false rest = rest

count_on-replicate : (e n : ℕ) → count_on e (replicate n e) ≡ n
count_on-replicate e zero = unfold count_on in refl
count_on-replicate e (suc n) = count_on-here e (replicate n e) ∙ ap suc (count_on-replicate e n)

count_on-replicate-other : (d e n : ℕ) → (e ≡ d → ⊥) → count_on d (replicate n e) ≡ 0
count_on-replicate-other d e zero h = unfold count_on in refl
count_on-replicate-other d e (suc n) h = count_on-other d e (replicate n e) h ∙ count_on-replicate-other d e n h

-- intermediate: the loads of an assignment

sum_of-none : (es : List ℕ) → sum_of 0 (loads_on es []) ≡ []
unfolding sum_of plus
sum_of-none [] = refl
sum_of-none (e ∷ es) = refl

sum_of-types : (k : ℕ) (es places : List ℕ) (χ : Assignment) → sum_of (suc k) (loads_on es (places ∷ χ)) ≡ count_all es places ∷ sum_of k (loads_on es χ)
unfolding sum_of plus count_all
sum_of-types k [] places χ = refl
sum_of-types k (e ∷ es) places χ = rw (sum_of-types k es places χ)

pub sum_of-loads_on : (es : List ℕ) (χ : Assignment) → distinct es ≡ true → every (every (among es)) χ ≡ true → sum_of (length χ) (loads_on es χ) ≡ assigned χ
unfolding every
sum_of-loads_on es [] d h = sum_of-none es
sum_of-loads_on es (places ∷ χ) d h =
    let b = and_parts (every (among es) places) (every (every (among es)) χ) h in
    sum_of-types (length χ) es places χ ∙ cons-path (count_all-length es places d b.0) (sum_of-loads_on es χ d b.1)

sized-loads_on : (es : List ℕ) (χ : Assignment) → every (λ (x : List ℕ). eqb (length x) (length χ)) (loads_on es χ) ≡ true
sized-loads_on es χ =
    every_map (λ (x : List ℕ). eqb (length x) (length χ)) (λ (e : ℕ). load_on e χ) es
    ∙ every-always (λ (e : ℕ). eqb (length (load_on e χ)) (length χ)) (λ e. eq-eqb (length (load_on e χ)) (length χ) (length-map χ (count_on e))) es

pub used_of-loads_on : (es : List ℕ) (χ : Assignment) → used_of es χ ≡ used_loads (loads_on es χ)
unfolding used_of used_loads
used_of-loads_on [] χ = refl
used_of-loads_on (e ∷ es) χ = rw (used_of-loads_on es χ)

count_on-outside : (es : List ℕ) (e : ℕ) (places : List ℕ) → every (among es) places ≡ true → among es e ≡ false → count_on e places ≡ 0
unfolding every
count_on-outside es e [] h k = unfold count_on in refl
count_on-outside es e (p ∷ places) h k =
    let b = and_parts (among es p) (every (among es) places) h in
    count_on-other e p places (λ q. not-both (subst (λ (d : ℕ). among es d ≡ true) q b.0) k) ∙ count_on-outside es e places b.1 k

-- main: what is on the engines makes up what is assigned

-- nothing is on an engine that is not among those that hold everything
pub load_on-outside : (es : List ℕ) (e : ℕ) (χ : Assignment) → every (every (among es)) χ ≡ true → among es e ≡ false → load_on e χ ≡ replicate (length χ) 0
unfolding every
load_on-outside es e [] h k = refl
load_on-outside es e (places ∷ χ) h k =
    let b = and_parts (every (among es) places) (every (every (among es)) χ) h in
    cons-path (count_on-outside es e places b.0 k) (load_on-outside es e χ b.1 k)

pub good-parts : (test : ℕ → List ℕ → Bool) (es : List ℕ) (χ : Assignment) → good test es χ ≡ true → (every (every (among es)) χ ≡ true) × (every (λ (e : ℕ). test e (load_on e χ)) es ≡ true)
unfolding good
good-parts test es χ h = and_parts (every (every (among es)) χ) (every (λ (e : ℕ). test e (load_on e χ)) es) h

-- the loads of engines on which a test passes, and what they make up
pub tested-shares : (fits : List ℕ → Bool) (es : List ℕ) (χ : Assignment) → every (λ (e : ℕ). fits (load_on e χ)) es ≡ true → Shares fits (length χ) (loads_on es χ) (sum_of (length χ) (loads_on es χ))
tested-shares fits es χ h = record { sized = sized-loads_on es χ; all_fit = every_map fits (λ (e : ℕ). load_on e χ) es ∙ h; sums = refl }

pub good-shares : (fits : List ℕ → Bool) (es : List ℕ) (χ : Assignment) → distinct es ≡ true → good (λ (e : ℕ). fits) es χ ≡ true → Shares fits (length χ) (loads_on es χ) (assigned χ)
good-shares fits es χ d h =
    let b = good-parts (λ (e : ℕ). fits) es χ h in
    subst (Shares fits (length χ) (loads_on es χ)) (sum_of-loads_on es χ d b.0) (tested-shares fits es χ b.1)

-- intermediate: instances put on one engine

-- the assignment χ with the instances of the load x put on engine e besides
put_on : ℕ → List ℕ → Assignment → Assignment
put_on e [] χ = []
put_on e (n ∷ x) [] = []
put_on e (n ∷ x) (places ∷ χ) = (replicate n e ++ places) ∷ put_on e x χ

assigned-put_on : (e : ℕ) (x : List ℕ) (χ : Assignment) → assigned (put_on e x χ) ≡ plus x (assigned χ)
unfolding put_on plus
assigned-put_on e [] χ = refl
assigned-put_on e (n ∷ x) [] = refl
assigned-put_on e (n ∷ x) (places ∷ χ) =
    cons-path (length-append (replicate n e) places ∙ ap (λ (a : ℕ). a + length places) (length-replicate n e)) (assigned-put_on e x χ)

load_on-put_on : (e : ℕ) (x : List ℕ) (χ : Assignment) → load_on e (put_on e x χ) ≡ plus x (load_on e χ)
unfolding put_on plus
load_on-put_on e [] χ = refl
load_on-put_on e (n ∷ x) [] = refl
load_on-put_on e (n ∷ x) (places ∷ χ) =
    cons-path (count_on-++ e (replicate n e) places ∙ ap (λ (a : ℕ). a + count_on e places) (count_on-replicate e n)) (load_on-put_on e x χ)

load_on-put_on-other : (d e : ℕ) (x : List ℕ) (χ : Assignment) → (e ≡ d → ⊥) → length x ≡ length χ → load_on d (put_on e x χ) ≡ load_on d χ
unfolding put_on
load_on-put_on-other d e [] [] h l = refl
load_on-put_on-other d e [] (places ∷ χ) h l = absurd (omega arith)
load_on-put_on-other d e (n ∷ x) [] h l = absurd (omega arith)
load_on-put_on-other d e (n ∷ x) (places ∷ χ) h l =
    cons-path
    (count_on-++ d (replicate n e) places ∙ rw (count_on-replicate-other d e n h) (zero-add (count_on d places)))
    (load_on-put_on-other d e x χ h (suc_inj l))

loads_on-put_on : (es : List ℕ) (e : ℕ) (x : List ℕ) (χ : Assignment) → among es e ≡ false → length x ≡ length χ → loads_on es (put_on e x χ) ≡ loads_on es χ
unfolding among
loads_on-put_on [] e x χ h l = refl
loads_on-put_on (d ∷ es) e x χ h l =
    let b = or-neither (eqb d e) (among es e) h in
    cons-path (load_on-put_on-other d e x χ (λ q. eqb-false d e b.0 (sym q)) l) (loads_on-put_on es e x χ b.1 l)

length-put_on : (e : ℕ) (x : List ℕ) (χ : Assignment) → length x ≡ length χ → length (put_on e x χ) ≡ length χ
unfolding put_on
length-put_on e [] [] l = refl
length-put_on e [] (places ∷ χ) l = absurd (omega arith)
length-put_on e (n ∷ x) [] l = absurd (omega arith)
length-put_on e (n ∷ x) (places ∷ χ) l = ap suc (length-put_on e x χ (suc_inj l))

every-put_on : (p : ℕ → Bool) (e : ℕ) (x : List ℕ) (χ : Assignment) → p e ≡ true → every (every p) χ ≡ true → every (every p) (put_on e x χ) ≡ true
unfolding put_on every
every-put_on p e [] χ h k = refl
every-put_on p e (n ∷ x) [] h k = refl
every-put_on p e (n ∷ x) (places ∷ χ) h k =
    let b = and_parts (every p places) (every (every p) χ) k in
    and_both (every p (replicate n e ++ places)) (every (every p) (put_on e x χ))
    (every-++ p (replicate n e) places (every-replicate p n e h) b.0)
    (every-put_on p e x χ h b.1)

-- intermediate: the assignment made of loads

-- the assignment that sends each load, of k types, to its engine of es
placing : ℕ → List ℕ → List (List ℕ) → Assignment
placing k [] loads = replicate k []
placing k (e ∷ es) [] = replicate k []
placing k (e ∷ es) (x ∷ loads) = put_on e x (placing k es loads)

assigned-nothing : (k : ℕ) → assigned (replicate k []) ≡ replicate k 0
assigned-nothing zero = refl
assigned-nothing (suc k) = cons-path refl (assigned-nothing k)

abbrev pub Sized : ℕ → List (List ℕ) → Type 0
Sized k loads = every (λ (x : List ℕ). eqb (length x) k) loads ≡ true

sized-parts : (k : ℕ) (x : List ℕ) (loads : List (List ℕ)) → Sized k (x ∷ loads) → (length x ≡ k) × Sized k loads
unfolding every
sized-parts k x loads h =
    let b = and_parts (eqb (length x) k) (every (λ (y : List ℕ). eqb (length y) k) loads) h in
    (eqb-true (length x) k b.0, b.1)

length-placing : (k : ℕ) (es : List ℕ) (loads : List (List ℕ)) → Sized k loads → length (placing k es loads) ≡ k
unfolding placing
length-placing k [] loads h = length-replicate k []
length-placing k (e ∷ es) [] h = length-replicate k []
length-placing k (e ∷ es) (x ∷ loads) h =
    let b = sized-parts k x loads h in
    let rest = length-placing k es loads b.1 in
    length-put_on e x (placing k es loads) (b.0 ∙ sym rest) ∙ rest

assigned-placing : (k : ℕ) (es : List ℕ) (loads : List (List ℕ)) → length loads ≡ length es → assigned (placing k es loads) ≡ sum_of k loads
unfolding placing sum_of
assigned-placing k [] [] l = assigned-nothing k
assigned-placing k [] (x ∷ loads) l = absurd (omega arith)
assigned-placing k (e ∷ es) [] l = absurd (omega arith)
assigned-placing k (e ∷ es) (x ∷ loads) l = assigned-put_on e x (placing k es loads) ∙ ap (plus x) (assigned-placing k es loads (suc_inj l))

every-placing : (p : ℕ → Bool) (k : ℕ) (es : List ℕ) (loads : List (List ℕ)) → every p es ≡ true → every (every p) (placing k es loads) ≡ true
unfolding placing
every-placing p k [] loads h = every-replicate (every p) k [] (unfold every in refl)
every-placing p k (e ∷ es) [] h = every-replicate (every p) k [] (unfold every in refl)
every-placing p k (e ∷ es) (x ∷ loads) h =
    let b = every-parts p e es h in
    every-put_on p e x (placing k es loads) b.0 (every-placing p k es loads b.1)

placing-outside : (d k : ℕ) (es : List ℕ) (loads : List (List ℕ)) → among es d ≡ false → Sized k loads → load_on d (placing k es loads) ≡ replicate k 0
placing-outside d k es loads h s =
    subst (λ (z : ℕ). load_on d (placing k es loads) ≡ replicate z 0) (length-placing k es loads s)
    (load_on-outside es d (placing k es loads) (every-placing (among es) k es loads (every-among es)) h)

loads_on-placing : (k : ℕ) (es : List ℕ) (loads : List (List ℕ)) → distinct es ≡ true → length loads ≡ length es → Sized k loads → loads_on es (placing k es loads) ≡ loads
unfolding placing
loads_on-placing k [] [] d l s = refl
loads_on-placing k [] (x ∷ loads) d l s = absurd (omega arith)
loads_on-placing k (e ∷ es) [] d l s = absurd (omega arith)
loads_on-placing k (e ∷ es) (x ∷ loads) d l s =
    let b = distinct-parts e es d in
    let z = sized-parts k x loads s in
    cons-path
    (load_on-put_on e x (placing k es loads) ∙ rw (placing-outside e k es loads b.0 z.1, ← z.0) (plus-zero x))
    (loads_on-put_on es e x (placing k es loads) b.0 (z.0 ∙ sym (length-placing k es loads z.1)) ∙ loads_on-placing k es loads b.1 (suc_inj l) z.1)

-- main: loads that fit and make up ν are those of a good assignment of ν

-- of a test that may differ from engine to engine: whatever has these loads must pass it
pub tested-carried : (test : ℕ → List ℕ → Bool) (k : ℕ) (es : List ℕ) (loads : List (List ℕ)) (ν : List ℕ) → distinct es ≡ true → length loads ≡ length es → Sized k loads → sum_of k loads ≡ ν
    → ((χ : Assignment) → loads_on es χ ≡ loads → every (λ (e : ℕ). test e (load_on e χ)) es ≡ true) → Carried test es loads ν
unfolding good
tested-carried test k es loads ν d l sized sums passes = record {
  mapping = χ;
  assigns = assigned-placing k es loads l ∙ sums;
  is_good = and_both (every (every (among es)) χ) (every (λ (e : ℕ). test e (load_on e χ)) es) (every-placing (among es) k es loads (every-among es)) (passes χ same);
  holds = same;
  uses = used_of-loads_on es χ ∙ ap used_loads same;
}
  where
    χ : Assignment
    χ = placing k es loads

    same : loads_on es χ ≡ loads
    same = loads_on-placing k es loads d l sized

pub shares-carried : (fits : List ℕ → Bool) (k : ℕ) (es : List ℕ) (loads : List (List ℕ)) (ν : List ℕ) → distinct es ≡ true → length loads ≡ length es → Shares fits k loads ν → Carried (λ (e : ℕ). fits) es loads ν
shares-carried fits k es loads ν d l s =
    tested-carried (λ (e : ℕ). fits) k es loads ν d l s.sized s.sums
    (λ χ same. sym (every_map fits (λ (e : ℕ). load_on e χ) es) ∙ ap (every fits) same ∙ s.all_fit)

-- the load of each engine j + 1, also past the last one
pub carried-at : (test : ℕ → List ℕ → Bool) (n : ℕ) (loads : List (List ℕ)) (ν : List ℕ) (a : Carried test (engines_to n) loads ν) (j : ℕ) → load_on (suc j) a.mapping ≡ get_or loads j (replicate (length ν) 0)
carried-at test n loads ν a j = go (ltb j n) refl
  where
    χ : Assignment
    χ = a.mapping

    idle : List ℕ
    idle = replicate (length ν) 0

    types : length χ ≡ length ν
    types = sym (length-map χ length) ∙ ap length a.assigns

    count : length loads ≡ n
    count = ap length (sym a.holds) ∙ length-map (engines_to n) (λ (e : ℕ). load_on e χ) ∙ length-engines_to n

    placed : every (every (among (engines_to n))) χ ≡ true
    placed = (good-parts test (engines_to n) χ a.is_good).0

    go : (b : Bool) → ltb j n ≡ b → load_on (suc j) χ ≡ get_or loads j idle
    go true e =
        sym (get_or-map-engines_to (λ (d : ℕ). load_on d χ) n j idle (ltb-true j n e))
        ∙ ap (λ (l : List (List ℕ)). get_or l j idle) a.holds
    go false e =
        let past = ltb-false j n e in
        load_on-outside (engines_to n) (suc j) χ placed (engines_to-outside n (suc j) (omega arith))
        ∙ ap (λ (z : ℕ). replicate z 0) types
        ∙ sym (get_or-eq_default loads idle (omega (arith, count)))

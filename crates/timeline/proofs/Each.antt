-- What stands at each place of the engine, one after another, is what stands there for each instance of each type.
use Prim.Native.Nat.{ℕ, zero, suc, ◌+◌, ◌-◌, ◌≤◌, ◌<◌}
use mathlib.Core.Path.{◌≡◌, refl, sym, ap, ap₂, ◌∙◌}
use mathlib.Core.List.{List, [], ◌∷◌, ◌++◌, append_assoc, append-nil}
use native.Mathlib.Nat.{add-zero, add-suc, zero-add, not-suc-le-zero}
use native.Mathlib.Numerals.{add-one}
use native.Mathlib.Omega.{arith}
use borrow.Author.Tests.{lt-ltb, le-ltb}
use lib.ListN.{length, get_or}
use Rattle.listing.specs.Listing.{decimal}
use Rattle.listing.specs.Demands.{each_to}
use Rattle.listing.proofs.Lines.{same-each}
use Rattle.runs.specs.declared.Job.{Job}
use Rattle.runs.specs.Run.{no_job}
use Rattle.deadlines.specs.Engine.{instances}
use Rattle.deadlines.specs.Meaning.{count_no}
use Rattle.deadlines.proofs.Places.{Stood, here, there}
use Rattle.timeline.specs.Text.{kind_from, number_from, name_text, arrival_at, arrivals_from}

-- the name of the instance at a place

stood-named : {ns : List ℕ} {p t i : ℕ} → Stood ns p t i → (k : ℕ) → (kind_from (k + 1) ns p ≡ k + t) × (number_from ns p ≡ i)
unfolding kind_from number_from
stood-named (here {n} {p} {q} {ns} e h) k =
    let same : q ≡ p = omega (arith, e) in
    (rw (same, lt-ltb p n h) (omega arith), rw (same, lt-ltb p n h) (add-one p))
stood-named (there {n} {p} {q} {t} {i} {ns} e s) k =
    let less : q - n ≡ p = omega (arith, e) in
    let past = le-ltb q n (omega (arith, e)) in
    let on = stood-named s (k + 1) in
    (rw (past, less) (on.0 ∙ omega arith), rw (past, less) on.1)

pub name_out : {counts : List ℕ} {p t i : ℕ} → Stood counts p t i → name_text counts p ≡ decimal t ++ (46 ∷ decimal i)
unfolding name_text
name_out {counts} {p} {t} {i} s =
    let named = stood-named s 0 in
    let kind : kind_from 1 counts p ≡ t = named.0 ∙ zero-add t in
    rw (kind, named.1) (append_assoc (decimal t) (46 ∷ []) (decimal i))

-- what f gives for 0, for 1, .. and before n, one after another

unfoldable pub below : (ℕ → List ℕ) → ℕ → List ℕ
below f zero = []
below f (suc n) = below f n ++ f n

same-below : (f g : ℕ → List ℕ) (n : ℕ) → ((q : ℕ) → f q ≡ g q) → below f n ≡ below g n
unfolding below
same-below f g zero h = refl
same-below f g (suc n) h = ap₂ (λ (l r : List ℕ). l ++ r) (same-below f g n h) (h n)

below-add : (f : ℕ → List ℕ) (a b : ℕ) → below f (a + b) ≡ below f a ++ below (λ (q : ℕ). f (a + q)) b
unfolding below
below-add f a zero = rw (add-zero a) (sym (append-nil (below f a)))
below-add f a (suc b) = rw (add-suc a b) (ap (λ (l : List ℕ). l ++ f (a + b)) (below-add f a b) ∙ append_assoc (below f a) (below (λ (q : ℕ). f (a + q)) b) (f (a + b)))

below_one : (f : ℕ → List ℕ) → below f 1 ≡ f 0
unfolding below
below_one f = refl

each-is : (f g : ℕ → List ℕ) (n : ℕ) → ((q : ℕ) → q < n → f q ≡ g (suc q)) → below f n ≡ each_to g n
unfolding below each_to
each-is f g zero h = refl
each-is f g (suc n) h = ap₂ (λ (l r : List ℕ). l ++ r) (each-is f g n (λ q less. h q (omega arith))) (h n (omega arith))

each-head : (g : ℕ → List ℕ) (n : ℕ) → each_to g (suc n) ≡ g 1 ++ each_to (λ (t : ℕ). g (suc t)) n
unfolding each_to
each-head g zero = sym (append-nil (g 1))
each-head g (suc n) = ap (λ (l : List ℕ). l ++ g (suc (suc n))) (each-head g n) ∙ append_assoc (g 1) (each_to (λ (t : ℕ). g (suc t)) n) (g (suc (suc n)))

count_next : (n : ℕ) (ns : List ℕ) (t : ℕ) → 1 ≤ t → count_no (n ∷ ns) (suc t) ≡ count_no ns t
count_next n ns zero h = absurd (not-suc-le-zero h)
count_next n ns (suc t) h =
    let e : suc (suc t) - 1 ≡ suc t = omega arith in
    let f : suc t - 1 ≡ t = omega arith in
    rw (e, f)

-- main: place by place, and type by type
pub types-below : (ns : List ℕ) (f : ℕ → List ℕ) (g : ℕ → ℕ → List ℕ) → ((p t i : ℕ) → Stood ns p t i → f p ≡ g t i)
    → below f (instances ns) ≡ each_to (λ (t : ℕ). each_to (g t) (count_no ns t)) (length ns)
unfolding instances below each_to
types-below [] f g is = refl
types-below (n ∷ ns) f g is =
    below-add f n (instances ns)
    ∙ ap₂ (λ (l r : List ℕ). l ++ r) (each-is f (g 1) n (λ q h. is q 1 (suc q) (here (omega arith) h))) (
    types-below ns (λ (q : ℕ). f (n + q)) (λ (t : ℕ). g (suc t)) (λ p t i s. is (n + p) (suc t) i (there refl s))
    ∙ same-each (λ (t : ℕ). each_to (g (suc t)) (count_no ns t)) (λ (t : ℕ). each_to (g (suc t)) (count_no (n ∷ ns) (suc t))) (length ns) (λ t low high. ap (each_to (g (suc t))) (sym (count_next n ns t low))))
    ∙ sym (each-head (λ (t : ℕ). each_to (g t) (count_no (n ∷ ns) t)) (length ns))

-- what arrives, place by place
pub arrivals-below : (now : ℕ) (counts : List ℕ) (p : ℕ) (l : List Job) → arrivals_from now counts p l ≡ below (λ (q : ℕ). arrival_at now counts (p + q) (get_or l q no_job)) (length l)
unfolding arrivals_from below
arrivals-below now counts p [] = refl
arrivals-below now counts p (j ∷ l) =
    let f : ℕ → List ℕ = λ (q : ℕ). arrival_at now counts (p + q) (get_or (j ∷ l) q no_job) in
    let all : 1 + length l ≡ length (j ∷ l) = omega arith in
    ap₂ (λ (a b : List ℕ). a ++ b)
    (ap (λ (n : ℕ). arrival_at now counts n j) (sym (add-zero p)) ∙ sym (below_one f))
    (arrivals-below now counts (p + 1) l
    ∙ same-below (λ (q : ℕ). arrival_at now counts (p + 1 + q) (get_or l q no_job)) (λ (q : ℕ). f (1 + q)) (length l) (λ q. shifted q))
    ∙ sym (below-add f 1 (length l))
    ∙ ap (below f) all
  where
    shifted : (q : ℕ) → arrival_at now counts (p + 1 + q) (get_or l q no_job) ≡ arrival_at now counts (p + (1 + q)) (get_or (j ∷ l) (1 + q) no_job)
    shifted q =
        let e : 1 + q ≡ suc q = omega arith in
        let d : p + 1 + q ≡ p + suc q = omega arith in
        rw (e, d)

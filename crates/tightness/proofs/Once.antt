-- What is meant by the numbers of good assignments and of all is one pair of numbers: two lists that have the same assignments, each once, are equally long.
use Prim.Native.Nat.{ℕ, zero, suc, ◌≤◌, ◌<◌}
use mathlib.Core.Path.{◌≡◌, refl, sym, ap, ◌∙◌}
use mathlib.Core.List.{List, [], ◌∷◌}
use native.Mathlib.Omega.{arith}
use lib.ListN.{length, get_or}
use Rattle.system.specs.declared.System.{System}
use Rattle.partition.specs.Assignment.{Assignment}
use Rattle.counting.specs.Meaning.{ListsOnce, CountMeans}

-- intermediate: a list without what stands at a place

unfoldable without : ℕ → List Assignment → List Assignment
without j [] = []
without zero (x ∷ l) = l
without (suc j) (x ∷ l) = x ∷ without j l

length_without : (j : ℕ) (l : List Assignment) → j < length l → suc (length (without j l)) ≡ length l
unfolding without
length_without j [] h = absurd (omega arith)
length_without zero (x ∷ l) h = refl
length_without (suc j) (x ∷ l) h = ap suc (length_without j l (omega arith))

-- what stands at another place stays
stays : (l : List Assignment) (j k : ℕ) → j < length l → k < length l → (k ≡ j → ⊥) → (i : ℕ) × (i < length (without j l)) × (get_or (without j l) i [] ≡ get_or l k [])
unfolding without
stays [] j k h g other = absurd (omega arith)
stays (x ∷ l) zero zero h g other = absurd (other refl)
stays (x ∷ l) zero (suc k) h g other = (k, omega arith, refl)
stays (x ∷ l) (suc j) zero h g other = (0, omega arith, refl)
stays (x ∷ l) (suc j) (suc k) h g other = let r = stays l j k (omega arith) (omega arith) (λ e. other (ap suc e)) in (suc r.0, omega (arith, r.1), r.2)

-- intermediate: a list that has nothing twice, and nothing that another has not, is no longer than that

abbrev Has : List Assignment → List Assignment → Type 0
Has r l = (i : ℕ) → i < length l → (j : ℕ) × (j < length r) × (get_or r j [] ≡ get_or l i [])

abbrev NoneTwice : List Assignment → Type 0
NoneTwice l = (i j : ℕ) → i < length l → j < length l → get_or l i [] ≡ get_or l j [] → i ≡ j

no_longer : (l r : List Assignment) → Has r l → NoneTwice l → length l ≤ length r
no_longer [] r found once = omega arith
no_longer (x ∷ l) r found once = go (found 0 (omega arith)) (no_longer l)
  where
    go : ((j : ℕ) × (j < length r) × (get_or r j [] ≡ x)) → ((s : List Assignment) → Has s l → NoneTwice l → length l ≤ length s) → suc (length l) ≤ length r
    go (j, small, at) rest =
        omega (arith, rest (without j r) later (λ i k h g same. omega (arith, once (suc i) (suc k) (omega arith) (omega arith) same)), length_without j r small)
      where
        apart : (i k : ℕ) → i < length l → get_or r k [] ≡ get_or l i [] → k ≡ j → ⊥
        apart i k h same e = absurd (omega (arith, once 0 (suc i) (omega arith) (omega arith) (sym at ∙ ap (λ (n : ℕ). get_or r n []) (sym e) ∙ same)))

        later : Has (without j r) l
        later i h =
            let here = found (suc i) (omega arith) in
            let rest = stays r j here.0 small here.1 (apart i here.0 h here.2) in
            (rest.0, rest.1, rest.2 ∙ here.2)

same_size : {Meant : Assignment → Type 0} {l r : List Assignment} → ListsOnce Meant l → ListsOnce Meant r → length l ≡ length r
same_size {l = l} {r = r} a b =
    omega (arith, no_longer l r (λ i h. b.all (get_or l i []) (a.only i h)) a.once, no_longer r l (λ i h. a.all (get_or r i []) (b.only i h)) b.once)

-- main: one pair of numbers is meant

pub good-once : {y : System} {g t g' t' : ℕ} → CountMeans y g t → CountMeans y g' t' → g ≡ g'
good-once a b = a.good_is ∙ same_size a.good_listed b.good_listed ∙ sym b.good_is

pub total-once : {y : System} {g t g' t' : ℕ} → CountMeans y g t → CountMeans y g' t' → t ≡ t'
total-once a b = a.power ∙ sym b.power

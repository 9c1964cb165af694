-- Sums over the entries of a list, of which a count is one, and over the ways to choose what one engine holds; the two may be swapped.
use Prim.Native.Nat.{ℕ, suc, ◌+◌, ◌*◌, ◌≤◌}
use mathlib.Core.Path.{◌≡◌, refl, sym, ap, ◌∙◌}
use mathlib.Core.List.{List, [], ◌∷◌, ◌++◌, map}
use mathlib.Core.Bool.{Bool, true, false, cond, ◌&&◌}
use native.Mathlib.Nat.{zero-add, add_assoc, mul-zero, zero-mul, one-mul, mul-add}
use native.Mathlib.Omega.{arith}
use lib.ListN.{length}
use Rattle.loads.proofs.Order.{Below, none, more}
use Rattle.partition.specs.Assignment.{each_before}
use Rattle.counting.specs.Counts.{count_of}
use Rattle.counting.specs.Tally.{choose, bit, over_parts}
use Rattle.counting.proofs.Sums.{sum_to-equal, sum_to-zero, sum_to-add}

-- the sum of what `f` says of the entries
unfoldable pub total : {A : Type 0} → (A → ℕ) → List A → ℕ
total f [] = 0
total f (x ∷ xs) = f x + total f xs

-- main: sums over lists

pub total-equal : {A : Type 0} (f g : A → ℕ) (l : List A) → ((x : A) → f x ≡ g x) → total f l ≡ total g l
total-equal {A = A} f g l e = λ i. total (λ (x : A). e x i) l

total-zero : {A : Type 0} (l : List A) → total (λ (x : A). 0) l ≡ 0
unfolding total
total-zero [] = refl
total-zero {A = A} (x ∷ l) = zero-add (total (λ (y : A). 0) l) ∙ total-zero l

total-add : {A : Type 0} (f g : A → ℕ) (l : List A) → total (λ (x : A). f x + g x) l ≡ total f l + total g l
unfolding total
total-add f g [] = refl
total-add f g (x ∷ l) = rw (total-add f g l) (omega arith)

pub total-times : {A : Type 0} (k : ℕ) (f : A → ℕ) (l : List A) → total (λ (x : A). k * f x) l ≡ k * total f l
unfolding total
total-times k f [] = sym (mul-zero k)
total-times k f (x ∷ l) = rw (total-times k f l) (sym (mul-add k (f x) (total f l)))

pub total-swap : {A B : Type 0} (f : A → B → ℕ) (l : List A) (r : List B) → total (λ (x : A). total (λ (y : B). f x y) r) l ≡ total (λ (y : B). total (λ (x : A). f x y) l) r
unfolding total
total-swap f [] r = sym (total-zero r)
total-swap {A = A} {B = B} f (x ∷ l) r =
    ap (λ (a : ℕ). total (λ (y : B). f x y) r + a) (total-swap f l r)
    ∙ sym (total-add (λ (y : B). f x y) (λ (y : B). total (λ (z : A). f z y) l) r)

total-++ : {A : Type 0} (f : A → ℕ) (l r : List A) → total f (l ++ r) ≡ total f l + total f r
unfolding total
total-++ f [] r = sym (zero-add (total f r))
total-++ f (x ∷ l) r = ap (λ (a : ℕ). f x + a) (total-++ f l r) ∙ sym (add_assoc (f x) (total f l) (total f r))

total-map : {A B : Type 0} (f : B → ℕ) (g : A → B) (l : List A) → total f (map g l) ≡ total (λ (x : A). f (g x)) l
unfolding total
total-map f g [] = refl
total-map f g (x ∷ l) = ap (λ (a : ℕ). f (g x) + a) (total-map f g l)

pub total-each_before : {A : Type 0} (f : List A → ℕ) (xs : List A) (rests : List (List A)) → total f (each_before xs rests) ≡ total (λ (x : A). total (λ (rest : List A). f (x ∷ rest)) rests) xs
unfolding total each_before
total-each_before f [] rests = refl
total-each_before {A = A} f (x ∷ xs) rests =
    let g : List A → List A = λ rest. x ∷ rest in
    total-++ f (map g rests) (each_before xs rests)
    ∙ ap (λ (a : ℕ). a + total f (each_before xs rests)) (total-map f g rests)
    ∙ ap (λ (a : ℕ). total (λ (rest : List A). f (x ∷ rest)) rests + a) (total-each_before f xs rests)

-- main: counts

pub count_of-total : {A : Type 0} (p : A → Bool) (l : List A) → count_of p l ≡ total (λ (x : A). bit (p x)) l
unfolding count_of total
count_of-total p [] = refl
count_of-total {A = A} p (x ∷ l) = go (p x) (count_of-total p l)
  where
    go : (b : Bool) → count_of p l ≡ total (λ (y : A). bit (p y)) l → cond b (suc (count_of p l)) (count_of p l) ≡ bit b + total (λ (y : A). bit (p y)) l
    go true e = rw e (omega arith)
    go false e = rw e (sym (zero-add (total (λ (y : A). bit (p y)) l)))

pub count_of-le : {A : Type 0} (p : A → Bool) (l : List A) → count_of p l ≤ length l
unfolding count_of
count_of-le p [] = omega arith
count_of-le p (x ∷ l) = go (p x) (count_of-le p l)
  where
    go : (b : Bool) → count_of p l ≤ length l → cond b (suc (count_of p l)) (count_of p l) ≤ suc (length l)
    go true h = omega arith
    go false h = omega arith

pub bit_and : (a b : Bool) → bit (a && b) ≡ bit a * bit b
bit_and true b = sym (one-mul (bit b))
bit_and false b = sym (zero-mul (bit b))

-- main: sums over what one engine holds

-- terms that are equal for every load with no count above
pub over_parts-equal : (x : List ℕ) (a b : List ℕ → ℕ) → ((z : List ℕ) → Below z x → a z ≡ b z) → over_parts x a ≡ over_parts x b
unfolding over_parts
over_parts-equal [] a b e = e [] none
over_parts-equal (n ∷ x) a b e =
    sum_to-equal n (λ (j : ℕ). choose n j * over_parts x (λ (z : List ℕ). a (j ∷ z))) (λ (j : ℕ). choose n j * over_parts x (λ (z : List ℕ). b (j ∷ z)))
    (λ j h. ap (λ (k : ℕ). choose n j * k) (over_parts-equal x (λ (z : List ℕ). a (j ∷ z)) (λ (z : List ℕ). b (j ∷ z)) (λ z r. e (j ∷ z) (more h r))))

over_parts-zero : (x : List ℕ) → over_parts x (λ (z : List ℕ). 0) ≡ 0
unfolding over_parts
over_parts-zero [] = refl
over_parts-zero (n ∷ x) =
    sum_to-equal n (λ (j : ℕ). choose n j * over_parts x (λ (z : List ℕ). 0)) (λ (j : ℕ). 0) (λ j h. rw (over_parts-zero x) (mul-zero (choose n j)))
    ∙ sum_to-zero n

over_parts-add : (x : List ℕ) (a b : List ℕ → ℕ) → over_parts x (λ (z : List ℕ). a z + b z) ≡ over_parts x a + over_parts x b
unfolding over_parts
over_parts-add [] a b = refl
over_parts-add (n ∷ x) a b =
    sum_to-equal n (λ (j : ℕ). choose n j * over_parts x (λ (z : List ℕ). a (j ∷ z) + b (j ∷ z))) (λ (j : ℕ). left j + right j)
    (λ j h.
    ap (λ (k : ℕ). choose n j * k) (over_parts-add x (λ (z : List ℕ). a (j ∷ z)) (λ (z : List ℕ). b (j ∷ z)))
    ∙ mul-add (choose n j) (over_parts x (λ (z : List ℕ). a (j ∷ z))) (over_parts x (λ (z : List ℕ). b (j ∷ z))))
    ∙ sum_to-add n left right
  where
    left : ℕ → ℕ
    left j = choose n j * over_parts x (λ (z : List ℕ). a (j ∷ z))

    right : ℕ → ℕ
    right j = choose n j * over_parts x (λ (z : List ℕ). b (j ∷ z))

pub total-over_parts : {A : Type 0} (x : List ℕ) (g : A → List ℕ → ℕ) (l : List A) → total (λ (a : A). over_parts x (λ (z : List ℕ). g a z)) l ≡ over_parts x (λ (z : List ℕ). total (λ (a : A). g a z) l)
unfolding total
total-over_parts x g [] = sym (over_parts-zero x)
total-over_parts {A = A} x g (a ∷ l) =
    ap (λ (k : ℕ). over_parts x (λ (z : List ℕ). g a z) + k) (total-over_parts x g l)
    ∙ sym (over_parts-add x (λ (z : List ℕ). g a z) (λ (z : List ℕ). total (λ (b : A). g b z) l))

-- Laws of tests as the code answers them (`within`): what one that passed, or one that refused, says of its number, and two tests one after the other.
use Rattle.std.proofs.Common.{Result, Ok, Err}
use Prim.Native.Nat.{ℕ, ◌+◌, ◌≤◌, ◌<◌}
use mathlib.Core.List.{List, [], ◌∷◌}
use native.Mathlib.Numerals.{add-one}
use lib.ListN.{length, drop, get_or, drop_of_length-le}
use lib.Seq.{drop-cons}
use mathlib.Core.Path.{◌≡◌, refl, sym, ap, ◌∙◌}
use mathlib.Core.Bool.{Bool, true, false, true≢false}
use borrow.Author.Tests.{eq-eqb}
use Rattle.std.proofs.lemmas.Bool.{eqb-true}
use lib.Dec.{eqb}
use Rattle.std.specs.Prelude.{⊤}
use Rattle.std.specs.Result.{is_ok, IsErrAnd}
use Rattle.std.proofs.lemmas.Result.{err_from_is_err_and}
use Rattle.system.specs.declared.Refusal.{Refusal}
use Rattle.system.specs.declared.Refusal.TheVariants.{Input}
use Rattle.system.specs.Outcome.{within}
use Rattle.system.specs.Limits.{or_else}

-- a test passes exactly where its number is 0
pub passed_is_zero : (n : ℕ) → is_ok (within n) ≡ eqb n 0
passed_is_zero n = at (eqb n 0) refl
  where
    at : (b : Bool) → eqb n 0 ≡ b → is_ok (within n) ≡ b
    at true e = rw e
    at false e = rw e

pub passed_as : {b : Bool} {r : Result ⊤ Refusal} (n : ℕ) → b ≡ is_ok r → r ≡ within n → b ≡ eqb n 0
passed_as n e h = e ∙ ap is_ok h ∙ passed_is_zero n

pub passed_zero : (n : ℕ) → Ok tt ≡ within n → eqb n 0 ≡ true
passed_zero n e = sym (passed_is_zero n) ∙ ap is_ok (sym e)

pub refused_not_zero : (n : ℕ) (why : Refusal) → Err why ≡ within n → eqb n 0 ≡ false
refused_not_zero n why e = sym (passed_is_zero n) ∙ ap is_ok (sym e)

pub passed_none : (n : ℕ) → Ok tt ≡ within n → n ≡ 0
passed_none n e = eqb-true n 0 (passed_zero n e)

pub refused_some : (n : ℕ) (why : Refusal) → Err why ≡ within n → n ≡ 0 → ⊥
refused_some n why e none = true≢false (sym (eq-eqb n 0 none) ∙ refused_not_zero n why e)

pub refused_number : (n : ℕ) (why : Refusal) → Err why ≡ within n → why ≡ Input n
refused_number n why e = let some = refused_not_zero n why e in let h : Err why ≡ Err (Input n) = e ∙ rw some in cc

-- of two tests one after the other the first that refuses decides, and after one that passed the second does
pub first_refused : (a b : ℕ) (why : Refusal) → Err why ≡ within a → Err why ≡ within (or_else a b)
first_refused a b why e = let some = refused_not_zero a why e in rw some e

pub then_second : (a b : ℕ) (r : Result ⊤ Refusal) → Ok tt ≡ within a → r ≡ within b → r ≡ within (or_else a b)
then_second a b r e h = let none = passed_zero a e in rw none h

-- what a `?` hands on is the refusal that it met
pub handed_on : {T : Type 0} {r x : Result T Refusal} (why : Refusal) → IsErrAnd r (λ (y : Refusal). y ≡ why) → Err why ≡ x → r ≡ x
handed_on {r = r} why is e = let p = err_from_is_err_and r is in rw (p.1, p.2) e

-- the first test of a list that refuses, one item after the other
abbrev pub first_fault : {A : Type 0} → (A → ℕ) → List A → ℕ
first_fault f [] = 0
first_fault f (x ∷ xs) = or_else (f x) (first_fault f xs)

-- a loop over the items, of which those from i on decide: the item there refuses, it passes so that the others decide, or none is left
module _ {A : Type 0} (f : A → ℕ) (xs : List A) (i : ℕ) (inv : first_fault f (drop i xs) ≡ first_fault f xs) where
  here : (d : A) → i < length xs → or_else (f (get_or xs i d)) (first_fault f (drop (i + 1) xs)) ≡ first_fault f xs
  here d h = rw (add-one i) (sym (ap (first_fault f) (drop-cons xs i d h)) ∙ inv)

  pub item_refused : (d : A) (why : Refusal) → i < length xs → Err why ≡ within (f (get_or xs i d)) → Err why ≡ within (first_fault f xs)
  item_refused d why h e = first_refused (f (get_or xs i d)) (first_fault f (drop (i + 1) xs)) why e ∙ ap (λ (n : ℕ). within n) (here d h)

  pub item_passed : (d : A) → i < length xs → Ok tt ≡ within (f (get_or xs i d)) → first_fault f (drop (i + 1) xs) ≡ first_fault f xs
  item_passed d h e = let none = passed_zero (f (get_or xs i d)) e in rw none at (here d h)

  pub items_passed : length xs ≤ i → Ok tt ≡ within (first_fault f xs)
  items_passed h = let none : first_fault f xs ≡ 0 = sym inv ∙ rw (drop_of_length-le xs h) in ap (λ (n : ℕ). within n) (sym none)

-- A text that is read to its end is numbers so spelled: each digit, space and 0A that was passed stands where it may.
use Prim.Native.Nat.{ℕ, ◌+◌, ◌-◌, ◌*◌, ◌/◌, ◌≤◌, ◌<◌}
use mathlib.Core.Path.{◌≡◌, refl, sym, ap, ◌∙◌}
use mathlib.Core.List.{List, [], ◌∷◌, ◌++◌}
use mathlib.Core.Bool.{Bool, true, false, cond}
use mathlib.Core.Logic.{◌⊎◌, inl, inr}
use native.Mathlib.Omega.{arith}
use borrow.Author.Tests.{le-leb}
use lib.Dec.{ltb}
use lib.ListN.{length}
use Rattle.listing.specs.Demands.{only_digits, value_from}
use Rattle.making.specs.declared.Recipe.{Recipe}
use Rattle.making.specs.Cases.{recipe}
use Rattle.recipes.specs.declared.Progress.{Progress}
use Rattle.recipes.specs.Digits.{greatest, progress, begun, broken, with_digit, stored, takes_digit, ends_number, step, read_from}
use Rattle.recipes.specs.Meaning.{Spelt, last_one, one_more, SevenNumbers}
use Rattle.recipes.proofs.Bytes.{digit-parts, end-some, end-parts, end-place}

-- intermediate: a broken text stays broken, and nothing follows 0A

step-broken : (b : ℕ) → step broken b ≡ broken
unfolding step
step-broken b = go (takes_digit broken b) (ends_number broken b) refl refl
  where
    go : (d s : Bool) → takes_digit broken b ≡ d → ends_number broken b ≡ s → cond d (with_digit broken (b - 48)) (cond s (stored broken) broken) ≡ broken
    go true s is q = absurd (omega (arith, (digit-parts broken b is).2))
    go false true is q = absurd (omega (arith, end-place broken b q))
    go false false is q = refl

broken-stays : (bs : List ℕ) → read_from broken bs ≡ broken
unfolding read_from
broken-stays [] = refl
broken-stays (b ∷ bs) = ap (λ (p : Progress). read_from p bs) (step-broken b) ∙ broken-stays bs

no-broken : (bs : List ℕ) → (read_from broken bs).at ≡ 7 → ⊥
no-broken bs e = let z : ◌≡◌ {A = ℕ} 8 7 = sym (ap (λ (p : Progress). p.at) (broken-stays bs)) ∙ e in omega arith

-- what a byte comes to
by_kind : (p : Progress) (b : ℕ) (bs : List ℕ) → (read_from p (b ∷ bs)).at ≡ 7
    → ((takes_digit p b ≡ true) × ((read_from (with_digit p (b - 48)) bs).at ≡ 7)) ⊎ ((ends_number p b ≡ true) × ((read_from (stored p) bs).at ≡ 7))
unfolding read_from step
by_kind p b bs e = go (takes_digit p b) (ends_number p b) refl refl e
  where
    go : (d s : Bool) → takes_digit p b ≡ d → ends_number p b ≡ s → (read_from (cond d (with_digit p (b - 48)) (cond s (stored p) broken)) bs).at ≡ 7
        → ((takes_digit p b ≡ true) × ((read_from (with_digit p (b - 48)) bs).at ≡ 7)) ⊎ ((ends_number p b ≡ true) × ((read_from (stored p) bs).at ≡ 7))
    go true s is q e = inl (is, e)
    go false true is q e = inr (q, e)
    go false false is q e = absurd (no-broken bs e)

-- a text that has ended goes on with nothing
nothing-follows : (p : Progress) (bs : List ℕ) → p.at ≡ 7 → (read_from p bs).at ≡ 7 → bs ≡ []
nothing-follows p [] is e = refl
nothing-follows p (b ∷ bs) is e = absurd (go (by_kind p b bs e))
  where
    after : ((b ≡ 32) × (p.at < 6)) ⊎ ((b ≡ 10) × (p.at ≡ 6)) → ⊥
    after (inl (k, h)) = omega arith
    after (inr (k, h)) = omega arith

    go : ((takes_digit p b ≡ true) × ((read_from (with_digit p (b - 48)) bs).at ≡ 7)) ⊎ ((ends_number p b ≡ true) × ((read_from (stored p) bs).at ≡ 7)) → ⊥
    go (inl (d, l)) = omega (arith, (digit-parts p b d).2)
    go (inr (s, l)) = after (end-parts p b s)

-- a digit leaves the place as it is
digit-place : (p : Progress) (d : ℕ) → (with_digit p d).at ≡ p.at
unfolding with_digit
digit-place p d = go (ltb ((greatest - d) / 10) p.value)
  where
    go : (b : Bool) → (cond {A = Progress} b (progress p.numbers p.at greatest true true) (progress p.numbers p.at (p.value * 10 + d) p.over true)).at ≡ p.at
    go true = refl
    go false = refl

-- intermediate: what is left of a text where it is read to its end: the digits that are left of a number, and after the byte that ends it the other numbers

data Left (p : Progress) (text : List ℕ) : Type 0 where
  ending : (ds : List ℕ) → only_digits ds ≡ true → (p.some ≡ false → 1 ≤ length ds) → p.at ≡ 6 → text ≡ ds ++ (10 ∷ []) → Left p text
  parting : (ds rest ns : List ℕ) → only_digits ds ≡ true → (p.some ≡ false → 1 ≤ length ds) → Spelt ns rest → p.at + 1 + length ns ≡ 7 → text ≡ ds ++ (32 ∷ rest) → Left p text

-- before a number these are numbers so spelled
spelt-left : {p : Progress} {text : List ℕ} → p.some ≡ false → Left p text → (ns : List ℕ) × Spelt ns text × (p.at + length ns ≡ 7)
spelt-left none (ending ds only some is e) = (value_from 0 ds ∷ [], last_one ds (record { some = some none; only = only; value = refl }) e, omega arith)
spelt-left none (parting ds rest ns only some more size e) = (value_from 0 ds ∷ ns, one_more ds rest (record { some = some none; only = only; value = refl }) more e, omega arith)

-- one digit in front
only-more : (b : ℕ) (ds : List ℕ) → 48 ≤ b → b ≤ 57 → only_digits ds ≡ true → only_digits (b ∷ ds) ≡ true
unfolding only_digits
only-more b ds low high only = rw (le-leb 48 b low, le-leb b 57 high, only)

digit-left : {p q : Progress} {bs : List ℕ} (b : ℕ) → 48 ≤ b → b ≤ 57 → q.at ≡ p.at → Left q bs → Left p (b ∷ bs)
digit-left b low high same (ending ds only some is e) = ending (b ∷ ds) (only-more b ds low high only) (λ n. omega arith) (sym same ∙ is) (ap (λ (l : List ℕ). b ∷ l) e)
digit-left b low high same (parting ds rest ns only some more size e) =
    parting (b ∷ ds) rest ns (only-more b ds low high only) (λ n. omega arith) more (omega arith) (ap (λ (l : List ℕ). b ∷ l) e)

-- the byte that ends a number
end-left : (p : Progress) (b : ℕ) (bs : List ℕ) → ends_number p b ≡ true → (read_from (stored p) bs).at ≡ 7 → (p.at + 1 < 7 → Left (stored p) bs) → Left p (b ∷ bs)
unfolding stored only_digits
end-left p b bs ends e on = go (end-some p b ends) (end-parts p b ends)
  where
    has : p.some ≡ true → p.some ≡ false → 1 ≤ length {A = ℕ} []
    has is none = let q : true ≡ false = sym is ∙ none in let z : ◌≡◌ {A = ℕ} 0 1 = cc in absurd (omega arith)

    go : p.some ≡ true → ((b ≡ 32) × (p.at < 6)) ⊎ ((b ≡ 10) × (p.at ≡ 6)) → Left p (b ∷ bs)
    go some (inl (is, place)) =
        let (ns, more, size) = spelt-left refl (on (omega arith)) in
        parting [] bs ns refl (has some) more size (ap (λ (n : ℕ). n ∷ bs) is)
    go some (inr (is, place)) =
        let none : bs ≡ [] = nothing-follows (stored p) bs (omega arith) e in
        ending [] refl (has some) place (ap (λ (n : ℕ). n ∷ bs) is ∙ ap (λ (l : List ℕ). 10 ∷ l) none)

found : (bs : List ℕ) (p : Progress) → p.at < 7 → (read_from p bs).at ≡ 7 → Left p bs
unfolding read_from stored
found [] p place e = absurd (omega arith)
found (b ∷ bs) p place e = go (by_kind p b bs e) (found bs)
  where
    go : ((takes_digit p b ≡ true) × ((read_from (with_digit p (b - 48)) bs).at ≡ 7)) ⊎ ((ends_number p b ≡ true) × ((read_from (stored p) bs).at ≡ 7))
        → ((q : Progress) → q.at < 7 → (read_from q bs).at ≡ 7 → Left q bs) → Left p (b ∷ bs)
    go (inl (d, l)) on =
        let parts = digit-parts p b d in
        let same = digit-place p (b - 48) in
        digit-left b parts.0 parts.1 same (on (with_digit p (b - 48)) (omega arith) l)
    go (inr (s, l)) on = end-left p b bs s l (λ place. on (stored p) place l)

-- main: seven numbers

seven-of : {text : List ℕ} (ns : List ℕ) → length ns ≡ 7 → Spelt ns text → (w : Recipe) × SevenNumbers w text
seven-of [] size s = absurd (omega arith)
seven-of (a ∷ []) size s = absurd (omega arith)
seven-of (a ∷ b ∷ []) size s = absurd (omega arith)
seven-of (a ∷ b ∷ c ∷ []) size s = absurd (omega arith)
seven-of (a ∷ b ∷ c ∷ d ∷ []) size s = absurd (omega arith)
seven-of (a ∷ b ∷ c ∷ d ∷ e ∷ []) size s = absurd (omega arith)
seven-of (a ∷ b ∷ c ∷ d ∷ e ∷ f ∷ []) size s = absurd (omega arith)
seven-of (a ∷ b ∷ c ∷ d ∷ e ∷ f ∷ g ∷ []) size s = (recipe a b c d e f g, s)
seven-of (a ∷ b ∷ c ∷ d ∷ e ∷ f ∷ g ∷ h ∷ ns) size s = absurd (omega arith)

pub seven-found : (text : List ℕ) → (read_from begun text).at ≡ 7 → (w : Recipe) × SevenNumbers w text
seven-found text e = let (ns, s, size) = spelt-left refl (found text begun (omega arith) e) in seven-of ns (omega arith) s

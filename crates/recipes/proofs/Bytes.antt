-- One byte: which are digits, which end a number, and what the value is after a digit more, cut to 64 bits.
use Prim.Native.Nat.{ℕ, ◌+◌, ◌-◌, ◌*◌, ◌/◌, ◌≤◌, ◌<◌, min}
use mathlib.Core.Path.{◌≡◌, refl}
use mathlib.Core.List.{List}
use mathlib.Core.Bool.{Bool, true, false, cond, ◌&&◌, ◌||◌}
use mathlib.Core.Logic.{◌⊎◌, inl, inr}
use native.Mathlib.Nat.{min-eq_left, min-eq_right}
use native.Mathlib.Omega.{arith}
use borrow.Author.Tests.{leb-true, leb-false, ltb-true, eqb-true, le-leb, lt-ltb, le-ltb}
use lib.Dec.{leb, ltb, eqb}
use lib.ListN.{set}
use Rattle.system.proofs.Laws.{and_parts}
use Rattle.recipes.specs.declared.Progress.{Progress}
use Rattle.recipes.specs.Digits.{greatest, progress, fresh, held, with_digit, stored, takes_digit, ends_number, step}

-- what a test found

or_parts : (a b : Bool) → (a || b) ≡ true → (a ≡ true) ⊎ (b ≡ true)
or_parts true b e = inl refl
or_parts false b e = inr e

pub digit-parts : (p : Progress) (b : ℕ) → takes_digit p b ≡ true → (48 ≤ b) × (b ≤ 57) × (p.at < 7)
unfolding takes_digit
digit-parts p b e =
    let whole = and_parts (leb 48 b && leb b 57) (ltb p.at 7) e in
    let both = and_parts (leb 48 b) (leb b 57) whole.0 in
    (leb-true 48 b both.0, leb-true b 57 both.1, ltb-true p.at 7 whole.1)

pub end-some : (p : Progress) (b : ℕ) → ends_number p b ≡ true → p.some ≡ true
unfolding ends_number
end-some p b e = (and_parts p.some _ e).0

pub end-parts : (p : Progress) (b : ℕ) → ends_number p b ≡ true → ((b ≡ 32) × (p.at < 6)) ⊎ ((b ≡ 10) × (p.at ≡ 6))
unfolding ends_number
end-parts p b e = go (or_parts (eqb b 32 && ltb p.at 6) (eqb b 10 && eqb p.at 6) (and_parts p.some _ e).1)
  where
    go : ((eqb b 32 && ltb p.at 6) ≡ true) ⊎ ((eqb b 10 && eqb p.at 6) ≡ true) → ((b ≡ 32) × (p.at < 6)) ⊎ ((b ≡ 10) × (p.at ≡ 6))
    go (inl h) = let both = and_parts (eqb b 32) (ltb p.at 6) h in inl (eqb-true b 32 both.0, ltb-true p.at 6 both.1)
    go (inr h) = let both = and_parts (eqb b 10) (eqb p.at 6) h in inr (eqb-true b 10 both.0, eqb-true p.at 6 both.1)

pub end-place : (p : Progress) (b : ℕ) → ends_number p b ≡ true → p.at < 7
end-place p b e = go (end-parts p b e)
  where
    go : ((b ≡ 32) × (p.at < 6)) ⊎ ((b ≡ 10) × (p.at ≡ 6)) → p.at < 7
    go (inl (is, h)) = omega arith
    go (inr (is, h)) = omega arith

-- a number of any size as it is held: cut to 64 bits, with a mark where it was cut

abbrev pub cut : ℕ → ℕ
cut n = min n greatest

abbrev pub passes : ℕ → Bool
passes n = ltb greatest n

abbrev pub reading : List ℕ → ℕ → ℕ → Bool → Progress
reading l j n some = progress l j (cut n) (passes n) some

-- as it is kept once it has ended
abbrev pub kept : ℕ → ℕ → ℕ
kept j n = cond (eqb j 0 && passes n) 0 (cut n)

pub digit-more : (l : List ℕ) (j n d : ℕ) (some : Bool) → d ≤ 9 → with_digit (reading l j n some) d ≡ reading l j (n * 10 + d) true
unfolding with_digit
digit-more l j n d some h = go (leb n ((greatest - d) / 10)) refl
  where
    go : (b : Bool) → leb n ((greatest - d) / 10) ≡ b → with_digit (reading l j n some) d ≡ reading l j (n * 10 + d) true
    go true e =
        let small : n ≤ (greatest - d) / 10 = leb-true n ((greatest - d) / 10) e in
        let same : min n greatest ≡ n = min-eq_left (omega arith) in
        let next : min (n * 10 + d) greatest ≡ n * 10 + d = min-eq_left (omega arith) in
        rw (same, next, le-ltb ((greatest - d) / 10) n small, le-ltb greatest n (omega arith), le-ltb greatest (n * 10 + d) (omega arith))
    go false e =
        let large : (greatest - d) / 10 < n = leb-false n ((greatest - d) / 10) e in
        let next : min (n * 10 + d) greatest ≡ greatest = min-eq_right (omega arith) in
        rw (lt-ltb ((greatest - d) / 10) (min n greatest) (omega arith), next, lt-ltb greatest (n * 10 + d) (omega arith))

-- a step for each kind of byte

pub step-digit : (l : List ℕ) (j n b : ℕ) (some : Bool) → j < 7 → 48 ≤ b → b ≤ 57 → step (reading l j n some) b ≡ reading l j (n * 10 + (b - 48)) true
unfolding step takes_digit
step-digit l j n b some h low high = rw (le-leb 48 b low, le-leb b 57 high, lt-ltb j 7 h) (digit-more l j n (b - 48) some (omega arith))

pub step-space : (l : List ℕ) (j n : ℕ) → j < 6 → step (reading l j n true) 32 ≡ fresh (set l j (kept j n)) (j + 1)
unfolding step takes_digit ends_number stored
step-space l j n h = rw (lt-ltb j 6 h)

pub step_end : (l : List ℕ) (n : ℕ) → step (reading l 6 n true) 10 ≡ fresh (set l 6 (kept 6 n)) 7
unfolding step takes_digit ends_number stored
step_end l n = refl

-- Numbers that are spelled as they should be are read as they are: digit by digit, then number by number.
use Prim.Native.Nat.{ℕ, ◌+◌, ◌-◌, ◌*◌, ◌≤◌, ◌<◌}
use mathlib.Core.Path.{◌≡◌, refl, ap, ◌∙◌}
use mathlib.Core.List.{List, [], ◌∷◌, ◌++◌}
use mathlib.Core.Bool.{true, false, ◌&&◌}
use native.Mathlib.Omega.{arith}
use borrow.Author.Tests.{leb-true}
use lib.Dec.{leb}
use lib.ListN.{length, set, replicate}
use Rattle.system.proofs.Laws.{and_parts}
use Rattle.listing.specs.Demands.{only_digits, value_from}
use Rattle.making.specs.declared.Recipe.{Recipe}
use Rattle.recipes.specs.declared.Progress.{Progress}
use Rattle.recipes.specs.Digits.{fresh, begun, read_from}
use Rattle.recipes.specs.Meaning.{InDigits, Spelt, last_one, one_more, SevenNumbers}
use Rattle.recipes.proofs.Bytes.{reading, kept, step-digit, step-space, step_end}

-- intermediate: the digits of one number

only_parts : (b : ℕ) (bs : List ℕ) → only_digits (b ∷ bs) ≡ true → (48 ≤ b) × (b ≤ 57) × (only_digits bs ≡ true)
unfolding only_digits
only_parts b bs e =
    let whole = and_parts (leb 48 b && leb b 57) (only_digits bs) e in
    let both = and_parts (leb 48 b) (leb b 57) whole.0 in
    (leb-true 48 b both.0, leb-true b 57 both.1, whole.1)

module _ (l : List ℕ) (j : ℕ) (place : j < 7) (rest : List ℕ) where
  -- after a digit
  digits-on : (n : ℕ) (ds : List ℕ) → only_digits ds ≡ true → read_from (reading l j n true) (ds ++ rest) ≡ read_from (reading l j (value_from n ds) true) rest
  unfolding read_from value_from
  digits-on n [] only = refl
  digits-on n (b ∷ bs) only =
      let parts = only_parts b bs only in
      ap (λ (p : Progress). read_from p (bs ++ rest)) (step-digit l j n b true place parts.0 parts.1) ∙ digits-on (n * 10 + (b - 48)) bs parts.2

  -- from the first on
  digits-read : (ds : List ℕ) → 1 ≤ length ds → only_digits ds ≡ true → read_from (fresh l j) (ds ++ rest) ≡ read_from (reading l j (value_from 0 ds) true) rest
  unfolding read_from value_from
  digits-read [] some only = absurd (omega arith)
  digits-read (b ∷ bs) some only =
      let parts = only_parts b bs only in
      ap (λ (p : Progress). read_from p (bs ++ rest)) (step-digit l j 0 b false place parts.0 parts.1) ∙ digits-on (0 * 10 + (b - 48)) bs parts.2

  number_read : (n : ℕ) (ds : List ℕ) → InDigits n ds → read_from (fresh l j) (ds ++ rest) ≡ read_from (reading l j n true) rest
  number_read n ds i = digits-read ds i.some i.only ∙ ap (λ (v : ℕ). read_from (reading l j v true) rest) i.value

-- intermediate: numbers one after another, each kept at its place

unfoldable pub kept_from : ℕ → List ℕ → List ℕ → List ℕ
kept_from j [] l = l
kept_from j (n ∷ ns) l = kept_from (j + 1) ns (set l j (kept j n))

spelt-some : {ns text : List ℕ} → Spelt ns text → 1 ≤ length ns
spelt-some (last_one digits i e) = omega arith
spelt-some (one_more digits rest i more e) = omega arith

last-read : (l : List ℕ) (j n : ℕ) → j ≡ 6 → read_from (reading l j n true) (10 ∷ []) ≡ fresh (set l j (kept j n)) 7
unfolding read_from
last-read l j n is = rw is (step_end l n)

space-read : (l rest : List ℕ) (j n : ℕ) → j < 6 → read_from (reading l j n true) (32 ∷ rest) ≡ read_from (fresh (set l j (kept j n)) (j + 1)) rest
unfolding read_from
space-read l rest j n h = ap (λ (p : Progress). read_from p rest) (step-space l j n h)

spelt-read : {ns text : List ℕ} → Spelt ns text → (l : List ℕ) (j : ℕ) → j + length ns ≡ 7 → read_from (fresh l j) text ≡ fresh (kept_from j ns l) 7
unfolding kept_from
spelt-read (last_one {n} digits i e) l j size =
    ap (read_from (fresh l j)) e ∙ number_read l j (omega arith) (10 ∷ []) n digits i ∙ last-read l j n (omega arith)
spelt-read (one_more {n} {ns} digits rest i more e) l j size =
    ap (read_from (fresh l j)) e ∙ number_read l j (omega (arith, spelt-some more)) (32 ∷ rest) n digits i ∙ space-read l rest j n (omega (arith, spelt-some more))
    ∙ spelt-read more (set l j (kept j n)) (j + 1) (omega arith)

-- main: seven numbers

abbrev pub kept_numbers : Recipe → List ℕ
kept_numbers w =
    kept 0 w.seed ∷ kept 1 w.engines ∷ kept 2 w.rule ∷ kept 3 w.timecap ∷ kept 4 w.memorycap ∷ kept 5 w.typecount ∷ kept 6 w.top ∷ []

pub seven-read : (w : Recipe) (text : List ℕ) → SevenNumbers w text → read_from begun text ≡ fresh (kept_numbers w) 7
unfolding kept_from
seven-read w text s = spelt-read s (replicate 7 0) 0 refl

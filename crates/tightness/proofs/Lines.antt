-- The line of two numbers is the one that a reader finds; and it can be read back, so that it tells one pair of numbers and no refusal.
use Prim.Native.Nat.{ℕ, ◌<◌}
use mathlib.Core.Path.{◌≡◌, refl, sym, ap, ◌∙◌}
use mathlib.Core.List.{List, [], ◌∷◌, ◌++◌, append_assoc}
use mathlib.Core.Bool.{Bool, true, false, cond, ◌&&◌}
use native.Mathlib.Omega.{arith}
use lib.Dec.{eqb, leb}
use lib.ListN.{get_or, drop}
use borrow.Author.Tests.{eqb-true, eq-eqb, leb-true}
use Rattle.loads.proofs.Order.{and_parts}
use Rattle.listing.specs.Listing.{decimal}
use Rattle.listing.specs.Demands.{only_digits, value_from, InDecimal, TellsRefusal}
use Rattle.listing.proofs.Numbers.{in-decimal}
use Rattle.tightness.specs.Line.{count_line}
use Rattle.tightness.specs.Meaning.{TellsCounts}

-- what stands between the numbers
abbrev between : List ℕ
between = 32 ∷ 111 ∷ 102 ∷ 32 ∷ []

-- main: the line is the one that is told

pub counts-told : (good total : ℕ) → TellsCounts good total (count_line good total)
counts-told good total = record {
  good_digits = decimal good;
  good_in_decimal = in-decimal good;
  total_digits = decimal total;
  total_in_decimal = in-decimal total;
  bytes = ap (λ (l : List ℕ). 103 ∷ 111 ∷ 111 ∷ 100 ∷ 32 ∷ l) (
      append_assoc (decimal good ++ between) (decimal total) (10 ∷ [])
      ∙ append_assoc (decimal good) between (decimal total ++ (10 ∷ [])));
}

-- intermediate: what stands before the first byte `stop`, and what stands after it

unfoldable until : ℕ → List ℕ → List ℕ
until stop [] = []
until stop (b ∷ bs) = cond (eqb b stop) [] (b ∷ until stop bs)

unfoldable past : ℕ → List ℕ → List ℕ
past stop [] = []
past stop (b ∷ bs) = cond (eqb b stop) bs (past stop bs)

-- a byte below `0` ends digits
no_digit : (b stop : ℕ) → stop < 48 → leb 48 b ≡ true → eqb b stop ≡ false
no_digit b stop low h = go (eqb b stop) refl
  where
    go : (q : Bool) → eqb b stop ≡ q → q ≡ false
    go true e = absurd (omega (arith, leb-true 48 b h, eqb-true b stop e))
    go false e = refl

until-digits : (stop : ℕ) (digits rest : List ℕ) → stop < 48 → only_digits digits ≡ true → until stop (digits ++ (stop ∷ rest)) ≡ digits
unfolding until only_digits
until-digits stop [] rest low only = rw (eq-eqb stop stop refl)
until-digits stop (b ∷ bs) rest low only =
    let parts = and_parts (leb 48 b && leb b 57) (only_digits bs) only in
    rw (no_digit b stop low (and_parts (leb 48 b) (leb b 57) parts.0).0) (ap (λ (l : List ℕ). b ∷ l) (until-digits stop bs rest low parts.1))

past-digits : (stop : ℕ) (digits rest : List ℕ) → stop < 48 → only_digits digits ≡ true → past stop (digits ++ (stop ∷ rest)) ≡ rest
unfolding past only_digits
past-digits stop [] rest low only = rw (eq-eqb stop stop refl)
past-digits stop (b ∷ bs) rest low only =
    let parts = and_parts (leb 48 b && leb b 57) (only_digits bs) only in
    rw (no_digit b stop low (and_parts (leb 48 b) (leb b 57) parts.0).0) (past-digits stop bs rest low parts.1)

-- main: what a line is read as, by what stands between its fifth byte and the next space, and between ` of ` and the line's end

read_good : List ℕ → ℕ
read_good text = value_from 0 (until 32 (drop 5 text))

read_total : List ℕ → ℕ
read_total text = value_from 0 (until 10 (drop 3 (past 32 (drop 5 text))))

good-read : {good total : ℕ} {text : List ℕ} → TellsCounts good total text → read_good text ≡ good
unfolding read_good
good-read {text = text} r =
    let digits : until 32 (drop 5 text) ≡ r.good_digits = ap (λ (l : List ℕ). until 32 (drop 5 l)) r.bytes ∙ until-digits 32 r.good_digits _ (omega arith) r.good_in_decimal.only in
    ap (value_from 0) digits ∙ r.good_in_decimal.value

total-read : {good total : ℕ} {text : List ℕ} → TellsCounts good total text → read_total text ≡ total
unfolding read_total
total-read {text = text} r =
    let rest : past 32 (drop 5 text) ≡ 111 ∷ 102 ∷ 32 ∷ (r.total_digits ++ (10 ∷ [])) =
    ap (λ (l : List ℕ). past 32 (drop 5 l)) r.bytes ∙ past-digits 32 r.good_digits _ (omega arith) r.good_in_decimal.only in
    let digits : until 10 (drop 3 (past 32 (drop 5 text))) ≡ r.total_digits =
    ap (λ (l : List ℕ). until 10 (drop 3 l)) rest ∙ until-digits 10 r.total_digits [] (omega arith) r.total_in_decimal.only in
    ap (value_from 0) digits ∙ r.total_in_decimal.value

-- main: a line tells one pair of numbers

pub one-good : {good total g t : ℕ} {text : List ℕ} → TellsCounts good total text → TellsCounts g t text → good ≡ g
one-good a b = sym (good-read a) ∙ good-read b

pub one-total : {good total g t : ℕ} {text : List ℕ} → TellsCounts good total text → TellsCounts g t text → total ≡ t
one-total a b = sym (total-read a) ∙ total-read b

-- and no refusal: the first byte
pub no-refusal : {good total n : ℕ} {text : List ℕ} → TellsCounts good total text → TellsRefusal n text → ⊥
no-refusal a r =
    let first : ◌≡◌ {A = ℕ} 103 114 = ap (λ (l : List ℕ). get_or l 0 0) (sym a.bytes ∙ r.bytes) in
    absurd (omega arith)

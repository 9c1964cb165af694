-- Refusals 37 and 38 in plain words, and what an accepted count means: each follows from the answer alone, by the three cases of a file that opens.
use Rattle.std.proofs.Common.{Result}
use Rattle.system.specs.declared.Refusal.{Refusal}
use Rattle.counting.specs.declared.Counts.{Counts}
use Prim.Native.Nat.{ℕ, ◌*◌, ◌^◌, ◌≤◌, ◌<◌}
use mathlib.Core.Path.{◌≡◌, refl, sym, ap, subst, ◌∙◌}
use mathlib.Core.List.{List, [], ◌∷◌}
use mathlib.Core.Bool.{Bool, true, false, cond}
use mathlib.Core.Logic.{◌↔◌}
use native.Mathlib.Omega.{arith}
use borrow.Author.Tests.{leb-true, leb-false}
use lib.ListN.{length, get_or}
use lib.Dec.{leb}
use Rattle.system.specs.declared.System.{System}
use Rattle.system.specs.Limits.{columns}
use Rattle.system.specs.Layout.{Reading, opened, unread}
use Rattle.system.specs.Outcome.{Outcome, Source, accepted, refused, from_input, check, and_then, unless_fails}
use Rattle.system.proofs.Laws.{Limits}
use Rattle.partition.specs.Plain.{columns_out}
use Rattle.partition.proofs.Plain.{columns-out}
use Rattle.counting.specs.Counts.{good_count, total_count, greatest, total_check, part_check, count_outcome}
use Rattle.counting.specs.Meaning.{instances_out, CountMeans, counted_outcome, CountPromises}
use Rattle.counting.proofs.Counted.{instances-out, counts-mean}

-- m to the power N, N the instances of all six types
abbrev power_out : System → ℕ
power_out y = y.engines ^ instances_out y

-- the answers to a file that opens, with what each is due to
data Case (y : System) (entries : ℕ) : Outcome → Type 0 where
  too_many : greatest < power_out y → Case y entries (refused from_input 37)
  too_short : power_out y ≤ greatest → entries < 2 * columns_out y → Case y entries (refused from_input 38)
  counted : power_out y ≤ greatest → 2 * columns_out y ≤ entries → Case y entries (accepted (good_count y ∷ total_count y ∷ []))

case-of : (y : System) → Limits y → (entries : ℕ) → Case y entries (count_outcome (opened y) entries)
case-of y limits entries = first (leb (total_count y) greatest) refl
  where
    power : total_count y ≡ power_out y
    power = ap (λ (n : ℕ). y.engines ^ n) (sym (instances-out y limits.six))

    twice : 2 * columns y ≡ 2 * columns_out y
    twice = ap (λ (n : ℕ). 2 * n) (sym (columns-out y limits.six))

    second : power_out y ≤ greatest → (b : Bool) → leb (2 * columns y) entries ≡ b → Case y entries (unless_fails (check b from_input 38) (accepted (good_count y ∷ total_count y ∷ [])))
    second within true e = counted within (subst (λ (n : ℕ). n ≤ entries) twice (leb-true (2 * columns y) entries e))
    second within false e = too_short within (subst (λ (n : ℕ). entries < n) twice (leb-false (2 * columns y) entries e))

    first : (b : Bool) → leb (total_count y) greatest ≡ b → Case y entries (unless_fails (and_then (check b from_input 37) (part_check y entries)) (accepted (good_count y ∷ total_count y ∷ [])))
    first true e = second (subst (λ (n : ℕ). n ≤ greatest) power (leb-true (total_count y) greatest e)) (leb (2 * columns y) entries) refl
    first false e = too_many (subst (λ (n : ℕ). greatest < n) power (leb-false (total_count y) greatest e))

-- intermediate: one law for each sentence, by the cases

module _ {y : System} {entries : ℕ} where
  many-iff : {o : Outcome} → Case y entries o → (o ≡ refused from_input 37) ↔ (greatest < power_out y)
  many-iff (too_many over) = (λ e. over, λ h. refl)
  many-iff (too_short within short) = (λ e. (let z : ◌≡◌ {A = ℕ} 38 37 = cc in absurd (omega arith)), λ h. absurd (omega arith))
  many-iff (counted within long) = (λ e. (let z : ◌≡◌ {A = ℕ} 0 1 = cc in absurd (omega arith)), λ h. absurd (omega arith))

  short-iff : {o : Outcome} → Case y entries o → power_out y ≤ greatest → (o ≡ refused from_input 38) ↔ (entries < 2 * columns_out y)
  short-iff (too_many over) k = absurd (omega arith)
  short-iff (too_short within short) k = (λ e. short, λ h. refl)
  short-iff (counted within long) k = (λ e. (let z : ◌≡◌ {A = ℕ} 0 1 = cc in absurd (omega arith)), λ h. absurd (omega arith))

  counted-else : {o : Outcome} → Case y entries o → power_out y ≤ greatest → 2 * columns_out y ≤ entries → (good total : ℕ) × (o ≡ accepted (good ∷ total ∷ []))
  counted-else (too_many over) k l = absurd (omega arith)
  counted-else (too_short within short) k l = absurd (omega arith)
  counted-else (counted within long) k l = (good_count y, total_count y, refl)

  counted-means : Limits y → {o : Outcome} → Case y entries o → (good total : ℕ) → o ≡ accepted (good ∷ total ∷ []) → CountMeans y good total
  counted-means limits (too_many over) good total e = let z : ◌≡◌ {A = ℕ} 0 1 = cc in absurd (omega arith)
  counted-means limits (too_short within short) good total e = let z : ◌≡◌ {A = ℕ} 0 1 = cc in absurd (omega arith)
  counted-means limits (counted within long) good total e =
      let g : good_count y ≡ good = cc in
      let t : total_count y ≡ total = cc in
      subst (λ (n : ℕ). CountMeans y n total) g (subst (λ (n : ℕ). CountMeans y (good_count y) n) t (counts-mean y limits))

-- main: what follows from the answer alone, where a file that opens keeps the limits

module _ (x : Reading) (limits : (y : System) → x ≡ opened y → Limits y) (entries : ℕ) (r : Result Counts Refusal) (answers : counted_outcome r ≡ count_outcome x entries) where
  case_at : (y : System) → x ≡ opened y → Case y entries (counted_outcome r)
  case_at y is = subst (Case y entries) (sym (answers ∙ ap (λ (z : Reading). count_outcome z entries) is)) (case-of y (limits y is) entries)

  pub file-first : (n : ℕ) → x ≡ unread n → counted_outcome r ≡ refused from_input n
  file-first n is = answers ∙ ap (λ (z : Reading). count_outcome z entries) is

  pub then_total_lem : (y : System) → x ≡ opened y → (counted_outcome r ≡ refused from_input 37) ↔ (18446744073709551615 < y.engines ^ instances_out y)
  then_total_lem y is = many-iff (case_at y is)

  pub then-part : (y : System) → x ≡ opened y → y.engines ^ instances_out y ≤ 18446744073709551615 → (counted_outcome r ≡ refused from_input 38) ↔ (entries < 2 * columns_out y)
  then-part y is = short-iff (case_at y is)

  pub else-counted : (y : System) → x ≡ opened y → y.engines ^ instances_out y ≤ 18446744073709551615 → 2 * columns_out y ≤ entries → (good total : ℕ) × (counted_outcome r ≡ accepted (good ∷ total ∷ []))
  else-counted y is = counted-else (case_at y is)

  pub counts-are : (y : System) (good total : ℕ) → x ≡ opened y → counted_outcome r ≡ accepted (good ∷ total ∷ []) → CountMeans y good total
  counts-are y good total is = counted-means (limits y is) (case_at y is) good total

-- all that the call promises, from its answer and what it leaves of the part
pub order-of : (x : Reading) → ((y : System) → x ≡ opened y → Limits y) → (part : List ℕ) (r : Result Counts Refusal) (after : List ℕ) → counted_outcome r ≡ count_outcome x (length part)
    → ((s : Source) (n : ℕ) → counted_outcome r ≡ refused s n → after ≡ part) → length after ≡ length part
    → ((y : System) (i : ℕ) → x ≡ opened y → 2 * columns_out y ≤ i → get_or after i 0 ≡ get_or part i 0) → CountPromises x part r after
order-of x limits part r after answers as_lent_lem as_long_lem past = record {
  answers = answers;
  file_first = file-first x limits (length part) r answers;
  then_total = then_total_lem x limits (length part) r answers;
  then_part = then-part x limits (length part) r answers;
  else = else-counted x limits (length part) r answers;
  counts = counts-are x limits (length part) r answers;
  as_lent = as_lent_lem;
  as_long = as_long_lem;
  past = past;
}

-- A line says one thing: the refusal and its number, or right and whether fewer would do.
use Prim.Native.Nat.{ℕ}
use mathlib.Core.Path.{◌≡◌, refl, ap, subst}
use mathlib.Core.List.{List}
use mathlib.Core.Bool.{Bool, true, false}
use native.Mathlib.Omega.{arith}
use lib.ListN.{get_or}
use Rattle.system.specs.Outcome.{Source}
use Rattle.system.specs.declared.Refusal.{Refusal}
use Rattle.system.specs.declared.Refusal.TheVariants.{Input, State}
use Rattle.sheets.specs.Checking.{SheetOutcome, right, wrong, wrong_for}
use Rattle.listing.specs.Listing.{refusal_line}
use Rattle.listing.specs.Demands.{TellsRefusal, number_of}
use Rattle.listing.proofs.Lines.{number-told, told-once}
use Rattle.answers.specs.Checks.{right_text, line_of}

-- the second byte of `right` is not that of a refusal
right-no-refusal : (fewer : Bool) (n : ℕ) → TellsRefusal n (right_text fewer) → ⊥
right-no-refusal true n r = let z : ◌≡◌ {A = ℕ} 105 101 = ap (λ (l : List ℕ). get_or l 1 0) r.bytes in omega arith
right-no-refusal false n r = let z : ◌≡◌ {A = ℕ} 105 101 = ap (λ (l : List ℕ). get_or l 1 0) r.bytes in omega arith

pub refused-line : (o : SheetOutcome) (n : ℕ) → TellsRefusal n (line_of o) → (s : Source) × (o ≡ wrong s n)
refused-line (right fewer) n r = absurd (right-no-refusal fewer n r)
refused-line (wrong s m) n r = (s, ap (wrong s) (told-once (number-told m) r))

pub right-line : (o : SheetOutcome) (fewer : Bool) → line_of o ≡ right_text fewer → o ≡ right fewer
right-line (right true) true e = refl
right-line (right false) false e = refl
right-line (right true) false e = let z : ◌≡◌ {A = ℕ} 44 10 = ap (λ (l : List ℕ). get_or l 5 0) e in absurd (omega arith)
right-line (right false) true e = let z : ◌≡◌ {A = ℕ} 10 44 = ap (λ (l : List ℕ). get_or l 5 0) e in absurd (omega arith)
right-line (wrong s n) fewer e = absurd (right-no-refusal fewer n (subst (TellsRefusal n) e (number-told n)))

pub line-of-refusal : (why : Refusal) → refusal_line (number_of why) ≡ line_of (wrong_for why)
line-of-refusal (Input n) = refl
line-of-refusal (State n) = refl

-- Laws of checks: what a check that passed, or one that failed, says of its test.
use Prim.Native.Nat.{ℕ}
use mathlib.Core.Path.{◌≡◌, refl, sym, ap, ◌∙◌}
use mathlib.Core.Bool.{Bool, true, false, true≢false}
use Rattle.system.specs.declared.Refusal.{Refusal}
use Rattle.system.specs.declared.Refusal.TheVariants.{Input, State}
use Rattle.system.specs.Outcome.{Outcome, Source, refusal_of, Checked, passes, fails, check, and_then, unless_fails, fails_with}

-- a check that passes
abbrev is_passed : Checked → Bool
is_passed passes = true
is_passed (fails s n) = false

failed-not-passed : (r : Refusal) → is_passed (fails_with r) ≡ false
failed-not-passed (Input n) = refl
failed-not-passed (State n) = refl

pub passes-not-fails : (r : Refusal) → passes ≡ fails_with r → ⊥
passes-not-fails r e = true≢false (ap is_passed e ∙ failed-not-passed r)

pub check-passed : (met : Bool) (s : Source) (n : ℕ) → passes ≡ check met s n → met ≡ true
check-passed true s n e = refl
check-passed false s n e = absurd (true≢false (ap is_passed e))

pub check-failed : (met : Bool) (s : Source) (n : ℕ) (r : Refusal) → fails_with r ≡ check met s n → met ≡ false
check-failed true s n r e = absurd (passes-not-fails r (sym e))
check-failed false s n r e = refl

-- the answer of a call whose check failed
pub fails-refuse : (r : Refusal) (o : Outcome) → unless_fails (fails_with r) o ≡ refusal_of r
fails-refuse (Input n) o = refl
fails-refuse (State n) o = refl

-- what comes after a check that failed does not matter
pub fails-first : (r : Refusal) (later : Checked) → and_then (fails_with r) later ≡ fails_with r
fails-first (Input n) later = refl
fails-first (State n) later = refl

-- checks strung one after the other: the first that fails refuses, and after one that passed the later ones decide
pub fails-and_then : (r : Refusal) (x later : Checked) → fails_with r ≡ x → fails_with r ≡ and_then x later
fails-and_then r x later h = sym (fails-first r later) ∙ ap (λ (c : Checked). and_then c later) h

pub passes-and_then : (x later z : Checked) → passes ≡ x → z ≡ later → z ≡ and_then x later
passes-and_then x later z h e = e ∙ ap (λ (c : Checked). and_then c later) h

pub both-passed : (x later : Checked) → passes ≡ and_then x later → (passes ≡ x) × (passes ≡ later)
both-passed passes later e = (refl, e)
both-passed (fails s n) later e = absurd (true≢false (ap is_passed e))

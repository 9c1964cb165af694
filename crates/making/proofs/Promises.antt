-- What the call promises, from the two laws that say its answer and the buffer: the order of refusals, demand 1, and the file that is made and reads back.
use Rattle.std.proofs.Common.{Err}
use Prim.Native.Nat.{ℕ, ◌+◌, ◌*◌, ◌^◌, ◌≤◌, ◌<◌}
use mathlib.Core.Path.{◌≡◌, refl, sym, ap, subst, ◌∙◌}
use mathlib.Core.List.{List, [], ◌∷◌}
use mathlib.Core.Bool.{false}
use native.Mathlib.Nat.{one-mul, pow-zero, pow-suc, pow-le-pow_right}
use native.Mathlib.Omega.{arith}
use borrow.Author.Tests.{ne_eqb}
use lib.ListN.{length, take, drop}
use lib.Seq.{take-append_seam}
use lib.Dec.{eqb}
use Rattle.system.specs.Outcome.{Answer, Source, accepted, refused, outcome_of}
use Rattle.system.specs.declared.Refusal.TheVariants.{Input}
use Rattle.partition.specs.Plain.{LimitsOut}
use Rattle.writer.specs.Meaning.{file_out, WritePromises}
use Rattle.writer.proofs.Exactly.{limits-reads}
use Rattle.making.specs.declared.Recipe.{Recipe}
use Rattle.making.specs.Making.{drawn_system, recipe_fault, make_outcome, made_in}
use Rattle.making.specs.Inner.{Drawable}
use Rattle.making.specs.Meaning.{Made, Leaves, MakePromises}
use Rattle.making.proofs.Made.{system-made, made-limits, made-length, made-once}
use Rattle.making.proofs.Ordered.{Case, case-of, numbers-first, then-power, then-room, else-written, faultless-recipe}

-- intermediate: what is drawn where no test finds a fault

power-one : (b : ℕ) → b ^ 1 ≡ b
power-one b = pow-suc b 0 ∙ ap (λ (n : ℕ). n * b) (pow-zero b) ∙ one-mul b

pub drawable : (w : Recipe) → recipe_fault w ≡ 0 → Drawable w
drawable w none =
    let i = (faultless-recipe w none).0 in
    let p = (faultless-recipe w none).1 in
    let up : (w.top + 1) ^ 1 ≤ (w.top + 1) ^ w.typecount = pow-le-pow_right {n = w.top + 1} (omega arith) {i = 1} {j = w.typecount} i.typecount.0 in
    record { time = i.timecap.0; memory = i.memorycap.0; top = omega (arith, up, p, power-one (w.top + 1)); few = i.typecount.1 }

-- intermediate: the order, from the answer alone

module _ (w : Recipe) (short : w.seed < 2 ^ 64) (old new : List ℕ) (r : Answer) (answers : outcome_of r ≡ make_outcome w (length old)) where
  case_at : Case w (length old) (outcome_of r)
  case_at = subst (Case w (length old)) (sym answers) (case-of w short (length old))

  pub make-promises : new ≡ made_in w old → ((n : ℕ) → outcome_of r ≡ accepted (n ∷ []) → Leaves w n old new) → ((s : Source) (n : ℕ) → outcome_of r ≡ refused s n → new ≡ old)
      → MakePromises w old new r
  make-promises leaves writes as_lent_lem = record {
    answers = answers;
    leaves = leaves;
    numbers_first = numbers-first case_at;
    then_power = then-power case_at;
    then_room = then-room case_at;
    else = else-written case_at;
    writes = writes;
    as_lent = as_lent_lem;
  }

-- main: the two exits

module _ (w : Recipe) (short : w.seed < 2 ^ 64) (old : List ℕ) where
  -- the recipe is refused
  pub promised-refusal : {fault : ℕ} → fault ≡ recipe_fault w → (fault ≡ 0 → ⊥) → MakePromises w old old (Err (Input fault))
  unfolding make_outcome made_in
  promised-refusal {fault = fault} said some =
      let out : eqb (recipe_fault w) 0 ≡ false = rw (← said) (ne_eqb fault 0 some) in
      make-promises w short old old (Err (Input fault)) (rw (out, said)) (rw out)
      (λ n e. (let z : ◌≡◌ {A = ℕ} 0 1 = cc in absurd (omega arith))) (λ s n e. refl)

  -- the writer answers for the system that the recipe makes
  module _ (new : List ℕ) (r : Answer) (none : recipe_fault w ≡ 0) (promises : WritePromises (drawn_system w) old new r) where
    made : Made w (drawn_system w)
    made = system-made w short (faultless-recipe w none).0.typecount.1

    limits : LimitsOut (drawn_system w)
    limits = made-limits w (drawn_system w) made (faultless-recipe w none).0 (faultless-recipe w none).1

    leaves-file : (n : ℕ) → outcome_of r ≡ accepted (n ∷ []) → Leaves w n old new
    leaves-file n e =
        let y = drawn_system w in
        let p = promises.writes n e in
        let front : take n new ≡ file_out y = rw (p.2, p.1) (take-append_seam (file_out y) (drop (length (file_out y)) old)) in
        record {
          system = y;
          made = made;
          once = λ z also. made-once w z y also made;
          limits = limits;
          size = p.1 ∙ made-length w y made;
          reads = rw front (limits-reads (λ t. false) y limits);
          bytes = p.2;
        }

    pub promised-file : MakePromises w old new r
    unfolding make_outcome made_in
    promised-file = make-promises w short old new r (promises.answers ∙ rw none) (promises.leaves ∙ rw none) leaves-file promises.as_lent

-- What the code's exits come to: the buffer holds the text by definition, and a reader finds in it what is promised.
use Rattle.std.proofs.Common.{Option, Ok, Err, Some, None}
use Rattle.std.specs.Option.{unwrap_or}
use Prim.Native.Nat.{ℕ, ◌≤◌, ◌<◌}
use mathlib.Core.Path.{◌≡◌, refl, sym, ap, subst, ◌∙◌}
use mathlib.Core.List.{List, [], ◌∷◌, ◌++◌}
use mathlib.Core.Bool.{Bool, true, false, cond}
use native.Mathlib.Omega.{arith}
use borrow.Author.Tests.{eqb-true, eq-eqb, ne_eqb}
use lib.Dec.{eqb}
use lib.ListN.{length, take, drop, length-append}
use lib.Seq.{length-take-le, take_all}
use Rattle.buffer.specs.Written.{Written}
use Rattle.system.specs.declared.System.{System}
use Rattle.system.specs.Outcome.{Answer, accepted, refused, from_input, from_state, refusal_of, outcome_of}
use Rattle.system.specs.declared.Refusal.{Refusal}
use Rattle.system.specs.declared.Refusal.TheVariants.{Input, State}
use Rattle.writer.specs.File.{file_of}
use Rattle.writer.specs.Writing.{write_fault, write_outcome, written_to}
use Rattle.making.specs.declared.Recipe.{Recipe}
use Rattle.making.specs.Making.{drawn_system, recipe_fault, make_outcome, made_in}
use Rattle.making.specs.Meaning.{size_out, MakePromises}
use Rattle.making.proofs.Ordered.{faultless-recipe}
use Rattle.listing.specs.Listing.{refusal_line}
use Rattle.listing.specs.Demands.{number_of, RefusalPromises}
use Rattle.recipes.specs.declared.Progress.{Progress}
use Rattle.recipes.specs.Digits.{begun, read_from}
use Rattle.recipes.specs.Output.{not_seven_line, recipe_of, recipe_text, progress_text}
use Rattle.recipes.specs.Meaning.{RecipePromises, ReadPromises}
use Rattle.recipes.proofs.Told.{tells-text}

-- the three answers of `make_file`

module _ (w : Recipe) {old mid : List ℕ} {answer : Answer} (room : length old ≡ 4096) (p : MakePromises w old mid answer) where
  abbrev y : System
  y = drawn_system w

  -- a number: the file stands at the start of the buffer
  number-written : (n : ℕ) → answer ≡ Ok (Some n) → Written (recipe_text w) old mid n
  unfolding recipe_text make_outcome made_in write_outcome written_to
  number-written n is = by (eqb (recipe_fault w) 0) (rw is at p.answers) p.leaves
    where
      file : (b : Bool) → accepted (n ∷ []) ≡ cond b (accepted (length (file_of y) ∷ [])) (refused from_input (write_fault y (length old)))
          → mid ≡ cond b (file_of y ++ drop (length (file_of y)) old) old → Written (file_of y) old mid n
      file false o left = let z : ◌≡◌ {A = ℕ} 0 1 = cc in absurd (omega arith)
      file true o left =
          let count : n ≡ length (file_of y) = cc in
          let inside : n ≤ length mid = omega (arith, ap length left, length-append (file_of y) (drop (length (file_of y)) old)) in
          record { left = left; count = count; within = (inside, sym (length-take-le n mid inside)) }

      by : (b : Bool) → accepted (n ∷ []) ≡ cond b (write_outcome y (length old)) (refused from_input (recipe_fault w)) → mid ≡ cond b (written_to y old) old
          → Written (cond b (file_of y) (refusal_line (recipe_fault w))) old mid n
      by false o left = let z : ◌≡◌ {A = ℕ} 0 1 = cc in absurd (omega arith)
      by true o left = file (eqb (write_fault y (length old)) 0) o left

  -- a recipe without a fault is written: the buffer is long enough
  accepts : recipe_fault w ≡ 0 → outcome_of answer ≡ accepted (size_out w ∷ [])
  accepts none = let both = faultless-recipe w none in p.else both.0 both.1 (omega (arith, both.0.typecount.1))

  -- a refusal: its line
  refusal-text : (why : Refusal) → answer ≡ Err why → refusal_line (number_of why) ≡ recipe_text w
  unfolding recipe_text make_outcome
  refusal-text why is = by why (eqb (recipe_fault w) 0) refl (rw is at (accepts)) (rw is at p.answers)
    where
      by : (x : Refusal) (b : Bool) → eqb (recipe_fault w) 0 ≡ b → (recipe_fault w ≡ 0 → refusal_of x ≡ accepted (size_out w ∷ []))
          → refusal_of x ≡ cond b (write_outcome y (length old)) (refused from_input (recipe_fault w)) → refusal_line (number_of x) ≡ cond b (file_of y) (refusal_line (recipe_fault w))
      by (Input n) true e accepting o = let a = accepting (eqb-true (recipe_fault w) 0 e) in let z : ◌≡◌ {A = ℕ} 0 1 = cc in absurd (omega arith)
      by (State n) true e accepting o = let a = accepting (eqb-true (recipe_fault w) 0 e) in let z : ◌≡◌ {A = ℕ} 0 1 = cc in absurd (omega arith)
      by (Input n) false e accepting o = ap refusal_line (cc)
      by (State n) false e accepting o = ap refusal_line (cc)

  pub refusal-written : (why : Refusal) → answer ≡ Err why → {new : List ℕ} {r : ℕ} → RefusalPromises why mid new r → Written (recipe_text w) old new r
  refusal-written why is q = rw (refusal-text why is, lent why is) at q.written
    where
      lent : (x : Refusal) → answer ≡ Err x → mid ≡ old
      lent (Input n) e = p.as_lent from_input n (rw e)
      lent (State n) e = p.as_lent from_state n (rw e)

  -- never a bare "accepted"
  never-accepted : answer ≡ (Ok None) → ⊥
  unfolding make_outcome write_outcome
  never-accepted is = by (eqb (recipe_fault w) 0) (eqb (write_fault y (length old)) 0) (rw is at p.answers)
    where
      by : (b d : Bool) → accepted [] ≡ cond b (cond d (accepted (length (file_of y) ∷ [])) (refused from_input (write_fault y (length old)))) (refused from_input (recipe_fault w)) → ⊥
      by true true o = let z : ◌≡◌ {A = ℕ} 0 1 = cc in omega arith
      by true false o = let z : ◌≡◌ {A = ℕ} 0 1 = cc in omega arith
      by false d o = let z : ◌≡◌ {A = ℕ} 0 1 = cc in omega arith

  -- so an answer that is no refusal has a number
  pub file-written : (size : Option ℕ) (d : ℕ) → answer ≡ Ok size → Written (recipe_text w) old mid (unwrap_or size d)
  file-written (Some n) d is = number-written n is
  file-written None d is = absurd (never-accepted is)

-- a text that is read to its end, and any other

module _ (text : List ℕ) {passed : Progress} (is : passed ≡ read_from begun text) {old new : List ℕ} {r : ℕ} where
  pub other-promised : (passed.at ≡ 7 → ⊥) → Written not_seven_line old new r → RecipePromises text old new r
  unfolding progress_text
  other-promised short h = record { written = rw (← is, ne_eqb passed.at 7 short) h; tells = tells-text text }

  pub seven-promised : passed.at ≡ 7 → Written (recipe_text (recipe_of passed.numbers)) old new r → RecipePromises text old new r
  unfolding progress_text
  seven-promised whole h = record { written = rw (← is, eq-eqb passed.at 7 whole) h; tells = tells-text text }

-- a text of which as much was read as there is room for, and a shorter one

module _ {front : List ℕ} {read : ℕ} {old new : List ℕ} {r : ℕ} (size : length front ≡ 384) where
  pub filled-promised : 384 ≤ read → Written not_seven_line old new r → ReadPromises front read old new r
  filled-promised full h = record {
    size = size;
    within = h.within;
    of_text = λ text short same. absurd (omega (arith, size, ap length (sym (take_all (length front) text (omega (arith, size))) ∙ same ∙ take_all read front (omega (arith, size)))));
    too_long = λ text long same. h;
  }

  pub partly-promised : read < 384 → RecipePromises (take read front) old new r → ReadPromises front read old new r
  partly-promised part p = record {
    size = size;
    within = p.written.within;
    of_text = λ text short same. subst (λ (t : List ℕ). RecipePromises t old new r) (sym same ∙ take_all (length front) text (omega (arith, size))) p;
    too_long = λ text long same. absurd (omega (arith, size, sym (length-take-le (length front) text (omega (arith, size))) ∙ ap length same ∙ length-take-le read front (omega (arith, size))));
  }

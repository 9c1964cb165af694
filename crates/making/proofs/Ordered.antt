-- Refusals 39, 40 and 30 in plain words: by the four cases of a recipe and a buffer.
use Prim.Native.Nat.{ℕ, ◌+◌, ◌^◌, ◌≤◌, ◌<◌}
use mathlib.Core.Path.{◌≡◌, refl, sym, ◌∙◌}
use mathlib.Core.List.{[], ◌∷◌}
use mathlib.Core.Bool.{Bool, true, false, not, cond}
use mathlib.Core.Logic.{◌↔◌}
use native.Mathlib.Omega.{arith}
use borrow.Author.Tests.{leb-true, leb-false, le-leb, lt-ltb, le-ltb, ltb-true, ltb-false, eqb-true}
use lib.ListN.{length}
use lib.Dec.{leb, ltb, eqb, lit<}
use Rattle.system.specs.declared.System.{System}
use Rattle.system.specs.Limits.{column_limit, platform_fault}
use Rattle.system.specs.Outcome.{Outcome, accepted, refused, from_input}
use Rattle.system.proofs.Laws.{and_parts}
use Rattle.partition.specs.Plain.{LimitsOut}
use Rattle.partition.proofs.Plain.{limits-out}
use Rattle.writer.specs.File.{file_of}
use Rattle.writer.specs.Writing.{or_else, system_fault, write_fault, write_outcome}
use Rattle.writer.specs.Meaning.{file_out}
use Rattle.writer.proofs.Bytes.{file-out}
use Rattle.writer.proofs.Writable.{kept-writable}
use Rattle.making.specs.declared.Recipe.{Recipe}
use Rattle.making.specs.Making.{drawn_system, numbers_keep, numbers_fault, power_fault, recipe_fault, make_outcome}
use Rattle.making.specs.Meaning.{Made, NumbersWithin, PowerWithin, size_out}
use Rattle.making.proofs.Made.{system-made, made-limits, made-length}

-- intermediate: the test of 39 is its plain words

passed : (b : Bool) (n later : ℕ) → 0 < n → cond (not b) n later ≡ 0 → (b ≡ true) × (later ≡ 0)
passed true n later some e = (refl, e)
passed false n later some e = absurd (omega arith)

module _ (w : Recipe) where
  numbers-within : numbers_keep w ≡ true → NumbersWithin w
  numbers-within keep =
      let k = and_parts _ _ keep in
      let p = and_parts _ _ k.0 in
      let c = and_parts _ _ p.0 in
      let a = and_parts _ _ c.0 in
      let counts = and_parts _ _ k.1 in
      let five = passed _ 5 _ (lit< tt) (eqb-true (platform_fault w.engines w.rule w.timecap w.memorycap) 0 p.1) in
      let six = passed _ 6 _ (lit< tt) five.1 in
      let eight = passed _ 8 _ (lit< tt) six.1 in
      let engines = and_parts _ _ five.0 in
      let sizes = and_parts _ _ eight.0 in
      record {
        seed = leb-true 1 w.seed a.0;
        engines = (leb-true 1 w.engines engines.0, leb-true w.engines 16 engines.1);
        rule = leb-true w.rule 1 six.0;
        timecap = (leb-true 1 w.timecap a.1, leb-true w.timecap 1000000 sizes.0);
        memorycap = (leb-true 1 w.memorycap c.1, leb-true w.memorycap 1000000 sizes.1);
        typecount = (leb-true 1 w.typecount counts.0, leb-true w.typecount 6 counts.1);
      }

  numbers-kept : NumbersWithin w → numbers_keep w ≡ true
  numbers-kept h =
      rw (
        le-leb 1 w.seed h.seed,
        le-leb 1 w.timecap h.timecap.0,
        le-leb 1 w.memorycap h.memorycap.0,
        le-leb 1 w.engines h.engines.0,
        le-leb w.engines 16 h.engines.1,
        le-leb w.rule 1 h.rule,
        le-leb w.timecap 1000000 h.timecap.1,
        le-leb w.memorycap 1000000 h.memorycap.1,
        le-leb 1 w.typecount h.typecount.0,
        le-leb w.typecount 6 h.typecount.1,
      )

  broken-numbers : numbers_keep w ≡ false → NumbersWithin w → ⊥
  broken-numbers fails within = let z : true ≡ false = sym (numbers-kept within) ∙ fails in let e : ◌≡◌ {A = ℕ} 0 1 = cc in omega arith

-- intermediate: what the writer says of a system within the limits

module _ (y : System) (limits : LimitsOut y) (room : ℕ) where
  faultless : system_fault y ≡ 0
  faultless = (kept-writable y ((limits-out y).1 limits)).0

  file-is : file_of y ≡ file_out y
  file-is = file-out y (omega (arith, limits.known.1, limits.six))

  too_short_lem : room < length (file_out y) → write_outcome y room ≡ refused from_input 30
  unfolding write_outcome write_fault
  too_short_lem h = rw (faultless, file-is, lt-ltb room (length (file_out y)) h)

  written : length (file_out y) ≤ room → write_outcome y room ≡ accepted (length (file_out y) ∷ [])
  unfolding write_outcome write_fault
  written h = rw (faultless, file-is, le-ltb room (length (file_out y)) h)

-- the number of a recipe's fault
pub data Fault (w : Recipe) : ℕ → Type 0 where
  numbers_out : (NumbersWithin w → ⊥) → Fault w 39
  power_out : NumbersWithin w → 4096 < (w.top + 1) ^ w.typecount → Fault w 40
  no_fault : NumbersWithin w → PowerWithin w → Fault w 0

pub fault-of : (w : Recipe) → Fault w (recipe_fault w)
unfolding recipe_fault numbers_fault
fault-of w = first (numbers_keep w) refl
  where
    second : NumbersWithin w → (b : Bool) → leb ((w.top + 1) ^ w.typecount) column_limit ≡ b → Fault w (cond (not b) 40 0)
    second within true e = no_fault within (leb-true ((w.top + 1) ^ w.typecount) column_limit e)
    second within false e = power_out within (leb-false ((w.top + 1) ^ w.typecount) column_limit e)

    first : (b : Bool) → numbers_keep w ≡ b → Fault w (or_else (cond (not b) 39 0) (power_fault w))
    first true e = second (numbers-within w e) (leb ((w.top + 1) ^ w.typecount) column_limit) refl
    first false e = numbers_out (broken-numbers w e)

-- the answers, with what each is due to
pub data Case (w : Recipe) (room : ℕ) : Outcome → Type 0 where
  broken : (NumbersWithin w → ⊥) → Case w room (refused from_input 39)
  too_many : NumbersWithin w → 4096 < (w.top + 1) ^ w.typecount → Case w room (refused from_input 40)
  too_short : NumbersWithin w → PowerWithin w → room < size_out w → Case w room (refused from_input 30)
  written_whole : NumbersWithin w → PowerWithin w → size_out w ≤ room → Case w room (accepted (size_out w ∷ []))

module _ (w : Recipe) (short : w.seed < 2 ^ 64) (room : ℕ) where
  judged : NumbersWithin w → PowerWithin w → Case w room (write_outcome (drawn_system w) room)
  judged within power = go (ltb room (size_out w)) refl
    where
      made : Made w (drawn_system w)
      made = system-made w short within.typecount.1

      limits : LimitsOut (drawn_system w)
      limits = made-limits w (drawn_system w) made within power

      size : length (file_out (drawn_system w)) ≡ size_out w
      size = made-length w (drawn_system w) made

      go : (b : Bool) → ltb room (size_out w) ≡ b → Case w room (write_outcome (drawn_system w) room)
      go true q =
          let h = ltb-true room (size_out w) q in
          rw (too_short_lem (drawn_system w) limits room (omega (arith, size))) (too_short within power h)
      go false q =
          let h = ltb-false room (size_out w) q in
          rw (written (drawn_system w) limits room (omega (arith, size)), size) (written_whole within power h)

  pub case-of : Case w room (make_outcome w room)
  unfolding make_outcome
  case-of = go (recipe_fault w) (fault-of w)
    where
      go : (n : ℕ) → Fault w n → Case w room (cond (eqb n 0) (write_outcome (drawn_system w) room) (refused from_input n))
      go n (numbers_out out) = broken out
      go n (power_out within over) = too_many within over
      go n (no_fault within power) = judged within power

-- main: one law for each sentence, by the cases

module _ {w : Recipe} {room : ℕ} where
  pub numbers-first : {o : Outcome} → Case w room o → (o ≡ refused from_input 39) ↔ (NumbersWithin w → ⊥)
  numbers-first (broken out) = (λ e. out, λ h. refl)
  numbers-first (too_many within over) = (λ e. (let z : ◌≡◌ {A = ℕ} 40 39 = cc in absurd (omega arith)), λ h. absurd (h within))
  numbers-first (too_short within power lacks) = (λ e. (let z : ◌≡◌ {A = ℕ} 30 39 = cc in absurd (omega arith)), λ h. absurd (h within))
  numbers-first (written_whole within power long) = (λ e. (let z : ◌≡◌ {A = ℕ} 0 1 = cc in absurd (omega arith)), λ h. absurd (h within))

  pub then-power : {o : Outcome} → Case w room o → NumbersWithin w → (o ≡ refused from_input 40) ↔ (4096 < (w.top + 1) ^ w.typecount)
  then-power (broken out) i = absurd (out i)
  then-power (too_many within over) i = (λ e. over, λ h. refl)
  then-power (too_short within power lacks) i = (λ e. (let z : ◌≡◌ {A = ℕ} 30 40 = cc in absurd (omega arith)), λ h. absurd (omega arith))
  then-power (written_whole within power long) i = (λ e. (let z : ◌≡◌ {A = ℕ} 0 1 = cc in absurd (omega arith)), λ h. absurd (omega arith))

  pub then-room : {o : Outcome} → Case w room o → NumbersWithin w → PowerWithin w → (o ≡ refused from_input 30) ↔ (room < size_out w)
  then-room (broken out) i p = absurd (out i)
  then-room (too_many within over) i p = absurd (omega arith)
  then-room (too_short within power lacks) i p = (λ e. lacks, λ h. refl)
  then-room (written_whole within power long) i p = (λ e. (let z : ◌≡◌ {A = ℕ} 0 1 = cc in absurd (omega arith)), λ h. absurd (omega arith))

  pub else-written : {o : Outcome} → Case w room o → NumbersWithin w → PowerWithin w → size_out w ≤ room → o ≡ accepted (size_out w ∷ [])
  else-written (broken out) i p h = absurd (out i)
  else-written (too_many within over) i p h = absurd (omega arith)
  else-written (too_short within power lacks) i p h = absurd (omega arith)
  else-written (written_whole within power long) i p h = refl

-- a recipe with no fault passed both tests
pub faultless-recipe : (w : Recipe) → recipe_fault w ≡ 0 → (NumbersWithin w) × (PowerWithin w)
faultless-recipe w none = go (recipe_fault w) (fault-of w) none
  where
    go : (n : ℕ) → Fault w n → n ≡ 0 → (NumbersWithin w) × (PowerWithin w)
    go n (numbers_out out) e = absurd (omega arith)
    go n (power_out within over) e = absurd (omega arith)
    go n (no_fault within power) e = (within, power)

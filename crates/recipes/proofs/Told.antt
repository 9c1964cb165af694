-- What a reader finds in what is written for a text: by the recipe's fault, and by whether the text is read to its end.
use Prim.Native.Nat.{ℕ, ◌+◌, ◌^◌, ◌<◌}
use mathlib.Core.Path.{◌≡◌, refl, sym, ap, subst, ◌∙◌}
use mathlib.Core.List.{List}
use mathlib.Core.Bool.{Bool, true, false, cond}
use mathlib.Core.Logic.{inl, inr}
use native.Mathlib.Omega.{arith}
use borrow.Author.Tests.{eqb-true}
use lib.Dec.{eqb}
use lib.ListN.{length, get_or}
use Rattle.partition.specs.Plain.{LimitsOut}
use Rattle.writer.specs.File.{file_of}
use Rattle.writer.specs.Meaning.{file_out}
use Rattle.writer.proofs.Bytes.{file-out}
use Rattle.writer.proofs.Exactly.{limits-reads}
use Rattle.making.specs.declared.Recipe.{Recipe}
use Rattle.making.specs.Making.{drawn_system, recipe_fault}
use Rattle.making.specs.Meaning.{Made, NumbersWithin, PowerWithin}
use Rattle.making.proofs.Made.{system-made, made-limits, made-length, made-once}
use Rattle.making.proofs.Ordered.{Fault, numbers_out, power_out, no_fault, fault-of}
use Rattle.listing.specs.Listing.{refusal_line}
use Rattle.listing.specs.Demands.{TellsRefusal}
use Rattle.listing.proofs.Lines.{number-told, told-once}
use Rattle.recipes.specs.Digits.{begun, read_from}
use Rattle.recipes.specs.Output.{recipe_text, progress_text, make_text}
use Rattle.recipes.specs.Meaning.{SevenNumbers, FileMade, TellsMade, says_not_seven, TellsText}
use Rattle.recipes.proofs.Spelled.{seven-read}
use Rattle.recipes.proofs.Found.{seven-found}
use Rattle.recipes.proofs.Cut.{cut_recipe, same-typecount, cut-within, cut-same, within-cut, top-same, power-over}

-- intermediate: the file of numbers within the limits

module _ (w : Recipe) (short : w.seed < 2 ^ 64) (within : NumbersWithin w) (power : PowerWithin w) where
  made : Made w (drawn_system w)
  made = system-made w short within.typecount.1

  limits : LimitsOut (drawn_system w)
  limits = made-limits w (drawn_system w) made within power

  file-is : file_of (drawn_system w) ≡ file_out (drawn_system w)
  file-is = file-out (drawn_system w) (omega (arith, limits.known.1, limits.six))

  file-made : FileMade w (file_of (drawn_system w))
  file-made = record {
    system = drawn_system w;
    made = made;
    once = λ z also. made-once w z (drawn_system w) also made;
    limits = limits;
    bytes = file-is;
    size = ap length file-is ∙ made-length w (drawn_system w) made;
    reads = rw file-is (limits-reads (λ t. false) (drawn_system w) limits);
  }

-- a file is no refusal: the first byte
file-no-line : {w : Recipe} {out : List ℕ} {n : ℕ} → FileMade w out → TellsRefusal n out → ⊥
file-no-line f r = let z : ◌≡◌ {A = ℕ} 1 114 = ap (λ (l : List ℕ). get_or l 0 0) (sym f.bytes ∙ r.bytes) in omega arith

-- intermediate: what is written for seven numbers, by the fault of the code's recipe

pub data Kind (w : Recipe) (out : List ℕ) : Type 0 where
  out39 : TellsRefusal 39 out → ((NumbersWithin w) × (w.seed < 2 ^ 64) → ⊥) → Kind w out
  out40 : TellsRefusal 40 out → NumbersWithin w → w.seed < 2 ^ 64 → 4096 < (w.top + 1) ^ w.typecount → Kind w out
  out_file : FileMade w out → NumbersWithin w → w.seed < 2 ^ 64 → PowerWithin w → Kind w out

kind-of : (w : Recipe) → Kind w (recipe_text (cut_recipe w))
unfolding recipe_text
kind-of w = go (recipe_fault v) (fault-of v)
  where
    v : Recipe
    v = cut_recipe w

    go : (n : ℕ) → Fault v n → Kind w (cond (eqb n 0) (file_of (drawn_system v)) (refusal_line n))
    go n (numbers_out out) = out39 (number-told 39) (λ (i, short). out (within-cut w i short))
    go n (power_out within over) =
        let i = cut-within w within in
        out40 (number-told 40) i.0 i.1 (subst (λ (k : ℕ). 4096 < (w.top + 1) ^ k) (same-typecount w within) (power-over w.top v.typecount over))
    go n (no_fault within power) =
        let i = cut-within w within in
        let same : v ≡ w = cut-same w within (top-same w.top v.typecount within.typecount.0 power) in
        let kept : PowerWithin w = subst PowerWithin same power in
        out_file (subst (λ (x : Recipe). FileMade w (file_of (drawn_system x))) (sym same) (file-made w i.1 i.0 kept)) i.0 i.1 kept

tells-kind : {w : Recipe} {out : List ℕ} → Kind w out → TellsMade w out
tells-kind (out39 line breaks) = record {
  numbers_first = (λ r. breaks, λ h. line);
  then_power = λ i short. absurd (breaks (i, short));
  no_other = λ n r. inl (told-once r line);
  file = λ i short power. absurd (breaks (i, short));
}
tells-kind (out40 line within bits over) = record {
  numbers_first = (λ r. (let z : ◌≡◌ {A = ℕ} 39 40 = told-once r line in absurd (omega arith)), λ h. absurd (h (within, bits)));
  then_power = λ i short. (λ r. over, λ h. line);
  no_other = λ n r. inr (told-once r line);
  file = λ i short power. absurd (omega (arith, power, over));
}
tells-kind (out_file f within bits power) = record {
  numbers_first = (λ r. absurd (file-no-line f r), λ h. absurd (h (within, bits)));
  then_power = λ i short. (λ r. absurd (file-no-line f r), λ h. absurd (omega (arith, power, h)));
  no_other = λ n r. absurd (file-no-line f r);
  file = λ i short p. f;
}

-- none of these is `not seven numbers`: the first byte
no-kind-says : {w : Recipe} {out : List ℕ} → Kind w out → out ≡ says_not_seven → ⊥
no-kind-says (out39 line breaks) e = let z : ◌≡◌ {A = ℕ} 114 110 = ap (λ (l : List ℕ). get_or l 0 0) (sym line.bytes ∙ e) in omega arith
no-kind-says (out40 line within bits over) e = let z : ◌≡◌ {A = ℕ} 114 110 = ap (λ (l : List ℕ). get_or l 0 0) (sym line.bytes ∙ e) in omega arith
no-kind-says (out_file f within bits power) e = let z : ◌≡◌ {A = ℕ} 1 110 = ap (λ (l : List ℕ). get_or l 0 0) (sym f.bytes ∙ e) in omega arith

-- main: what a reader finds

seven-kind : (text : List ℕ) (w : Recipe) → SevenNumbers w text → Kind w (make_text text)
unfolding progress_text
seven-kind text w s = rw (seven-read w text s) (kind-of w)

pub tells-text : (text : List ℕ) → TellsText text (make_text text)
tells-text text = record {
  seven = λ w s. tells-kind (seven-kind text w s);
  not_seven = (λ e w s. no-kind-says (seven-kind text w s) e, λ none. says none);
}
  where
    says : ((w : Recipe) → SevenNumbers w text → ⊥) → make_text text ≡ says_not_seven
    says none = go (eqb (read_from begun text).at 7) refl
      where
        go : (b : Bool) → eqb (read_from begun text).at 7 ≡ b → make_text text ≡ says_not_seven
        go true e = let (w, s) = seven-found text (eqb-true (read_from begun text).at 7 e) in absurd (none w s)
        go false e = unfold progress_text in rw e

-- `read_numbers`: one byte more, and at the end none.
use Prim.Native.Nat.{ℕ, zero, suc, ◌+◌, ◌≤◌}
use mathlib.Core.List.{List, [], ◌∷◌}
use native.Mathlib.Numerals.{add-one}
use lib.Seq.{drop-cons}
use Rattle.recipes.specs.declared.Progress.{Progress}
use mathlib.Core.Path.{◌≡◌, refl, sym, ap, ◌∙◌}
use native.Mathlib.Omega.{arith}
use lib.ListN.{length, get_or, drop}
use Rattle.recipes.specs.Digits.{begun, step, read_from}
use Rattle.recipes_code.proofs.text.read_numbers.Goals as goal

-- one byte more
next : (p : Progress) {b : ℕ} {bs text : List ℕ} → text ≡ b ∷ bs → read_from p text ≡ read_from (step p b) bs
unfolding read_from
next p e = ap (read_from p) e

-- and at the end none
whole : (p : Progress) (i : ℕ) (text : List ℕ) → length text ≤ i → read_from p (drop i text) ≡ read_from begun text → p ≡ read_from begun text
unfolding read_from
whole p i text past e = sym (ap (read_from p) (drop_all i text past)) ∙ e
  where
    drop_all : (n : ℕ) (l : List ℕ) → length l ≤ n → drop n l ≡ []
    drop_all zero [] h = refl
    drop_all zero (x ∷ l) h = absurd (omega arith)
    drop_all (suc n) [] h = refl
    drop_all (suc n) (x ∷ l) h = drop_all n l (omega arith)

pub loop-byte-preserved : goal.loop-byte-preserved
loop-byte-preserved c =
    let i = c.loop-byte.byte-index in
    let text = c.args.text.now in
    let left : drop i text ≡ get_or text i 0 ∷ drop (i + 1) text = rw (add-one i, drop-cons text i 0 (omega arith)) in
    rw c.step-p.ensures (sym (next c.loop-byte.p left) ∙ c.loop-byte.invariant)

pub returns : goal.returns
returns c = whole c.loop-byte.p c.loop-byte.byte-index c.args.text.now (omega arith) c.loop-byte.invariant

-- `make_read`: what was read is the whole text where it is shorter than what there is room for; else the line does not depend on it.
use Prim.Native.Nat.{ℕ, ◌<◌, min}
use mathlib.Core.Path.{◌≡◌, refl, ◌∙◌}
use mathlib.Core.Bool.{Bool, true, false}
use native.Mathlib.Nat.{min-eq_left, min-eq_right}
use native.Mathlib.Omega.{arith}
use borrow.Author.Tests.{leb-true, leb-false}
use lib.Dec.{leb}
use lib.ListN.{length}
use Rattle.recipes_code.proofs.Exits.{partly-promised}
use borrow.Author.Rules.{rules}
use Rattle.recipes_code.proofs.make_read.Goals as goal

short : (n : ℕ) → (min n 384 ≡ 384 → ⊥) → n < 384
short n other = go (leb 384 n) refl
  where
    go : (b : Bool) → leb 384 n ≡ b → n < 384
    go true e = absurd (other (min-eq_right (leb-true 384 n e)))
    go false e = leb-false 384 n e

pub returns : goal.returns
returns c =
    let l : length c.args.front ≡ 384 = search rules in
    let least = c.least-end.result in
    let other : least ≡ 384 → ⊥ = c.if-end-eq-FILE_BYTES.false in
    let part : c.args.read < 384 = short c.args.read (λ e. other (c.least-end.ensures ∙ e)) in
    let all : least ≡ c.args.read = c.least-end.ensures ∙ min-eq_left (omega arith) in
    partly-promised l part (rw all at c.make_of.ensures)

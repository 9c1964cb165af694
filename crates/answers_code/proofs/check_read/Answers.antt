-- `check_read`: what was read is the joined input, all of it, or as much of it as decides (`input-promised`).
use Prim.Native.Nat.{ℕ, min}
use mathlib.Core.Path.{◌≡◌, sym, ap, ◌∙◌}
use native.Mathlib.Nat.{min-le_right}
use native.Mathlib.Omega.{arith}
use lib.ListN.{length, take}
use lib.Seq.{length-take-le}
use Rattle.listing.proofs.Laws.{take_min}
use Rattle.answers.proofs.Parts.{input-promised}
use borrow.Author.Rules.{rules}
use Rattle.answers_code.proofs.check_read.Goals as goal

pub slice_bounds-check_joined-end : goal.slice_bounds-check_joined-end
slice_bounds-check_joined-end c =
    let l : length c.args.front ≡ 8194 = search rules in
    sym (length-take-le c.least-end.result c.args.front (omega (arith, c.least-end.ensures, min-le_right c.args.read 8194)))

pub returns : goal.returns
returns c =
    let front = c.args.front in
    let l : length front ≡ 8194 = search rules in
    let end : c.least-end.result ≡ min c.args.read (length front) = c.least-end.ensures ∙ ap (min c.args.read) (sym l) in
    let read : take c.least-end.result front ≡ take c.args.read front = ap (λ (n : ℕ). take n front) end ∙ take_min c.args.read front in
    let joins = rw read at c.check_joined.ensures in
    record {
      size = l;
      joins = joins;
      of_input = λ input same.
          let is : take c.args.read front ≡ take 8194 input = sym (ap (λ (n : ℕ). take n input) (sym l) ∙ same) in
          input-promised input (rw is at joins.of_read);
    }

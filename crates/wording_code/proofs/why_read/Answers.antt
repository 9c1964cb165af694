-- `why_read`: what was read is the first 384 bytes of the file, and these decide (`prefix-promised`).
use Prim.Native.Nat.{ℕ, min}
use mathlib.Core.Path.{◌≡◌, sym, ap, ◌∙◌}
use native.Mathlib.Nat.{min-le_right}
use native.Mathlib.Omega.{arith}
use lib.ListN.{length, take}
use lib.Seq.{length-take-le}
use Rattle.listing.proofs.Laws.{take_min}
use Rattle.wording.proofs.Told.{prefix-promised}
use borrow.Author.Rules.{rules}
use Rattle.wording_code.proofs.why_read.Goals as goal

pub slice_bounds-why_of-end : goal.slice_bounds-why_of-end
slice_bounds-why_of-end c =
    let l : length c.args.front ≡ 384 = search rules in
    sym (length-take-le c.least-end.result c.args.front (omega (arith, c.least-end.ensures, min-le_right c.args.read 384)))

pub returns : goal.returns
returns c =
    let front = c.args.front in
    let l : length front ≡ 384 = search rules in
    let end : c.least-end.result ≡ min c.args.read (length front) = c.least-end.ensures ∙ ap (min c.args.read) (sym l) in
    let read : take c.least-end.result front ≡ take c.args.read front = ap (λ (n : ℕ). take n front) end ∙ take_min c.args.read front in
    record {
      size = l;
      within = c.why_of.ensures.written.within;
      of_file = λ file same. prefix-promised (read ∙ sym same ∙ ap (λ (n : ℕ). take n file) l) c.why_of.ensures;
    }

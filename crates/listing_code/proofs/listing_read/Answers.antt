-- `listing_read`: what was read is the first 384 bytes of the file, and these decide (`prefix-promised`).
use Prim.Native.Nat.{ℕ, min}
use mathlib.Core.Path.{◌≡◌, sym, ap, ◌∙◌}
use native.Mathlib.Nat.{min-le_right}
use native.Mathlib.Omega.{arith}
use lib.ListN.{length, take}
use lib.Seq.{length-take-le}
use Rattle.listing.proofs.Laws.{take_min}
use Rattle.listing.proofs.Text.{prefix-promised}
use borrow.Author.Rules.{rules}
use Rattle.listing_code.proofs.listing_read.Goals as goal

pub slice_bounds-front-end : goal.slice_bounds-front-end
slice_bounds-front-end c =
    let l : length c.args.front ≡ 384 = search rules in
    omega (arith, c.least-end.ensures, min-le_right c.args.read 384)

pub slice_bounds-listing_of-end : goal.slice_bounds-listing_of-end
slice_bounds-listing_of-end c =
    let l : length c.args.front ≡ 384 = search rules in
    sym (length-take-le c.least-end.result c.args.front (omega (arith, c.least-end.ensures, min-le_right c.args.read 384)))

pub returns : goal.returns
returns c =
    let start = c in
    let front = start.args.front in
    let l : length front ≡ 384 = search rules in
    let least = c.least-end in
    let end : least.result ≡ min start.args.read (length front) = least.ensures ∙ ap (min start.args.read) (sym l) in
    let read : take least.result front ≡ take start.args.read front = ap (λ (n : ℕ). take n front) end ∙ take_min start.args.read front in
    record {
      size = l;
      within = c.listing_of.ensures.written.within;
      of_file = λ file same. prefix-promised (read ∙ sym same ∙ ap (λ (n : ℕ). take n file) l) c.listing_of.ensures;
    }

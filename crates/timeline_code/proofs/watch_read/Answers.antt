-- `watch_read`: what was read is the first 393 bytes of the input, and these decide (`input-promised`).
use Prim.Native.Nat.{ℕ, min}
use mathlib.Core.Path.{◌≡◌, sym, ap, ◌∙◌}
use native.Mathlib.Nat.{min-le_right}
use native.Mathlib.Omega.{arith}
use lib.ListN.{length, take}
use lib.Seq.{length-take-le}
use Rattle.listing.proofs.Laws.{take_min}
use Rattle.timeline.specs.Meaning.{input_out}
use Rattle.timeline.proofs.Inputs.{input-promised}
use borrow.Author.Rules.{rules}
use Rattle.timeline_code.proofs.watch_read.Goals as goal

pub slice_bounds-watch_joined-end : goal.slice_bounds-watch_joined-end
slice_bounds-watch_joined-end c =
    let l : length c.args.front ≡ 393 = search rules in
    sym (length-take-le c.least-end.result c.args.front (omega (arith, c.least-end.ensures, min-le_right c.args.read 393)))

pub returns : goal.returns
returns c =
    let start = c in
    let front = start.args.front in
    let l : length front ≡ 393 = search rules in
    let least = c.least-end in
    let end : least.result ≡ min start.args.read (length front) = least.ensures ∙ ap (min start.args.read) (sym l) in
    let read : take least.result front ≡ take start.args.read front = ap (λ (n : ℕ). take n front) end ∙ take_min start.args.read front in
    record {
      size = l;
      within = c.watch_joined.ensures.written.within;
      of_read = rw read at c.watch_joined.ensures;
      of_input = λ file e ticks from same. input-promised {file = file} {e = e} {ticks = ticks} {from = from} (ap (λ (n : ℕ). take n (input_out e ticks from file)) (sym l) ∙ same ∙ sym read) c.watch_joined.ensures;
    }

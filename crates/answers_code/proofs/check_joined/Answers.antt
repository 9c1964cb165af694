-- `check_joined`: the two parts are those of any input (`file-part`, `sheet-part`); they are the file and the sheet that were joined, and what is said of these is said of the whole two (`cut-promised`).
use Prim.Native.Nat.{min}
use mathlib.Core.Path.{◌≡◌, sym, ap, ap₂, ◌∙◌}
use native.Mathlib.Nat.{min-le_right}
use native.Mathlib.Omega.{arith}
use lib.ListN.{length, take, drop}
use lib.Seq.{length-take-le}
use Rattle.system.specs.Layout.{word2}
use Rattle.answers.specs.Checks.{part_bytes}
use Rattle.answers.proofs.Cut.{file-joined, sheet-joined, cut-promised}
use Rattle.answers.proofs.Parts.{file-part, sheet-part, same-promised}
use Rattle.answers_code.proofs.check_joined.Goals as goal

pub slice_bounds-check_of-end : goal.slice_bounds-check_of-end
slice_bounds-check_of-end c =
    let rest = c.rest_at-rest.result.now in
    sym (length-take-le c.least-size.result rest (omega (arith, c.least-size.ensures, min-le_right c.two_bytes.result (length rest))))

pub returns : goal.returns
returns c =
    let read = c.args.joined.now in
    let rest = c.rest_at-rest.ensures in
    let size : c.least-size.result ≡ min (word2 read 0) (length (drop 2 read)) = c.least-size.ensures ∙ ap₂ min c.two_bytes.ensures (ap length rest) in
    record {
      within = c.check_of.ensures.written.within;
      of_read = same-promised (ap₂ take size rest ∙ file-part read) (c.rest_at-sheet.ensures ∙ ap₂ drop size rest ∙ sheet-part read) c.check_of.ensures;
      of_both = λ file sheet is.
          cut-promised file sheet
          (ap₂ take size rest ∙ file-joined read (take part_bytes file) (take part_bytes sheet) is)
          (c.rest_at-sheet.ensures ∙ ap₂ drop size rest ∙ sheet-joined read (take part_bytes file) (take part_bytes sheet) is)
          c.check_of.ensures;
    }

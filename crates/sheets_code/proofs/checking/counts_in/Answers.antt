-- `counts_in`: the answers.
use mathlib.Core.Path.{◌≡◌, refl, sym, ap, ◌∙◌}
use native.Mathlib.Omega.{arith}
use lib.ListN.{length, length-set}
use lib.Seq.{take_all}
use Rattle.table.specs.Parts.{up_to}
use Rattle.sheets.specs.Sheet.{stated_count}
use Rattle.sheets_code.proofs.Steps.{up_to-turn}
use Rattle.sheets_code.proofs.checking.counts_in.Goals as goal

pub loop-t-init : goal.loop-t-init
unfolding up_to
loop-t-init c = (omega arith, refl, refl)

pub loop-t-preserved : goal.loop-t-preserved
loop-t-preserved c =
    let here = c.loop-t in
    let start = c in
    let six : length here.counts ≡ 6 = here.invariant.1 in (
      omega arith,
      length-set here.counts here.t c.count_in.result ∙ six,
      up_to-turn (stated_count start.args.k start.args.rest.now) here.counts here.t c.count_in.result (omega arith) c.count_in.ensures here.invariant.2,
    )

pub returns : goal.returns
returns c =
    let here = c.loop-t in
    let start = c in
    let all : here.t ≡ 6 = omega arith in
    sym (take_all here.t here.counts (omega (arith, here.invariant.1))) ∙ here.invariant.2 ∙ ap (up_to (stated_count start.args.k start.args.rest.now)) all

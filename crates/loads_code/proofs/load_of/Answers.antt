-- `load_of`: the answers.
use mathlib.Core.Path.{◌≡◌, refl, sym, ◌∙◌}
use lib.ListN.{length, length-set}
use native.Mathlib.Omega.{arith}
use Rattle.system.specs.Limits.{type_limit}
use Rattle.loads.proofs.Steps.{length-mapped, load-turn, load-end, filled-turn, filled-end}
use borrow.Author.Rules.{rules}
use Rattle.loads_code.proofs.load_of.Goals as goal

pub loop-i-init : goal.loop-i-init
loop-i-init c = (omega arith, refl, refl)

pub loop-i-preserved : goal.loop-i-preserved
loop-i-preserved c =
    let ts = c.args.y.types in
    let here = c.loop-i in
    let lt : length ts ≡ type_limit = search (rules, length-mapped) in
    let ll : length here.counts ≡ type_limit = here.invariant.1 in (
      omega arith,
      length-set here.counts here.i c.digit.result ∙ ll,
      filled-turn here.counts _ here.i c.digit.result (omega arith)
          ∙ rw (c.digit.ensures, c.base-rest.ensures, ← (load-turn ts here.i (omega arith) here.rest)) here.invariant.2,
    )

pub returns : goal.returns
returns c =
    let ts = c.args.y.types in
    let here = c.loop-i in
    let lt : length ts ≡ type_limit = search (rules, length-mapped) in
    let ll : length here.counts ≡ type_limit = here.invariant.1 in
    sym (filled-end here.counts _ here.i (omega arith) (load-end ts here.i here.rest (omega arith))) ∙ here.invariant.2

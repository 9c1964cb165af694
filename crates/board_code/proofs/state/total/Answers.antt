-- `total`: the answers.
use Prim.Native.Nat.{ℕ}
use mathlib.Core.Path.{◌≡◌, sym, ap, ◌∙◌}
use mathlib.Core.List.{[]}
use lib.ListN.{length, take}
use lib.Seq.{take-suc, take_all}
use native.Mathlib.Numerals.{add-one}
use native.Mathlib.Omega.{arith}
use borrow.Author.Rules.{rules}
use Rattle.board.specs.Boards.{standing_of}
use Rattle.board.proofs.Steps.{get_or-zeros, standing-end}
use Rattle.board_code.proofs.Chains.{standing-more}
use Rattle.board_code.proofs.state.total.Goals as goal

pub loop-l-init : goal.loop-l-init
loop-l-init c = (omega arith, sym (standing-end [] 0 (omega arith)), λ t. omega (arith, get_or-zeros 6 t))

pub added-next-requires : goal.added-next-requires
added-next-requires c = λ t. omega (arith, c.loop-l.invariant.2 t)

pub loop-l-preserved : goal.loop-l-preserved
loop-l-preserved c =
    let ls = c.args.loads in
    let here = c.loop-l in
    let i = here.l-index in
    let n : length ls ≡ 16 = search rules in (
      omega arith,
      c.added-next.ensures.0 ∙ rw here.invariant.1 (sym (ap standing_of (ap (λ (k : ℕ). take k ls) (add-one i) ∙ take-suc ls i _ (omega arith)) ∙ standing-more (take i ls) _)),
      λ t. omega (arith, c.added-next.ensures.1 t, here.invariant.2 t),
    )

pub returns : goal.returns
returns c =
    let ls = c.args.loads in
    let n : length ls ≡ 16 = search rules in
    c.loop-l.invariant.1 ∙ ap standing_of (take_all c.loop-l.l-index ls (omega arith))

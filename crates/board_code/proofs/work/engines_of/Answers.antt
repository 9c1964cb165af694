-- `engines_of`: the answers.
use Prim.Native.Nat.{◌+◌, ◌<◌}
use mathlib.Core.Path.{◌≡◌, refl, sym, ap, ◌∙◌}
use native.Mathlib.Omega.{arith}
use lib.ListN.{length, take, length-set}
use lib.Seq.{length-take-le}
use Rattle.partition.specs.Assignment.{passing, numbers_from}
use Rattle.board.specs.Boards.{engines_of}
use Rattle.board.proofs.Steps.{engines-skip, engines-turn}
use Rattle.board.proofs.Ready.{engines-most}
use Rattle.board_code.proofs.work.engines_of.Goals.{then-not-b-i, else-not-b-i}
use Rattle.board_code.proofs.work.engines_of.Goals as goal

pub loop-i-init : goal.loop-i-init
unfolding passing numbers_from
loop-i-init c = (omega arith, engines-most _ c.requires, omega arith, refl, refl)

pub bounds-b-i : goal.bounds-b-i
bounds-b-i c = omega (arith, c.loop-i.invariant.1)

pub overflow_add-numbers : goal.overflow_add-numbers
overflow_add-numbers c = omega (arith, c.loop-i.invariant.1)

pub offset_bounds-numbers-count : goal.offset_bounds-numbers-count
offset_bounds-numbers-count c = omega (arith, c.loop-i.invariant.1, c.loop-i.invariant.2)

pub bounds-numbers-count : goal.bounds-numbers-count
bounds-numbers-count c = omega (arith, c.loop-i.invariant.1, c.loop-i.invariant.2)

pub overflow_add-count : goal.overflow_add-count
overflow_add-count c = omega (arith, c.loop-i.invariant.1, c.loop-i.invariant.2)

pub overflow_step-i : goal.overflow_step-i
overflow_step-i c = omega (arith, c.loop-i.invariant.1)

pub loop-i-preserved : goal.loop-i-preserved
loop-i-preserved c =
    let here = c.loop-i in
    let b = c.args.b in
    let small : here.count < length here.numbers = omega (arith, c.loop-i-test.true, here.invariant.1, here.invariant.2, here.invariant.3) in
    elim c.if-not-b-i.branch [
      | then-not-b-i h ↦ (
        omega arith,
        here.invariant.1,
        omega (arith, h.count-is, here.invariant.2),
        ap length h.numbers-is ∙ length-set here.numbers here.count (here.i + 1) ∙ here.invariant.3,
        rw (h.numbers-is, h.count-is) (engines-turn b.marks here.i here.numbers here.count h.if-not-b-i.true small here.invariant.4),
      )
      | else-not-b-i h ↦ (
        omega arith,
        here.invariant.1,
        omega (arith, h.count-is, here.invariant.2),
        ap length h.numbers-is ∙ here.invariant.3,
        rw (h.numbers-is, h.count-is) (here.invariant.4 ∙ sym (engines-skip b.marks here.i h.if-not-b-i.false)),
      )
    ]

pub returns : goal.returns
returns c =
    let here = c.loop-i in
    let b = c.args.b in
    let all : here.i ≡ b.system.engines = omega (arith, here.invariant.0) in
    let same : take here.count here.numbers ≡ engines_of b = rw all at here.invariant.4 in
    (sym (length-take-le here.count here.numbers (omega (arith, here.invariant.1, here.invariant.2, here.invariant.3, all))) ∙ ap length same, same)

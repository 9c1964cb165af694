-- `engines_to`: the answers.
use Prim.Native.Nat.{ℕ, suc, ◌+◌, ◌<◌}
use mathlib.Core.Path.{◌≡◌, refl, sym, ◌∙◌}
use mathlib.Core.List.{List}
use native.Mathlib.Nat.{le_refl}
use native.Mathlib.Numerals.{add-one}
use native.Mathlib.Omega.{arith}
use lib.ListN.{length, take, set, length-set}
use lib.Seq.{take-suc, take-set-le, get_or-set_same}
use Rattle.partition.specs.Assignment.{numbers_from, engines_to}
use Rattle.partition.proofs.Lists.{engines_to-last}
use Rattle.table_code.proofs.onto.engines_to.Goals as goal

one_more : (l : List ℕ) (i : ℕ) → i < length l → take i l ≡ engines_to i → take (i + 1) (set l i (i + 1)) ≡ engines_to (i + 1)
one_more l i h e =
    rw (add-one i)
    (take-suc (set l i (suc i)) i 0 (rw (length-set l i (suc i)) h)
    ∙ rw (take-set-le i l i (suc i) (le_refl i), get_or-set_same l i (suc i) 0 h, e) (sym (engines_to-last i)))

pub loop-i-init : goal.loop-i-init
loop-i-init c = unfold numbers_from in (omega arith, refl, refl)

pub overflow_add-numbers : goal.overflow_add-numbers
overflow_add-numbers c = omega (arith, c.requires)

pub offset_bounds-numbers-i : goal.offset_bounds-numbers-i
offset_bounds-numbers-i c = omega (arith, c.requires)

pub bounds-numbers-i : goal.bounds-numbers-i
bounds-numbers-i c = omega (arith, c.requires)

pub overflow_step-i : goal.overflow_step-i
overflow_step-i c = omega (arith, c.requires)

pub loop-i-preserved : goal.loop-i-preserved
loop-i-preserved c =
    let here = c.loop-i in
    let small : here.i < length here.numbers = omega (arith, here.invariant.1, c.requires) in
    (omega arith, length-set here.numbers here.i (here.i + 1) ∙ here.invariant.1, one_more here.numbers here.i small here.invariant.2)

pub returns : goal.returns
returns c =
    let here = c.loop-i in
    let all : here.i ≡ c.args.m = omega (arith, here.invariant.0) in
    (refl, rw all at here.invariant.2)

-- `chosen`: the answers.
use Prim.Native.Nat.{◌+◌, ◌-◌, ◌*◌, ◌≤◌}
use mathlib.Core.Path.{◌≡◌, ◌∙◌}
use native.Mathlib.Omega.{arith}
use borrow.Author.Rules.{rules}
use lib.ListN.{length, get_or, length-set}
use Rattle.counting.proofs.Turns.{ways_at, set-turn, triangle-starts, triangle-next, triangle-small, triangle-entry}
use Rattle.counting_code.proofs.chosen.chosen.Goals.{In-loop-i}
use Rattle.counting_code.proofs.chosen.chosen.Goals as goal

pub loop-i-init : goal.loop-i-init
loop-i-init c = (omega arith, omega arith, search rules, triangle-starts 4096 (omega arith))

-- the entry that is stored
next : (c : In-loop-i) →
    let here = c.loop-i in
    (get_or here.table (here.i - 64) 0 + get_or here.table (here.i - 64 - 1) 0 ≡ ways_at here.i) × (ways_at here.i ≤ 9223372036854775808)
next c =
    let here = c.loop-i in
    (triangle-next here.table here.i (omega arith) (omega arith) here.invariant.3, triangle-small here.table here.i (omega arith) (omega arith) here.invariant.3)

pub overflow_add-table : goal.overflow_add-table
overflow_add-table c = record { fits = omega (arith, next c) }

pub loop-i-preserved : goal.loop-i-preserved
loop-i-preserved c =
    let here = c.loop-i in
    let l : length here.table ≡ 4096 = here.invariant.2 in
    let v = get_or here.table (here.i - 64) 0 + get_or here.table (here.i - 64 - 1) 0 in
    (omega arith, omega arith, length-set here.table here.i v ∙ l, set-turn ways_at here.table here.i v (omega arith) (next c).0 here.invariant.3)

pub returns : goal.returns
returns c =
    let here = c.loop-i in
    record { long = here.invariant.2; entry = λ n x hn hx. here.invariant.3 (64 * n + x) (omega arith) ∙ triangle-entry n x hx }

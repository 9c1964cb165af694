-- `run`: the answers.
use Prim.Native.Nat.{ℕ, ◌+◌, ◌-◌, ◌≤◌, ◌<◌}
use mathlib.Core.Path.{◌≡◌, sym, ap, ◌∙◌}
use mathlib.Core.List.{List}
use mathlib.Core.Bool.{Bool, true, false, and-false}
use native.Mathlib.Omega.{arith}
use borrow.Author.Tests.{le-leb, lt-leb}
use lib.ListN.{get_or}
use lib.Dec.{leb}
use Rattle.partition.specs.Cell.{lowest, no_column}
use Rattle.table.specs.Scan.{seen_by}
use Rattle.table.specs.Under.{column_found}
use Rattle.table.proofs.Candidates.{is-found}
use Rattle.table.proofs.Between.{between-here, between-later, between-end}
use Rattle.table_code.proofs.scan.run.Goals as goal

-- the column whose difference is one less than `left`
module _ (rows : List ℕ) (bound column end left : ℕ) (some : 1 ≤ left) (inside : left ≤ column + 1) (before : column + 1 - left < end) where
  abbrev S : ℕ → Bool
  S = seen_by rows bound column

  abbrev here : ℕ
  here = column + 1 - left

  is-here : column - (left - 1) ≡ here
  is-here = omega arith

  difference : column - here ≡ left - 1
  difference = omega arith

  found : get_or rows (left - 1) 0 ≤ 1 → get_or rows (column - (left - 1)) 0 ≤ bound → column - (left - 1) ≡ lowest S no_column (end - here) here
  found fits low =
      let low' : get_or rows here 0 ≤ bound = rw (← is-here) low in
      let passes : S here ≡ true = rw (difference, le-leb (get_or rows here 0) bound low', le-leb (get_or rows (left - 1) 0) 1 fits) in
      is-here ∙ sym (between-here S no_column here end before passes)

  passed : S here ≡ false → lowest S no_column (end - (column + 1 - (left - 1))) (column + 1 - (left - 1)) ≡ lowest S no_column (end - here) here
  passed fails =
      let next : column + 1 - (left - 1) ≡ here + 1 = omega arith in
      ap (λ (k : ℕ). lowest S no_column (end - k) k) next ∙ between-later S no_column here end before fails

  unfit : 1 < get_or rows (left - 1) 0 → S here ≡ false
  unfit h = rw (difference, lt-leb (get_or rows (left - 1) 0) 1 h) (and-false (leb (get_or rows here 0) bound))

  high : bound < get_or rows (column - (left - 1)) 0 → S here ≡ false
  high h =
      let h' : bound < get_or rows here 0 = rw (← is-here) h in
      rw (lt-leb (get_or rows here 0) bound h')

pub loop-left-init : goal.loop-left-init
loop-left-init c =
    let a = c.args in
    let first : a.column + 1 - (a.column + 1 - a.from) ≡ a.from = omega (arith, c.requires.rising, c.requires.reach) in
    (omega (arith, c.requires.rising, c.requires.reach), omega arith, ap (λ (k : ℕ). lowest (seen_by a.rows.now a.bound a.column) no_column (a.end - k) k) first)

pub bounds-rows-left : goal.bounds-rows-left
bounds-rows-left c = omega (arith, c.loop-left.invariant.1, c.requires.inside)

pub overflow_sub-p : goal.overflow_sub-p
overflow_sub-p c = omega (arith, c.loop-left.invariant.1)

pub bounds-rows-p : goal.bounds-rows-p
bounds-rows-p c = omega (arith, c.requires.inside)

pub overflow_cast-result : goal.overflow_cast-result
overflow_cast-result c =
    let at = c in
    let start = at in
    record { fits = omega (arith, at.loop-left.invariant.0, at.loop-left.invariant.1, start.requires.few, start.requires.reach, start.requires.rising) }

pub returns-then-rows-p : goal.returns-then-rows-p
returns-then-rows-p c =
    let at = c in
    let a = at.args in
    is-found
    (found a.rows.now a.bound a.column a.end at.loop-left.left (omega arith) (omega (arith, at.loop-left.invariant.1)) (omega arith) c.if-rows-left-le1.true c.if-rows-p.true ∙ at.loop-left.invariant.2)
    (λ z. omega (arith, c.requires.few))

pub loop-left-preserved-else-rows-p : goal.loop-left-preserved-else-rows-p
loop-left-preserved-else-rows-p c =
    let at = c in
    let a = at.args in
    let some : 1 ≤ at.loop-left.left = omega arith in
    let inside : at.loop-left.left ≤ a.column + 1 = omega (arith, at.loop-left.invariant.1) in
    let low : a.column + 1 - at.loop-left.left < a.end = omega arith in (
      omega arith,
      omega (arith, at.loop-left.invariant.1),
      passed a.rows.now a.bound a.column a.end at.loop-left.left some inside low
          (high a.rows.now a.bound a.column a.end at.loop-left.left some inside low c.if-rows-p.false)
          ∙ at.loop-left.invariant.2,
    )

pub loop-left-preserved : goal.loop-left-preserved
loop-left-preserved c =
    let at = c in
    let a = at.args in
    let some : 1 ≤ at.loop-left.left = omega arith in
    let inside : at.loop-left.left ≤ a.column + 1 = omega (arith, at.loop-left.invariant.1) in
    let low : a.column + 1 - at.loop-left.left < a.end = omega arith in (
      omega arith,
      omega (arith, at.loop-left.invariant.1),
      passed a.rows.now a.bound a.column a.end at.loop-left.left some inside low
          (unfit a.rows.now a.bound a.column a.end at.loop-left.left some inside low c.if-rows-left-le1.false)
          ∙ at.loop-left.invariant.2,
    )

pub returns : goal.returns
returns c =
    let at = c in
    let a = at.args in
    ap column_found (sym (between-end (seen_by a.rows.now a.bound a.column) no_column (a.column + 1 - at.loop-left.left) a.end (omega (arith, at.loop-left.invariant.0, at.requires.reach))) ∙ at.loop-left.invariant.2)

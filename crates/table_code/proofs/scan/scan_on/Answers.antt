-- `scan_on`: the answers.
use Prim.Native.Nat.{ℕ, ◌+◌, ◌-◌, ◌≤◌, ◌<◌}
use mathlib.Core.Path.{◌≡◌, refl, sym, ap, subst, ◌∙◌}
use mathlib.Core.List.{List}
use mathlib.Core.Bool.{true, false, and-false}
use native.Mathlib.Omega.{arith}
use borrow.Author.Rules.{rules}
use borrow.Author.Tests.{lt-leb}
use lib.ListN.{length, get_or}
use lib.Dec.{leb}
use Rattle.std.proofs.Common.{Some}
use Rattle.system.specs.Limits.{column_limit, columns_of, type_limit}
use Rattle.loads.specs.Load.{within}
use Rattle.loads.specs.Column.{column_of, load_of}
use Rattle.loads.proofs.Order.{below_length}
use Rattle.partition.specs.Cell.{lowest, no_column}
use Rattle.partition.proofs.Lowest.{lowest-none}
use Rattle.table.specs.Under.{candidate, visited_to, column_found, found_at}
use Rattle.table.proofs.Candidates.{Given, Searching, Passed, Run, last_of, risen, searching-run, passed_start, passed-last, passed-next, passed_on, run-found, found_some, found_nothing}
use Rattle.table.proofs.Pairs.{visited-le}
use Rattle.table.specs.Scan.{seen_by, PartsFit}
use Rattle.table_code.proofs.scan.scan_on.Goals.{At-loop-t, In-Some, then-rows-column-le1+in_default-run, else-rows-column-le1}
use Rattle.table_code.proofs.scan.scan_on.Goals as goal

-- where the smallest difference of a run does not fit, no column of the run is seen
module _ (rows : List ℕ) (bound c : ℕ) {ns x counts : List ℕ} {base : ℕ} (parts : PartsFit rows c ns) (column : column_of ns x ≡ c) (run : Run (seen_by rows bound c) ns x counts base)
    (high : 1 < get_or rows (c - last_of x base) 0) where
  unseen : (p : ℕ) → base ≤ p → p ≤ last_of x base → seen_by rows bound c p ≡ false
  unseen p l u =
      let part : within (load_of ns (c - last_of x base)) (load_of ns (c - p)) ≡ true =
      subst (λ (k : ℕ). within (load_of ns (k - last_of x base)) (load_of ns (k - p)) ≡ true) column (run.smallest p l u) in
      let past : 1 < get_or rows (c - p) 0 = parts (c - last_of x base) (c - p) (omega arith) (omega arith) part high in
      rw (lt-leb (get_or rows (c - p) 0) 1 past) (and-false (leb (get_or rows p 0) bound))

  unseen-run : lowest (seen_by rows bound c) no_column (last_of x base + 1 - base) base ≡ no_column
  unseen-run = lowest-none (seen_by rows bound c) no_column (last_of x base + 1 - base) base (λ p l u. unseen p l (omega arith))

-- what the scan was given, where a run starts and past the test that there is a next one
given-before : (c : At-loop-t) →
    let a = c.args in
    Given (seen_by a.rows.now a.bound a.column) a.ceilings a.load c.jumps_of-jumps.result
given-before c =
    let a = c.args in
    let ln : length a.ceilings ≡ 6 = search rules in
    let lx : length a.load ≡ 6 = search rules in
    record { under = c.requires.0.under; few = c.requires.0.few; six = ln; sized = lx; jumps_are = c.jumps_of-jumps.ensures }

given-at : (c : In-Some) →
    let a = c.args in
    Given (seen_by a.rows.now a.bound a.column) a.ceilings a.load c.jumps_of-jumps.result
given-at c =
    let a = c.args in
    let ln : length a.ceilings ≡ 6 = search rules in
    let lx : length a.load ≡ 6 = search rules in
    record { under = c.requires.0.under; few = c.requires.0.few; six = ln; sized = lx; jumps_are = c.jumps_of-jumps.ensures }

run-before : (c : In-Some) →
    let a = c.args in
    Run (seen_by a.rows.now a.bound a.column) a.ceilings a.load c.loop-t.counts c.loop-t.base
run-before c = searching-run (given-at c) (c.loop-t.invariant.1 c.args.ceilings (given-at c)).searching

-- there is a next run: the count that rises
risen-is : (c : In-Some) → (c.in-Some.t ≡ risen c.args.load c.loop-t.counts) × (c.in-Some.t ≡ type_limit → ⊥)
risen-is c = found_some (rw c.in-Some.is at c.step.ensures.1)

goes_on : (c : In-Some) → c.in-Some.t < 6
goes_on c = omega (arith, (run-before c).risen-le, (given-at c).sized, risen-is c)

-- where it starts
abbrev base-next : In-Some → ℕ
base-next c = c.loop-t.base + (c.wide-last.result + get_or c.jumps_of-jumps.result c.in-Some.t 0)

-- what is known there, for any ceilings with these jumps
next-run : (c : In-Some) →
    let a = c.args in
    (ns : List ℕ) → Given (seen_by a.rows.now a.bound a.column) ns a.load c.jumps_of-jumps.result →
    Searching (seen_by a.rows.now a.bound a.column) ns a.load c.step.new.counts (base-next c) × (c.loop-t.tried ≡ visited_to ns a.load (base-next c))
next-run c ns g =
    rw (c.step.ensures.0, c.wide-last.ensures.0, g.jumps_are, (risen-is c).0)
    (passed-next g (c.loop-t.invariant.1 ns g) (omega (arith, goes_on c, (risen-is c).0)))

next_here : (c : In-Some) →
    let a = c.args in
    Searching (seen_by a.rows.now a.bound a.column) a.ceilings a.load c.step.new.counts (base-next c) × (c.loop-t.tried ≡ visited_to a.ceilings a.load (base-next c))
next_here c = next-run c c.args.ceilings (given-at c)

run-next : (c : In-Some) →
    let a = c.args in
    Run (seen_by a.rows.now a.bound a.column) a.ceilings a.load c.step.new.counts (base-next c)
run-next c = searching-run (given-at c) (next_here c).0

next-inside : (c : In-Some) → base-next c + c.wide-last.result < column_limit
next-inside c = omega (arith, (run-next c).inside, (given-at c).few, c.wide-last.ensures.0)

-- the columns tried are few
tried-few : (c : In-Some) → c.loop-t.tried ≤ column_limit
tried-few c = omega (arith, (next_here c).1, visited-le c.args.ceilings c.args.load (base-next c), next-inside c)

-- its last column is not past that of the load, so that its smallest difference is a column of the part
next-reach : (c : In-Some) → base-next c + c.wide-last.result ≤ c.args.column
next-reach c = omega (arith, (run-next c).reach, c.wide-last.ensures.0, c.requires.0.column)

-- what the next run finds
run_is : (c : In-Some) →
    let a = c.args in
    let base = base-next c in
    let S = seen_by a.rows.now a.bound a.column in
    (p : ℕ) → p ≡ lowest S no_column (base + c.wide-last.result + 1 - base) base → p ≡ lowest S no_column (last_of a.load base + 1 - base) base
run_is c p is =
    let a = c.args in
    let base = base-next c in
    is ∙ ap (λ (k : ℕ). lowest (seen_by a.rows.now a.bound a.column) no_column (base + k + 1 - base) base) c.wide-last.ensures.0

-- nothing, where it is passed over
not-in-run : (c : In-Some) →
    let a = c.args in
    let base = base-next c in
    1 < get_or a.rows.now (a.column - (base + c.wide-last.result)) 0 →
    lowest (seen_by a.rows.now a.bound a.column) no_column (last_of a.load base + 1 - base) base ≡ no_column
not-in-run c high =
    let a = c.args in
    let p = c.requires in
    unseen-run a.rows.now a.bound a.column p.1 p.0.column (run-next c)
    (subst (λ (k : ℕ). 1 < get_or a.rows.now (a.column - (base-next c + k)) 0) c.wide-last.ensures.0 high)

pub jumps_of-jumps-requires : goal.jumps_of-jumps-requires
jumps_of-jumps-requires c = (c.requires.0.under, c.requires.0.few)

pub loop-t-init : goal.loop-t-init
loop-t-init c = (refl, λ ns g. rw c.wide-last.ensures.0 (passed_start g c.requires.2))

pub step-requires : goal.step-requires
step-requires c = (omega arith, c.loop-t.invariant.0)

pub offset_bounds-jumps-t : goal.offset_bounds-jumps-t
offset_bounds-jumps-t c =
    let g = given-before (goal.at.offset_bounds-jumps-t c).At-loop-t in
    omega (arith, (searching-run g (c.loop-t.invariant.1 c.args.ceilings g).searching).risen-le, g.sized, found_some (rw c.in-Some.is at c.step.ensures.1))

pub bounds-jumps-t : goal.bounds-jumps-t
bounds-jumps-t c =
    let g = given-before (goal.at.bounds-jumps-t c).At-loop-t in
    omega (arith, (searching-run g (c.loop-t.invariant.1 c.args.ceilings g).searching).risen-le, g.sized, found_some (rw c.in-Some.is at c.step.ensures.1))

pub overflow_add-base : goal.overflow_add-base
overflow_add-base c = omega (arith, next-inside (goal.at.overflow_add-base c).In-Some)

pub overflow_add-base-in-Some : goal.overflow_add-base-in-Some
overflow_add-base-in-Some c = omega (arith, next-inside (goal.at.overflow_add-base-in-Some c).In-Some)

pub overflow_add-base-in-Some-2 : goal.overflow_add-base-in-Some-2
overflow_add-base-in-Some-2 c = omega (arith, next-inside (goal.at.overflow_add-base-in-Some-2 c).In-Some)

pub overflow_add-base-then-rows-column-le1 : goal.overflow_add-base-then-rows-column-le1
overflow_add-base-then-rows-column-le1 c = omega (arith, next-inside (goal.at.overflow_add-base-then-rows-column-le1 c).In-Some)

pub overflow_add-base-then-rows-column-le1-2 : goal.overflow_add-base-then-rows-column-le1-2
overflow_add-base-then-rows-column-le1-2 c = omega (arith, next-inside (goal.at.overflow_add-base-then-rows-column-le1-2 c).In-Some)

pub overflow_add-tried-in-Some : goal.overflow_add-tried-in-Some
overflow_add-tried-in-Some c = omega (arith, next-inside (goal.at.overflow_add-tried-in-Some c).In-Some)

pub overflow_sub-column : goal.overflow_sub-column
overflow_sub-column c = omega (arith, next-reach (goal.at.overflow_sub-column c).In-Some)

pub bounds-rows-column : goal.bounds-rows-column
bounds-rows-column c = omega (arith, next-reach (goal.at.bounds-rows-column c).In-Some, c.requires.0.inside)

pub overflow_add-tried-in-Some-2 : goal.overflow_add-tried-in-Some-2
overflow_add-tried-in-Some-2 c = omega (arith, next-inside (goal.at.overflow_add-tried-in-Some-2 c).In-Some, tried-few (goal.at.overflow_add-tried-in-Some-2 c).In-Some)

pub run-requires : goal.run-requires
run-requires c =
    let e = (goal.at.run-requires c).In-Some in
    record {
      rising = omega arith;
      few = omega (arith, next-inside e);
      reach = omega (arith, next-reach e);
      inside = c.requires.0.inside;
    }

-- a run that finds: the column lies in the run
found_here : (c : In-Some) (p : ℕ) →
    let a = c.args in
    let base = base-next c in
    Some p ≡ column_found (lowest (seen_by a.rows.now a.bound a.column) no_column (base + c.wide-last.result + 1 - base) base) →
    (base ≤ p) × (p ≤ last_of a.load base)
    × (record { column = Some p; tried = visited_to a.ceilings a.load base + (p + 1 - base) }
    ≡ found_at a.ceilings a.load (lowest (candidate (seen_by a.rows.now a.bound a.column) a.ceilings a.load) no_column (columns_of a.ceilings) 0))
found_here c p is = let f = found_some is in run-found (given-at c) (next_here c).0 p (run_is c p f.0) f.1

pub overflow_sub-result : goal.overflow_sub-result
overflow_sub-result c = omega (arith, (found_here (goal.at.overflow_sub-result c).In-Some c.in-Some-run.found (rw c.in-Some-run.is at c.run.ensures)).0, c.wide.ensures.0)

pub overflow_add-result-in-Some-run : goal.overflow_add-result-in-Some-run
overflow_add-result-in-Some-run c = omega (arith, tried-few (goal.at.overflow_add-result-in-Some-run c).In-Some, c.wide.ensures.1)

pub returns-in-Some-run : goal.returns-in-Some-run
returns-in-Some-run c =
    let e = (goal.at.returns-in-Some-run c).In-Some in
    rw (c.wide.ensures.0, (next_here e).1) (found_here e c.in-Some-run.found (rw c.in-Some-run.is at c.run.ensures)).2

pub loop-t-smaller : goal.loop-t-smaller
loop-t-smaller c =
    let e = (goal.at.loop-t-smaller c).In-Some in
    let g = given-at e in
    let s = (risen-is e).0 in
    let up : c.loop-t.base < base-next e =
    rw (c.wide-last.ensures.0, g.jumps_are, s) ((run-before e).rises (omega (arith, goes_on e, s, g.sized))) in
    omega (arith, next-inside e)

-- a run that finds nothing, or is passed over
pub loop-t-preserved : goal.loop-t-preserved
loop-t-preserved c =
    let e = (goal.at.loop-t-preserved c).In-Some in
    let a = c.args in
    let none : lowest (seen_by a.rows.now a.bound a.column) no_column (last_of a.load (base-next e) + 1 - base-next e) (base-next e) ≡ no_column =
    elim c.if-rows-column-le1.branch [
      | then-rows-column-le1+in_default-run w ↦ sym (run_is e no_column (sym (found_nothing (rw w.in_default-run.is at w.run.ensures))))
      | else-rows-column-le1 w ↦ not-in-run e w.if-rows-column-le1.false
    ] in (
      below_length (next_here e).0.run.under ∙ (given-at e).sized,
      λ ns g. let n = next-run e ns g in subst (Passed _ ns _ _ _) (ap (λ (k : ℕ). c.loop-t.tried + (k + 1)) (sym c.wide-last.ensures.0)) (passed_on g n.0 n.1 none),
    )

pub returns : goal.returns
returns c =
    let g = given-before (goal.at.returns c).At-loop-t in
    passed-last g (c.loop-t.invariant.1 c.args.ceilings g) (found_nothing (rw c.in_default.is at c.step.ensures.1))

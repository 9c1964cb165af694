-- The first run finds, or the scan goes on past it.
use Prim.Native.Nat.{◌+◌, ◌-◌}
use mathlib.Core.Path.{◌≡◌, refl, sym, ◌∙◌}
use native.Mathlib.Omega.{arith}
use borrow.Author.Rules.{rules}
use lib.ListN.{length, get_or, replicate}
use Rattle.std.proofs.Common.{None, Some}
use Rattle.partition.specs.Cell.{lowest, no_column}
use Rattle.table.specs.Under.{jumps_from, column_found}
use Rattle.table.proofs.Candidates.{Given, Run, searching-start, searching-run, run-first, found_some, found_nothing}
use Rattle.table.specs.Scan.{seen_by}
use Rattle.table_code.proofs.scan.scan.Goals.{After-wide, After-wide-in-Some, In_default}
use Rattle.table_code.proofs.scan.scan.Goals as goal

given-at : (c : After-wide-in-Some) → Given (seen_by c.args.rows.now c.args.bound c.args.column) c.args.ceilings c.args.load (jumps_from 1 0 c.args.ceilings c.args.load)
given-at c =
    let ln : length c.args.ceilings ≡ 6 = search rules in
    let lx : length c.args.load ≡ 6 = search rules in
    record { under = c.requires.0.under; few = c.requires.0.few; six = ln; sized = lx; jumps_are = refl }

given-at-2 : (c : After-wide) → Given (seen_by c.args.rows.now c.args.bound c.args.column) c.args.ceilings c.args.load (jumps_from 1 0 c.args.ceilings c.args.load)
given-at-2 c =
    let ln : length c.args.ceilings ≡ 6 = search rules in
    let lx : length c.args.load ≡ 6 = search rules in
    record { under = c.requires.0.under; few = c.requires.0.few; six = ln; sized = lx; jumps_are = refl }

first_run : (c : After-wide) → Run (seen_by c.args.rows.now c.args.bound c.args.column) c.args.ceilings c.args.load (replicate 6 0) 0
first_run c = searching-run (given-at-2 c) (searching-start (given-at-2 c))

-- what the first run finds
in-first : (c : After-wide-in-Some) →
    let a = c.args in
    Some c.in-Some.found ≡ column_found (lowest (seen_by a.rows.now a.bound a.column) no_column (get_or a.load 0 0 + 1 - 0) 0)
in-first c = rw c.wide.ensures.0 at (rw c.in-Some.is at c.run.ensures)

-- that it finds nothing
in-first-2 : (c : In_default) →
    let a = c.args in
    None ≡ column_found (lowest (seen_by a.rows.now a.bound a.column) no_column (get_or a.load 0 0 + 1 - 0) 0)
in-first-2 c = rw c.wide.ensures.0 at (rw c.in_default.is at c.run.ensures)

pub run-requires : goal.run-requires
run-requires c =
    let start = c in
    let g = start.requires.0 in
    let r = first_run start in
    let w = c.wide.ensures.0 in
    record {
      rising = omega arith;
      few = omega (arith, r.inside, w, g.few);
      reach = omega (arith, r.reach, w, g.column);
      inside = g.inside;
    }

pub returns-in-Some : goal.returns-in-Some
returns-in-Some c =
    let f = found_some (in-first c) in
    rw c.wide-in-Some.ensures.0 (run-first (given-at c) c.in-Some.found f.0 f.1)

pub scan_on-requires : goal.scan_on-requires
scan_on-requires c = let ran = c in let p = ran.requires in (p.0, p.1, found_nothing (in-first-2 ran))

pub returns : goal.returns
returns c = c.scan_on.ensures

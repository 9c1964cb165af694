-- The row is `most` where the first scan finds something, else the next one, which the second scan finds, or none past the engines.
use Prim.Native.Nat.{◌+◌, ◌-◌, ◌*◌, ◌<◌}
use mathlib.Core.Path.{◌≡◌, ap, ◌∙◌}
use native.Mathlib.Omega.{arith}
use Rattle.std.specs.Option.{unwrap_or}
use Rattle.system.proofs.Laws.{limits_of}
use Rattle.partition.specs.Cell.{no_column}
use Rattle.table.specs.declared.Entry.{Entry}
use Rattle.table.specs.Parts.{lowest_for}
use Rattle.table.specs.Scan.{ScanIn, PartsFit, entry_of}
use Rattle.table.proofs.Scanned.{scan-in, scan-parts}
use Rattle.table.proofs.Entries.{few-under, first_found, first-lost, not-one, last-lost, second-found, small-rows, small-counted}
use Rattle.table_code.proofs.fill.by_scans.Goals.{After-scan-found-2, Else-row-engines, In-Some, Then-row-engines, Then-row-gt1}
use Rattle.table_code.proofs.fill.by_scans.Goals.{then-row-gt1+in_default, else-row-gt1}
use Rattle.table_code.proofs.fill.by_scans.Goals as goal

-- what a scan asks for
may-scan : (c : Then-row-gt1) →
    let a = c.args in
    ScanIn a.rows.now a.column a.ceilings a.load × PartsFit a.rows.now a.column a.ceilings
may-scan c = let p = c.requires in (scan-in p.wanted, scan-parts p.wanted (omega (arith, p.some, p.few)))

-- what a scan asks for
may-scan-2 : (c : Else-row-engines) →
    let a = c.args in
    ScanIn a.rows.now a.column a.ceilings a.load × PartsFit a.rows.now a.column a.ceilings
may-scan-2 c = let p = c.requires in (scan-in p.wanted, scan-parts p.wanted (omega (arith, p.some, p.few)))

pub scan-found-requires : goal.scan-found-requires
scan-found-requires c = may-scan c

pub overflow_mul-result : goal.overflow_mul-result
overflow_mul-result c =
    let start = c in
    omega (arith, small-rows start.requires (start.args.most - 1) (omega arith))

-- the entries where the first scan finds something
by_first : (c : In-Some) →
    let a = c.args in
    let f = c.scan-found.result in
    ◌≡◌ {A = Entry} (record { row = a.most; predecessor = c.in-Some.predecessor; counted = (a.most - 1) * a.under + f.tried }) (entry_of a.y a.engines a.column)
by_first c =
    let scan = c.scan-found in
    first_found c.requires scan.result c.in-Some.predecessor scan.ensures c.in-Some.is

pub overflow_add-result : goal.overflow_add-result
overflow_add-result c = omega (arith, ap (λ (e : Entry). e.counted) (by_first (goal.at.overflow_add-result c).In-Some), small-counted c.requires)

pub returns-in-Some : goal.returns-in-Some
returns-in-Some c = by_first (goal.at.returns-in-Some c).In-Some

-- where it finds nothing, or is not made, the row is past `most`
past_first : (c : Then-row-engines) → let a = c.args in a.most < lowest_for a.y a.engines a.column
past_first c =
    let p = c.requires in
    elim c.if-row-gt1.branch [
      | then-row-gt1+in_default w ↦ first-lost p w.scan-found.result w.scan-found.ensures w.in_default.is
      | else-row-gt1 w ↦ not-one p w.if-row-gt1.false
    ]

pub none-requires : goal.none-requires
none-requires c =
    let start = c in
    let p = start.requires in
    (p.wanted.filled.limits, omega (arith, p.wanted.filled.few, (limits_of start.args.y p.wanted.filled.limits).engines), omega (arith, p.all, few-under p.wanted))

pub returns-then-row-engines : goal.returns-then-row-engines
returns-then-row-engines c = c.none.ensures ∙ last-lost c.requires (past_first (goal.at.returns-then-row-engines c).Then-row-engines) c.if-row-engines.true

pub scan-found-requires-2 : goal.scan-found-requires-2
scan-found-requires-2 c = may-scan-2 c

pub overflow_add-result-2 : goal.overflow_add-result-2
overflow_add-result-2 c =
    let start = c in
    let p = start.requires in
    omega (arith, p.few, p.wanted.filled.few, (limits_of start.args.y p.wanted.filled.limits).engines)

pub overflow_mul-result-2 : goal.overflow_mul-result-2
overflow_mul-result-2 c =
    let start = c in
    omega (arith, small-rows start.requires start.args.most (omega arith))

-- the entries where the second scan finds the row
by-second : (c : After-scan-found-2) →
    let a = c.args in
    let f = c.scan-found-2.result in
    ◌≡◌ {A = Entry} (record { row = a.most + 1; predecessor = unwrap_or f.column no_column; counted = a.most * a.under + f.tried }) (entry_of a.y a.engines a.column)
by-second c =
    let p = c.requires in
    let past : c.args.most < lowest_for c.args.y c.args.engines c.args.column =
    elim c.if-row-gt1.branch [
      | then-row-gt1+in_default w ↦ first-lost p w.scan-found.result w.scan-found.ensures w.in_default.is
      | else-row-gt1 w ↦ not-one p w.if-row-gt1.false
    ] in
    second-found p past c.if-row-engines.false c.scan-found-2.result c.scan-found-2.ensures

pub overflow_add-result-3 : goal.overflow_add-result-3
overflow_add-result-3 c = omega (arith, ap (λ (e : Entry). e.counted) (by-second (goal.at.overflow_add-result-3 c).After-scan-found-2), small-counted c.requires)

pub returns : goal.returns
returns c = rw c.unwrap_or.ensures (by-second (goal.at.returns c).After-scan-found-2)

-- The filled parts show the entries of the engines' rows, so what is placed by them, put on these engines, is the placement.
use Prim.Native.Nat.{ℕ}
use mathlib.Core.Path.{◌≡◌, sym, ◌∙◌}
use mathlib.Core.List.{List}
use native.Mathlib.Omega.{arith}
use borrow.Author.Rules.{rules}
use lib.ListN.{length}
use lib.Seq.{length-take-le}
use Rattle.std.proofs.Common.{None}
use Rattle.system.specs.declared.System.{System}
use Rattle.system.specs.Limits.{engine_limit}
use Rattle.partition.specs.Lent.{lent}
use Rattle.table.specs.Parts.{row_at, predecessor_at, part_of}
use Rattle.table.specs.Table.{filled}
use Rattle.table.specs.Chain.{listed}
use Rattle.table.proofs.Placed.{rows-used, rows-on-engines, rows-nowhere}
use Rattle.table.proofs.Chained.{filled-show}
use Rattle.table.proofs.Reading.{parts-room}
use Rattle.table_code.proofs.place.Goals.{After-on_engines, In_err-found}
use Rattle.table_code.proofs.place.Goals as goal

-- an array of the code has its length
sixteen-at : (c : After-on_engines) → length c.args.engines.numbers ≡ engine_limit
sixteen-at c = search rules

pub fill_parts-requires : goal.fill_parts-requires
fill_parts-requires c =
    let start = c in
    let room = parts-room start.args.y (lent start.args.rows.now start.args.predecessors.now) start.requires.room in
    (start.requires.limits, start.requires.few, room.0, room.1)

pub placed_by-requires : goal.placed_by-requires
placed_by-requires c =
    let start = c in
    let filled = c.fill_parts in
    let y = start.args.y in
    let rows = start.args.rows.now in
    let predecessors = start.args.predecessors.now in
    let room = parts-room y (lent rows predecessors) start.requires.room in
    let shown =
    filled-show y start.args.engines.count rows predecessors filled.new.rows filled.new.predecessors
    start.requires.limits
    start.requires.few
    room.0
    room.1
    filled.ensures.0
    filled.ensures.1 in
    (shown, start.requires.under)

pub on_engines-requires : goal.on_engines-requires
on_engines-requires c =
    let start = c in
    let all = start.requires.engines in
    record {
      enough = rows-used start.args.y start.args.engines.count start.args.counts _ (sym c.in_ok-found.was ∙ c.placed_by.ensures);
      few = all.few;
      apart = all.apart;
      known = all.known;
    }

-- both parts filled, with a row for each of the engines
both-filled : (y : System) (es : List ℕ) (r : ℕ) (rows predecessors last_rows last_predecessors : List ℕ) → length es ≡ r → last_rows ≡ part_of y (row_at y r) rows → last_predecessors ≡ part_of y (predecessor_at y r) predecessors
    → lent last_rows last_predecessors ≡ filled y es (lent rows predecessors)
both-filled y es r rows predecessors last_rows last_predecessors count is_rows is_predecessors = rw (is_rows, is_predecessors, count)

-- nothing is placed
sixteen-before : (c : In_err-found) → length c.args.engines.numbers ≡ engine_limit
sixteen-before c = search rules

pub returns-in_err-found : goal.returns-in_err-found
returns-in_err-found c =
    let y = c.args.y in
    let engines = c.args.engines in
    let done = c.fill_parts in
    let told : c.from_residual.result ≡ None = search rules in
    let sixteen = sixteen-before (goal.at.returns-in_err-found c).In_err-found in
    let count : length (listed engines) ≡ engines.count = length-take-le engines.count engines.numbers (omega (arith, sixteen, c.requires.engines.few)) in (
      both-filled y (listed engines) engines.count c.args.rows.now c.args.predecessors.now done.new.rows done.new.predecessors count done.ensures.0 done.ensures.1,
      told ∙ rows-nowhere y (listed engines) c.args.counts (sym c.in_err-found.was ∙ c.placed_by.ensures ∙ rw count),
    )

pub returns : goal.returns
returns c =
    let start = c in
    let y = start.args.y in
    let engines = start.args.engines in
    let done = c.fill_parts in
    let sixteen = sixteen-at start in
    let count : length (listed engines) ≡ engines.count = length-take-le engines.count engines.numbers (omega (arith, sixteen, start.requires.engines.few)) in (
      both-filled y (listed engines) engines.count start.args.rows.now start.args.predecessors.now done.new.rows done.new.predecessors count done.ensures.0 done.ensures.1,
      rows-on-engines y (listed engines) start.args.counts _ c.on_engines.result (sym c.in_ok-found.was ∙ c.placed_by.ensures ∙ rw count) c.on_engines.ensures,
    )

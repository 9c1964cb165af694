-- Laws of a placement: what the code makes of the lowest row, of the recovery from it and of its rows on the engines is the placement that is defined.
use Prim.Native.Nat.{ℕ, ◌≤◌, ◌<◌, zero-le}
use mathlib.Core.Path.{◌≡◌, refl, sym, ap, ◌∙◌}
use mathlib.Core.Bool.{Bool, true, false, cond, false≢true}
use mathlib.Core.List.{List, [], map, map-map}
use native.Mathlib.Omega.{arith}
use borrow.Author.Tests.{leb-true, le-leb, lt-leb}
use lib.ListN.{length, take, drop, replicate, length-map}
use lib.Dec.{leb}
use lib.Seq.{take_at}
use Rattle.std.proofs.Common.{Option, None, Some}
use Rattle.std.specs.Option.{is_some, unwrap_or}
use Rattle.system.specs.declared.System.{System}
use Rattle.system.specs.Values.{ceilings_of}
use Rattle.system.specs.Limits.{engine_limit, keeps_limits}
use Rattle.system.proofs.Laws.{limits_of}
use Rattle.loads.specs.declared.EngineLoad.{EngineLoad}
use Rattle.loads.specs.Load.{fits_engine, empty_load, engine_with, idle_engine, within}
use Rattle.loads.specs.Column.{column_of}
use Rattle.loads.proofs.Laws.{engine_with-idle}
use Rattle.partition.specs.Assignment.{among, engines_to}
use Rattle.partition.specs.Cell.{lowest_row, recover, recovery}
use Rattle.partition.specs.Shares.{row_on, on_engines}
use Rattle.partition.specs.ForSystem.{row_for, placeable, rows_for, recovered_for}
use Rattle.partition.proofs.Lists.{distinct-engines_to, every-engines_to, among-engines_to}
use Rattle.partition.proofs.Recovery.{length-recovery}
use Rattle.partition.proofs.Engines.{map_same, row_on-map}
use Rattle.table.proofs.Spread.{no_rows}
use Rattle.partition.specs.Lent.{Lent}
use Rattle.table.specs.declared.Engines.{Engines}
use Rattle.table.specs.declared.Placement.{Placement}
use Rattle.table.specs.Table.{long_enough, placement}
use Rattle.table.specs.Chain.{recovered_onto, rows_placed, listed, MayPlace}

-- what a test decides: something where it holds, else nothing

pub placed-some : {A : Type 0} {b : Bool} {p q : A} → Some p ≡ cond b (Some q) None → (b ≡ true) × (p ≡ q)
placed-some {A = A} {b = true} {p = p} e = (refl, ap (λ (o : Option A). unwrap_or o p) e)
placed-some {b = false} e = absurd (false≢true (sym (ap is_some e)))

pub placed-none : {A : Type 0} {b : Bool} (q : A) → None ≡ cond b (Some q) None → b ≡ false
placed-none {b = true} q e = absurd (false≢true (ap is_some e))
placed-none {b = false} q e = refl

-- main: the rows as the code makes them, from the row and column that it found, an idle engine and what recovery gave

module _ (y : System) (rows : ℕ) (x : List ℕ) (row column : ℕ) (is_row : row ≡ lowest_row (fits_engine y) (ceilings_of y) rows column) (is_column : column ≡ column_of (ceilings_of y) x) where
  the_row : row ≡ lowest_row (fits_engine y) (ceilings_of y) rows (column_of (ceilings_of y) x)
  the_row = is_row ∙ ap (lowest_row (fits_engine y) (ceilings_of y) rows) is_column

  pub rows-found : (idle : EngineLoad) → idle ≡ idle_engine → (loads : List EngineLoad) → loads ≡ recovered_onto y row column (replicate engine_limit idle) → row ≤ rows
      → ◌≡◌ {A = Option Placement} (Some (record { used = row; loads = loads })) (rows_placed y rows x)
  unfolding rows_placed
  rows-found idle is_idle loads is h =
      rw (le-leb (lowest_row (fits_engine y) (ceilings_of y) rows (column_of (ceilings_of y) x)) rows (rw the_row at h), is, is_idle, the_row, is_column)

  pub rows_none : rows < row → None ≡ rows_placed y rows x
  unfolding rows_placed
  rows_none h = rw (lt-leb (lowest_row (fits_engine y) (ceilings_of y) rows (column_of (ceilings_of y) x)) rows (rw the_row at h))

-- no more rows are used than the table has
pub rows-used : (y : System) (rows : ℕ) (x : List ℕ) (p : Placement) → Some p ≡ rows_placed y rows x → p.used ≤ rows
unfolding rows_placed
rows-used y rows x p is =
    let found = placed-some is in
    rw found.1 (leb-true (lowest_row (fits_engine y) (ceilings_of y) rows (column_of (ceilings_of y) x)) rows found.0)

-- main: the rows put on the engines

module _ (y : System) (es x : List ℕ) where
  -- the rows of the recovery, as the code's array has them in front
  front : take (row_for y es x) (recovered_onto y (row_for y es x) (column_of (ceilings_of y) x) (replicate engine_limit idle_engine)) ≡ map (engine_with y) (rows_for y es x)
  unfolding recovered_onto recovery
  front =
      let rows = recover (fits_engine y) (ceilings_of y) (row_for y es x) (column_of (ceilings_of y) x) [] in
      take_at (map (engine_with y) rows) (drop (row_for y es x) (replicate engine_limit idle_engine)) (row_for y es x)
      (length-map rows (engine_with y) ∙ length-recovery (fits_engine y) (ceilings_of y) (length es) (column_of (ceilings_of y) x))

  spread : on_engines idle_engine engine_limit es (map (engine_with y) (rows_for y es x)) ≡ map (engine_with y) (recovered_for engine_limit y es x)
  spread =
      map_same (row_on idle_engine es (map (engine_with y) (rows_for y es x))) (λ (e : ℕ). engine_with y (row_on empty_load es (rows_for y es x) e))
      (λ e. ap (λ (d : EngineLoad). row_on d es (map (engine_with y) (rows_for y es x)) e) (sym (engine_with-idle y)) ∙ sym (row_on-map (engine_with y) empty_load es (rows_for y es x) e))
      (engines_to engine_limit)
      ∙ sym (map-map (engine_with y) (row_on empty_load es (rows_for y es x)) (engines_to engine_limit))

  pub rows-on-engines : (p : Placement) (loads : List EngineLoad) → Some p ≡ rows_placed y (length es) x → loads ≡ on_engines idle_engine engine_limit es (take p.used p.loads)
      → ◌≡◌ {A = Option Placement} (Some (record { used = p.used; loads = loads })) (placement y es x)
  unfolding rows_placed placement
  rows-on-engines p loads is on =
      let found = placed-some is in
      let can : placeable y es x ≡ true = found.0 in
      rw (on, found.1, can, front, spread)

  -- no rows, and nothing on the engines
  pub rows-nowhere : None ≡ rows_placed y (length es) x → None ≡ placement y es x
  unfolding rows_placed placement
  rows-nowhere is =
      let cannot : placeable y es x ≡ false = placed-none _ is in
      rw cannot

-- main: a load may be placed on all engines of a system, listed in order

pub may-place-on-all : (y : System) (e : Engines) (x : List ℕ) (table : Lent) → keeps_limits y ≡ true → e.count ≡ y.engines → listed e ≡ engines_to y.engines → long_enough y table ≡ true → within x (ceilings_of y) ≡ true → MayPlace y e x table
may-place-on-all y e x table keeps count are long under = record {
  limits = keeps;
  few = omega (arith, count);
  engines = record {
    enough = omega arith;
    few = few;
    apart = rw are (distinct-engines_to y.engines);
    known = rw are ((every-engines_to (among (engines_to engine_limit)) y.engines).1 (λ d low high. (among-engines_to engine_limit d).1 (low, omega (arith, count, few))));
  };
  room = long;
  under = under;
}
  where
    few : e.count ≤ engine_limit
    few = omega (arith, count, (limits_of y keeps).engines)

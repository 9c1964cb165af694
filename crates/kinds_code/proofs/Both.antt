-- What the code joins is the mixed placement: each kind's rows are its recovery, and both kinds place their part exactly where the split costs less than none.
use Prim.Native.Nat.{ℕ, ◌+◌, ◌-◌, ◌*◌, ◌≤◌, ◌<◌}
use mathlib.Core.Path.{◌≡◌, refl, ◌∙◌}
use mathlib.Core.List.{List, ◌++◌, map}
use mathlib.Core.Bool.{Bool, true, false, cond}
use native.Mathlib.Omega.{arith}
use borrow.Author.Tests.{leb-true, lt-ltb}
use lib.ListN.{length, replicate, length-map, length-append}
use lib.Seq.{paste, take_at}
use lib.Dec.{leb}
use Rattle.std.proofs.Common.{Option, None, Some}
use Rattle.system.specs.declared.System.{System}
use Rattle.system.specs.Values.{ceilings_of}
use Rattle.system.specs.Limits.{engine_limit, columns}
use Rattle.loads.specs.declared.EngineLoad.{EngineLoad}
use Rattle.loads.specs.Load.{fits_engine, engine_with, idle_engine}
use Rattle.loads.specs.Column.{load_of}
use Rattle.loads.proofs.Column.{column_of-load_of}
use Rattle.partition.specs.Cell.{recovery}
use Rattle.partition.specs.Kinds.{fewest_in, rest_of, no_split, split_cost, best_split}
use Rattle.partition.proofs.Recovery.{length-recovery}
use Rattle.table.specs.declared.Placement.{Placement}
use Rattle.table.specs.Chain.{recovered_onto, rows_placed}
use Rattle.kinds.specs.Mixing.{padded, mixed_placement}
use Rattle.kinds.specs.Inner.{joined_placement}
use Rattle.kinds.proofs.Padded.{drop-replicate, paste-padded}

-- intermediate: what one kind places of the load of a column

-- the loads of its used engines
abbrev loads_at : System → ℕ → List EngineLoad
loads_at y c = map (engine_with y) (recovery (fits_engine y) (ceilings_of y) y.engines c)

length-loads : (y : System) (c : ℕ) → length (loads_at y c) ≡ fewest_in y c
length-loads y c = length-map (recovery (fits_engine y) (ceilings_of y) y.engines c) (engine_with y) ∙ length-recovery (fits_engine y) (ceilings_of y) y.engines c

onto-idle : (y : System) (c : ℕ) → recovered_onto y (fewest_in y c) c (replicate engine_limit idle_engine) ≡ padded idle_engine (loads_at y c)
unfolding recovered_onto recovery
onto-idle y c = rw (length-loads y c) (rw (drop-replicate engine_limit (fewest_in y c) idle_engine))

-- the placement, whether b says that the kind has engines enough
abbrev placed_where : System → ℕ → Bool → Option Placement
placed_where y c b = cond b (Some (record { used = fewest_in y c; loads = padded idle_engine (loads_at y c) })) None

placed-column : (y : System) (c : ℕ) → c < columns y → rows_placed y y.engines (load_of (ceilings_of y) c) ≡ placed_where y c (leb (fewest_in y c) y.engines)
unfolding rows_placed
placed-column y c small = rw (column_of-load_of (ceilings_of y) c small, onto-idle y c)

-- main: both kinds

module _ (first second : System) (few : first.engines + second.engines ≤ engine_limit) where
  abbrev best : ℕ
  best = best_split first second

  abbrev rest : ℕ
  rest = rest_of first best

  -- the loads of the second kind, copied behind those of the first
  loads-joined : fewest_in first best ≤ first.engines → fewest_in second rest ≤ second.engines
      → paste (padded idle_engine (loads_at first best)) (fewest_in first best) (padded idle_engine (loads_at second rest)) (fewest_in second rest) ≡ padded idle_engine (loads_at first best ++ loads_at second rest)
  loads-joined one other =
      let past = replicate (engine_limit - length (loads_at second rest)) idle_engine in
      paste-padded idle_engine (loads_at first best) (padded idle_engine (loads_at second rest)) (fewest_in first best) (fewest_in second rest) (length-loads first best) (omega arith)
      (omega (arith, length-append (loads_at second rest) past, length-loads second rest))
      ∙ rw (take_at (loads_at second rest) past (fewest_in second rest) (length-loads second rest))

  joined-where : (a b : Bool) → leb (fewest_in first best) first.engines ≡ a → leb (fewest_in second rest) second.engines ≡ b
      → joined_placement (placed_where first best a) (placed_where second rest b) first.engines ≡ mixed_placement first second
  unfolding joined_placement mixed_placement split_cost
  joined-where true true one other =
      let low = leb-true (fewest_in first best) first.engines one in
      let low2 = leb-true (fewest_in second rest) second.engines other in
      let cheap = lt-ltb ((fewest_in first best + fewest_in second rest) * 32 + fewest_in second rest) no_split (omega arith) in
      rw (one, other, cheap, loads-joined low low2)
  joined-where true false one other = rw (one, other)
  joined-where false b one other = rw one

  pub both-joined : (a b : Option Placement) → best < columns first → rest < columns second → a ≡ rows_placed first first.engines (load_of (ceilings_of first) best)
      → b ≡ rows_placed second second.engines (load_of (ceilings_of second) rest) → joined_placement a b first.engines ≡ mixed_placement first second
  both-joined a b inside inside2 is_one is_other =
      rw (is_one, is_other, placed-column first best inside, placed-column second rest inside2)
      (joined-where (leb (fewest_in first best) first.engines) (leb (fewest_in second rest) second.engines) refl refl)

-- Request 2026-13, "Cards with two kinds of engine": what placing all instances on the engines of both kinds relies on, and what it answers. The split, the
-- loads and the numbers are those of
-- partition's Kinds.
use Rattle.std.specs.Prelude.{◌+◌, ◌-◌, ◌≤◌, List, ◌++◌, true, cond, ◌≡◌, length, replicate, Option, None, Some}
use Rattle.system.specs.declared.System.{System}
use Rattle.system.specs.Values.{ceilings_of}
use Rattle.system.specs.Limits.{engine_limit, keeps_limits}
use Rattle.loads.specs.Load.{idle_engine}
use Rattle.partition.specs.Kinds.{mixed_placeable, used_first, used_second, mixed_numbers, mixed_loads}
use Rattle.partition.specs.Lent.{Lent}
use Rattle.table.specs.Table.{long_enough}
use Rattle.kinds.specs.declared.Mixed.{Mixed}

-- a list as an array of the code has it, with d in the places past its entries
abbrev pub padded : {A : Type 0} → A → List A → List A
padded d l = l ++ replicate (engine_limit - length l) d

-- "a plan uses the fewest engines of both kinds together, and among those the fewest of the second kind": its used engines, "numbers rising", where all
-- instances can be placed
abbrev pub mixed_given : System → System → Mixed
mixed_given first second =
    record { used = used_first first second + used_second first second; numbers = padded 0 (mixed_numbers first second); loads = padded idle_engine (mixed_loads first second) }

-- else nothing is placed: "12 means no good assignment to the mixed engines"
unfoldable pub mixed_placement : System → System → Option Mixed
mixed_placement first second = cond (mixed_placeable first second) (Some (mixed_given first second)) None

-- what it relies on: two systems within the limits, whose types have the same ceilings, "total still at most 16", and lent parts with an entry for each column
pub record MayMix (first second : System) (table : Lent) : Type 0 where
  pub limits : keeps_limits first ≡ true
  pub limits_second : keeps_limits second ≡ true
  pub same_ceilings : ceilings_of second ≡ ceilings_of first
  pub few : first.engines + second.engines ≤ engine_limit
  pub room : long_enough first table ≡ true

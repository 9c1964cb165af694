-- Request 2026-13, "Cards with two kinds of engine": all n(t) instances of a card shared out between the engines of two systems with the same types'
-- ceilings, that of its first kind and that of
-- its second. Engines 1 to m are of the first kind, those after them of the second ("these engines are numbered after the first kind").
use Rattle.std.specs.Prelude.{ℕ, zero, suc, ◌+◌, ◌-◌, ◌*◌, ◌≤◌, ◌<◌, List, [], ◌++◌, map, Bool, true, false, cond, ◌&&◌, ◌≡◌, length, get_or, leb, ltb}
use Rattle.system.specs.declared.System.{System}
use Rattle.system.specs.Values.{ceilings_of}
use Rattle.system.specs.Limits.{columns, keeps_limits}
use Rattle.loads.specs.declared.EngineLoad.{EngineLoad}
use Rattle.loads.specs.Load.{fits_engine, holds_none, empty_load, engine_with}
use Rattle.partition.specs.Assignment.{Assignment, load_on, assigned, good, used_of, numbers_from, engines_to}
use Rattle.partition.specs.OwnWords.{place_of, KeepsOn}
use Rattle.partition.specs.Cell.{lowest_row, recovery}

-- whether engine e may hold the load x: the engines of each kind have their own test
abbrev pub kind_test : System → System → ℕ → List ℕ → Bool
kind_test first second e x = cond (leb e first.engines) (fits_engine first x) (fits_engine second x)

-- the engines of both kinds, those of the second being m + 1, m + 2, ..
abbrev pub engines_after : ℕ → ℕ → List ℕ
engines_after m n = numbers_from (suc m) n

abbrev pub mixed_engines : System → System → List ℕ
mixed_engines first second = engines_to (first.engines + second.engines)

-- every instance is on one of them, and on each the load fits by its kind
abbrev pub good_mixed : System → System → Assignment → Bool
good_mixed first second χ = good (kind_test first second) (mixed_engines first second) χ

-- the fewest engines of a system for the load of a column, its lowest yes row; m + 1 for none
abbrev pub fewest_in : System → ℕ → ℕ
fewest_in y c = lowest_row (fits_engine y) (ceilings_of y) y.engines c

-- the column of all instances but those of column p: the column of all is the last one
abbrev pub rest_of : System → ℕ → ℕ
rest_of y p = columns y - 1 - p

-- A split gives the load of a column p to the first kind, and all the rest to the second. What it costs: "the fewest engines of both kinds together, and
-- among those the fewest of the second
-- kind"; of the second there are fewer than 32, so that one number compares both. A split that one of the kinds cannot hold costs `no_split`, more than any
-- other
abbrev pub no_split : ℕ
no_split = 65535

unfoldable pub split_cost : System → System → ℕ → ℕ
split_cost first second p =
    cond (leb (fewest_in first p) first.engines && leb (fewest_in second (rest_of first p)) second.engines)
    ((fewest_in first p + fewest_in second (rest_of first p)) * 32 + fewest_in second (rest_of first p))
    no_split

-- the lowest of 0, 1, .., as many as f, at which the cost is least
unfoldable pub least_at : (ℕ → ℕ) → ℕ → ℕ
least_at cost zero = 0
least_at cost (suc f) =
    let before = least_at cost f in
    cond (ltb (cost f) (cost before)) f before

-- the split that is taken, and whether there is one
abbrev pub best_split : System → System → ℕ
best_split first second = least_at (split_cost first second) (columns first)

abbrev pub mixed_placeable : System → System → Bool
mixed_placeable first second = ltb (split_cost first second (best_split first second)) no_split

-- the engines that it uses of each kind
abbrev pub used_first : System → System → ℕ
used_first first second = fewest_in first (best_split first second)

abbrev pub used_second : System → System → ℕ
used_second first second = fewest_in second (rest_of first (best_split first second))

-- the loads of the used engines, numbers rising: document 01's recovery for each kind; and these numbers
abbrev pub loads_first : System → System → List (List ℕ)
loads_first first second = recovery (fits_engine first) (ceilings_of first) first.engines (best_split first second)

abbrev pub loads_second : System → System → List (List ℕ)
loads_second first second = recovery (fits_engine second) (ceilings_of second) second.engines (rest_of first (best_split first second))

abbrev pub mixed_loads : System → System → List EngineLoad
mixed_loads first second = map (engine_with first) (loads_first first second) ++ map (engine_with second) (loads_second first second)

abbrev pub mixed_numbers : System → System → List ℕ
mixed_numbers first second = engines_to (used_first first second) ++ engines_after first.engines (used_second first second)

-- What is shown of it, over assignments of single instances

-- an assignment of all instances to the engines of both kinds that is good, on `used_first` engines of the first kind and `used_second` of the second, and
-- engine by engine what these loads say
pub record MixedGiven (first second : System) : Type 0 where
  pub mapping : Assignment
  pub assigns : assigned mapping ≡ ceilings_of first
  pub is_good : good_mixed first second mapping ≡ true
  pub holds_first : (i : ℕ) → i < used_first first second → load_on (suc i) mapping ≡ get_or (loads_first first second) i empty_load
  pub holds_second : (i : ℕ) → i < used_second first second → load_on (suc (first.engines + i)) mapping ≡ get_or (loads_second first second) i empty_load
  pub idle_first : (e : ℕ) → used_first first second < e → e ≤ first.engines → load_on e mapping ≡ empty_load
  pub idle_second : (i : ℕ) → used_second first second ≤ i → i < second.engines → load_on (suc (first.engines + i)) mapping ≡ empty_load
  pub some_first : (i : ℕ) → i < used_first first second → holds_none (get_or (loads_first first second) i empty_load) ≡ false
  pub some_second : (i : ℕ) → i < used_second first second → holds_none (get_or (loads_second first second) i empty_load) ≡ false
  pub few_first : used_first first second ≤ first.engines
  pub few_second : used_second first second ≤ second.engines
  pub length_first : length (loads_first first second) ≡ used_first first second
  pub length_second : length (loads_second first second) ≡ used_second first second

-- the engines of each kind that χ uses
abbrev pub uses_first : System → Assignment → ℕ
uses_first first χ = used_of (engines_to first.engines) χ

abbrev pub uses_second : System → System → Assignment → ℕ
uses_second first second χ = used_of (engines_after first.engines second.engines) χ

-- no good assignment is on fewer engines, and none that is on as many on fewer of the second kind
pub record MixedFewest (first second : System) (χ : Assignment) : Type 0 where
  pub placeable : mixed_placeable first second ≡ true
  pub fewest : used_first first second + used_second first second ≤ uses_first first χ + uses_second first second χ
  pub fewest_second : uses_first first χ + uses_second first second χ ≡ used_first first second + used_second first second
      → used_second first second ≤ uses_second first second χ

-- What is assumed of the two systems: each keeps the limits, and a type has as many instances in both
pub record KindsOf (first second : System) : Type 0 where
  pub first_keeps : keeps_limits first ≡ true
  pub second_keeps : keeps_limits second ≡ true
  pub same_ceilings : ceilings_of second ≡ ceilings_of first

-- A good assignment in source 001's own words: every instance is on an engine of the card, and every engine keeps Definition 1 with the numbers of its own kind
pub record MixedKeeps (first second : System) (χ : Assignment) : Type 0 where
  pub placed : (t j : ℕ) → t < length χ → j < length (get_or χ t []) → (1 ≤ place_of χ t j) × (place_of χ t j ≤ first.engines + second.engines)
  pub on_first : (e : ℕ) → 1 ≤ e → e ≤ first.engines → KeepsOn first e χ
  pub on_second : (e : ℕ) → first.engines < e → e ≤ first.engines + second.engines → KeepsOn second e χ

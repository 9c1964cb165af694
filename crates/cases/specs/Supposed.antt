-- What statements suppose of loads and of systems (partition/specs/Releases), given in plain numbers, of every system and any counts: so that no supposition
-- is narrower than its words.
use Rattle.std.specs.Prelude.{ℕ, suc, ◌+◌, ◌≤◌, List, [], ◌∷◌, ◌≡◌, length, get_or, Option}
use Rattle.system.specs.declared.Cycle.{Cycle}
use Rattle.system.specs.declared.TaskType.{TaskType}
use Rattle.system.specs.declared.System.{System}
use Rattle.partition.specs.OwnWords.{no_type}
use Rattle.partition.specs.Plain.{type_no}
use Rattle.partition.specs.Releases.{AddsWithin, BothReleases}

-- Two loads

-- "two loads add up within the ceilings": of any two loads of six counts, and any third with their sums, none above its ceiling; and where the sums are
-- within the ceilings there is such a third
pub record SumsGiven (y : System) (a b : List ℕ) : Type 0 where
  pub sums : (both : List ℕ) → length a ≡ 6 → length b ≡ 6 → length both ≡ 6 → ((i : ℕ) → get_or both i 0 ≡ get_or a i 0 + get_or b i 0)
      → ((i : ℕ) → get_or both i 0 ≤ (get_or y.types i no_type).ceiling)
      → AddsWithin y a b both
  pub some : length a ≡ 6 → length b ≡ 6 → ((i : ℕ) → get_or a i 0 + get_or b i 0 ≤ (get_or y.types i no_type).ceiling) → (both : List ℕ) × AddsWithin y a b both

-- Two releases

-- a type with another n, and another C and T
abbrev pub type_released : TaskType → ℕ → Option Cycle → TaskType
type_released t n pace = record { time = t.time; memory = t.memory; ceiling = n; «data» = t.data; most = t.most; pace = pace; there = t.there }

-- the types after type i, each with the n and the C and T of its number
unfoldable pub types_released : (ℕ → ℕ) → (ℕ → Option Cycle) → ℕ → List TaskType → List TaskType
types_released n pace i [] = []
types_released n pace i (t ∷ ts) = type_released t (n (suc i)) (pace (suc i)) ∷ types_released n pace (suc i) ts

-- the system of a release: n(t) instances of type t, with this C and T
abbrev pub released : System → (ℕ → ℕ) → (ℕ → Option Cycle) → System
released y n pace =
    record {
      engines = y.engines;
      rule = y.rule;
      timecap = y.timecap;
      memorycap = y.memorycap;
      typecount = y.typecount;
      types = types_released n pace 0 y.types;
      second = y.second;
    }

-- of one card, any two releases and both: n of both is the sum, and C and T are whatever they are in each
pub record ReleasesGiven (y : System) : Type 0 where
  pub counts : (n : ℕ → ℕ) (pace : ℕ → Option Cycle) (t : ℕ) → 1 ≤ t → t ≤ length y.types
      → ((type_no (released y n pace) t).ceiling ≡ n t) × ((type_no (released y n pace) t).pace ≡ pace t)
  pub both : (n m : ℕ → ℕ) (p q r : ℕ → Option Cycle) → BothReleases (released y n p) (released y m q) (released y (λ (t : ℕ). n t + m t) r)

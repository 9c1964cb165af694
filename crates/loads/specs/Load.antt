-- A load, its time, its memory and whether it fits an engine: document 01's "Words". A load is a list, the number of instances of each type in order.
use Rattle.std.specs.Prelude.{ℕ, ◌+◌, ◌-◌, ◌*◌, List, [], ◌∷◌, Bool, true, false, cond, ◌&&◌, get_or, set, replicate, leb, eqb, Option, None, Some}
use Rattle.system.specs.declared.TaskType.{TaskType}
use Rattle.system.specs.declared.System.{System}
use Rattle.system.specs.Limits.{type_limit}
use Rattle.loads.specs.declared.EngineLoad.{EngineLoad}
use Rattle.loads.specs.declared.Sums.{Sums}

-- what `each` says of a type and of the number of its instances, summed over the types
unfoldable pub sum_over : (TaskType → ℕ → ℕ) → List TaskType → List ℕ → ℕ
sum_over each [] xs = 0
sum_over each (t ∷ ts) [] = 0
sum_over each (t ∷ ts) (x ∷ xs) = each t x + sum_over each ts xs

-- "Its time is the sum of count × u(t)"
abbrev pub time_at : TaskType → ℕ → ℕ
time_at t x = x * t.time

abbrev pub time_of : List TaskType → List ℕ → ℕ
time_of ts xs = sum_over time_at ts xs

-- request 2026-03: "A type's memory on an engine that holds c > 0 of it is s + c × d under rule 1, and c × (s + d) under rule 0": each instance has data of
-- its own under both, and a copy of the code under rule 0
abbrev pub memory_at : ℕ → TaskType → ℕ → ℕ
memory_at rule t x = cond (eqb x 0) 0 (cond (eqb rule 0) (x * (t.memory + t.data)) (t.memory + x * t.data))

abbrev pub memory_of : ℕ → List TaskType → List ℕ → ℕ
memory_of rule ts xs = sum_over (memory_at rule) ts xs

-- both sums of a load, always computed anew from its counts
abbrev pub sums_of : System → List ℕ → Sums
sums_of y x = record { time = time_of y.types x; memory = memory_of y.rule y.types x }

-- request 2026-04: "no engine holds more than q of that type. Without it there is no limit"
abbrev pub apart_at : Option ℕ → ℕ → Bool
apart_at None x = true
apart_at (Some q) x = leb x q

-- every count of the load keeps the q of its type
unfoldable pub apart : List TaskType → List ℕ → Bool
apart [] xs = true
apart (t ∷ ts) [] = true
apart (t ∷ ts) (x ∷ xs) = apart_at t.most x && apart ts xs

-- document 01's "fits": time at most U and memory at most S; "A load fits only if it keeps q too" (request 2026-04)
unfoldable pub fits_engine : System → List ℕ → Bool
fits_engine y x = leb (time_of y.types x) y.timecap && leb (memory_of y.rule y.types x) y.memorycap && apart y.types x

-- no instance at all
unfoldable pub holds_none : List ℕ → Bool
holds_none [] = true
holds_none (x ∷ xs) = eqb x 0 && holds_none xs

abbrev pub empty_load : List ℕ
empty_load = replicate type_limit 0

-- no count of x is above that of y
unfoldable pub within : List ℕ → List ℕ → Bool
within [] ys = true
within (x ∷ xs) [] = false
within (x ∷ xs) (y ∷ ys) = leb x y && within xs ys

-- the two loads together
unfoldable pub plus : List ℕ → List ℕ → List ℕ
plus [] ys = []
plus (x ∷ xs) [] = []
plus (x ∷ xs) (y ∷ ys) = (x + y) ∷ plus xs ys

-- the load x less the load y
unfoldable pub less : List ℕ → List ℕ → List ℕ
less [] ys = []
less (x ∷ xs) [] = []
less (x ∷ xs) (y ∷ ys) = (x - y) ∷ less xs ys

-- the load with one instance more, and one less, of the type at index i (type number i + 1)
abbrev pub one_more : ℕ → List ℕ → List ℕ
one_more i x = set x i (get_or x i 0 + 1)

abbrev pub one_less : ℕ → List ℕ → List ℕ
one_less i x = set x i (get_or x i 0 - 1)

-- an engine that holds the load x, with its sums
abbrev pub engine_with : System → List ℕ → EngineLoad
engine_with y x = record { time = time_of y.types x; memory = memory_of y.rule y.types x; counts = x }

abbrev pub idle_engine : EngineLoad
idle_engine = record { time = 0; memory = 0; counts = empty_load }

-- The plain words in which the demands are stated: n(t), the columns, a table long enough, the limits, what it is to partition instances among engines, and
-- the engines used.
-- Of the parts of a contract by which code is described none cites them; the promises beside those parts are made of them.
-- Of the words that such a part cites they go through `among` and `any_of` alone (a number is in a list, one of a list passes a test), which proofs/Lists pins,
-- so that code and statement cannot be wrong together; laws say that the code's words mean the same.
use Rattle.std.specs.Prelude.{ℕ, zero, suc, ◌+◌, ◌-◌, ◌*◌, ◌≤◌, ◌<◌, List, [], Bool, cond, ◌≡◌, ◌⊎◌, length, get_or, None, Some}
use Rattle.system.specs.declared.Cycle.{Cycle}
use Rattle.system.specs.declared.Costs.{Costs}
use Rattle.system.specs.declared.Kind.{Kind}
use Rattle.system.specs.declared.TaskType.{TaskType}
use Rattle.system.specs.declared.System.{System}
use Rattle.loads.specs.declared.EngineLoad.{EngineLoad}
use Rattle.partition.specs.Assignment.{Assignment, among, any_of}
use Rattle.partition.specs.Lent.{Lent}
use Rattle.partition.specs.OwnWords.{over_instances, time_on, memory_on, shared_memory_on, no_type, type_at, Definition1}

-- type t, counted from 1: its u, s, n, d, q, C and T, and its u and s on a second kind; all 0 and nothing given where there is no such type
abbrev pub type_no : System → ℕ → TaskType
type_no y t = type_at y (t - 1)

abbrev pub ceiling_no : System → ℕ → ℕ
ceiling_no y t = (type_no y t).ceiling

-- "the product of all n(t)+1, called the columns", written out: a system has six types, and n is 0 past k
abbrev pub columns_out : System → ℕ
columns_out y =
    (ceiling_no y 1 + 1) * ((ceiling_no y 2 + 1) * ((ceiling_no y 3 + 1) * ((ceiling_no y 4 + 1) * ((ceiling_no y 5 + 1) * (ceiling_no y 6 + 1)))))

-- a table that 11 passes has an entry for each column, in both parts (request 2026-10)
abbrev pub LongEnough : System → Lent → Type 0
LongEnough y table = (columns_out y ≤ length table.rows) × (columns_out y ≤ length table.predecessors)

-- "refusal 11 means either lent part shorter than the columns"
abbrev pub TooShort : System → Lent → Type 0
TooShort y table = (length table.rows < columns_out y) ⊎ (length table.predecessors < columns_out y)

-- Request 2026-14: C and T, of a type with this u on an engine with this U, are "1 to 65,535, C at most T", U is not 0, and u × T is not less than C × U
pub record PaceWithin (whole u : ℕ) (c : Cycle) : Type 0 where
  pub run : (1 ≤ c.run) × (c.run ≤ 65535)
  pub period : (1 ≤ c.period) × (c.period ≤ 65535)
  pub runs : c.run ≤ c.period
  pub some : 1 ≤ whole
  pub share : c.run * whole ≤ u * c.period

-- those of types 1 to k, where they are given
abbrev pub PacesWithin : System → Type 0
PacesWithin y = (t : ℕ) (c : Cycle) → 1 ≤ t → t ≤ y.typecount → (type_no y t).pace ≡ Some c → PaceWithin y.timecap (type_no y t).time c

-- the limits of document 01, number by number. That there are six types is what an array of the code always has
pub record LimitsOut (y : System) : Type 0 where
  pub engines : (1 ≤ y.engines) × (y.engines ≤ 16)
  pub rule : y.rule ≤ 1
  pub capacities : (y.timecap ≤ 1000000) × (y.memorycap ≤ 1000000)
  pub known : (1 ≤ y.typecount) × (y.typecount ≤ 6)
  pub six : length y.types ≡ 6
  pub costs : (t : ℕ) → 1 ≤ t → t ≤ y.typecount → ((type_no y t).time ≤ 1000000) × ((type_no y t).memory ≤ 1000000) × ((type_no y t).data ≤ 1000000)
  -- a q that is given is not 0 (request 2026-04)
  pub replicas : (t q : ℕ) → 1 ≤ t → t ≤ y.typecount → (type_no y t).most ≡ Some q → 1 ≤ q
  -- C and T that are given (request 2026-14)
  pub paces : PacesWithin y
  -- "an entry for .. a type past k (the system's own u, s and n too)" is 0, and so is its d, and it has no q, no C and no T
  pub past : (t : ℕ) → y.typecount < t → ((type_no y t).time ≡ 0) × ((type_no y t).memory ≡ 0) × ((type_no y t).ceiling ≡ 0) × ((type_no y t).data ≡ 0) × ((type_no y t).most ≡ None) × ((type_no y t).pace ≡ None)
  pub columns : columns_out y ≤ 4096
  -- one kind of engine, and of no type anything on a second (request 2026-13)
  pub one_kind : y.second ≡ None
  pub absent : (t : ℕ) → (type_no y t).there ≡ None

-- Request 2026-13, "Cards with two kinds of engine": the limits of a card, of one kind or of two

-- "at least 1, total still at most 16"
abbrev pub SecondWithin : System → Type 0
SecondWithin y = (k : Kind) → y.second ≡ Some k → (1 ≤ k.number) × (y.engines + k.number ≤ 16)

-- the second kind's U and S, and u and s of types 1 to k there, are at most 1,000,000
pub record SecondSizes (y : System) : Type 0 where
  pub capacities : (k : Kind) → y.second ≡ Some k → (k.timecap ≤ 1000000) × (k.memorycap ≤ 1000000)
  pub costs : (t : ℕ) (c : Costs) → 1 ≤ t → t ≤ y.typecount → (type_no y t).there ≡ Some c → (c.time ≤ 1000000) × (c.memory ≤ 1000000)

-- "Either all are present or none": without a second kind no type 1 to k has u and s there, with it each has
pub record AllOrNone (y : System) : Type 0 where
  pub none : y.second ≡ None → (t : ℕ) → 1 ≤ t → t ≤ y.typecount → (type_no y t).there ≡ None
  pub all : (k : Kind) → y.second ≡ Some k → (t : ℕ) → 1 ≤ t → t ≤ y.typecount → (c : Costs) × ((type_no y t).there ≡ Some c)

-- the limits of document 01 for such a card, number by number
pub record CardOut (y : System) : Type 0 where
  pub engines : (1 ≤ y.engines) × (y.engines ≤ 16)
  pub rule : y.rule ≤ 1
  pub capacities : (y.timecap ≤ 1000000) × (y.memorycap ≤ 1000000)
  pub known : (1 ≤ y.typecount) × (y.typecount ≤ 6)
  pub six : length y.types ≡ 6
  pub costs : (t : ℕ) → 1 ≤ t → t ≤ y.typecount → ((type_no y t).time ≤ 1000000) × ((type_no y t).memory ≤ 1000000) × ((type_no y t).data ≤ 1000000)
  pub replicas : (t q : ℕ) → 1 ≤ t → t ≤ y.typecount → (type_no y t).most ≡ Some q → 1 ≤ q
  pub paces : PacesWithin y
  pub past : (t : ℕ) → y.typecount < t → type_no y t ≡ no_type
  pub columns : columns_out y ≤ 4096
  pub second : SecondWithin y
  pub second_sizes : SecondSizes y
  pub kinds : AllOrNone y

-- "m identical engines, numbered 1 to m"
abbrev pub EngineOf : System → ℕ → Type 0
EngineOf y e = (1 ≤ e) × (e ≤ y.engines)

-- the places of the instances of type t, counted from 1
abbrev pub places_no : Assignment → ℕ → List ℕ
places_no χ t = get_or χ (t - 1) []

-- χ sends count(t) instances of each type t to the engines, and nothing else, and keeps source 001, Definition 1
pub record Partition (y : System) (E : ℕ → Type 0) (count : ℕ → ℕ) (χ : Assignment) : Type 0 where
  pub six : length χ ≡ 6
  pub all : (t : ℕ) → 1 ≤ t → length (places_no χ t) ≡ count t
  pub keeps : Definition1 y E χ

-- there is none
abbrev pub Impossible : System → (ℕ → Type 0) → (ℕ → ℕ) → Type 0
Impossible y E count = (χ : Assignment) → Partition y E count χ → ⊥

-- "An engine is used if it holds at least one instance": some instance of some type is sent to engine e
abbrev pub hosts : Assignment → ℕ → Bool
hosts χ e = any_of (λ (places : List ℕ). among places e) χ

-- how many of the engines 1 to m are used
unfoldable pub used_to : ℕ → Assignment → ℕ
used_to zero χ = 0
used_to (suc m) χ = used_to m χ + cond (hosts χ (suc m)) 1 0

-- an engine's record is what χ sends to engine e: of each type the number of its instances there, the sum of their u, and their memory under the system's rule
pub record RecordIs (y : System) (χ : Assignment) (e : ℕ) (l : EngineLoad) : Type 0 where
  pub counts : (t : ℕ) → 1 ≤ t → get_or l.counts (t - 1) 0 ≡ over_instances e 1 (places_no χ t)
  pub time : l.time ≡ time_on e y.types χ
  pub own_copies : y.rule ≡ 0 → l.memory ≡ memory_on e y.types χ
  pub shared_code : y.rule ≡ 1 → l.memory ≡ shared_memory_on e y.types χ

-- the record of engine e, counted from 1
abbrev pub record_no : List EngineLoad → ℕ → EngineLoad
record_no loads e = get_or loads (e - 1) (record { time = 0; memory = 0; counts = [] })

-- a record that holds nothing
pub record HoldsNothing (l : EngineLoad) : Type 0 where
  pub time : l.time ≡ 0
  pub memory : l.memory ≡ 0
  pub counts : (t : ℕ) → get_or l.counts (t - 1) 0 ≡ 0

-- the engines' records are a partition of count(t) instances of each type: each record what the mapping sends to its engine
pub record Stands (y : System) (E : ℕ → Type 0) (count : ℕ → ℕ) (loads : List EngineLoad) : Type 0 where
  pub mapping : Assignment
  pub partition : Partition y E count mapping
  pub records : (e : ℕ) → 1 ≤ e → e ≤ length loads → RecordIs y mapping e (record_no loads e)

-- such a partition on `used` engines, and on the fewest: every other one uses at least as many
pub record StandsOnFewest (y : System) (E : ℕ → Type 0) (count : ℕ → ℕ) (loads : List EngineLoad) (used : ℕ) : Type 0 where
  pub stands : Stands y E count loads
  pub uses : used_to y.engines stands.mapping ≡ used
  pub fewest : (χ : Assignment) → Partition y E count χ → used ≤ used_to y.engines χ

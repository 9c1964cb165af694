-- Request 2026-13 in plain words, "Cards with two kinds of engine": source 001's Definition 1 with the kind's own u, s, U and S, and what a plan of such a
-- card is.
-- As in `Plain`, of the parts of a contract by which code is described none cites them; the promises beside those parts are made of them.
use Rattle.std.specs.Prelude.{ℕ, zero, suc, ◌+◌, ◌-◌, ◌≤◌, ◌<◌, List, [], true, false, cond, ◌≡◌, length, get_or, Some, Option, None}
use Rattle.system.specs.declared.Costs.{Costs}
use Rattle.system.specs.declared.Kind.{Kind}
use Rattle.system.specs.declared.TaskType.{TaskType}
use Rattle.system.specs.declared.System.{System}
use Rattle.loads.specs.declared.EngineLoad.{EngineLoad}
use Rattle.partition.specs.Assignment.{Assignment, among}
use Rattle.partition.specs.OwnWords.{over_instances, sum_on, time_on, memory_on, shared_memory_on, data_on, type_at, place_of}
use Rattle.partition.specs.Plain.{places_no, hosts, used_to, record_no}

-- The engines: those of the second kind, k.number of them, "are numbered after the first kind"

abbrev pub FirstKind : System → ℕ → Type 0
FirstKind y e = (1 ≤ e) × (e ≤ y.engines)

abbrev pub SecondKind : System → Kind → ℕ → Type 0
SecondKind y k e = (y.engines < e) × (e ≤ y.engines + k.number)

abbrev pub EitherKind : System → Kind → ℕ → Type 0
EitherKind y k e = (1 ≤ e) × (e ≤ y.engines + k.number)

-- The costs on the second kind: "Tag 7 .. gives u and s there"

abbrev pub time_there : Option Costs → ℕ
time_there None = 0
time_there (Some c) = c.time

abbrev pub memory_there : Option Costs → ℕ
memory_there None = 0
memory_there (Some c) = c.memory

-- u there summed over all instances on engine e
abbrev pub time_there_on : ℕ → List TaskType → Assignment → ℕ
time_there_on e types χ = sum_on (λ (t : TaskType) (places : List ℕ). over_instances e (time_there t.there) places) types χ

-- s there and d summed over all instances on engine e
abbrev pub memory_there_on : ℕ → List TaskType → Assignment → ℕ
memory_there_on e types χ = sum_on (λ (t : TaskType) (places : List ℕ). over_instances e (memory_there t.there + t.data) places) types χ

-- s there summed over the distinct types of which some instance is on engine e, and d over the instances
abbrev pub code_there_on : ℕ → List TaskType → Assignment → ℕ
code_there_on e types χ = sum_on (λ (t : TaskType) (places : List ℕ). cond (among places e) (memory_there t.there) 0) types χ

abbrev pub shared_there_on : ℕ → List TaskType → Assignment → ℕ
shared_there_on e types χ = code_there_on e types χ + data_on e types χ

-- Source 001, Definition 1, "with the kind's u, s, U and S"; "d and q hold on both kinds"
pub record DefinitionKinds (y : System) (k : Kind) (χ : Assignment) : Type 0 where
  pub placed : (t j : ℕ) → t < length χ → j < length (get_or χ t []) → EitherKind y k (place_of χ t j)
  pub time : (e : ℕ) → FirstKind y e → time_on e y.types χ ≤ y.timecap
  pub time_second : (e : ℕ) → SecondKind y k e → time_there_on e y.types χ ≤ k.timecap
  pub own_copies : y.rule ≡ 0 → (e : ℕ) → FirstKind y e → memory_on e y.types χ ≤ y.memorycap
  pub own_copies_second : y.rule ≡ 0 → (e : ℕ) → SecondKind y k e → memory_there_on e y.types χ ≤ k.memorycap
  pub shared_code : y.rule ≡ 1 → (e : ℕ) → FirstKind y e → shared_memory_on e y.types χ ≤ y.memorycap
  pub shared_code_second : y.rule ≡ 1 → (e : ℕ) → SecondKind y k e → shared_there_on e y.types χ ≤ k.memorycap
  pub separate : (t q : ℕ) → (type_at y t).most ≡ Some q → (e : ℕ) → EitherKind y k e → over_instances e 1 (get_or χ t []) ≤ q

-- χ sends count(t) instances of each type t to the engines of both kinds, and nothing else, and keeps it
pub record MixedPartition (y : System) (k : Kind) (count : ℕ → ℕ) (χ : Assignment) : Type 0 where
  pub six : length χ ≡ 6
  pub all : (t : ℕ) → 1 ≤ t → length (places_no χ t) ≡ count t
  pub keeps : DefinitionKinds y k χ

-- "12 means no good assignment to the mixed engines"
abbrev pub MixedImpossible : System → Kind → (ℕ → ℕ) → Type 0
MixedImpossible y k count = (χ : Assignment) → MixedPartition y k count χ → ⊥

-- how many of the n engines after the first m are used
unfoldable pub used_after : ℕ → ℕ → Assignment → ℕ
used_after m zero χ = 0
used_after m (suc n) χ = used_after m n χ + cond (hosts χ (suc (m + n))) 1 0

-- the engines that χ uses: of both kinds together, and of the second
abbrev pub used_both : System → Kind → Assignment → ℕ
used_both y k χ = used_to y.engines χ + used_after y.engines k.number χ

abbrev pub used_there : System → Kind → Assignment → ℕ
used_there y k χ = used_after y.engines k.number χ

-- an engine's record is what χ sends to engine e, with time and memory by the engine's own kind
pub record MixedRecord (y : System) (k : Kind) (χ : Assignment) (e : ℕ) (l : EngineLoad) : Type 0 where
  pub counts : (t : ℕ) → 1 ≤ t → get_or l.counts (t - 1) 0 ≡ over_instances e 1 (places_no χ t)
  pub time : FirstKind y e → l.time ≡ time_on e y.types χ
  pub time_second : SecondKind y k e → l.time ≡ time_there_on e y.types χ
  pub own_copies : y.rule ≡ 0 → FirstKind y e → l.memory ≡ memory_on e y.types χ
  pub own_copies_second : y.rule ≡ 0 → SecondKind y k e → l.memory ≡ memory_there_on e y.types χ
  pub shared_code : y.rule ≡ 1 → FirstKind y e → l.memory ≡ shared_memory_on e y.types χ
  pub shared_code_second : y.rule ≡ 1 → SecondKind y k e → l.memory ≡ shared_there_on e y.types χ

-- the i-th of some numbers, counted from 1
abbrev pub number_no : List ℕ → ℕ → ℕ
number_no numbers i = get_or numbers (i - 1) 0

-- "a plan uses the fewest engines of both kinds together, and among those the fewest of the second kind": the first `used` records, with these numbers of
-- engines, are such a partition of count(t) instances of
-- each type; "the list's first records are the used engines, numbers rising". Which such plan it is is free, and nothing else
pub record MixedOnFewest (y : System) (k : Kind) (count : ℕ → ℕ) (numbers : List ℕ) (loads : List EngineLoad) (used : ℕ) : Type 0 where
  pub mapping : Assignment
  pub partition : MixedPartition y k count mapping
  pub uses : used_both y k mapping ≡ used
  pub engines : (i : ℕ) → 1 ≤ i → i ≤ used → EitherKind y k (number_no numbers i)
  pub rising : (i : ℕ) → 1 ≤ i → i < used → number_no numbers i < number_no numbers (suc i)
  pub hold_some : (i : ℕ) → 1 ≤ i → i ≤ used → hosts mapping (number_no numbers i) ≡ true
  pub none_else : (e : ℕ) → EitherKind y k e → ((i : ℕ) → 1 ≤ i → i ≤ used → number_no numbers i ≡ e → ⊥) → hosts mapping e ≡ false
  pub records : (i : ℕ) → 1 ≤ i → i ≤ used → MixedRecord y k mapping (number_no numbers i) (record_no loads i)
  pub fewest : (χ : Assignment) → MixedPartition y k count χ → used ≤ used_both y k χ
  pub fewest_second : (χ : Assignment) → MixedPartition y k count χ → used_both y k χ ≡ used → used_there y k mapping ≤ used_there y k χ

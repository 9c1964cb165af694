-- Source 001, Definition 1, in its own words: what a mapping of single instances to engines must keep, said of the instances themselves.
-- Nothing here goes through counts or loads, so that a wrong definition of these would be caught by the theorem that the two say the same.
use Rattle.std.specs.Prelude.{ℕ, ◌+◌, ◌≤◌, ◌<◌, List, [], ◌∷◌, cond, ◌≡◌, length, get_or, eqb, None, Some}
use Rattle.system.specs.declared.TaskType.{TaskType}
use Rattle.system.specs.declared.System.{System}
use Rattle.partition.specs.Assignment.{Assignment, among}

-- the number `each`, as u, s or d of a type, summed over the single instances of that type that are on engine e
unfoldable pub over_instances : ℕ → ℕ → List ℕ → ℕ
over_instances e each [] = 0
over_instances e each (place ∷ places) = cond (eqb place e) each 0 + over_instances e each places

-- what `each` says of a type and of the places of its instances, summed over the types
unfoldable pub sum_on : (TaskType → List ℕ → ℕ) → List TaskType → Assignment → ℕ
sum_on each [] χ = 0
sum_on each (t ∷ types) [] = 0
sum_on each (t ∷ types) (places ∷ χ) = each t places + sum_on each types χ

-- u summed over all instances on engine e
abbrev pub time_on : ℕ → List TaskType → Assignment → ℕ
time_on e types χ = sum_on (λ (t : TaskType) (places : List ℕ). over_instances e t.time places) types χ

-- s + d summed over all instances on engine e
abbrev pub memory_on : ℕ → List TaskType → Assignment → ℕ
memory_on e types χ = sum_on (λ (t : TaskType) (places : List ℕ). over_instances e (t.memory + t.data) places) types χ

-- s summed over the distinct types of which some instance is on engine e
abbrev pub code_on : ℕ → List TaskType → Assignment → ℕ
code_on e types χ = sum_on (λ (t : TaskType) (places : List ℕ). cond (among places e) t.memory 0) types χ

-- d summed over all instances on engine e
abbrev pub data_on : ℕ → List TaskType → Assignment → ℕ
data_on e types χ = sum_on (λ (t : TaskType) (places : List ℕ). over_instances e t.data places) types χ

-- s over the distinct types, and d over the instances
abbrev pub shared_memory_on : ℕ → List TaskType → Assignment → ℕ
shared_memory_on e types χ = code_on e types χ + data_on e types χ

-- type t of the system, from 0; where there is none, a type of nothing
abbrev pub no_type : TaskType
no_type = record { time = 0; memory = 0; ceiling = 0; «data» = 0; most = None; pace = None; there = None }

abbrev pub type_at : System → ℕ → TaskType
type_at y t = get_or y.types t no_type

-- the engine of instance j of type t, both from 0
abbrev pub place_of : Assignment → ℕ → ℕ → ℕ
place_of χ t j = get_or (get_or χ t []) j 0

-- `E e` says that e is one of the engines
pub record Definition1 (y : System) (E : ℕ → Type 0) (χ : Assignment) : Type 0 where
  -- each instance is on one of the engines
  pub placed : (t j : ℕ) → t < length χ → j < length (get_or χ t []) → E (place_of χ t j)
  -- on each engine the u of the instances sent there sum to at most U
  pub time : (e : ℕ) → E e → time_on e y.types χ ≤ y.timecap
  -- rule 0, own copies: the s + d of the instances sent there sum to at most S
  pub own_copies : y.rule ≡ 0 → (e : ℕ) → E e → memory_on e y.types χ ≤ y.memorycap
  -- rule 1, shared code: the s of the distinct types among them and the d of the instances sum to at most S
  pub shared_code : y.rule ≡ 1 → (e : ℕ) → E e → shared_memory_on e y.types χ ≤ y.memorycap
  -- replicas (request 2026-04): where q is given for type t, at most q of its instances are sent there, each counting 1
  pub separate : (t q : ℕ) → (type_at y t).most ≡ Some q → (e : ℕ) → E e → over_instances e 1 (get_or χ t []) ≤ q

-- the same of one engine e alone (request 2026-13: on a card with two kinds of engine each keeps the numbers of its own kind)
pub record KeepsOn (y : System) (e : ℕ) (χ : Assignment) : Type 0 where
  pub time : time_on e y.types χ ≤ y.timecap
  pub own_copies : y.rule ≡ 0 → memory_on e y.types χ ≤ y.memorycap
  pub shared_code : y.rule ≡ 1 → shared_memory_on e y.types χ ≤ y.memorycap
  pub separate : (t q : ℕ) → (type_at y t).most ≡ Some q → over_instances e 1 (get_or χ t []) ≤ q

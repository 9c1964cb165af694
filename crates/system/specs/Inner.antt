-- What contracts of the code's parts cite and document 01 does not speak of.
use Rattle.std.specs.Prelude.{ℕ, ◌+◌, ◌-◌, ◌≤◌, ◌<◌, min, List, [], map, cond, ◌&&◌, ◌≡◌, length, take, drop, leb}
use Rattle.system.specs.declared.TaskType.{TaskType}
use Rattle.system.specs.declared.System.{System}
use Rattle.system.specs.declared.FieldRule.{FieldRule}
use Rattle.system.specs.Limits.{type_limit, column_limit, columns_of}
use Rattle.system.specs.Rules.{type_rule, second_rule}

-- the columns of some types where they are within the limit, and one more than the limit where not: what the code holds of the product
abbrev pub columns_within : List TaskType → ℕ
columns_within ts = min (columns_of (map (λ (t : TaskType). t.ceiling) ts)) (column_limit + 1)

-- the part of a file between two places, the empty one where the file has none
abbrev pub part_of : List ℕ → ℕ → ℕ → List ℕ
part_of file start end = cond (leb start end && leb end (length file)) (take (end - start) (drop start file)) []

-- the system has a last type, at one of its six places
pub record Typed (y : System) : Type 0 where
  pub some : 0 < y.typecount
  pub most : y.typecount ≤ type_limit

-- a tag that stands at or after a type: neither the file's start, nor the platform's, nor the second kind's
abbrev pub PastTypes : ℕ → Type 0
PastTypes tag = (1 < tag) × (tag ≡ second_rule.tag → ⊥)

-- what is known of a field's rule where its body is read: it allows no more than six, and what belongs to a type comes where there is one
pub record BodyReady (rule : FieldRule) (y : System) : Type 0 where
  pub allowed : rule.allowed ≤ type_limit
  pub typed : type_rule.tag < rule.tag → (rule.tag ≡ second_rule.tag → ⊥) → Typed y

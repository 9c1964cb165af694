-- The bytes of a system's file: document 01's "System file", from the system to the bytes. Tag and length of each field are those of the reader's own table
-- of field rules.
use Rattle.std.specs.Prelude.{ℕ, List, [], ◌∷◌, ◌++◌, cond, take, eqb, Option, None, Some}
use Rattle.system.specs.declared.FieldRule.{FieldRule}
use Rattle.system.specs.declared.Kind.{Kind}
use Rattle.system.specs.declared.Costs.{Costs}
use Rattle.system.specs.declared.Cycle.{Cycle}
use Rattle.buffer.specs.Bytes.{bytes2, bytes4}
use Rattle.system.specs.declared.TaskType.{TaskType}
use Rattle.system.specs.declared.System.{System}
use Rattle.system.specs.Rules.{platform_rule, type_rule, data_rule, most_rule, pace_rule, second_rule, costs_rule, field_rules, ruled_size}
unfoldable use Rattle.system.specs.Rules.{rule_of}

-- "tag (1 byte), body length (2 bytes)", as the table's rule has them; nothing for a tag that it does not have
abbrev pub head_bytes : Option FieldRule → List ℕ
head_bytes (Some r) = r.tag ∷ bytes2 r.body
head_bytes None = []

-- all bytes of such a field: its head and the body that the rule wants
abbrev pub found_size : Option FieldRule → ℕ
found_size (Some r) = ruled_size r
found_size None = 0

-- a field of this tag: its head, then its body
unfoldable pub field_bytes : ℕ → List ℕ → List ℕ
field_bytes tag body = head_bytes (rule_of field_rules tag) ++ body

-- a platform: m (1), rule (1), U (4), S (4)
abbrev pub platform_bytes : System → List ℕ
platform_bytes y = field_bytes platform_rule.tag (y.engines ∷ y.rule ∷ (bytes4 y.timecap ++ bytes4 y.memorycap))

-- d (4): "The writer omits d = 0" (request 2026-03)
abbrev pub data_bytes : ℕ → List ℕ
data_bytes d = cond (eqb d 0) [] (field_bytes data_rule.tag (bytes4 d))

-- q (2): "The writer emits q only where it was given" (request 2026-04)
abbrev pub most_bytes : Option ℕ → List ℕ
most_bytes None = []
most_bytes (Some q) = field_bytes most_rule.tag (bytes2 q)

-- C (4), T (4): "the writer emits it where given" (request 2026-14)
abbrev pub pace_bytes : Option Cycle → List ℕ
pace_bytes None = []
pace_bytes (Some c) = field_bytes pace_rule.tag (bytes4 c.run ++ bytes4 c.period)

-- "the writer emits tags 6 and 7 where given" (request 2026-13): the second kind's number (1), U (4), S (4), and a type's u (4), s (4) there
abbrev pub second_bytes : Option Kind → List ℕ
second_bytes None = []
second_bytes (Some k) = field_bytes second_rule.tag (k.number ∷ (bytes4 k.timecap ++ bytes4 k.memorycap))

abbrev pub costs_bytes : Option Costs → List ℕ
costs_bytes None = []
costs_bytes (Some c) = field_bytes costs_rule.tag (bytes4 c.time ++ bytes4 c.memory)

-- a type: u (4), s (4), n (2); then its d, its q, its C and T, and its u and s on the second kind
abbrev pub type_bytes : TaskType → List ℕ
type_bytes t =
    field_bytes type_rule.tag (bytes4 t.time ++ (bytes4 t.memory ++ bytes2 t.ceiling)) ++ (data_bytes t.data ++ (most_bytes t.most ++ (pace_bytes t.pace ++ costs_bytes t.there)))

-- the fields of some types, one after another
unfoldable pub types_bytes : List TaskType → List ℕ
types_bytes [] = []
types_bytes (t ∷ ts) = type_bytes t ++ types_bytes ts

-- the file: the platform, any second kind, then types 1 to k. What stands past k is not written
unfoldable pub file_of : System → List ℕ
file_of y = platform_bytes y ++ (second_bytes y.second ++ types_bytes (take y.typecount y.types))

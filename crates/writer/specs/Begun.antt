-- Every file of which each field keeps its limits is read to its end, where it is refused 9, 41 or 10 or opens; and it is, field by field, a beginning in the
-- sense of system/specs/Fields, whichever zero tags 3
-- it has. So what is said there of the next field and of the file's end is said of every such file, after each of its fields.
use Rattle.std.specs.Prelude.{ℕ, suc, ◌≤◌, ◌<◌, List, [], ◌∷◌, ◌++◌, Bool, ◌≡◌, length, Some}
use Rattle.system.specs.declared.Kind.{Kind}
use Rattle.system.specs.declared.TaskType.{TaskType}
use Rattle.system.specs.declared.System.{System}
use Rattle.system.specs.Layout.{opened, unread, read_card}
use Rattle.system.specs.Fields.{WholeFields, AtEnd, Begun}
use Rattle.partition.specs.Plain.{type_no, PacesWithin, AllOrNone}
use Rattle.writer.specs.Meaning.{two_out, four_out, platform_out, second_out, types_out, file_with}
use Rattle.writer.specs.Meaning.{EnginesWithin, SizesWithin, ReplicasWithin, columns_to, SameToK}

-- every limit that is judged in a field: m, the rule, U, S, u, s, d, q, C and T, and those of a second kind. There may be no type at all, u and s on a second
-- kind may be missing, and the
-- columns may be any number: that is judged at the file's end
pub record FieldsWithin (y : System) : Type 0 where
  pub six : length y.types ≡ 6
  pub count : y.typecount ≤ 6
  pub engines : EnginesWithin y
  pub rule : y.rule ≤ 1
  pub sizes : SizesWithin y
  pub replicas : ReplicasWithin y
  pub paces : PacesWithin y

-- "At the end 9, 10", and 41 "after 9" (request 2026-13): what the file of such a system reads as that `told` tells, and no field of it is refused
pub record JudgedAtEnd (told : ℕ → Bool) (y : System) : Type 0 where
  pub no_type : y.typecount ≡ 0 → read_card (file_with told y) ≡ unread 9
  pub kinds_apart : 1 ≤ y.typecount → (AllOrNone y → ⊥) → read_card (file_with told y) ≡ unread 41
  pub many_columns : 1 ≤ y.typecount → AllOrNone y → 4096 < columns_to y y.typecount → read_card (file_with told y) ≡ unread 10
  pub opens : 1 ≤ y.typecount → AllOrNone y → columns_to y y.typecount ≤ 4096 → (z : System) × (read_card (file_with told y) ≡ opened z) × SameToK y z

-- a file up to the last field of type t, counted from 1; of t 0, up to its first type
abbrev pub up_to_type : (ℕ → Bool) → System → ℕ → List ℕ
up_to_type told y t = platform_out y ++ (second_out y.second ++ types_out told y t)

-- the field of a type's u, s and n alone, without its d, its q, its C and T, and its u and s on the second kind
abbrev pub own_out : TaskType → List ℕ
own_out t = 2 ∷ 0 ∷ 10 ∷ (four_out t.time ++ (four_out t.memory ++ two_out t.ceiling))

-- of the file of y that `told` tells: it is read to its end, it is whole fields, and whatever whole fields it starts with are a beginning, so that 1 or 2
-- bytes after them are refused 1, whatever
-- they are. So it is one after the platform, after any second kind, after u, s and n of each type, and after all that a type has
pub record FieldByField (told : ℕ → Bool) (y : System) : Type 0 where
  pub ends : AtEnd (read_card (file_with told y))
  pub whole : (last : ℕ) × (WholeFields (file_with told y) last)
  pub each : (p rest : List ℕ) (last : ℕ) → WholeFields p last → p ++ rest ≡ file_with told y → Begun p last
  pub one_byte : (p rest : List ℕ) (last a : ℕ) → WholeFields p last → p ++ rest ≡ file_with told y → read_card (p ++ a ∷ []) ≡ unread 1
  pub two_bytes_lem : (p rest : List ℕ) (last a b : ℕ) → WholeFields p last → p ++ rest ≡ file_with told y → read_card (p ++ a ∷ b ∷ []) ≡ unread 1
  pub platform : Begun (platform_out y) 1
  pub second : (k : Kind) → y.second ≡ Some k → Begun (platform_out y ++ second_out y.second) 6
  pub own : (t : ℕ) → t < y.typecount → Begun (up_to_type told y t ++ own_out (type_no y (suc t))) 2
  pub types : (t : ℕ) → t ≤ y.typecount → (last : ℕ) × (Begun (up_to_type told y t) last)

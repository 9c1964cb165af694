-- Document 01's "System file": what a list of bytes reads as, with refusals 1 to 10, 31, 41 and 43 in the order under "From the input", and 42 where one kind
-- of engine is wanted.
use Rattle.std.specs.Prelude.{ℕ, zero, suc, ◌+◌, ◌*◌, List, [], ◌∷◌, Bool, not, cond, ◌||◌, ◌≡◌, length, get_or, take, drop, leb, eqb, Some, Option, None, Result, Ok, Err}
use Rattle.system.specs.declared.TaskType.{TaskType}
use Rattle.system.specs.declared.System.{System}
use Rattle.system.specs.declared.FieldRule.{FieldRule}
use Rattle.system.specs.declared.Cursor.{Cursor}
use Rattle.system.specs.declared.Field.{Field}
use Rattle.system.specs.declared.Opened.{Opened}
use Rattle.system.specs.declared.Refusal.{Refusal}
use Rattle.system.specs.declared.Refusal.TheVariants.{Input}
use Rattle.system.specs.Values.{task_of, with_data, with_most, with_pace, with_costs, blank, with_platform, with_second, with_type, last_type, with_last}
use Rattle.system.specs.Limits.{platform_fault, kind_fault, type_fault, most_fault, pace_fault, costs_fault, or_else, kinds_fault, columns_fault, is_one_kind}
use Rattle.system.specs.Outcome.{Outcome, accepted, refused, from_input, outcome_of}
pub use Rattle.system.specs.Rules.{platform_rule, type_rule, data_rule, most_rule, pace_rule, second_rule, costs_rule}
pub use Rattle.system.specs.Rules.{field_rules, follows, may_follow, head_size, longest_field, longest_file}
unfoldable pub use Rattle.system.specs.Rules.{rule_of}

-- what a file, or a part of one, reads as: a system, or the number of a refusal from the input
pub data Reading : Type 0 where
  opened : System → Reading
  unread : ℕ → Reading

-- unsigned, most significant byte first
abbrev pub byte_at : List ℕ → ℕ → ℕ
byte_at s i = get_or s i 0

abbrev pub word2 : List ℕ → ℕ → ℕ
word2 s i = byte_at s i * 256 + byte_at s (i + 1)

abbrev pub word4 : List ℕ → ℕ → ℕ
word4 s i = word2 s i * 65536 + word2 s (i + 2)

-- "Fields follow each other: tag (1 byte), body length (2 bytes), body": all bytes of the field at the start of s
abbrev pub field_size : List ℕ → ℕ
field_size s = head_size + word2 s 1

-- its tag and length stand there, and all of it does
abbrev pub headed_field : List ℕ → Bool
headed_field s = leb head_size (length s)

abbrev pub whole_field : List ℕ → Bool
whole_field s = leb (field_size s) (length s)

-- its body: a part of the file, the empty one where no whole field stands
abbrev pub body_part : List ℕ → List ℕ
body_part s = cond (whole_field s) (take (word2 s 1) (drop head_size s)) []

-- the field step at a place of a file: the body lies from `start` to `next`
unfoldable pub field_at : List ℕ → ℕ → Field
field_at file at =
    record {
      tag = byte_at (drop at file) 0;
      size = word2 (drop at file) 1;
      headed = headed_field (drop at file);
      whole = whole_field (drop at file);
      start = cond (whole_field (drop at file)) (at + head_size) at;
      next = record { at = cond (whole_field (drop at file)) (at + field_size (drop at file)) at };
    }

-- the same in four answers: the field's tag, its length, its body, and the place after it
abbrev pub tag_at : List ℕ → ℕ → ℕ
tag_at file at = byte_at (drop at file) 0

abbrev pub length_at : List ℕ → ℕ → ℕ
length_at file at = word2 (drop at file) 1

abbrev pub body_at : List ℕ → ℕ → List ℕ
body_at file at = body_part (drop at file)

abbrev pub next_at : List ℕ → ℕ → Cursor
next_at file at = record { at = cond (whole_field (drop at file)) (at + field_size (drop at file)) at }

-- the tag of a type, of its d, its q, and its C and T, that of a second kind of engine, and that of a type's u and s there
abbrev pub is_type : ℕ → Bool
is_type tag = eqb tag type_rule.tag

abbrev pub is_data : ℕ → Bool
is_data tag = eqb tag data_rule.tag

abbrev pub is_most : ℕ → Bool
is_most tag = eqb tag most_rule.tag

abbrev pub is_pace : ℕ → Bool
is_pace tag = eqb tag pace_rule.tag

abbrev pub is_second : ℕ → Bool
is_second tag = eqb tag second_rule.tag

abbrev pub is_costs : ℕ → Bool
is_costs tag = eqb tag costs_rule.tag

-- how many fields of this tag were read before, where 7 is said of it: of a type. Any other field comes only where it may follow, a platform and a second kind
-- once, all others once for each type; that its rule allows just as many is `HowMany` (Fields)
abbrev pub seen_of : ℕ → System → ℕ
seen_of tag y = cond (is_type tag) y.typecount 0

-- the system, unless a limit is broken
abbrev pub unless_fault : ℕ → System → Reading
unless_fault n y = cond (eqb n 0) (opened y) (unread n)

-- a platform with these numbers: 5, 6, 8
unfoldable pub platform_from : ℕ → ℕ → ℕ → ℕ → System → Reading
platform_from m rule u s y = unless_fault (platform_fault m rule u s) (with_platform m rule u s y)

-- its body: m (1), rule (1), U (4), S (4)
abbrev pub platform_of : List ℕ → System → Reading
platform_of b y = platform_from (byte_at b 0) (byte_at b 1) (word4 b 2) (word4 b 6) y

-- one type more: 8
unfoldable pub type_from : TaskType → System → Reading
type_from t y = unless_fault (type_fault t) (with_type t y)

-- its body: u (4), s (4), n (2)
abbrev pub type_of : List ℕ → System → Reading
type_of b y = type_from (task_of (word4 b 0) (word4 b 4) (word2 b 8)) y

-- d of the last type, judged as a part of it: 8, by d alone, since its u and s passed before
unfoldable pub data_from : ℕ → System → Reading
data_from d y = unless_fault (type_fault (with_data d (last_type y))) (with_last (with_data d (last_type y)) y)

-- its body: d (4)
abbrev pub data_of : List ℕ → System → Reading
data_of b y = data_from (word4 b 0) y

-- q of the last type: 31
unfoldable pub most_from : ℕ → System → Reading
most_from q y = unless_fault (most_fault (Some q)) (with_last (with_most q (last_type y)) y)

-- its body: q (2)
abbrev pub most_of : List ℕ → System → Reading
most_of b y = most_from (word2 b 0) y

-- C and T of the last type, by its u and the platform's U: 43
unfoldable pub pace_from : ℕ → ℕ → System → Reading
pace_from c p y = unless_fault (pace_fault y.timecap (last_type y).time (Some (record { run = c; period = p }))) (with_last (with_pace c p (last_type y)) y)

-- its body: C (4), T (4)
abbrev pub pace_of : List ℕ → System → Reading
pace_of b y = pace_from (word4 b 0) (word4 b 4) y

-- a second kind of engine with these numbers: 5, 8
unfoldable pub second_from : ℕ → ℕ → ℕ → System → Reading
second_from n u s y = unless_fault (kind_fault y.engines n u s) (with_second n u s y)

-- its body: its number (1), U (4), S (4)
abbrev pub second_of : List ℕ → System → Reading
second_of b y = second_from (byte_at b 0) (word4 b 1) (word4 b 5) y

-- u and s of the last type there: 8
unfoldable pub costs_from : ℕ → ℕ → System → Reading
costs_from u s y = unless_fault (costs_fault (Some (record { time = u; memory = s }))) (with_last (with_costs u s (last_type y)) y)

-- its body: u (4), s (4)
abbrev pub costs_of : List ℕ → System → Reading
costs_of b y = costs_from (word4 b 0) (word4 b 4) y

-- "in one field: start cut (1), 2, 3, 4, body cut (1), 7, then 5, 6, 8", 31 "after 8" (request 2026-04), and 43 "after 31" (2026-14). First the head: its tag
-- and length, whether they stand there, and whether the body does
unfoldable pub ruled_head : Option FieldRule → ℕ → Bool → ℕ → Result FieldRule ℕ
ruled_head None size whole last = Err 2
ruled_head (Some r) size whole last =
    cond (not (may_follow follows last r.tag)) (Err 3)
    (cond (not (eqb size r.body)) (Err 4)
    (cond (not whole) (Err 1)
    (Ok r)))

abbrev pub head_from : Bool → ℕ → ℕ → Bool → ℕ → Result FieldRule ℕ
head_from headed tag size whole last = cond (not headed) (Err 1) (ruled_head (rule_of field_rules tag) size whole last)

unfoldable pub head_of : List ℕ → ℕ → Result FieldRule ℕ
head_of s last = head_from (headed_field s) (byte_at s 0) (word2 s 1) (whole_field s) last

-- then the body b: 7, and what its tag says of it
unfoldable pub body_of : FieldRule → List ℕ → System → Reading
body_of r b y =
    cond (leb r.allowed (seen_of r.tag y)) (unread 7)
    (cond (is_type r.tag) (type_of b y)
    (cond (is_data r.tag) (data_of b y)
    (cond (is_most r.tag) (most_of b y)
    (cond (is_pace r.tag) (pace_of b y)
    (cond (is_second r.tag) (second_of b y)
    (cond (is_costs r.tag) (costs_of b y)
    (platform_of b y)))))))

unfoldable pub ruled_field : Result FieldRule ℕ → List ℕ → System → Reading
ruled_field (Err n) b y = unread n
ruled_field (Ok r) b y = body_of r b y

-- both, of the field at the start of s
unfoldable pub field_of : List ℕ → ℕ → System → Reading
field_of s last y = ruled_field (head_of s last) (body_part s) y

-- "At the end 9, 10", and 41 "after 9" (request 2026-13)
unfoldable pub end_of : ℕ → System → Reading
end_of last y = cond (eqb last 0 || eqb y.typecount 0) (unread 9) (unless_fault (or_else (kinds_fault y) (columns_fault y.types)) y)

-- a refused field ends the reading; after any other one it goes on with the system so far
abbrev pub after_field : Reading → (System → Reading) → Reading
after_field (unread n) rest = unread n
after_field (opened y) rest = rest y

-- "Fields are judged in file order"; a whole field has at least 3 bytes, so as many steps as bytes are enough
unfoldable pub fields_from : ℕ → List ℕ → ℕ → System → Reading
fields_from zero s last y = end_of last y
fields_from (suc f) [] last y = end_of last y
fields_from (suc f) (b ∷ s) last y =
    after_field (field_of (b ∷ s) last y) (λ (next : System). fields_from f (drop (field_size (b ∷ s)) (b ∷ s)) b next)

-- what a file reads as, of one kind of engine or two
unfoldable pub read_card : List ℕ → Reading
read_card file = fields_from (length file) file 0 blank

-- request 2026-13: "42, when one of those four is wanted of such a file, directly after 10"
unfoldable pub of_one_kind : Reading → Reading
of_one_kind (opened y) = cond (is_one_kind y.second) (opened y) (unread 42)
of_one_kind (unread n) = unread n

-- what a file reads as where one kind of engine is wanted
unfoldable pub read_file : List ℕ → Reading
read_file file = of_one_kind (read_card file)

-- the answer and the system that a reading stands for: the blank system where the file is refused
abbrev pub read_outcome : Reading → Outcome
read_outcome (opened y) = accepted []
read_outcome (unread n) = refused from_input n

abbrev pub read_system : Reading → System
read_system (opened y) = y
read_system (unread n) = blank

-- a reading as the reader's parts answer it
abbrev pub read_result : Reading → Result System Refusal
read_result (opened y) = Ok y
read_result (unread n) = Err (Input n)

-- what the reader promises of its whole result
pub record Reads (x : Reading) (r : Opened) : Type 0 where
  pub answer : outcome_of r.answer ≡ read_outcome x
  pub system : r.system ≡ read_system x

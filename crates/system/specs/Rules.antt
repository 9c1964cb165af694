-- Document 01's table of fields, and which field may follow which. The code has the same tables; a later tag is one more row in each.
use Rattle.std.specs.Prelude.{ℕ, ◌+◌, ◌*◌, max, List, [], ◌∷◌, Bool, true, false, cond, ◌&&◌, eqb, Option, Some, None}
use Rattle.system.specs.declared.FieldRule.{FieldRule}
use Rattle.system.specs.declared.Follow.{Follow}
use Rattle.system.specs.Numbers.{type_limit}

-- tag, body length, how many: refusals 2, 4 and 7 are decided from it, and `HowMany` (Fields) says what each number is
abbrev pub platform_rule : FieldRule
platform_rule = record { tag = 1; body = 10; allowed = 1 }

abbrev pub type_rule : FieldRule
type_rule = record { tag = 2; body = 10; allowed = type_limit }

-- d, the data memory of one instance of the type before it (request 2026-03)
abbrev pub data_rule : FieldRule
data_rule = record { tag = 3; body = 4; allowed = type_limit }

-- q, the most instances of that type on one engine (request 2026-04)
abbrev pub most_rule : FieldRule
most_rule = record { tag = 4; body = 2; allowed = type_limit }

-- C and T, the run time and the period of an instance of that type (request 2026-14)
abbrev pub pace_rule : FieldRule
pace_rule = record { tag = 5; body = 8; allowed = type_limit }

-- the second kind's number, U and S; and u and s of the type before it there (request 2026-13)
abbrev pub second_rule : FieldRule
second_rule = record { tag = 6; body = 9; allowed = 1 }

abbrev pub costs_rule : FieldRule
costs_rule = record { tag = 7; body = 8; allowed = type_limit }

abbrev pub field_rules : List FieldRule
field_rules = platform_rule ∷ type_rule ∷ data_rule ∷ most_rule ∷ pace_rule ∷ second_rule ∷ costs_rule ∷ []

-- a tag, and that of the field before it, 0 at the file's start: refusal 3 is decided from it alone. A platform is first, types come after it,
-- d "follows its type directly, at most once" (request 2026-03), and q comes "after the type and any tag 3, at most one" (2026-04).
-- Request 2026-13: tag 6 stands "directly after the platform", and tag 7 "once, last after each type". Request 2026-14: tag 5 stands "after any tag 4, at most
-- one"
abbrev pub follows : List Follow
follows =
    record { tag = 1; last = 0 }
    ∷ record { tag = 2; last = 1 }
    ∷ record { tag = 2; last = 2 }
    ∷ record { tag = 3; last = 2 }
    ∷ record { tag = 2; last = 3 }
    ∷ record { tag = 4; last = 2 }
    ∷ record { tag = 4; last = 3 }
    ∷ record { tag = 2; last = 4 }
    ∷ record { tag = 5; last = 2 }
    ∷ record { tag = 5; last = 3 }
    ∷ record { tag = 5; last = 4 }
    ∷ record { tag = 2; last = 5 }
    ∷ record { tag = 6; last = 1 }
    ∷ record { tag = 2; last = 6 }
    ∷ record { tag = 7; last = 2 }
    ∷ record { tag = 7; last = 3 }
    ∷ record { tag = 7; last = 4 }
    ∷ record { tag = 7; last = 5 }
    ∷ record { tag = 2; last = 7 }
    ∷ []

-- what the first row that passes a test gives
abbrev pub first_of : {A B : Type 0} → (A → Bool) → (A → B) → B → List A → B
first_of hit out none [] = none
first_of hit out none (r ∷ rs) = cond (hit r) (out r) (first_of hit out none rs)

-- the rule of a tag
unfoldable pub rule_of : List FieldRule → ℕ → Option FieldRule
rule_of rules tag = first_of (λ (r : FieldRule). eqb r.tag tag) Some None rules

-- whether a field of this tag may come after one of tag `last`
abbrev pub may_follow : List Follow → ℕ → ℕ → Bool
may_follow rows last tag = first_of (λ (r : Follow). eqb r.tag tag && eqb r.last last) (λ (r : Follow). true) false rows

-- the bytes before a body, and those of a whole field of a rule
abbrev pub head_size : ℕ
head_size = 3

abbrev pub ruled_size : FieldRule → ℕ
ruled_size r = head_size + r.body

-- of the longest one, 13; and of all fields that the rules allow, 13 + 6 × 13 + 6 × 7 + 6 × 5 + 6 × 11 + 12 + 6 × 11 = 307: no longer file opens
abbrev pub longest_of : List FieldRule → ℕ
longest_of [] = 0
longest_of (r ∷ rs) = max (ruled_size r) (longest_of rs)

abbrev pub allowed_bytes : List FieldRule → ℕ
allowed_bytes [] = 0
allowed_bytes (r ∷ rs) = r.allowed * ruled_size r + allowed_bytes rs

abbrev pub longest_field : ℕ
longest_field = longest_of field_rules

abbrev pub longest_file : ℕ
longest_file = allowed_bytes field_rules

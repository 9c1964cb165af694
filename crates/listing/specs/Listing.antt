-- Document 01's "Listing": the bytes that program `plan` writes, over the plan's definition.
use Rattle.std.specs.Prelude.{ℕ, zero, suc, ◌+◌, ◌/◌, ◌%◌, List, [], ◌∷◌, ◌++◌, map, cond, take, ltb}
use Rattle.system.specs.Limits.{engine_limit}
use Rattle.system.specs.Layout.{read_card}
use Rattle.system.specs.Card.{Card, card_of}
use Rattle.system.specs.Outcome.{Outcome, accepted, refused, outcome_of}
use Rattle.partition.specs.Lent.{Lent}
use Rattle.planner.specs.declared.EngineRecord.{EngineRecord}
use Rattle.planner.specs.declared.Plan.{Plan}
use Rattle.planner.specs.Plan.{Verdict, plan_outcome, used_engines, planned_types, plan_loads, records_of, records_with}
use Rattle.planner.specs.Mixed.{card_outcome, card_used, card_types, card_records}

-- the words of a listing, as bytes
abbrev pub engines_word : List ℕ
engines_word = 101 ∷ 110 ∷ 103 ∷ 105 ∷ 110 ∷ 101 ∷ 115 ∷ []

abbrev pub engine_word : List ℕ
engine_word = 101 ∷ 110 ∷ 103 ∷ 105 ∷ 110 ∷ 101 ∷ []

abbrev pub util_word : List ℕ
util_word = 117 ∷ 116 ∷ 105 ∷ 108 ∷ []

abbrev pub mem_word : List ℕ
mem_word = 109 ∷ 101 ∷ 109 ∷ []

abbrev pub types_word : List ℕ
types_word = 116 ∷ 121 ∷ 112 ∷ 101 ∷ 115 ∷ []

abbrev pub refused_word : List ℕ
refused_word = 114 ∷ 101 ∷ 102 ∷ 117 ∷ 115 ∷ 101 ∷ 100 ∷ []

abbrev pub space : ℕ
space = 32

abbrev pub line_end : ℕ
line_end = 10

-- the digit d as a byte: 48 is `0`
abbrev pub digit : ℕ → ℕ
digit d = 48 + d

-- a number in decimal, with no zero in front. Each step takes a digit off, so as many steps as the number itself are enough
unfoldable pub decimal_from : ℕ → ℕ → List ℕ
decimal_from zero n = digit n ∷ []
decimal_from (suc f) n =
    let before = decimal_from f (n / 10) in
    cond (ltb n 10) (digit n ∷ []) (before ++ (digit (n % 10) ∷ []))

abbrev pub decimal : ℕ → List ℕ
decimal n = decimal_from n n

-- what follows a line's first word: each further word or number after one space
unfoldable pub parted : List (List ℕ) → List ℕ
parted [] = []
parted (w ∷ ws) = space ∷ (w ++ parted ws)

-- "Words and numbers are parted by one space, and every line ends with the byte 0A"
abbrev pub line : List ℕ → List (List ℕ) → List ℕ
line first rest = first ++ (parted rest ++ (line_end ∷ []))

-- the line of an engine: "its number, time, memory and a count per type"
unfoldable pub engine_line : ℕ → ℕ → ℕ → List ℕ → List ℕ
engine_line number time memory counts =
    line engine_word (decimal number ∷ util_word ∷ decimal time ∷ mem_word ∷ decimal memory ∷ types_word ∷ map decimal counts)

-- of a record, with the counts of the first k types
abbrev pub record_line : ℕ → EngineRecord → List ℕ
record_line k e = engine_line e.number e.load.time e.load.memory (take k e.load.counts)

unfoldable pub record_lines : ℕ → List EngineRecord → List ℕ
record_lines k [] = []
record_lines k (e ∷ es) = record_line k e ++ record_lines k es

-- "First the used engines, then for each its number, ..": their records come first
abbrev pub plan_lines : ℕ → ℕ → List EngineRecord → List ℕ
plan_lines used k records = line engines_word (decimal used ∷ []) ++ record_lines k (take used records)

-- "A refusal is one line, as `refused 12`"
abbrev pub refusal_line : ℕ → List ℕ
refusal_line n = line refused_word (decimal n ∷ [])

unfoldable pub listing_of : Outcome → ℕ → ℕ → List EngineRecord → List ℕ
listing_of (accepted ns) used k records = plan_lines used k records
listing_of (refused s n) used k records = refusal_line n

-- the listing of a plan
abbrev pub plan_listing : Plan → List ℕ
plan_listing p = listing_of (outcome_of p.answer) p.used p.typecount (records_with p.numbers p.loads)

-- the listing of a verdict on a system file of one kind of engine
abbrev pub verdict_listing : Verdict → List ℕ
verdict_listing v = listing_of (plan_outcome v) (used_engines v) (planned_types v) (records_of (plan_loads v))

-- of any card
abbrev pub card_listing : Card → Lent → ℕ → List ℕ
card_listing c table room = listing_of (card_outcome c table room) (card_used c table room) (card_types c table room) (card_records c table room)

-- the listing of a file, planned over the lent table
abbrev pub file_listing : List ℕ → Lent → List ℕ
file_listing file table = card_listing (card_of (read_card file)) table engine_limit

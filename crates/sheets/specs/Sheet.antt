-- The bytes of a sheet: request 2026-06, from the loads of the engines 1, 2, .. to the bytes, and from any bytes to such loads. Tags and lengths are those of
-- the sheet's own table of rules.
use Rattle.std.specs.Prelude.{ℕ, zero, suc, ◌+◌, ◌*◌, List, [], ◌∷◌, ◌++◌, Bool, cond, ◌&&◌, get_or, take, drop, leb, ltb, eqb}
use Rattle.buffer.specs.Bytes.{bytes2, bytes4}
use Rattle.system.specs.Limits.{engine_limit, type_limit}
use Rattle.system.specs.Rules.{head_size}
use Rattle.system.specs.Layout.{byte_at, word2, word4}
use Rattle.loads.specs.declared.EngineLoad.{EngineLoad}
use Rattle.loads.specs.Load.{holds_none, idle_engine}
use Rattle.partition.specs.Shares.{used_loads}
use Rattle.table.specs.Parts.{up_to}
use Rattle.board.specs.Boards.{counts_of}
use Rattle.sheets.specs.declared.SheetRule.{SheetRule}
use Rattle.sheets.specs.declared.Taken.{Taken}

-- The table of a sheet's fields: tag, bytes of the body, and bytes more for each type

-- "tag 16, length 2 (used engines, k, one byte each)"
abbrev pub header_rule : SheetRule
header_rule = record { tag = 16; body = 2; each = 0 }

-- "tag 17, length 9 + 2k"
abbrev pub record_rule : SheetRule
record_rule = record { tag = 17; body = 9; each = 2 }

abbrev pub sheet_rules : List SheetRule
sheet_rules = header_rule ∷ record_rule ∷ []

abbrev pub rule_at : ℕ → SheetRule
rule_at row = get_or sheet_rules row header_rule

-- the bytes of a body, and of a whole field, where there are k types
abbrev pub body_size : SheetRule → ℕ → ℕ
body_size r k = r.body + r.each * k

abbrev pub field_size : SheetRule → ℕ → ℕ
field_size r k = head_size + body_size r k

-- tag and length
abbrev pub head_bytes : SheetRule → ℕ → List ℕ
head_bytes r k = r.tag ∷ bytes2 (body_size r k)

-- From the loads to the bytes

-- "counts (2 each)"
unfoldable pub counts_bytes : List ℕ → List ℕ
counts_bytes [] = []
counts_bytes (x ∷ xs) = bytes2 x ++ counts_bytes xs

-- the record of engine e: "number (1), time (4), memory (4), counts (2 each)"
unfoldable pub record_bytes : ℕ → ℕ → EngineLoad → List ℕ
record_bytes k e l = head_bytes record_rule k ++ (e ∷ (bytes4 l.time ++ (bytes4 l.memory ++ counts_bytes (take k l.counts))))

-- only an engine that holds an instance has one
abbrev pub engine_bytes : ℕ → ℕ → EngineLoad → List ℕ
engine_bytes k e l = cond (holds_none l.counts) [] (record_bytes k e l)

-- the records of engines e, e + 1, ..
unfoldable pub records_bytes : ℕ → ℕ → List EngineLoad → List ℕ
records_bytes k e [] = []
records_bytes k e (l ∷ ls) = engine_bytes k e l ++ records_bytes k (suc e) ls

-- how many of the engines hold an instance
abbrev pub used_in : List EngineLoad → ℕ
used_in loads = used_loads (counts_of loads)

-- the sheet of engines 1, 2, .. where there are k types
unfoldable pub sheet_bytes : ℕ → List EngineLoad → List ℕ
sheet_bytes k loads = head_bytes header_rule k ++ (used_in loads ∷ k ∷ records_bytes k 1 loads)

-- the room that is asked for an engine, and for the sheet
abbrev pub engine_size : ℕ → EngineLoad → ℕ
engine_size k l = cond (holds_none l.counts) 0 (field_size record_rule k)

abbrev pub sheet_size : ℕ → List EngineLoad → ℕ
sheet_size k loads = field_size header_rule k + used_in loads * field_size record_rule k

-- From any bytes to loads. Nothing is judged here, and past the end every byte is 0: whether the bytes are those of the loads is asked afterwards

-- the count of the type at index t in a record at the start of s: it stands where a record of t types would end. 0 past k
abbrev pub stated_count : ℕ → List ℕ → ℕ → ℕ
stated_count k s t = cond (ltb t k) (word2 s (field_size record_rule t)) 0

abbrev pub stated_counts : ℕ → List ℕ → List ℕ
stated_counts k s = up_to (stated_count k s) type_limit

-- what such a record states: its time stands after the head and the number, then its memory
abbrev pub stated_load : ℕ → List ℕ → EngineLoad
stated_load k s = record { time = word4 s 4; memory = word4 s 8; counts = stated_counts k s }

-- the record at the start of s is that of engine e, one of 1 to m
abbrev pub is_next : ℕ → List ℕ → ℕ → Bool
is_next m s e = eqb (byte_at s head_size) e && leb e m

-- what stands at a place for engine e of m: its record, and the next one after it; or nothing, and the place is the same
unfoldable pub taken_at : ℕ → ℕ → List ℕ → ℕ → ℕ → Taken
taken_at m k sheet at e =
    cond (is_next m (drop at sheet) e)
    (record { load = stated_load k (drop at sheet); next = at + field_size record_rule k })
    (record { load = idle_engine; next = at })

-- the loads of engines e, e + 1, .., as many as n, where the next record starts at `at`
unfoldable pub loads_from : ℕ → ℕ → List ℕ → ℕ → ℕ → ℕ → List EngineLoad
loads_from m k sheet at e zero = []
loads_from m k sheet at e (suc n) =
    let taken = taken_at m k sheet at e in
    taken.load ∷ loads_from m k sheet taken.next (suc e) n

-- what the sheet states of each engine
unfoldable pub loads_in : ℕ → ℕ → List ℕ → List EngineLoad
loads_in m k sheet = loads_from m k sheet (field_size header_rule k) 1 engine_limit

-- Document 01's "Cases": W1 to W12 as a table, what the definitions give in each against what 01 writes there.
use Rattle.std.specs.Prelude.{ℕ, ◌+◌, ◌*◌, List, [], ◌∷◌, ◌++◌, map, Bool, cond, ◌≡◌, get_or, take, replicate}
use Rattle.system.specs.declared.System.{System}
use Rattle.system.specs.Limits.{columns}
use Rattle.system.specs.Layout.{read_file, read_system}
use Rattle.system.specs.Outcome.{Outcome, accepted, refused, from_input, from_state}
use Rattle.loads.specs.declared.EngineLoad.{EngineLoad}
use Rattle.partition.specs.Assignment.{numbers_from}
use Rattle.partition.specs.Cell.{says_yes}
use Rattle.partition.specs.ForSystem.{cell_for}
use Rattle.partition.specs.Lent.{Lent}
use Rattle.table.specs.Table.{filled_to}
use Rattle.table.specs.Document01.{filled01}
use Rattle.planner.specs.Plan.{Verdict, verdict_of, plan_outcome, plan_loads}
use Rattle.board.specs.Boards.{opened_board}
use Rattle.ledger.specs.Ledger.{Call, admit, seat, retire, fresh_ledger, ledger_after, ledger_answers}
use Rattle.ledger.specs.Demand3.{Request, board_after, answers_of, played}

-- The files

-- a platform field with m, rule, U and S, and a type field with u, s and n, each number below 256
abbrev pub platform : ℕ → ℕ → ℕ → ℕ → List ℕ
platform m rule u s = 1 ∷ 0 ∷ 10 ∷ m ∷ rule ∷ 0 ∷ 0 ∷ 0 ∷ u ∷ 0 ∷ 0 ∷ 0 ∷ s ∷ []

abbrev pub task_type : ℕ → ℕ → ℕ → List ℕ
task_type u s n = 2 ∷ 0 ∷ 10 ∷ 0 ∷ 0 ∷ 0 ∷ u ∷ 0 ∷ 0 ∷ 0 ∷ s ∷ 0 ∷ n ∷ []

-- the file under "Listing", byte by byte
abbrev pub listing_file : List ℕ
listing_file =
    0x01 ∷ 0x00 ∷ 0x0A ∷ 0x03 ∷ 0x00 ∷ 0x00 ∷ 0x00 ∷ 0x00 ∷ 0x0A ∷ 0x00 ∷ 0x00 ∷ 0x00 ∷ 0x08
    ∷ 0x02 ∷ 0x00 ∷ 0x0A ∷ 0x00 ∷ 0x00 ∷ 0x00 ∷ 0x04 ∷ 0x00 ∷ 0x00 ∷ 0x00 ∷ 0x03 ∷ 0x00 ∷ 0x03
    ∷ 0x02 ∷ 0x00 ∷ 0x0A ∷ 0x00 ∷ 0x00 ∷ 0x00 ∷ 0x03 ∷ 0x00 ∷ 0x00 ∷ 0x00 ∷ 0x02 ∷ 0x00 ∷ 0x02 ∷ []

-- "System A is the file above", with m, n(1) and n(2); "System B: U 10, S 8, one type u 2, s 5, n 4", with m and rule; the system of W8
abbrev pub file_a : ℕ → ℕ → ℕ → List ℕ
file_a m n1 n2 = platform m 0 10 8 ++ task_type 4 3 n1 ++ task_type 3 2 n2

abbrev pub file_b : ℕ → ℕ → List ℕ
file_b m rule = platform m rule 10 8 ++ task_type 2 5 4

abbrev pub file_zero : List ℕ
file_zero = platform 1 0 0 0 ++ task_type 0 0 1

abbrev pub system_of : List ℕ → System
system_of file = read_system (read_file file)

abbrev pub system_a : System
system_a = system_of (file_a 3 3 2)

-- a table long enough for every system here, not cleared: none has more than 15 columns
abbrev pub lent : Lent
lent = record { rows = replicate 16 7; predecessors = replicate 16 8 }

-- What the definitions give

-- the columns at which a row says yes
unfoldable pub yes_of : (ℕ → Bool) → List ℕ → List ℕ
yes_of p [] = []
yes_of p (c ∷ cs) = cond (p c) (c ∷ yes_of p cs) (yes_of p cs)

abbrev pub yes_columns : System → ℕ → List ℕ
yes_columns y i = yes_of (λ (c : ℕ). says_yes (cell_for y i c)) (numbers_from 0 (columns y))

-- the entry of row i, column c in document 01's own table, filled
abbrev pub entry_at : System → ℕ → ℕ → ℕ
entry_at y i c = get_or (filled01 y y.engines (replicate 64 7)) (i * columns y + c) 0

-- what the lent parts keep of it (request 2026-10): column c's lowest yes row and the predecessor there
abbrev pub kept_at : System → ℕ → List ℕ
kept_at y c = get_or (filled_to y y.engines lent).rows c 0 ∷ get_or (filled_to y y.engines lent).predecessors c 0 ∷ []

-- engine by engine: time, memory and the counts of types 1 and 2
abbrev pub line_of : EngineLoad → List ℕ
line_of l = l.time ∷ l.memory ∷ take 2 l.counts

abbrev pub plan : List ℕ → Verdict
plan file = verdict_of (read_file file) lent 16

abbrev pub plan_answer : List ℕ → Outcome
plan_answer file = plan_outcome (plan file)

abbrev pub plan_lines : ℕ → List ℕ → List (List ℕ)
plan_lines engines file = map line_of (take engines (plan_loads (plan file)))

-- the calls, each lent the table, on the fresh board of a file
abbrev pub requests : List Call → List Request
requests calls = map (λ (c : Call). record { call = c; table = lent }) calls

abbrev pub answers : List ℕ → List Call → List Outcome
answers file calls = answers_of (played (opened_board (read_file file)) (requests calls))

abbrev pub board_lines : ℕ → List ℕ → List Call → List (List ℕ)
board_lines engines file calls = map line_of (take engines (board_after (opened_board (read_file file)) (played (opened_board (read_file file)) (requests calls))).loads)

-- and in the ledger
abbrev pub entered : List ℕ → List Call → List Outcome
entered file calls = ledger_answers (fresh_ledger (system_of file)) calls

abbrev pub counted : List ℕ → List Call → List (List ℕ)
counted file calls = map (take 2) (ledger_after (fresh_ledger (system_of file)) calls).counts

-- The table of cases

pub data Value : Type 0 where
  number : ℕ → Value
  numbers : List ℕ → Value
  lines : List (List ℕ) → Value
  outcome : Outcome → Value
  outcomes : List Outcome → Value

-- the number of the case, what the definitions give, and what 01 writes
pub record Case : Type 0 where
  pub w : ℕ
  pub found : Value
  pub expected : Value

abbrev pub case : ℕ → Value → Value → Case
case w found expected = record { w = w; found = found; expected = expected }

-- an accepted call without a number, an admit to engine e
abbrev pub done : Outcome
done = accepted []

abbrev pub on : ℕ → Outcome
on e = accepted (e ∷ [])

abbrev pub calls_w9 : List Call
calls_w9 = admit 1 ∷ admit 1 ∷ admit 1 ∷ admit 2 ∷ admit 2 ∷ retire 1 1 ∷ retire 2 2 ∷ admit 2 ∷ admit 1 ∷ []

abbrev pub calls_w11 : List Call
calls_w11 = admit 1 ∷ admit 1 ∷ admit 1 ∷ admit 1 ∷ []

abbrev pub answers_w9 : List Outcome
answers_w9 = on 1 ∷ on 1 ∷ on 2 ∷ on 2 ∷ on 2 ∷ done ∷ done ∷ on 1 ∷ refused from_state 23 ∷ []

abbrev pub answers_w11 : List Outcome
answers_w11 = on 1 ∷ on 2 ∷ on 3 ∷ refused from_state 24 ∷ []

abbrev pub after_w9 : List Call
after_w9 = calls_w9 ++ (seat 1 ∷ [])

abbrev pub after_w11 : List Call
after_w11 = calls_w11 ++ (retire 1 2 ∷ admit 1 ∷ [])

unfoldable pub cases : List Case
cases =
    case 1 (numbers (file_a 3 3 2)) (numbers listing_file)
    ∷ case 1 (numbers (yes_columns system_a 1)) (numbers (0 ∷ 1 ∷ 2 ∷ 4 ∷ 5 ∷ 8 ∷ 9 ∷ []))
    ∷ case 2 (number (cell_for system_a 2 11)) (number 2)
    ∷ case 2 (number (entry_at system_a 2 11)) (number 2)
    ∷ case 2 (numbers (kept_at system_a 11)) (numbers (2 ∷ 2 ∷ []))
    ∷ case 3 (outcome (plan_answer (file_a 3 3 2))) (outcome (on 2))
    ∷ case 3 (lines (plan_lines 3 (file_a 3 3 2))) (lines ((8 ∷ 6 ∷ 2 ∷ 0 ∷ []) ∷ (10 ∷ 7 ∷ 1 ∷ 2 ∷ []) ∷ (0 ∷ 0 ∷ 0 ∷ 0 ∷ []) ∷ []))
    ∷ case 4 (outcome (plan_answer (file_b 4 0))) (outcome (on 4))
    ∷ case 5 (outcome (plan_answer (file_b 4 1))) (outcome (on 1))
    ∷ case 5 (lines (plan_lines 1 (file_b 4 1))) (lines ((8 ∷ 5 ∷ 4 ∷ 0 ∷ []) ∷ []))
    ∷ case 6 (outcome (plan_answer (file_b 3 0))) (outcome (refused from_input 12))
    ∷ case 7 (outcome (plan_answer (file_a 3 0 0))) (outcome (on 0))
    ∷ case 8 (outcome (plan_answer file_zero)) (outcome (on 1))
    ∷ case 9 (outcomes (answers (file_a 2 3 2) calls_w9)) (outcomes answers_w9)
    ∷ case 9 (outcomes (entered (file_a 2 3 2) calls_w9)) (outcomes answers_w9)
    ∷ case 10 (outcomes (answers (file_a 2 3 2) after_w9)) (outcomes (answers_w9 ++ (done ∷ [])))
    ∷ case 10 (outcomes (entered (file_a 2 3 2) after_w9)) (outcomes (answers_w9 ++ (done ∷ [])))
    ∷ case 10 (lines (board_lines 2 (file_a 2 3 2) after_w9)) (lines ((8 ∷ 6 ∷ 2 ∷ 0 ∷ []) ∷ (10 ∷ 7 ∷ 1 ∷ 2 ∷ []) ∷ []))
    ∷ case 10 (lines (counted (file_a 2 3 2) after_w9)) (lines ((2 ∷ 0 ∷ []) ∷ (1 ∷ 2 ∷ []) ∷ []))
    ∷ case 11 (outcomes (answers (file_b 3 0) calls_w11)) (outcomes answers_w11)
    ∷ case 11 (outcomes (entered (file_b 3 0) calls_w11)) (outcomes answers_w11)
    ∷ case 12 (outcomes (answers (file_b 3 0) after_w11)) (outcomes (answers_w11 ++ (done ∷ on 2 ∷ [])))
    ∷ case 12 (outcomes (entered (file_b 3 0) after_w11)) (outcomes (answers_w11 ++ (done ∷ on 2 ∷ [])))
    ∷ []

-- every case gives what 01 writes
abbrev pub AllHold : List Case → Type 0
AllHold cs = map (λ (c : Case). c.found) cs ≡ map (λ (c : Case). c.expected) cs

-- Worked examples of our own beside W1 to W12: a recovery with three different loads, what a cell holds that says no, systems with d, systems with q, the
-- pairs that a fill tries, engines out of service, and what the two lent parts hold.
use Rattle.std.specs.Prelude.{ℕ, List, [], ◌∷◌, ◌++◌, map, take, replicate}
use Rattle.system.specs.Layout.{read_file}
use Rattle.system.specs.Outcome.{Outcome, refused, from_input, from_state}
use Rattle.loads.specs.declared.EngineLoad.{EngineLoad}
use Rattle.partition.specs.Lent.{Lent}
use Rattle.table.specs.Table.{filled_to}
use Rattle.table.specs.Pairs.{tried_at, counted_of}
use Rattle.planner.specs.Plan.{verdict_of, plan_outcome, plan_loads}
use Rattle.board.specs.Boards.{opened_board}
use Rattle.ledger.specs.Ledger.{Call, admit, seat, retire, repack, withdraw, restore, fresh_ledger, ledger_after}
use Rattle.ledger.specs.Demand3.{Made, board_after, answers_of, played}
use Rattle.cases.specs.Cases.{platform, task_type, file_a, file_b, system_of, system_a, lent, entry_at, plan_answer, plan_lines, answers, board_lines, entered, counted, Case, case, number, numbers, lines, outcome, outcomes, done, on}

-- system C: m 4, rule 0, U 10, S 9, and three types, each with n 2: u 5, s 2; u 2, s 3; u 4, s 4
abbrev pub file_c : List ℕ
file_c = platform 4 0 10 9 ++ task_type 5 2 2 ++ task_type 2 3 2 ++ task_type 4 4 2

-- long enough: there are 27 columns
abbrev pub lent_c : Lent
lent_c = record { rows = replicate 27 7; predecessors = replicate 27 8 }

-- engine by engine: time, memory and the counts of types 1 to 3
abbrev pub line_of_c : EngineLoad → List ℕ
line_of_c l = l.time ∷ l.memory ∷ take 3 l.counts

abbrev pub made_c : List Call → List Made
made_c calls = played (opened_board (read_file file_c)) (map (λ (c : Call). record { call = c; table = lent_c }) calls)

abbrev pub lines_c : List Call → List (List ℕ)
lines_c calls = map line_of_c (take 4 (board_after (opened_board (read_file file_c)) (made_c calls)).loads)

abbrev pub counted_c : List Call → List (List ℕ)
counted_c calls = map (take 3) (ledger_after (fresh_ledger (system_of file_c)) calls).counts

-- all but the last of type 3, in turn
abbrev pub five_c : List Call
five_c = admit 1 ∷ admit 2 ∷ admit 3 ∷ admit 1 ∷ admit 2 ∷ []

-- what first-fit comes to, and what the recovery is: engine 1 gets what is left last, engine 4 nothing
abbrev pub fitted : List (List ℕ)
fitted = (9 ∷ 8 ∷ 1 ∷ 2 ∷ 0 ∷ []) ∷ (9 ∷ 6 ∷ 1 ∷ 0 ∷ 1 ∷ []) ∷ (4 ∷ 4 ∷ 0 ∷ 0 ∷ 1 ∷ []) ∷ (0 ∷ 0 ∷ 0 ∷ 0 ∷ 0 ∷ []) ∷ []

abbrev pub recovered_c : List (List ℕ)
recovered_c = (5 ∷ 2 ∷ 1 ∷ 0 ∷ 0 ∷ []) ∷ (9 ∷ 8 ∷ 1 ∷ 2 ∷ 0 ∷ []) ∷ (8 ∷ 8 ∷ 0 ∷ 0 ∷ 2 ∷ []) ∷ (0 ∷ 0 ∷ 0 ∷ 0 ∷ 0 ∷ []) ∷ []

-- engine 2 is withdrawn, and then the same calls: its rows go to engines 1, 3 and 4
abbrev pub without_two : List Call
without_two = withdraw 2 ∷ five_c ++ (seat 3 ∷ [])

abbrev pub passed_over : List (List ℕ)
passed_over = (5 ∷ 2 ∷ 1 ∷ 0 ∷ 0 ∷ []) ∷ (0 ∷ 0 ∷ 0 ∷ 0 ∷ 0 ∷ []) ∷ (9 ∷ 8 ∷ 1 ∷ 2 ∷ 0 ∷ []) ∷ (8 ∷ 8 ∷ 0 ∷ 0 ∷ 2 ∷ []) ∷ []

-- system B, rule 0, m 3: an engine holds one. Engine 2 is withdrawn, two are admitted, and there is no room for a third until engine 2 is put back
abbrev pub calls_b : List Call
calls_b = withdraw 2 ∷ admit 1 ∷ admit 1 ∷ admit 1 ∷ seat 1 ∷ withdraw 2 ∷ withdraw 1 ∷ restore 3 ∷ restore 4 ∷ restore 2 ∷ admit 1 ∷ []

abbrev pub answers_b : List Outcome
answers_b =
    done ∷ on 1 ∷ on 3 ∷ refused from_state 24 ∷ refused from_state 24
    ∷ refused from_state 36 ∷ refused from_state 35 ∷ refused from_state 36 ∷ refused from_input 14 ∷ done ∷ on 2 ∷ []

-- system B of document 01, m 4, with the field of d after its type, d below 256: U 10, S 8, u 2, s 5, n 4
abbrev pub file_d : ℕ → ℕ → List ℕ
file_d rule d = file_b 4 rule ++ (3 ∷ 0 ∷ 4 ∷ 0 ∷ 0 ∷ 0 ∷ d ∷ [])

-- rule 1, d 1: an engine holds c of it while 5 + c ≤ 8, so three. The fourth goes to engine 2; then one leaves engine 1, and the only one engine 2
abbrev pub calls_d : List Call
calls_d = admit 1 ∷ admit 1 ∷ admit 1 ∷ admit 1 ∷ retire 1 1 ∷ []

abbrev pub after_d : List Call
after_d = calls_d ++ (retire 1 2 ∷ [])

-- a firewall, u 2, s 1, n 2, with what comes after its type, and another type, u 4, s 1, with n: rule 0, U 9, S 8
abbrev pub file_f : ℕ → List ℕ → ℕ → List ℕ
file_f m after n = platform m 0 9 8 ++ task_type 2 1 2 ++ after ++ task_type 4 1 n

-- no q; and the field of q, q below 256
abbrev pub no_q : List ℕ
no_q = []

abbrev pub with_q : ℕ → List ℕ
with_q q = 4 ∷ 0 ∷ 2 ∷ 0 ∷ q ∷ []

-- two of the other type are on engine 2 and none on engine 1; then both firewalls
abbrev pub calls_f : List Call
calls_f = admit 2 ∷ admit 2 ∷ admit 2 ∷ admit 2 ∷ retire 2 1 ∷ retire 2 1 ∷ admit 1 ∷ admit 1 ∷ []

abbrev pub answers_f : Outcome → List Outcome
answers_f last = on 1 ∷ on 1 ∷ on 2 ∷ on 2 ∷ done ∷ done ∷ on 1 ∷ last ∷ []

-- both parts, one after the other, filled for r engines in service
abbrev pub parts_of : List ℕ → ℕ → List (List ℕ)
parts_of file r = (filled_to (system_of file) r lent).rows ∷ (filled_to (system_of file) r lent).predecessors ∷ []

-- those of system A, m 3: its 12 columns, and what stood past them
abbrev pub parts_a : List (List ℕ)
parts_a =
    (0 ∷ 1 ∷ 1 ∷ 2 ∷ 1 ∷ 1 ∷ 2 ∷ 2 ∷ 1 ∷ 1 ∷ 2 ∷ 2 ∷ 7 ∷ 7 ∷ 7 ∷ 7 ∷ [])
    ∷ (65535 ∷ 0 ∷ 0 ∷ 1 ∷ 0 ∷ 0 ∷ 1 ∷ 2 ∷ 0 ∷ 0 ∷ 1 ∷ 2 ∷ 8 ∷ 8 ∷ 8 ∷ 8 ∷ []) ∷ []

unfoldable pub ours : List Case
ours =
    case 1 (outcome (plan_outcome (verdict_of (read_file file_c) lent_c 4))) (outcome (on 3))
    ∷ case 1 (lines (map line_of_c (take 4 (plan_loads (verdict_of (read_file file_c) lent_c 4))))) (lines recovered_c)
    ∷ case 2 (outcomes (answers_of (made_c (five_c ++ (admit 3 ∷ repack ∷ []))))) (outcomes (on 1 ∷ on 1 ∷ on 2 ∷ on 2 ∷ on 1 ∷ on 3 ∷ done ∷ []))
    ∷ case 2 (lines (lines_c (five_c ++ (admit 3 ∷ [])))) (lines fitted)
    ∷ case 2 (lines (lines_c (five_c ++ (admit 3 ∷ repack ∷ [])))) (lines recovered_c)
    ∷ case 3 (lines (lines_c (five_c ++ (seat 3 ∷ [])))) (lines recovered_c)
    ∷ case 3 (lines (counted_c (five_c ++ (seat 3 ∷ [])))) (lines ((1 ∷ 0 ∷ 0 ∷ []) ∷ (1 ∷ 2 ∷ 0 ∷ []) ∷ (0 ∷ 0 ∷ 2 ∷ []) ∷ (0 ∷ 0 ∷ 0 ∷ []) ∷ []))
    -- W1 again: row 1 of system A does not say yes at column 3
    ∷ case 4 (number (entry_at system_a 1 3)) (number 65535)
    -- rule 1, d 1: two engines, as 5 + 4 passes 8. The lowest predecessor leaves three to engine 2
    ∷ case 5 (outcome (plan_answer (file_d 1 1))) (outcome (on 2))
    ∷ case 5 (lines (plan_lines 3 (file_d 1 1))) (lines ((2 ∷ 6 ∷ 1 ∷ 0 ∷ []) ∷ (6 ∷ 8 ∷ 3 ∷ 0 ∷ []) ∷ (0 ∷ 0 ∷ 0 ∷ 0 ∷ []) ∷ []))
    -- a retire frees d, 8 to 7, and s with the last of its type, 6 to 0
    ∷ case 6 (outcomes (answers (file_d 1 1) calls_d)) (outcomes (on 1 ∷ on 1 ∷ on 1 ∷ on 2 ∷ done ∷ []))
    ∷ case 6 (lines (board_lines 2 (file_d 1 1) calls_d)) (lines ((4 ∷ 7 ∷ 2 ∷ 0 ∷ []) ∷ (2 ∷ 6 ∷ 1 ∷ 0 ∷ []) ∷ []))
    ∷ case 6 (lines (board_lines 2 (file_d 1 1) after_d)) (lines ((4 ∷ 7 ∷ 2 ∷ 0 ∷ []) ∷ (0 ∷ 0 ∷ 0 ∷ 0 ∷ []) ∷ []))
    -- rule 0, d 3: one for each engine, with 5 + 3 of memory; d 4: none, as 5 + 4 passes 8
    ∷ case 7 (lines (plan_lines 4 (file_d 0 3))) (lines (replicate 4 (2 ∷ 8 ∷ 1 ∷ 0 ∷ [])))
    ∷ case 8 (outcome (plan_answer (file_d 0 4))) (outcome (refused from_input 12))
    -- two firewalls: one engine does without q, or with q 2; with q 1 it takes two, and of one engine there is no plan
    ∷ case 9 (outcome (plan_answer (file_f 2 no_q 0))) (outcome (on 1))
    ∷ case 9 (outcome (plan_answer (file_f 1 (with_q 2) 0))) (outcome (on 1))
    ∷ case 9 (outcome (plan_answer (file_f 2 (with_q 1) 0))) (outcome (on 2))
    ∷ case 9 (lines (plan_lines 2 (file_f 2 (with_q 1) 0))) (lines (replicate 2 (2 ∷ 1 ∷ 1 ∷ 0 ∷ [])))
    ∷ case 9 (outcome (plan_answer (file_f 1 (with_q 1) 0))) (outcome (refused from_input 12))
    -- on a board: q is of one engine, so that the second goes to engine 2; of one engine there is no room
    ∷ case 10 (outcomes (answers (file_f 2 (with_q 1) 0) (admit 1 ∷ admit 1 ∷ []))) (outcomes (on 1 ∷ on 2 ∷ []))
    ∷ case 10 (outcomes (answers (file_f 1 (with_q 1) 0) (admit 1 ∷ admit 1 ∷ []))) (outcomes (on 1 ∷ refused from_state 24 ∷ []))
    ∷ case 10 (outcomes (entered (file_f 1 (with_q 1) 0) (admit 1 ∷ admit 1 ∷ []))) (outcomes (on 1 ∷ refused from_state 24 ∷ []))
    -- engine 1 would take the second firewall without q; with it there is room only when the others move
    ∷ case 11 (outcomes (answers (file_f 2 no_q 4) calls_f)) (outcomes (answers_f (on 1)))
    ∷ case 11 (outcomes (answers (file_f 2 (with_q 1) 4) calls_f)) (outcomes (answers_f (refused from_state 23)))
    ∷ case 11 (outcomes (entered (file_f 2 (with_q 1) 4) calls_f)) (outcomes (answers_f (refused from_state 23)))
    ∷ case 11 (lines (board_lines 2 (file_f 2 (with_q 1) 4) (calls_f ++ (seat 1 ∷ [])))) (lines (replicate 2 (6 ∷ 2 ∷ 1 ∷ 1 ∷ [])))
    ∷ case 11 (lines (counted (file_f 2 (with_q 1) 4) (calls_f ++ (seat 1 ∷ [])))) (lines (replicate 2 (1 ∷ 1 ∷ [])))
    -- engines out of service (request 2026-07), on the board and in the ledger: a recovery and an admit pass over them, there is no room on those left, and
    -- 36, 35, 14
    ∷ case 14 (outcomes (answers_of (made_c without_two))) (outcomes (done ∷ on 1 ∷ on 1 ∷ on 3 ∷ on 3 ∷ on 1 ∷ done ∷ []))
    ∷ case 14 (lines (lines_c without_two)) (lines passed_over)
    ∷ case 14 (lines (counted_c without_two)) (lines ((1 ∷ 0 ∷ 0 ∷ []) ∷ (0 ∷ 0 ∷ 0 ∷ []) ∷ (1 ∷ 2 ∷ 0 ∷ []) ∷ (0 ∷ 0 ∷ 2 ∷ []) ∷ []))
    ∷ case 15 (outcomes (answers (file_b 3 0) calls_b)) (outcomes answers_b)
    ∷ case 15 (outcomes (entered (file_b 3 0) calls_b)) (outcomes answers_b)
    -- none in service: no room for anyone, and a repack of nothing
    ∷ case 16 (outcomes (answers (file_f 1 no_q 0) (withdraw 1 ∷ admit 1 ∷ seat 1 ∷ repack ∷ []))) (outcomes (done ∷ refused from_state 24 ∷ refused from_state 24 ∷ done ∷ []))
    ∷ case 16 (outcomes (entered (file_f 1 no_q 0) (withdraw 1 ∷ admit 1 ∷ seat 1 ∷ repack ∷ []))) (outcomes (done ∷ refused from_state 24 ∷ refused from_state 24 ∷ done ∷ []))
    -- two releases on one card (request 2026-09), as plans: the sum is met, and the larger is met
    ∷ case 17 (outcomes (plan_answer (file_a 3 2 0) ∷ plan_answer (file_a 3 1 2) ∷ plan_answer (file_a 3 3 2) ∷ [])) (outcomes (on 1 ∷ on 1 ∷ on 2 ∷ []))
    ∷ case 17 (outcomes (plan_answer (file_a 3 2 1) ∷ plan_answer (file_a 3 0 1) ∷ plan_answer (file_a 3 2 2) ∷ [])) (outcomes (on 2 ∷ on 1 ∷ on 2 ∷ []))
    -- the same file under rule 0 and under rule 1: without data, with a d of 1, with a d of 3
    ∷ case 18 (outcomes (plan_answer (file_d 0 0) ∷ plan_answer (file_d 1 0) ∷ [])) (outcomes (on 4 ∷ on 1 ∷ []))
    ∷ case 18 (outcomes (plan_answer (file_d 0 1) ∷ plan_answer (file_d 1 1) ∷ [])) (outcomes (on 4 ∷ on 2 ∷ []))
    ∷ case 18 (outcomes (plan_answer (file_d 0 3) ∷ plan_answer (file_d 1 3) ∷ [])) (outcomes (on 4 ∷ on 4 ∷ []))
    ∷ []

-- and two tables of their own, since one theorem may compute only so much: the pairs that a fill tries
unfoldable pub our_pairs : List Case
our_pairs =
    -- pairs tried (requests 2026-05 and 2026-10). W2 again: row 2 of system A accepts column 2 for column 11, which has every column under it, so that three
    -- are tried;
    -- 45 in row 1, and 12 in row 2 for the columns without a row yet
    case 12 (numbers (tried_at system_a 2 11)) (numbers (0 ∷ 1 ∷ 2 ∷ []))
    ∷ case 12 (numbers (counted_of system_a 1 ∷ counted_of system_a 2 ∷ [])) (numbers (45 ∷ 57 ∷ []))
    -- where no instance fits, every column under one is tried, column 0's alone never: 2 + 3 + 4 + 5 in each of four rows
    ∷ case 13 (number (counted_of (system_of (platform 4 0 1 8 ++ task_type 2 5 4)) 4)) (number 56)
    ∷ []

-- and what it leaves in the two parts
unfoldable pub our_parts : List Case
our_parts =
    -- the two parts (request 2026-10): of each column the lowest row that says yes, and the cell there
    case 19 (lines (parts_of (file_a 3 3 2) 3)) (lines parts_a)
    -- "m+1 for none", and 65,535: system B, rule 0, m 3, on all engines, and where one and all of them are out of service
    ∷ case 20 (lines (map (take 5) (parts_of (file_b 3 0) 3))) (lines ((0 ∷ 1 ∷ 2 ∷ 3 ∷ 4 ∷ []) ∷ (65535 ∷ 0 ∷ 1 ∷ 2 ∷ 65535 ∷ []) ∷ []))
    ∷ case 20 (lines (map (take 5) (parts_of (file_b 3 0) 2))) (lines ((0 ∷ 1 ∷ 2 ∷ 4 ∷ 4 ∷ []) ∷ (65535 ∷ 0 ∷ 1 ∷ 65535 ∷ 65535 ∷ []) ∷ []))
    ∷ case 20 (lines (map (take 5) (parts_of (file_b 3 0) 0))) (lines ((0 ∷ 4 ∷ 4 ∷ 4 ∷ 4 ∷ []) ∷ replicate 5 65535 ∷ []))
    ∷ []

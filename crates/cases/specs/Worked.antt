-- Worked files through the theorems that are proved of every file: document 01's own table (request 2026-10), two releases and both, the two rules in bytes,
-- of one kind of engine and of two (requests 2026-09 and 2026-13),
-- and a list of calls as the code makes them (demand 3). `plan-by-01` and `list-by-01` of planner and `demand3-runs` of ledger go through the files that
-- stand here, and would be refused if they asked for more than these have;
-- `plans-add`, `plans-share` and `mixed-plans-share` of planner and `cards-apart` of writer go through any files. What other theorems ask, Every says.
use Rattle.std.specs.Prelude.{ℕ, ◌+◌, ◌-◌, ◌≤◌, List, [], ◌∷◌, ◌++◌, map, ◌≡◌, length, get_or, Option}
use Rattle.system.specs.declared.Cycle.{Cycle}
use Rattle.system.specs.declared.System.{System}
use Rattle.system.specs.Outcome.{Answer, Outcome, accepted, refused, from_input, outcome_of}
use Rattle.system.specs.Layout.{read_card, read_file, opened}
use Rattle.system.specs.Card.{card_of}
use Rattle.partition.specs.Lent.{Lent}
use Rattle.partition.specs.Plain.{ceiling_no, LongEnough, record_no}
use Rattle.table.specs.Document01.{filled01, NoRow01, Recovered01}
use Rattle.planner.specs.declared.Plan.{Plan}
use Rattle.planner.specs.declared.EngineRecord.{EngineRecord}
use Rattle.planner.specs.Demands.{PlanPromises, ListPromises, entry_no}
use Rattle.planner.specs.MixedDemands.{PlanCall}
use Rattle.board.specs.declared.Turn.{Turn}
use Rattle.board.specs.Calls.{Opens}
use Rattle.ledger.specs.Ledger.{Call}
use Rattle.ledger.specs.Demand3.{answers_of, Ran, made_by, EachKeeps}
use Rattle.cases.specs.Cases.{platform, task_type, file_a, system_of, lent, requests}
use Rattle.cases.specs.Supposed.{released}

-- Document 01's own table

-- a file of two types under rule 1: system A's, with shared code
abbrev pub file_shared : List ℕ
file_shared = platform 3 1 10 8 ++ task_type 4 3 3 ++ task_type 3 2 2

-- what is read in that table, whatever it held before it was filled
abbrev pub ReadIn01 : List ℕ → List ℕ → ℕ → (ℕ → ℕ → ℕ) → Type 0
ReadIn01 file table01 used row = Recovered01 (system_of file) (filled01 (system_of file) (system_of file).engines table01) used (ceiling_no (system_of file)) row

-- a plan by value and a plan into a list long enough, whatever they are but for their promises: on `used` engines, which get what a recovery in that table
-- gives them
pub record PlannedBy01 (file : List ℕ) (used : ℕ) : Type 0 where
  pub by_value : (table01 : List ℕ) (r : Plan) (after : Lent) → PlanPromises (read_file file) lent 16 r after
      → (outcome_of r.answer ≡ accepted (used ∷ [])) × ReadIn01 file table01 used (λ (e t : ℕ). get_or (record_no r.loads e).counts (t - 1) 0)
  pub into_list : (table01 : List ℕ) (list list_after : List EngineRecord) (answer : Answer) (after : Lent) → (system_of file).engines ≤ length list
      → ListPromises (read_file file) lent list answer after list_after
      → (outcome_of answer ≡ accepted (used ∷ [])) × ReadIn01 file table01 used (λ (e t : ℕ). get_or (entry_no list_after e).load.counts (t - 1) 0)

-- and where they are refused 12, no row of that table says yes
pub record RefusedBy01 (file : List ℕ) : Type 0 where
  pub by_value : (table01 : List ℕ) (r : Plan) (after : Lent) → PlanPromises (read_file file) lent 16 r after
      → (outcome_of r.answer ≡ refused from_input 12) × NoRow01 (system_of file) (system_of file).engines table01 (ceiling_no (system_of file))
  pub into_list : (table01 : List ℕ) (list list_after : List EngineRecord) (answer : Answer) (after : Lent) → (system_of file).engines ≤ length list
      → ListPromises (read_file file) lent list answer after list_after
      → (outcome_of answer ≡ refused from_input 12) × NoRow01 (system_of file) (system_of file).engines table01 (ceiling_no (system_of file))

-- The two rules

-- "rule 1 never needs more engines than rule 0 for the same file otherwise", of two files and what the plan call promises of each, of one kind of engine or
-- two, with tables long enough
abbrev pub SharesInBytes : List ℕ → List ℕ → Type 0
SharesInBytes own_file shared_file =
    (own_table shared_table own_after shared_after : Lent) (own shared : Plan) (a : ℕ)
    → ((y : System) → read_card own_file ≡ opened y → LongEnough y own_table) → ((y : System) → read_card shared_file ≡ opened y → LongEnough y shared_table)
    → PlanCall (card_of (read_card own_file)) own_table 16 own own_after → PlanCall (card_of (read_card shared_file)) shared_table 16 shared shared_after
    → outcome_of own.answer ≡ accepted (a ∷ [])
    → (c : ℕ) × (outcome_of shared.answer ≡ accepted (c ∷ [])) × (c ≤ a)

-- system B with m 2 and two engines of a second kind, which are as large: under rule 0 each engine holds one of the four
abbrev pub file_kinds : ℕ → List ℕ
file_kinds rule = platform 2 rule 10 8 ++ (6 ∷ 0 ∷ 9 ∷ 2 ∷ 0 ∷ 0 ∷ 0 ∷ 10 ∷ 0 ∷ 0 ∷ 0 ∷ 8 ∷ []) ++ task_type 2 5 4 ++ (7 ∷ 0 ∷ 8 ∷ 0 ∷ 0 ∷ 0 ∷ 2 ∷ 0 ∷ 0 ∷ 0 ∷ 5 ∷ [])

-- a plan on four engines under rule 0, and so one on at most four under rule 1
abbrev pub KindsShare : Type 0
KindsShare =
    (own_after shared_after : Lent) (own shared : Plan) → PlanCall (card_of (read_card (file_kinds 0))) lent 16 own own_after → PlanCall (card_of (read_card (file_kinds 1))) lent 16 shared shared_after
    → (outcome_of own.answer ≡ accepted (4 ∷ [])) × ((c : ℕ) × (outcome_of shared.answer ≡ accepted (c ∷ [])) × (c ≤ 4))

-- Two releases

-- "Planners add the engine numbers of two sheets as an estimate": two releases of one card and both, as three files of any n, C and T, and what the plan call
-- promises of each, with tables long enough
abbrev pub AddsInBytes : List ℕ → List ℕ → List ℕ → Type 0
AddsInBytes first_file second_file both_file =
    (y : System) (n m : ℕ → ℕ) (p q r : ℕ → Option Cycle) (t1 t2 t3 after1 after2 after3 : Lent) (first second both : Plan) (a b : ℕ)
    → read_file first_file ≡ opened (released y n p) → read_file second_file ≡ opened (released y m q) → read_file both_file ≡ opened (released y (λ (t : ℕ). n t + m t) r)
    → LongEnough (released y n p) t1 → LongEnough (released y m q) t2 → LongEnough (released y (λ (t : ℕ). n t + m t) r) t3
    → PlanPromises (read_file first_file) t1 16 first after1 → PlanPromises (read_file second_file) t2 16 second after2 → PlanPromises (read_file both_file) t3 16 both after3
    → outcome_of first.answer ≡ accepted (a ∷ []) → outcome_of second.answer ≡ accepted (b ∷ []) → a + b ≤ y.engines
    → (c : ℕ) × (outcome_of both.answer ≡ accepted (c ∷ [])) × (c ≤ a + b) × (a ≤ c) × (b ≤ c)

-- the worked example of two releases (Ours, 17): one engine each, so one or two for both
abbrev pub ReleasesMet : Type 0
ReleasesMet =
    (after1 after2 after3 : Lent) (first second both : Plan)
    → PlanPromises (read_file (file_a 3 2 0)) lent 16 first after1 → PlanPromises (read_file (file_a 3 1 2)) lent 16 second after2 → PlanPromises (read_file (file_a 3 3 2)) lent 16 both after3
    → (c : ℕ) × (outcome_of both.answer ≡ accepted (c ∷ [])) × (c ≤ 1 + 1) × (1 ≤ c)

-- Calls on a board

-- whatever the code gave for these calls, from the board of the file, each keeping its contract on the board before it: the answers are these
abbrev pub CodeAnswers : List ℕ → List Call → List Outcome → Type 0
CodeAnswers file calls expected =
    (start : Turn) (rs : List Ran) → Opens (read_file file) start → EachKeeps start.board rs → map (λ (r : Ran). r.asked) rs ≡ requests calls → answers_of (map made_by rs) ≡ expected

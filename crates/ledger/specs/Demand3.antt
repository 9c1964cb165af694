-- Demand 3 as one statement: a list of calls from the fresh board of a system file, each on the board that the one before returned, against the ledger of the
-- same calls.
-- It speaks of boards in the plain words of board/specs/Words.
use Rattle.std.specs.Prelude.{ℕ, ◌+◌, ◌-◌, ◌≤◌, List, [], ◌∷◌, ◌++◌, map, Bool, true, false, cond, ◌&&◌, ◌≡◌, length, get_or, eqb}
use Rattle.system.specs.declared.System.{System}
use Rattle.system.specs.Layout.{read_file, opened}
use Rattle.system.specs.Outcome.{Outcome, is_accepted}
use Rattle.partition.specs.Lent.{Lent, lent}
use Rattle.partition.specs.Plain.{columns_out, LongEnough, EngineOf, Stands}
use Rattle.board.specs.declared.Board.{Board}
use Rattle.board.specs.declared.Turn.{Turn}
use Rattle.board.specs.Boards.{opened_board}
use Rattle.board.specs.Calls.{Result, admit_of, seat_of, retire_of, repack_of, withdraw_of, restore_of, gave, Opens, Does}
use Rattle.board.specs.Words.{count_at, stands_no, mark_no, EngineIn, IsTrue, IsFresh}
use Rattle.board.specs.Meaning.{AdmitMeans, SeatMeans, RetireMeans, RepackMeans, WithdrawMeans, RestoreMeans}
use Rattle.ledger.specs.Ledger.{Call, admit, seat, retire, repack, withdraw, restore, counts_at, is_marked, fresh_ledger, ledger_after, ledger_answers}

-- a call with the table that is lent to it; a retire, a withdraw and a restore take none, and their table is not looked at
pub record Request : Type 0 where
  pub call : Call
  pub table : Lent

-- a call that was made, and what it gave
pub record Made : Type 0 where
  pub asked : Request
  pub gives : Result

-- What is compared: the board at the end, the answers, and how many calls of a kind were accepted

unfoldable pub board_after : Board → List Made → Board
board_after b [] = b
board_after b (m ∷ ms) = board_after m.gives.board ms

abbrev pub requests_of : List Made → List Request
requests_of ms = map (λ (m : Made). m.asked) ms

abbrev pub calls_of : List Request → List Call
calls_of rs = map (λ (r : Request). r.call) rs

abbrev pub answers_of : List Made → List Outcome
answers_of ms = map (λ (m : Made). m.gives.outcome) ms

-- the call is an admit or a seat of type t, or a retire of type t
abbrev pub adds_type : ℕ → Call → Bool
adds_type t (admit u) = eqb u t
adds_type t (seat u) = eqb u t
adds_type t (retire u e) = false
adds_type t repack = false
adds_type t (withdraw e) = false
adds_type t (restore e) = false

abbrev pub retires_type : ℕ → Call → Bool
retires_type t (admit u) = false
retires_type t (seat u) = false
retires_type t (retire u e) = eqb u t
retires_type t repack = false
retires_type t (withdraw e) = false
retires_type t (restore e) = false

unfoldable pub accepted_of : (Call → Bool) → List Made → ℕ
accepted_of kind [] = 0
accepted_of kind (m ∷ ms) = cond (kind m.asked.call && is_accepted m.gives.outcome) 1 0 + accepted_of kind ms

-- What is supposed: "every table lent being long enough". An admit, a seat and a repack are lent one

abbrev pub lends_table : Call → Bool
lends_table (admit t) = true
lends_table (seat t) = true
lends_table (retire t e) = false
lends_table repack = true
lends_table (withdraw e) = false
lends_table (restore e) = false

abbrev pub LongTables : System → List Request → Type 0
LongTables y rs = (before after : List Request) (r : Request) → rs ≡ before ++ r ∷ after → lends_table r.call ≡ true → LongEnough y r.table

-- The demand

-- what it says of one call, of the board b that it was given and its result: all that the call means
abbrev pub CallKept : Board → Call → Lent → Result → Type 0
CallKept b (admit t) table r = AdmitMeans b t table r
CallKept b (seat t) table r = SeatMeans b t table r
CallKept b (retire t e) table r = RetireMeans b t e r
CallKept b repack table r = RepackMeans b table r
CallKept b (withdraw e) table r = WithdrawMeans b e r
CallKept b (restore e) table r = RestoreMeans b e r

-- y is the file's system, `start` the board that opening the file gave, ms the calls that were made from it
pub record Demand3 (y : System) (start : Board) (ms : List Made) : Type 0 where
  -- the list starts from a fresh board: the file's system, its m engines, and nothing on any
  pub starts : IsFresh y start
  -- at the end every engine holds what the ledger has there
  pub engines : (e t : ℕ) → 1 ≤ e → e ≤ y.engines → 1 ≤ t → count_at (board_after start ms) e t ≡ get_or (counts_at (ledger_after (fresh_ledger y) (calls_of (requests_of ms))) e) (t - 1) 0
  -- its stored time and memory are the sums, nothing is on engines past m, and the board carries the file's system
  pub is_true : IsTrue (board_after start ms)
  pub system : (board_after start ms).system ≡ y
  -- that is a good assignment of what stands
  pub placed : Stands y (EngineOf y) (stands_no (board_after start ms)) (board_after start ms).loads
  -- every call was answered as the ledger answers it
  pub answers : answers_of ms ≡ ledger_answers (fresh_ledger y) (calls_of (requests_of ms))
  -- of each type there stand its accepted admits and seats less its accepted retires
  pub stand : (t : ℕ) → 1 ≤ t → t ≤ y.typecount → stands_no (board_after start ms) t + accepted_of (retires_type t) ms ≡ accepted_of (adds_type t) ms
  -- request 2026-07: "at the end they are compared too", and that good assignment is one to the engines in service
  pub marks : (e : ℕ) → 1 ≤ e → e ≤ y.engines → mark_no (board_after start ms) e ≡ is_marked (ledger_after (fresh_ledger y) (calls_of (requests_of ms))) e
  pub in_service : Stands y (EngineIn (board_after start ms)) (stands_no (board_after start ms)) (board_after start ms).loads
  -- and each call did, on the board that it was given, what it means
  pub calls : (before after : List Made) (m : Made) → ms ≡ before ++ m ∷ after
      → CallKept (board_after start before) m.asked.call m.asked.table m.gives

-- Two ways to come to such calls

-- by the definitions that the code's contracts cite: each call gets the board that the call before it returned, after a refusal too
abbrev pub call_on : Board → Call → Lent → Result
call_on b (admit t) table = admit_of b t table
call_on b (seat t) table = seat_of b t table
call_on b (retire t e) table = retire_of b t e (lent [] [])
call_on b repack table = repack_of b table
call_on b (withdraw e) table = withdraw_of b e (lent [] [])
call_on b (restore e) table = restore_of b e (lent [] [])

abbrev pub answer_on : Board → Request → Result
answer_on b r = call_on b r.call r.table

unfoldable pub played : Board → List Request → List Made
played b [] = []
played b (r ∷ rs) = record { asked = r; gives = answer_on b r } ∷ played (answer_on b r).board rs

-- by the code: what a call answered with its board, and what the table held after it
pub record Ran : Type 0 where
  pub asked : Request
  pub turn : Turn
  pub after : Lent

abbrev pub made_by : Ran → Made
made_by r = record { asked = r.asked; gives = gave r.turn r.after }

-- every one is what the contract of its call promises on the board that the one before it returned
pub data Promised : Board → List Ran → Type 0 where
  none : {b : Board} → Promised b []
  next : {b : Board} {r : Ran} {rs : List Ran} → Does (answer_on b r.asked) r.turn r.after → Promised r.turn.board rs → Promised b (r ∷ rs)

-- the same place by place, in the words of the contracts themselves (board_code/src/calls): the call keeps its contract on the board that it was
-- given. A retire, a withdraw and a restore are lent no table
abbrev pub KeepsContract : Board → Call → Lent → Turn → Lent → Type 0
KeepsContract b (admit t) table r after = Does (admit_of b t table) r after
KeepsContract b (seat t) table r after = Does (seat_of b t table) r after
KeepsContract b (retire t e) table r after = Does (retire_of b t e (lent [] [])) r after
KeepsContract b repack table r after = Does (repack_of b table) r after
KeepsContract b (withdraw e) table r after = Does (withdraw_of b e (lent [] [])) r after
KeepsContract b (restore e) table r after = Does (restore_of b e (lent [] [])) r after

-- and the board that a call was given is the one that the call before it returned
abbrev pub EachKeeps : Board → List Ran → Type 0
EachKeeps b rs = (before after : List Ran) (r : Ran) → rs ≡ before ++ r ∷ after → KeepsContract (board_after b (map made_by before)) r.asked.call r.asked.table r.turn r.after

-- Demand 3 of every list

-- "For every list of admit, seat, retire and repack calls from a fresh board, refused ones included, every table lent being long enough and holding
-- anything", with withdraw and restore since request
-- 2026-07: of every system file that opens, by the definitions that the contracts cite. Both parts of each table that is lent have an entry for each column;
-- nothing else is asked
abbrev pub OfEveryList : Type 0
OfEveryList =
    (file : List ℕ) (y : System) (rs : List Request) → read_file file ≡ opened y
    → ((before after : List Request) (r : Request) → rs ≡ before ++ r ∷ after → lends_table r.call ≡ true → (columns_out y ≤ length r.table.rows) × (columns_out y ≤ length r.table.predecessors))
    → Demand3 y (opened_board (read_file file)) (played (opened_board (read_file file)) rs)

-- and by the code: `start` is what `open_board` gave for the file, and each call kept its contract on the board of the one before it
abbrev pub OfEveryRun : Type 0
OfEveryRun =
    (file : List ℕ) (y : System) (start : Turn) (rs : List Ran) → read_file file ≡ opened y → Opens (read_file file) start → EachKeeps start.board rs
    → ((before after : List Request) (r : Request) → map (λ (q : Ran). q.asked) rs ≡ before ++ r ∷ after → lends_table r.call ≡ true
    → (columns_out y ≤ length r.table.rows) × (columns_out y ≤ length r.table.predecessors))
    → Demand3 y start.board (map made_by rs)

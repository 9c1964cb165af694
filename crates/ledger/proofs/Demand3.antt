-- Demand 3: by induction on the list of calls. The invariant: board and ledger hold the same valid loads and marks on the engines 1 to m.
-- What the code gave is what the definitions give, since each contract promises that; so the demand holds of it too.
use Prim.Native.Nat.{ℕ, ◌+◌, ◌-◌, ◌≤◌}
use mathlib.Core.Path.{◌≡◌, refl, sym, ap, subst, ◌∙◌}
use mathlib.Core.List.{List, [], ◌∷◌, ◌++◌, map, head-eq_of_cons-eq, tail-eq_of_cons-eq, nil≢cons}
use mathlib.Core.Bool.{Bool, true, false}
use mathlib.Core.Logic.{◌↔◌}
use native.Mathlib.Omega.{arith}
use lib.ListN.{length, get_or, replicate}
use Rattle.system.specs.declared.System.{System}
use Rattle.system.specs.Limits.{keeps_limits, type_limit}
use Rattle.system.specs.Layout.{read_file, opened}
use Rattle.system.proofs.Laws.{Limits, limits_of, read-keeps-limits}
use Rattle.loads.specs.Load.{empty_load}
use Rattle.loads.proofs.Order.{cons-path}
use Rattle.partition.specs.Lent.{Lent}
use Rattle.partition.specs.Plain.{columns_out, LongEnough, EngineOf, Stands}
use Rattle.partition.proofs.Lists.{get_or-padded}
use Rattle.partition.proofs.Standing.{Valid, total, total-empty, valid-empty}
use Rattle.board.specs.declared.Board.{Board}
use Rattle.board.specs.declared.Turn.{Turn}
use Rattle.board.specs.Boards.{empty_board, opened_board}
use Rattle.board.specs.Calls.{Result, gave, Opens, Does}
use Rattle.board.specs.Words.{count_at, stands_no, mark_no, EngineIn, IsTrue, IsFresh}
use Rattle.board.proofs.Truth.{board_on, Served, marked-on}
use Rattle.board.proofs.TrueMeans.{count-out, stands_on, true-on, parted-on, parted-whole, fresh_on, served-clear, fresh-is}
use Rattle.ledger.specs.Ledger.{Call, admit, seat, retire, repack, withdraw, restore, Ledger, ledger_with, counts_at, is_marked, fresh_ledger, ledger_after, ledger_answers}
use Rattle.ledger.specs.Demand3.{Request, Made, board_after, requests_of, calls_of, answers_of, adds_type, retires_type, accepted_of, lends_table, LongTables, CallKept, Demand3, call_on, answer_on, played, Ran, made_by, Promised, none, next, KeepsContract, EachKeeps, OfEveryList, OfEveryRun}
use Rattle.ledger.proofs.Step.{Step, step_of, kept_of}

-- intermediate: the requests of what was played

pub asked-played : (b : Board) (rs : List Request) → requests_of (played b rs) ≡ rs
unfolding played
asked-played b [] = refl
asked-played b (r ∷ rs) = ap (λ (l : List Request). r ∷ l) (asked-played (answer_on b r).board rs)

module _ (y : System) (keeps : keeps_limits y ≡ true) where
  abbrev Long : Request → Type 0
  Long r = lends_table r.call ≡ true → LongEnough y r.table

  long-first : (r : Request) (rs : List Request) → LongTables y (r ∷ rs) → Long r
  long-first r rs long = long [] rs r refl

  long_rest : (r : Request) (rs : List Request) → LongTables y (r ∷ rs) → LongTables y rs
  long_rest r rs long before after q e = long (r ∷ before) after q (ap (λ (l : List Request). r ∷ l) e)

  one : (ms : List Bool) (xs : List (List ℕ)) → Valid y xs → Served y ms xs → (r : Request) → Long r → Step y ms xs r.call r.table
  one ms xs v served r long = step_of y ms xs keeps v served r.call r.table long

  -- main: a list of calls on the board and in the ledger of the marks ms and the loads xs

  record Run (ms : List Bool) (xs : List (List ℕ)) (rs : List Request) : Type 0 where
    rows : List (List ℕ)
    marks : List Bool
    valid : Valid y rows
    served : Served y marks rows
    board : board_after (board_on y ms xs) (played (board_on y ms xs) rs) ≡ board_on y marks rows
    ledger : ledger_after (ledger_with y ms xs) (calls_of rs) ≡ ledger_with y marks rows
    answers : answers_of (played (board_on y ms xs) rs) ≡ ledger_answers (ledger_with y ms xs) (calls_of rs)
    stand : (t : ℕ) → 1 ≤ t
        → get_or (total rows) (t - 1) 0 + accepted_of (retires_type t) (played (board_on y ms xs) rs)
        ≡ get_or (total xs) (t - 1) 0 + accepted_of (adds_type t) (played (board_on y ms xs) rs)

  run : (rs : List Request) (ms : List Bool) (xs : List (List ℕ)) → Valid y xs → Served y ms xs → LongTables y rs → Run ms xs rs
  unfolding board_after played ledger_after ledger_answers accepted_of
  run [] ms xs v k long = record { rows = xs; marks = ms; valid = v; served = k; board = refl; ledger = refl; answers = refl; stand = λ t h. refl }
  run (r ∷ rs) ms xs v k long = together (one ms xs v k r (long-first r rs long)) (λ ns zs w l. run rs ns zs w l (long_rest r rs long))
    where
      together : Step y ms xs r.call r.table → ((ns : List Bool) (zs : List (List ℕ)) → Valid y zs → Served y ns zs → Run ns zs rs) → Run ms xs (r ∷ rs)
      together s rest =
          let n = rest s.marks s.rows s.valid s.served in
          record {
            rows = n.rows;
            marks = n.marks;
            valid = n.valid;
            served = n.served;
            board = ap (λ (a : Board). board_after a (played a rs)) s.board ∙ n.board;
            ledger = ap (λ (a : Ledger). ledger_after a (calls_of rs)) s.ledger ∙ n.ledger;
            answers =
                cons-path s.answer
                (ap (λ (a : Board). answers_of (played a rs)) s.board
                ∙ n.answers
                ∙ ap (λ (a : Ledger). ledger_answers a (calls_of rs)) (sym s.ledger));
            stand =
                λ t h.
                omega
                (arith, s.stand t h, n.stand t h, ap (λ (a : Board). accepted_of (retires_type t) (played a rs)) s.board, ap (λ (a : Board). accepted_of (adds_type t) (played a rs)) s.board);
          }

  -- main: each call on the board that it was given

  abbrev Kept : Board → Made → Type 0
  Kept b m = CallKept b m.asked.call m.asked.table m.gives

  calls-kept : (rs : List Request) (ms : List Bool) (xs : List (List ℕ)) → Valid y xs → Served y ms xs → LongTables y rs → (before after : List Made) (m : Made) → played (board_on y ms xs) rs ≡ before ++ m ∷ after
      → Kept (board_after (board_on y ms xs) before) m
  unfolding played board_after
  calls-kept [] ms xs v k long [] after m e = absurd (nil≢cons e)
  calls-kept [] ms xs v k long (p ∷ before) after m e = absurd (nil≢cons e)
  calls-kept (r ∷ rs) ms xs v k long [] after m e =
      subst (Kept (board_on y ms xs)) (head-eq_of_cons-eq e) (kept_of y ms xs keeps v k r.call r.table (long-first r rs long))
  calls-kept (r ∷ rs) ms xs v k long (p ∷ before) after m e =
      let s = one ms xs v k r (long-first r rs long) in
      subst (λ (a : Board). Kept (board_after a before) m)
      (sym s.board ∙ ap (λ (z : Made). z.gives.board) (head-eq_of_cons-eq e))
      (calls-kept rs s.marks s.rows s.valid s.served (long_rest r rs long) before after m (ap (λ (a : Board). played a rs) (sym s.board) ∙ tail-eq_of_cons-eq e))

-- main: demand 3 of the definitions

none_yet : (m t : ℕ) → get_or (total (replicate m empty_load)) t 0 ≡ 0
none_yet m t = ap (λ (x : List ℕ). get_or x t 0) (total-empty m) ∙ get_or-padded [] type_limit t 0

module _ (y : System) (keeps : keeps_limits y ≡ true) (rs : List Request) (long : LongTables y rs) where
  limits : Limits y
  limits = limits_of y keeps

  abbrev idle : List (List ℕ)
  idle = replicate y.engines empty_load

  abbrev clear : List Bool
  clear = replicate y.engines false

  abbrev made : List Made
  made = played (board_on y clear idle) rs

  r : Run y keeps clear idle rs
  r = run y keeps rs clear idle (valid-empty y limits) (served-clear y idle) long

  -- of the fresh board as the board of no loads
  from-idle : IsFresh y (board_on y clear idle) → Demand3 y (board_on y clear idle) made
  from-idle fresh = record {
    starts = fresh;
    engines = λ e t low high up.
        ap (λ (a : Board). count_at a e t) r.board
        ∙ count-out y r.marks r.rows keeps r.valid r.served e t
        ∙ ap (λ (a : Ledger). get_or (counts_at a e) (t - 1) 0) (sym r.ledger)
        ∙ ap (λ (l : List Request). get_or (counts_at (ledger_after (fresh_ledger y) (calls_of l)) e) (t - 1) 0) (sym (asked-played (board_on y clear idle) rs));
    is_true = subst IsTrue (sym r.board) (true-on y r.marks r.rows keeps r.valid r.served);
    system = ap (λ (a : Board). a.system) r.board;
    placed = subst (λ (a : Board). Stands y (EngineOf y) (stands_no a) a.loads) (sym r.board) (parted-whole y r.marks r.rows keeps r.valid r.served);
    answers = r.answers ∙ ap (λ (l : List Request). ledger_answers (fresh_ledger y) (calls_of l)) (sym (asked-played (board_on y clear idle) rs));
    stand =
        λ t h k.
        omega
        (arith, r.stand t h, none_yet y.engines (t - 1), ap (λ (a : Board). stands_no a t) r.board, stands_on y r.marks r.rows keeps r.valid r.served t);
    marks = λ e low high.
        ap (λ (a : Board). mark_no a e) r.board
        ∙ marked-on y r.marks r.rows e
        ∙ ap (λ (a : Ledger). is_marked a e) (sym r.ledger)
        ∙ ap (λ (l : List Request). is_marked (ledger_after (fresh_ledger y) (calls_of l)) e) (sym (asked-played (board_on y clear idle) rs));
    in_service = subst (λ (a : Board). Stands y (EngineIn a) (stands_no a) a.loads) (sym r.board) (parted-on y r.marks r.rows keeps r.valid r.served);
    calls = calls-kept y keeps rs clear idle (valid-empty y limits) (served-clear y idle) long;
  }

  from-fresh : Demand3 y (empty_board y) (played (empty_board y) rs)
  from-fresh =
      let same = fresh_on y limits in
      subst (λ (a : Board). Demand3 y a (played a rs)) (sym same) (from-idle (subst (IsFresh y) same (fresh-is y)))

pub demand3 : (file : List ℕ) (y : System) (rs : List Request) → read_file file ≡ opened y → LongTables y rs → Demand3 y (opened_board (read_file file)) (played (opened_board (read_file file)) rs)
demand3 file y rs opens long =
    subst (λ (a : Board). Demand3 y a (played a rs)) (sym (ap opened_board opens)) (from-fresh y (read-keeps-limits file y opens) rs long)

-- main: demand 3 of what the code gave

abbrev asked_by : List Ran → List Request
asked_by rs = map (λ (r : Ran). r.asked) rs

gave-same : (x : Result) (t : Turn) (after : Lent) → Does x t after → gave t after ≡ x
gave-same x t after d = λ i. record { outcome = d.answer i; board = d.board i; table = d.table i }

promised-played : (b : Board) (rs : List Ran) → Promised b rs → map made_by rs ≡ played b (asked_by rs)
unfolding played
promised-played b [] none = refl
promised-played b (r ∷ rs) (next d p) =
    cons-path (ap (λ (x : Result). record { asked = r.asked; gives = x }) (gave-same (answer_on b r.asked) r.turn r.after d))
    (promised-played r.turn.board rs p ∙ ap (λ (a : Board). played a (asked_by rs)) d.board)

-- `start` is what `open_board` promises of the file, and each of rs what its call's contract promises on the board before it
pub demand3-runs : (file : List ℕ) (y : System) (start : Turn) (rs : List Ran) → read_file file ≡ opened y → Opens (read_file file) start → Promised start.board rs → LongTables y (map (λ (r : Ran). r.asked) rs)
    → Demand3 y start.board (map made_by rs)
demand3-runs file y start rs opens starts promised long =
    subst (Demand3 y start.board) (sym (promised-played start.board rs promised))
    (subst (λ (a : Board). Demand3 y a (played a (asked_by rs))) (sym starts.board) (demand3 file y (asked_by rs) opens long))

-- what is supposed of the tables, in numbers: an admit, a seat and a repack are lent two parts of as many entries as there are columns or more, whatever they hold; nothing is asked of the other calls
pub long-tables : (y : System) (rs : List Request) → ((before after : List Request) (r : Request) → rs ≡ before ++ r ∷ after → lends_table r.call ≡ true → (columns_out y ≤ length r.table.rows) × (columns_out y ≤ length r.table.predecessors)) → LongTables y rs
long-tables y rs h = h

pub lends_none : (t e : ℕ) → (lends_table (retire t e) ≡ false) × (lends_table (withdraw e) ≡ false) × (lends_table (restore e) ≡ false)
lends_none t e = (refl, refl, refl)

-- main: what is supposed of the calls is, of every list, that each of them keeps its contract on the board of the one before it, and no more

contract-does : (b : Board) (c : Call) (table : Lent) (t : Turn) (after : Lent) → KeepsContract b c table t after ↔ Does (call_on b c table) t after
contract-does b (admit n) table t after = (λ d. d, λ d. d)
contract-does b (seat n) table t after = (λ d. d, λ d. d)
contract-does b (retire n e) table t after = (λ d. d, λ d. d)
contract-does b repack table t after = (λ d. d, λ d. d)
contract-does b (withdraw e) table t after = (λ d. d, λ d. d)
contract-does b (restore e) table t after = (λ d. d, λ d. d)

each-promised : (b : Board) (rs : List Ran) → EachKeeps b rs → Promised b rs
unfolding board_after
each-promised b [] h = none
each-promised b (r ∷ rs) h =
    next ((contract-does b r.asked.call r.asked.table r.turn r.after).0 (h [] rs r refl))
    (each-promised r.turn.board rs (λ before after q e. h (r ∷ before) after q (ap (λ (l : List Ran). r ∷ l) e)))

promised-each : (b : Board) (rs : List Ran) → Promised b rs → EachKeeps b rs
unfolding board_after
promised-each b [] none [] after q e = absurd (nil≢cons e)
promised-each b [] none (p ∷ before) after q e = absurd (nil≢cons e)
promised-each b (r ∷ rs) (next d p) [] after q e =
    subst (λ (x : Ran). KeepsContract b x.asked.call x.asked.table x.turn x.after) (head-eq_of_cons-eq e) ((contract-does b r.asked.call r.asked.table r.turn r.after).1 d)
promised-each b (r ∷ rs) (next d p) (x ∷ before) after q e =
    subst (λ (z : Ran). KeepsContract (board_after z.turn.board (map made_by before)) q.asked.call q.asked.table q.turn q.after) (head-eq_of_cons-eq e)
    (promised-each r.turn.board rs p before after q (tail-eq_of_cons-eq e))

pub promised-exactly : (b : Board) (rs : List Ran) → EachKeeps b rs ↔ Promised b rs
promised-exactly b rs = (each-promised b rs, promised-each b rs)

-- main: both of every list

pub every-list : OfEveryList
every-list file y rs opens long = demand3 file y rs opens (long-tables y rs long)

pub every-run : OfEveryRun
every-run file y start rs opens starts keeps long = demand3-runs file y start rs opens starts ((promised-exactly start.board rs).0 keeps) (long-tables y (map (λ (r : Ran). r.asked) rs) long)

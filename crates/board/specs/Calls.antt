-- The six calls on a board: document 01's "Board", with the orders under "From the state", and the two of request 2026-07. Each is one definition of the
-- answer, the board after it and the table after it.
use Rattle.std.specs.Prelude.{ℕ, ◌-◌, List, [], ◌∷◌, Bool, true, false, cond, not, ◌&&◌, ◌≡◌, length, get_or, leb, ltb, Option, Some, None}
use Rattle.system.specs.declared.System.{System}
use Rattle.system.specs.Values.{ceilings_of}
use Rattle.system.specs.Limits.{engine_limit}
use Rattle.system.specs.Layout.{Reading, read_outcome}
use Rattle.system.specs.Outcome.{Outcome, accepted, refused, from_input, from_state, outcome_of, Checked, passes, fails, check, and_then}
use Rattle.loads.specs.Load.{fits_engine, holds_none, one_more, one_less}
use Rattle.partition.specs.ForSystem.{placeable, recovered_for}
use Rattle.partition.specs.Lent.{Lent}
use Rattle.table.specs.Table.{room_check, filled}
use Rattle.board.specs.declared.Board.{Board}
use Rattle.board.specs.declared.Turn.{Turn}
use Rattle.board.specs.Boards.{opened_board, board_of, with_load, with_mark, marked, engines_of, load_at, standing}
use Rattle.board.specs.Truth.{true_board}

-- the answer of a call, the board after it, and what the lent table, its two parts, then holds
pub record Result : Type 0 where
  pub outcome : Outcome
  pub board : Board
  pub table : Lent

abbrev pub result : Outcome → Board → Lent → Result
result o b table = record { outcome = o; board = b; table = table }

-- The checks, each number decided once

-- 20: the board handed in is true
abbrev pub board_check : Board → Checked
board_check b = check (true_board b) from_state 20

-- 13: t is a type number, 1 to k
abbrev pub known_type : System → ℕ → Bool
known_type y t = leb 1 t && leb t y.typecount

abbrev pub type_check : System → ℕ → Checked
type_check y t = check (known_type y t) from_input 13

-- 14: e is an engine number, 1 to m
abbrev pub known_engine : System → ℕ → Bool
known_engine y e = leb 1 e && leb e y.engines

abbrev pub engine_check : System → ℕ → Checked
engine_check y e = check (known_engine y e) from_input 14

-- 21: fewer of type t stand than its ceiling allows
abbrev pub under_ceiling : Board → ℕ → Bool
under_ceiling b t = ltb (get_or (standing b) (t - 1) 0) (get_or (ceilings_of b.system) (t - 1) 0)

abbrev pub ceiling_check : Board → ℕ → Checked
ceiling_check b t = check (under_ceiling b t) from_state 21

-- 22: engine e holds an instance of type t
abbrev pub held_at : Board → ℕ → ℕ → Bool
held_at b t e = leb 1 (get_or (load_at b e) (t - 1) 0)

abbrev pub held_check : Board → ℕ → ℕ → Checked
held_check b t e = check (held_at b t e) from_state 22

-- 36: engine e is not yet in the state wanted, out of service where `out` says so
abbrev pub movable : Board → ℕ → Bool → Bool
movable b e out = cond out (not (marked b e)) (marked b e)

abbrev pub state_check : Board → ℕ → Bool → Checked
state_check b e out = check (movable b e out) from_state 36

-- 35: engine e holds no instance
abbrev pub empty_check : Board → ℕ → Checked
empty_check b e = check (holds_none (load_at b e)) from_state 35

-- admit and seat: 20, 13, 11, 21, for parts of `rows` and of `predecessors` entries
unfoldable pub check_newcomer : Board → ℕ → ℕ → ℕ → Checked
check_newcomer b t rows predecessors = and_then (board_check b) (and_then (type_check b.system t) (and_then (room_check b.system rows predecessors) (ceiling_check b t)))

-- retire: 20, 13, 14, 22
unfoldable pub check_retire : Board → ℕ → ℕ → Checked
check_retire b t e = and_then (board_check b) (and_then (type_check b.system t) (and_then (engine_check b.system e) (held_check b t e)))

-- repack: 20, 11, for such parts
unfoldable pub check_repack : Board → ℕ → ℕ → Checked
check_repack b rows predecessors = and_then (board_check b) (room_check b.system rows predecessors)

-- restore: 20, 14, 36
unfoldable pub check_restore : Board → ℕ → Checked
check_restore b e = and_then (board_check b) (and_then (engine_check b.system e) (state_check b e false))

-- withdraw: 20, 14, 36, 35
unfoldable pub check_withdraw : Board → ℕ → Checked
check_withdraw b e = and_then (board_check b) (and_then (engine_check b.system e) (and_then (state_check b e true) (empty_check b e)))

-- a refusal that leaves board and table as they were, or else the work
abbrev pub checked : Checked → Board → Lent → Result → Result
checked (fails s n) b table work = result (refused s n) b table
checked passes b table work = work

-- Admit

-- what stands with the newcomer
abbrev pub with_newcomer : Board → ℕ → List ℕ
with_newcomer b t = one_more (t - 1) (standing b)

-- engine e still takes a newcomer of type t: its load with it fits
abbrev pub takes : Board → ℕ → ℕ → Bool
takes b t e = fits_engine b.system (one_more (t - 1) (load_at b e))

-- the first of the engines that passes, or nowhere
unfoldable pub first_of : (ℕ → Bool) → List ℕ → Option ℕ
first_of p [] = None
first_of p (e ∷ es) = cond (p e) (Some e) (first_of p es)

-- the lowest-numbered engine in service that takes the newcomer: their numbers rise
abbrev pub first_engine : Board → ℕ → Option ℕ
first_engine b t = first_of (takes b t) (engines_of b)

-- no engine takes the newcomer: 23 if a good assignment of all with it exists, else 24, and the table is left filled
abbrev pub crowded : Board → ℕ → Lent → Result
crowded b t table =
    result (refused from_state (cond (placeable b.system (engines_of b) (with_newcomer b t)) 23 24)) b (filled b.system (engines_of b) table)

-- the newcomer goes to the engine that was found
unfoldable pub admitted : Board → ℕ → Lent → Option ℕ → Result
admitted b t table (Some e) = result (accepted (e ∷ [])) (with_load b e (one_more (t - 1) (load_at b e))) table
admitted b t table None = crowded b t table

unfoldable pub admit_of : Board → ℕ → Lent → Result
admit_of b t table = checked (check_newcomer b t (length table.rows) (length table.predecessors)) b table (admitted b t table (first_engine b t))

-- Seat, retire, repack

-- the whole board becomes the recovery of the load x; 24 where there is none
unfoldable pub reseated : Board → List ℕ → Lent → Result
reseated b x table =
    cond (placeable b.system (engines_of b) x)
    (result (accepted []) (board_of b.system b.marks (recovered_for engine_limit b.system (engines_of b) x)) (filled b.system (engines_of b) table))
    (result (refused from_state 24) b (filled b.system (engines_of b) table))

unfoldable pub seat_of : Board → ℕ → Lent → Result
seat_of b t table = checked (check_newcomer b t (length table.rows) (length table.predecessors)) b table (reseated b (with_newcomer b t) table)

-- one instance of type t leaves engine e; a retire takes no table
unfoldable pub retire_of : Board → ℕ → ℕ → Lent → Result
retire_of b t e table =
    checked (check_retire b t e) b table
    (result (accepted []) (with_load b e (one_less (t - 1) (load_at b e))) table)

-- the board becomes the recovery of what stands. A true board is a good assignment of it, so 24 does not arise: a law says so
unfoldable pub repack_of : Board → Lent → Result
repack_of b table = checked (check_repack b (length table.rows) (length table.predecessors)) b table (reseated b (standing b) table)

-- Withdraw, restore: neither takes a table

-- engine e, which holds nothing, goes out of service
unfoldable pub withdraw_of : Board → ℕ → Lent → Result
withdraw_of b e table = checked (check_withdraw b e) b table (result (accepted []) (with_mark b e true) table)

-- engine e is put back
unfoldable pub restore_of : Board → ℕ → Lent → Result
restore_of b e table = checked (check_restore b e) b table (result (accepted []) (with_mark b e false) table)

-- What a call gives

-- what a call gave: its answer, the board that it returned, and what the table then held
abbrev pub gave : Turn → Lent → Result
gave r after = result (outcome_of r.answer) r.board after

-- what opening a file promises of its whole result, by what the file reads as
pub record Opens (x : Reading) (r : Turn) : Type 0 where
  pub answer : outcome_of r.answer ≡ read_outcome x
  pub board : r.board ≡ opened_board x

-- what a call promises of its whole result, and of the table
pub record Does (x : Result) (r : Turn) (after : Lent) : Type 0 where
  pub answer : outcome_of r.answer ≡ x.outcome
  pub board : r.board ≡ x.board
  pub table : after ≡ x.table

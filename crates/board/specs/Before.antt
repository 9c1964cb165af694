-- The four calls of document 01 as they were defined before request 2026-07: over the engines 1 to m, whatever their marks. The table is that of request 2026-10. No code, contract or demand uses these definitions.
-- `AsBefore` says that on a board without marks every call is still just that, and that the plain words mean what they meant, so that nobody has to compare.
use Rattle.std.specs.Prelude.{ℕ, ◌-◌, List, [], ◌∷◌, Bool, false, cond, ◌&&◌, ◌≡◌, ◌↔◌, length, eqb, Option, Some, None}
use Rattle.system.specs.Values.{ceilings_of}
use Rattle.system.specs.Limits.{keeps_limits, engine_limit}
use Rattle.system.specs.Outcome.{accepted, refused, from_state, Checked, check, and_then}
use Rattle.loads.specs.Load.{within, one_more, one_less}
use Rattle.partition.specs.Assignment.{engines_to}
use Rattle.partition.specs.ForSystem.{placeable, recovered_for}
use Rattle.partition.specs.Lent.{Lent}
use Rattle.table.specs.Table.{room_check, filled}
use Rattle.board.specs.declared.Board.{Board}
use Rattle.board.specs.Boards.{board_of, with_load, load_at, standing}
use Rattle.board.specs.Truth.{true_loads}
use Rattle.board.specs.Calls.{Result, result, type_check, engine_check, ceiling_check, held_check, checked, with_newcomer, takes, first_of, admit_of, seat_of, retire_of, repack_of}
use Rattle.board.specs.Words.{IsEngine, mark_no, EngineIn, serving_to}

-- the test of refusal 20
abbrev pub true_before : Board → Bool
true_before b =
    keeps_limits b.system
    && eqb (length b.loads) engine_limit
    && true_loads b.system b.system.engines b.loads
    && within (standing b) (ceilings_of b.system)

abbrev pub board_check_before : Board → Checked
board_check_before b = check (true_before b) from_state 20

abbrev pub engines_before : Board → List ℕ
engines_before b = engines_to b.system.engines

abbrev pub check_newcomer_before : Board → ℕ → ℕ → ℕ → Checked
check_newcomer_before b t rows predecessors = and_then (board_check_before b) (and_then (type_check b.system t) (and_then (room_check b.system rows predecessors) (ceiling_check b t)))

abbrev pub crowded_before : Board → ℕ → Lent → Result
crowded_before b t table =
    result (refused from_state (cond (placeable b.system (engines_before b) (with_newcomer b t)) 23 24)) b (filled b.system (engines_before b) table)

unfoldable pub admitted_before : Board → ℕ → Lent → Option ℕ → Result
admitted_before b t table (Some e) = result (accepted (e ∷ [])) (with_load b e (one_more (t - 1) (load_at b e))) table
admitted_before b t table None = crowded_before b t table

abbrev pub admit_before : Board → ℕ → Lent → Result
admit_before b t table = checked (check_newcomer_before b t (length table.rows) (length table.predecessors)) b table (admitted_before b t table (first_of (takes b t) (engines_before b)))

abbrev pub reseated_before : Board → List ℕ → Lent → Result
reseated_before b x table =
    cond (placeable b.system (engines_before b) x)
    (result (accepted []) (board_of b.system b.marks (recovered_for engine_limit b.system (engines_before b) x)) (filled b.system (engines_before b) table))
    (result (refused from_state 24) b (filled b.system (engines_before b) table))

abbrev pub seat_before : Board → ℕ → Lent → Result
seat_before b t table = checked (check_newcomer_before b t (length table.rows) (length table.predecessors)) b table (reseated_before b (with_newcomer b t) table)

abbrev pub retire_before : Board → ℕ → ℕ → Lent → Result
retire_before b t e table =
    checked (and_then (board_check_before b) (and_then (type_check b.system t) (and_then (engine_check b.system e) (held_check b t e)))) b table
    (result (accepted []) (with_load b e (one_less (t - 1) (load_at b e))) table)

abbrev pub repack_before : Board → Lent → Result
repack_before b table = checked (and_then (board_check_before b) (room_check b.system (length table.rows) (length table.predecessors))) b table (reseated_before b (standing b) table)

-- no engine has a mark; that there are sixteen is what an array of the code always has
pub record Unmarked (b : Board) : Type 0 where
  pub sixteen : length b.marks ≡ 16
  pub none : (e : ℕ) → mark_no b e ≡ false

-- on such a board
pub record AsBefore (b : Board) : Type 0 where
  pub admits : (t : ℕ) (table : Lent) → admit_of b t table ≡ admit_before b t table
  pub seats : (t : ℕ) (table : Lent) → seat_of b t table ≡ seat_before b t table
  pub retires : (t e : ℕ) (table : Lent) → retire_of b t e table ≡ retire_before b t e table
  pub repacks : (table : Lent) → repack_of b table ≡ repack_before b table
  -- "takes", "no room", "fewest" and the recovery are over the engines 1 to m, and engine i has row i
  pub engines : (e : ℕ) → EngineIn b e ↔ IsEngine b e
  pub rows : (e : ℕ) → serving_to b e ≡ e

-- Lists of the four calls of document 01 alone: request 2026-07 left them as they were.
use Rattle.std.specs.Prelude.{ℕ, List, ◌++◌, Bool, true, false, ◌≡◌}
use Rattle.system.specs.declared.System.{System}
use Rattle.system.specs.Layout.{read_file, opened}
use Rattle.partition.specs.Assignment.{every, engines_to}
use Rattle.board.specs.declared.Board.{Board}
use Rattle.board.specs.Boards.{opened_board}
use Rattle.board.specs.Before.{AsBefore}
use Rattle.ledger.specs.Ledger.{Call, admit, seat, retire, repack, withdraw, restore, engines, fresh_ledger, ledger_after}
use Rattle.ledger.specs.Demand3.{Request, Made, board_after, calls_of, requests_of, played}

-- an admit, a seat, a retire or a repack
abbrev pub is_old : Call → Bool
is_old (admit t) = true
is_old (seat t) = true
is_old (retire t e) = true
is_old repack = true
is_old (withdraw e) = false
is_old (restore e) = false

abbrev pub OldList : List Request → Type 0
OldList rs = every (λ (r : Request). is_old r.call) rs ≡ true

-- of such a list: no board on the way has a mark, so that each call is what it was before the request; and the ledger's engines are 1 to m, as they were
pub record OldKept (y : System) (start : Board) (ms : List Made) : Type 0 where
  pub calls : (before after : List Made) → ms ≡ before ++ after → AsBefore (board_after start before)
  pub ledger : (before after : List Call) → calls_of (requests_of ms) ≡ before ++ after → engines (ledger_after (fresh_ledger y) before) ≡ engines_to y.engines

-- and so of every such list from the fresh board of every system file that opens, by the definitions that the contracts cite
abbrev pub OfOldLists : Type 0
OfOldLists = (file : List ℕ) (y : System) (rs : List Request) → read_file file ≡ opened y → OldList rs → OldKept y (opened_board (read_file file)) (played (opened_board (read_file file)) rs)

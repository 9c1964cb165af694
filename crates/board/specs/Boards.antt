-- Boards: document 01's "Board". The one place where a definition makes a `Board`, and what is read off one.
use Rattle.std.specs.Prelude.{ℕ, ◌-◌, List, map, Bool, false, not, get_or, set, replicate}
use Rattle.system.specs.declared.System.{System}
use Rattle.system.specs.Values.{blank}
use Rattle.system.specs.Limits.{engine_limit, type_limit}
use Rattle.system.specs.Layout.{Reading, opened, unread}
use Rattle.loads.specs.declared.EngineLoad.{EngineLoad}
use Rattle.loads.specs.Load.{engine_with, idle_engine}
use Rattle.partition.specs.Assignment.{engines_to, passing}
use Rattle.partition.specs.Shares.{sum_of}
use Rattle.board.specs.declared.Board.{Board}

-- a board on which nothing stands and no engine is marked
abbrev pub empty_board : System → Board
empty_board y = record { system = y; loads = replicate engine_limit idle_engine; marks = replicate engine_limit false }

-- the board of a system file: fresh, or the blank one where the file is refused
abbrev pub opened_board : Reading → Board
opened_board (opened y) = empty_board y
opened_board (unread n) = empty_board blank

-- the board with these marks and these loads on its engines 1, 2, ..
abbrev pub board_of : System → List Bool → List (List ℕ) → Board
board_of y marks xs = record { system = y; loads = map (engine_with y) xs; marks = marks }

-- the board with the load of engine e changed to x
abbrev pub with_load : Board → ℕ → List ℕ → Board
with_load b e x = record { system = b.system; loads = set b.loads (e - 1) (engine_with b.system x); marks = b.marks }

-- the board with the mark of engine e set, or taken away (request 2026-07)
abbrev pub with_mark : Board → ℕ → Bool → Board
with_mark b e mark = record { system = b.system; loads = b.loads; marks = set b.marks (e - 1) mark }

-- engine e is marked: it is out of service
abbrev pub marked : Board → ℕ → Bool
marked b e = get_or b.marks (e - 1) false

-- the engines that instances may be on: those in service, rising
abbrev pub engines_of : Board → List ℕ
engines_of b = passing (λ (e : ℕ). not (marked b e)) (engines_to b.system.engines)

-- what engine e holds; nothing where there is no such engine
abbrev pub load_at : Board → ℕ → List ℕ
load_at b e = (get_or b.loads (e - 1) idle_engine).counts

-- the loads of the engines, without their sums
abbrev pub counts_of : List EngineLoad → List (List ℕ)
counts_of ls = map (λ (l : EngineLoad). l.counts) ls

-- what stands: the sum over the engines
abbrev pub standing_of : List EngineLoad → List ℕ
standing_of ls = sum_of type_limit (counts_of ls)

abbrev pub standing : Board → List ℕ
standing b = standing_of b.loads

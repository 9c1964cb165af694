-- The truth of a board: the row of refusal 20, as a test.
use Rattle.std.specs.Prelude.{ℕ, zero, suc, List, [], ◌∷◌, Bool, true, cond, ◌&&◌, length, leb, ltb, eqb}
use Rattle.system.specs.declared.System.{System}
use Rattle.system.specs.Values.{ceilings_of}
use Rattle.system.specs.Limits.{keeps_limits, engine_limit, type_limit}
use Rattle.loads.specs.declared.EngineLoad.{EngineLoad}
use Rattle.loads.specs.Load.{time_of, memory_of, fits_engine, holds_none, within}
use Rattle.partition.specs.Assignment.{every, engines_to}
use Rattle.board.specs.declared.Board.{Board}
use Rattle.board.specs.Boards.{marked, load_at, standing}

-- an engine's stored sums are those of its load, which fits; six counts is what an array of the code always has
abbrev pub true_engine : System → EngineLoad → Bool
true_engine y l =
    eqb (length l.counts) type_limit
    && eqb l.time (time_of y.types l.counts)
    && eqb l.memory (memory_of y.rule y.types l.counts)
    && fits_engine y l.counts

-- all 0: what an engine past m has
abbrev pub zero_engine : EngineLoad → Bool
zero_engine l = eqb (length l.counts) type_limit && eqb l.time 0 && eqb l.memory 0 && holds_none l.counts

-- the first m engines are true, the others 0
unfoldable pub true_loads : System → ℕ → List EngineLoad → Bool
true_loads y m [] = true
true_loads y zero (l ∷ ls) = zero_engine l && true_loads y zero ls
true_loads y (suc m) (l ∷ ls) = true_engine y l && true_loads y m ls

-- what the engine at index i has to be
abbrev pub engine_true : System → ℕ → EngineLoad → Bool
engine_true y i l = cond (ltb i y.engines) (true_engine y l) (zero_engine l)

-- where engine e is marked, it is one of the engines 1 to m and holds nothing
abbrev pub mark_true : Board → ℕ → Bool
mark_true b e = cond (marked b e) (leb e b.system.engines && holds_none (load_at b e)) true

-- of each of the sixteen engines, which is as many marks as an array of the code always has
unfoldable pub true_marks : Board → Bool
true_marks b = eqb (length b.marks) engine_limit && every (mark_true b) (engines_to engine_limit)

-- the board is true, else it is refused 20. A count of a type past k is above that type's ceiling, which is 0
unfoldable pub true_board : Board → Bool
true_board b =
    keeps_limits b.system
    && eqb (length b.loads) engine_limit
    && true_loads b.system b.system.engines b.loads
    && within (standing b) (ceilings_of b.system)
    && true_marks b

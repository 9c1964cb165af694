-- A run tick by tick, in the words of `Run`: who runs in which tick; no word of misses.
use Rattle.std.specs.Prelude.{ℕ, zero, suc, ◌+◌, List, cond, ◌&&◌, length, eqb, leb}
use Rattle.runs.specs.declared.Job.{Job}
use Rattle.runs.specs.Run.{started, arrived, chosen, worked}

-- the jobs at an instant, before its arrivals
unfoldable pub state_at : ℕ → List Job → List Job
state_at zero js = started js
state_at (suc t) js = worked (arrived t (state_at t js))

-- the place of the job that runs in tick t
abbrev pub runner : ℕ → List Job → ℕ
runner t js = chosen (arrived t (state_at t js))

-- the number of ticks from `start` to before `end` in which instance i ran
unfoldable pub ran_between : ℕ → ℕ → ℕ → List Job → ℕ
ran_between i start zero js = 0
ran_between i start (suc t) js = ran_between i start t js + cond (leb start t && eqb (runner t js) i) 1 0

-- the number of ticks before `end` in which nobody ran
unfoldable pub idle_before : ℕ → List Job → ℕ
idle_before zero js = 0
idle_before (suc t) js = idle_before t js + cond (eqb (runner t js) (length js)) 1 0

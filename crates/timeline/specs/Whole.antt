-- What program `watch` writes, as the code writes it: the text of the run of an engine of the file's plan, or the line of a refusal, or `no such number`.
use Rattle.std.specs.Prelude.{ℕ, ◌-◌, List, [], ◌∷◌, cond, ◌&&◌, leb, get_or}
use Rattle.system.specs.declared.System.{System}
use Rattle.system.specs.Layout.{read_file}
use Rattle.loads.specs.declared.EngineLoad.{EngineLoad}
use Rattle.planner.specs.Plan.{Verdict, planned, unplanned, plan_loads}
use Rattle.listing.specs.Listing.{refusal_line}
use Rattle.listing.specs.Text.{reading_verdict}
use Rattle.runs.specs.declared.Job.{Job}
use Rattle.deadlines.specs.Outcome.{RunOutcome, ran, not_run}
use Rattle.deadlines.specs.Engine.{jobs_of, run_over}
use Rattle.timeline.specs.Text.{report_text}

-- of what a run answers
abbrev pub answer_text : List Job → List ℕ → ℕ → ℕ → RunOutcome → List ℕ
answer_text js counts ticks from (not_run s n) = refusal_line n
answer_text js counts ticks from (ran idle miss) = report_text js counts ticks from idle miss

-- of an engine that holds these counts
abbrev pub counts_text : System → List ℕ → ℕ → ℕ → List ℕ
counts_text y counts ticks from = answer_text (jobs_of y.types counts) counts ticks from (run_over y counts ticks)

-- `no such number`: the engines are 1 to m
abbrev pub no_number_line : List ℕ
no_number_line = 110 ∷ 111 ∷ 32 ∷ 115 ∷ 117 ∷ 99 ∷ 104 ∷ 32 ∷ 110 ∷ 117 ∷ 109 ∷ 98 ∷ 101 ∷ 114 ∷ 10 ∷ []

-- what engine e of a plan holds: its loads are those of engines 1, 2, .. in this order
abbrev pub counts_on : List EngineLoad → ℕ → List ℕ
counts_on loads e = (get_or loads (e - 1) (record { time = 0; memory = 0; counts = [] })).counts

-- of an engine of a plan with these loads
unfoldable pub engine_with : System → List EngineLoad → ℕ → ℕ → ℕ → List ℕ
engine_with y loads e ticks from = cond (leb 1 e && leb e y.engines) (counts_text y (counts_on loads e) ticks from) no_number_line

-- the file's own refusal, 42 with it, then 12, then the engine's number, then 44 and 45
unfoldable pub verdict_text : Verdict → ℕ → ℕ → ℕ → List ℕ
verdict_text (unplanned s n) e ticks from = refusal_line n
verdict_text (planned y) e ticks from = engine_with y (plan_loads (planned y)) e ticks from

abbrev pub watch_text : List ℕ → ℕ → ℕ → ℕ → List ℕ
watch_text file e ticks from = verdict_text (reading_verdict (read_file file)) e ticks from

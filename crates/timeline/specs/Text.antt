-- The text of a run, as the code writes it: who ran in each tick that is shown, what arrived, and a line that sums it up.
use Rattle.std.specs.Prelude.{ℕ, zero, suc, ◌+◌, ◌-◌, min, List, [], ◌∷◌, ◌++◌, cond, length, eqb, ltb}
use Rattle.listing.specs.Listing.{line_end, decimal}
use Rattle.runs.specs.declared.Job.{Job}
use Rattle.runs.specs.Run.{arrived, chosen, worked}
use Rattle.runs.specs.Trace.{state_at}
use Rattle.deadlines.specs.Outcome.{FirstMiss, all_kept, first_at}

-- A tick

-- `tick `, ` arrive `, ` due `, ` run `, ` idle`
abbrev pub tick_word : List ℕ
tick_word = 116 ∷ 105 ∷ 99 ∷ 107 ∷ 32 ∷ []

abbrev pub arrive_word : List ℕ
arrive_word = 32 ∷ 97 ∷ 114 ∷ 114 ∷ 105 ∷ 118 ∷ 101 ∷ 32 ∷ []

abbrev pub due_word : List ℕ
due_word = 32 ∷ 100 ∷ 117 ∷ 101 ∷ 32 ∷ []

abbrev pub run_word : List ℕ
run_word = 32 ∷ 114 ∷ 117 ∷ 110 ∷ 32 ∷ []

abbrev pub idle_word : List ℕ
idle_word = 32 ∷ 105 ∷ 100 ∷ 108 ∷ 101 ∷ []

-- the instance at a place among all on the engine, those of type 1 first: its type and its number there, both from 1
unfoldable pub kind_from : ℕ → List ℕ → ℕ → ℕ
kind_from t [] p = 0
kind_from t (n ∷ ns) p = cond (ltb p n) t (kind_from (t + 1) ns (p - n))

unfoldable pub number_from : List ℕ → ℕ → ℕ
number_from [] p = 0
number_from (n ∷ ns) p = cond (ltb p n) (p + 1) (number_from ns (p - n))

-- instance 2 of type 1 is `1.2`
unfoldable pub name_text : List ℕ → ℕ → List ℕ
name_text counts p = decimal (kind_from 1 counts p) ++ (46 ∷ []) ++ decimal (number_from counts p)

-- ` arrive 1.2 due 4`
abbrev pub arrival_text : List ℕ → ℕ → ℕ → List ℕ
arrival_text counts p due = arrive_word ++ name_text counts p ++ due_word ++ decimal due

-- of a job at a place before the arrivals of now, if it arrives now: it is due one period later
abbrev pub arrival_at : ℕ → List ℕ → ℕ → Job → List ℕ
arrival_at now counts p j = cond (eqb j.due now) (arrival_text counts p (now + j.period)) []

-- what arrives now, of the jobs from place p on
unfoldable pub arrivals_from : ℕ → List ℕ → ℕ → List Job → List ℕ
arrivals_from now counts p [] = []
arrivals_from now counts p (j ∷ js) = arrival_at now counts p j ++ arrivals_from now counts (p + 1) js

-- who runs, where there are `all` instances
abbrev pub runner_text : List ℕ → ℕ → ℕ → List ℕ
runner_text counts all p = cond (eqb p all) idle_word (run_word ++ name_text counts p)

-- one tick, in which the instance at place p runs, of `all`: `tick 0 arrive 1.1 due 4 arrive 2.1 due 6 run 1.1`
unfoldable pub line_with : ℕ → List ℕ → List Job → ℕ → ℕ → List ℕ
line_with now counts js all p = tick_word ++ decimal now ++ arrivals_from now counts 0 js ++ runner_text counts all p ++ (line_end ∷ [])

-- the jobs are those before its arrivals
abbrev pub tick_line : ℕ → List ℕ → List Job → List ℕ
tick_line now counts js = line_with now counts js (length js) (chosen (arrived now js))

-- n ticks from now on
unfoldable pub tick_lines : ℕ → ℕ → List ℕ → List Job → List ℕ
tick_lines zero now counts js = []
tick_lines (suc n) now counts js = tick_line now counts js ++ tick_lines n (now + 1) counts (worked (arrived now js))

-- The last line

-- `of `, ` ticks `, ` idle, `, `none missed`, `missed at `
abbrev pub of_word : List ℕ
of_word = 111 ∷ 102 ∷ 32 ∷ []

abbrev pub ticks_word : List ℕ
ticks_word = 32 ∷ 116 ∷ 105 ∷ 99 ∷ 107 ∷ 115 ∷ 32 ∷ []

abbrev pub were_idle_word : List ℕ
were_idle_word = 32 ∷ 105 ∷ 100 ∷ 108 ∷ 101 ∷ 44 ∷ 32 ∷ []

abbrev pub none_missed_word : List ℕ
none_missed_word = 110 ∷ 111 ∷ 110 ∷ 101 ∷ 32 ∷ 109 ∷ 105 ∷ 115 ∷ 115 ∷ 101 ∷ 100 ∷ []

abbrev pub missed_word : List ℕ
missed_word = 109 ∷ 105 ∷ 115 ∷ 115 ∷ 101 ∷ 100 ∷ 32 ∷ 97 ∷ 116 ∷ 32 ∷ []

abbrev pub missed_at_text : ℕ → List ℕ
missed_at_text d = missed_word ++ decimal d

abbrev pub missed_text : FirstMiss → List ℕ
missed_text all_kept = none_missed_word
missed_text (first_at d) = missed_at_text d

-- `of 24 ticks 6 idle, none missed`
unfoldable pub summary_line : ℕ → ℕ → FirstMiss → List ℕ
summary_line ticks idle miss = of_word ++ decimal ticks ++ ticks_word ++ decimal idle ++ were_idle_word ++ missed_text miss ++ (line_end ∷ [])

-- Both

-- the ticks that are shown at most
abbrev pub shown_limit : ℕ
shown_limit = 32

-- those from `from` on, before the last tick's end
abbrev pub shown_ticks : ℕ → ℕ → ℕ
shown_ticks ticks from = min shown_limit (ticks - from)

unfoldable pub window_text : List Job → List ℕ → ℕ → ℕ → List ℕ
window_text js counts ticks from = tick_lines (shown_ticks ticks from) from counts (state_at from js)

-- the text of a run that has a report
abbrev pub report_text : List Job → List ℕ → ℕ → ℕ → ℕ → FirstMiss → List ℕ
report_text js counts ticks from idle miss = window_text js counts ticks from ++ summary_line ticks idle miss

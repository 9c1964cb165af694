-- Why there is no place: the causes of request 2026-08 as tests of a load and a number of engines, the first that holds, and what the two calls answer and
-- leave.
use Rattle.std.specs.Prelude.{ℕ, ◌-◌, ◌*◌, List, [], ◌∷◌, Bool, false, not, cond, ◌&&◌, ◌||◌, length, get_or, leb, ltb, eqb, Option, None, Some, Result, Ok, Err}
use Rattle.system.specs.declared.Refusal.{Refusal}
use Rattle.system.specs.declared.TaskType.{TaskType}
use Rattle.system.specs.declared.System.{System}
use Rattle.system.specs.Values.{ceilings_of}
use Rattle.system.specs.Limits.{type_limit}
use Rattle.system.specs.Layout.{Reading, opened, unread}
use Rattle.system.specs.Outcome.{Outcome, accepted, refused, from_input, refusal_of, unless_fails}
use Rattle.loads.specs.Load.{time_of, memory_of, fits_engine, holds_none, empty_load, one_more}
use Rattle.partition.specs.Assignment.{engines_to}
use Rattle.partition.specs.Cell.{lowest}
use Rattle.partition.specs.ForSystem.{placeable}
use Rattle.partition.specs.Lent.{Lent}
use Rattle.table.specs.Table.{table_check, filled}
use Rattle.planner.specs.Plan.{table_left}
use Rattle.board.specs.declared.Board.{Board}
use Rattle.board.specs.Boards.{engines_of}
use Rattle.board.specs.Calls.{check_newcomer, with_newcomer}
use Rattle.causes.specs.declared.Cause.{Cause}
use Rattle.causes.specs.declared.Cause.TheVariants.{Possible, NoEngine, OneTooLarge, TooMuchTime, TooMuchMemory, TooManyReplicas, NoArrangement}

-- The answer

-- the request's numbers
abbrev pub cause_number : Cause → ℕ
cause_number Possible = 0
cause_number NoEngine = 1
cause_number (OneTooLarge t) = 2
cause_number TooMuchTime = 3
cause_number TooMuchMemory = 4
cause_number TooManyReplicas = 5
cause_number NoArrangement = 6

-- only 2 names a type
abbrev pub named_in : Cause → List ℕ
named_in (OneTooLarge t) = t ∷ []
named_in Possible = []
named_in NoEngine = []
named_in TooMuchTime = []
named_in TooMuchMemory = []
named_in TooManyReplicas = []
named_in NoArrangement = []

-- a call that is not refused answers with the cause's number, and with the type that it names
abbrev pub told : Cause → Outcome
told c = accepted (cause_number c ∷ named_in c)

-- what a call answers in the code: the cause, or refused
abbrev pub CauseAnswer : Type 0
CauseAnswer = Result Cause Refusal

abbrev pub cause_outcome_of : CauseAnswer → Outcome
cause_outcome_of (Ok c) = told c
cause_outcome_of (Err r) = refusal_of r

-- The tests, of a load x and a number of engines

-- 1: "no engine in service .., though the load is not empty"
abbrev pub no_engine : ℕ → List ℕ → Bool
no_engine engines x = eqb engines 0 && not (holds_none x)

-- 2: "one instance of a type in the load .. doesn't fit an empty engine"
abbrev pub unfit_at : System → List ℕ → ℕ → Bool
unfit_at y x t = leb 1 (get_or x (t - 1) 0) && not (fits_engine y (one_more (t - 1) empty_load))

-- "the lowest is named": 0 where there is none
unfoldable pub lowest_unfit : System → List ℕ → ℕ
lowest_unfit y x = lowest (unfit_at y x) 0 type_limit 1

-- 3: "total time exceeds engines × U"
abbrev pub time_short : System → ℕ → List ℕ → Bool
time_short y engines x = ltb (engines * y.timecap) (time_of y.types x)

-- 4: "total memory exceeds engines × S". The memory of the whole load as one, so that under rule 1 shared code is "counted a single time per type"
abbrev pub memory_short : System → ℕ → List ℕ → Bool
memory_short y engines x = ltb (engines * y.memorycap) (memory_of y.rule y.types x)

-- 5: "a count exceeds q × engines"
abbrev pub over_most : ℕ → Option ℕ → ℕ → Bool
over_most engines None x = false
over_most engines (Some q) x = ltb (q * engines) x

unfoldable pub replicas_short : ℕ → List TaskType → List ℕ → Bool
replicas_short engines [] xs = false
replicas_short engines (t ∷ ts) [] = false
replicas_short engines (t ∷ ts) (x ∷ xs) = over_most engines t.most x || replicas_short engines ts xs

-- "The cause is the first that holds". 6: "none of these, yet no good assignment exists"; `can` says whether one does
unfoldable pub cause_of : System → ℕ → List ℕ → Bool → Cause
cause_of y engines x can =
    cond (no_engine engines x) NoEngine
    (cond (ltb 0 (lowest_unfit y x)) (OneTooLarge (lowest_unfit y x))
    (cond (time_short y engines x) TooMuchTime
    (cond (memory_short y engines x) TooMuchMemory
    (cond (replicas_short engines y.types x) TooManyReplicas
    (cond can Possible NoArrangement)))))

-- of a load on a list of engines, by the cells
abbrev pub cause_on : System → List ℕ → List ℕ → Cause
cause_on y es x = cause_of y (length es) x (placeable y es x)

-- The calls

-- from a file: "with plan's checks up to 11"; all n(t) instances of each type on the engines 1 to m
abbrev pub plan_cause : Reading → Lent → Outcome
plan_cause (unread n) table = refused from_input n
plan_cause (opened y) table = unless_fails (table_check y table) (told (cause_on y (engines_to y.engines) (ceilings_of y)))

-- "the table is left filled", whatever the cause is; a refusal leaves it as lent
abbrev pub plan_cause_table : Reading → Lent → Lent
plan_cause_table (unread n) table = table
plan_cause_table (opened y) table = table_left (table_check y table) table (filled y (engines_to y.engines) table)

-- from a board and a newcomer's type: "with seat's up to 21"; what stands with the newcomer on the engines in service
abbrev pub room_cause : Board → ℕ → Lent → Outcome
room_cause b t table = unless_fails (check_newcomer b t (length table.rows) (length table.predecessors)) (told (cause_on b.system (engines_of b) (with_newcomer b t)))

abbrev pub room_cause_table : Board → ℕ → Lent → Lent
room_cause_table b t table = table_left (check_newcomer b t (length table.rows) (length table.predecessors)) table (filled b.system (engines_of b) table)

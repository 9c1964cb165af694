-- Request 2026-14: "For every engine of a plan of one kind, unless refused, that report is `none missed`, at each horizon."
use Rattle.std.specs.Prelude.{ℕ, ◌≤◌, List, [], ◌∷◌, ◌≡◌, Result}
use Rattle.system.specs.declared.Refusal.{Refusal}
use Rattle.runs.specs.declared.Report.{Report}
use Rattle.system.specs.declared.System.{System}
use Rattle.system.specs.Layout.{read_file, opened}
use Rattle.system.specs.Outcome.{Outcome, accepted}
use Rattle.loads.specs.declared.EngineLoad.{EngineLoad}
use Rattle.partition.specs.Lent.{Lent}
use Rattle.partition.specs.Plain.{EngineOf, record_no}
use Rattle.planner.specs.declared.EngineRecord.{EngineRecord}
use Rattle.planner.specs.Demands.{Demand2, entry_no, ListHolds}
use Rattle.deadlines.specs.Outcome.{FirstMiss, all_kept, ran, run_outcome_of}
use Rattle.deadlines.specs.Meaning.{RunPromises}

-- whatever a run of these counts on the file answers, at whatever number of ticks: a report says that none is missed
abbrev pub NoneMissed : List ℕ → List ℕ → Type 0
NoneMissed file counts = (ticks : ℕ) (r : Result Report Refusal) (idle : ℕ) (miss : FirstMiss) → RunPromises (read_file file) counts ticks r → run_outcome_of r ≡ ran idle miss → miss ≡ all_kept

-- of every load of a plan that was given
abbrev pub PlanRuns : List ℕ → List EngineLoad → Type 0
PlanRuns file loads = (y : System) (e : ℕ) → read_file file ≡ opened y → EngineOf y e → NoneMissed file (record_no loads e).counts

-- of a plan by demand 2: both plan calls keep it of every file of one kind
abbrev pub PlansKept : Type 0
PlansKept =
    (file : List ℕ) (table : Lent) (room used : ℕ) (outcome : Outcome) (loads : List EngineLoad) → Demand2 (read_file file) table room outcome loads → outcome ≡ accepted (used ∷ [])
    → PlanRuns file loads

-- of the records of a plan in a lent list
abbrev pub ListsKept : Type 0
ListsKept =
    (file : List ℕ) (list after : List EngineRecord) (used e : ℕ) (y : System) (outcome : Outcome) → ListHolds (read_file file) list outcome after → outcome ≡ accepted (used ∷ [])
    → read_file file ≡ opened y → 1 ≤ e → e ≤ used → NoneMissed file (entry_no after e).load.counts

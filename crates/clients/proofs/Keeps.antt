-- From what a plan call promises of any card, that no run of an engine of a plan of one kind misses a deadline.
use Prim.Native.Nat.{ℕ}
use mathlib.Core.List.{List}
use mathlib.Core.Path.{◌≡◌, sym, subst}
use Rattle.system.specs.Outcome.{Answer, outcome_of}
use Rattle.system.specs.declared.System.{System}
use Rattle.system.specs.Layout.{Reading, read_card, read_file, opened}
use Rattle.system.specs.Card.{card_of, plain}
use Rattle.system.proofs.Laws.{file-card}
use Rattle.system.proofs.Cards.{card-is}
use Rattle.partition.specs.Lent.{Lent}
use Rattle.planner.specs.declared.Plan.{Plan}
use Rattle.planner.specs.declared.EngineRecord.{EngineRecord}
use Rattle.planner.specs.Demands.{Demand2, ListHolds}
use Rattle.planner.specs.MixedDemands.{PlanCall, ListCall}
use Rattle.deadlines.proofs.Kept.{plans-kept, lists-kept}
use Rattle.clients.specs.Wide.{PlanKeeps, ListKeeps}

-- a file of one kind of engine that opens is such a card
one-kind-card : (file : List ℕ) (y : System) → read_file file ≡ opened y → card_of (read_card file) ≡ plain (opened y)
one-kind-card file y opens = let both = file-card file y opens in card-is.one_kind (read_card file) y both.0 both.1

pub plan-keeps : (file : List ℕ) (table : Lent) (room : ℕ) (r : Plan) (after : Lent) → PlanCall (card_of (read_card file)) table room r after → PlanKeeps file r.loads (outcome_of r.answer)
plan-keeps file table room r after e used given y engine opens on =
    let demand2 = (e.one_kind (opened y) (one-kind-card file y opens)).demand2 in
    plans-kept file table room used (outcome_of r.answer) r.loads (subst (λ (x : Reading). Demand2 x table room (outcome_of r.answer) r.loads) (sym opens) demand2) given y engine opens on

pub list-keeps : (file : List ℕ) (table : Lent) (list : List EngineRecord) (r : Answer) (after : Lent) (later : List EngineRecord) → ListCall (card_of (read_card file)) table list r after later
    → ListKeeps file later (outcome_of r)
list-keeps file table list r after later e y used engine opens given low high =
    let holds = (e.one_kind (opened y) (one-kind-card file y opens)).holds in
    lists-kept file list later used engine y (outcome_of r) (subst (λ (x : Reading). ListHolds x list (outcome_of r) later) (sym opens) holds) given opens low high

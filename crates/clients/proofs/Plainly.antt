-- From the definitions by which a cause is numbered and a blank system and a blank board are made, and from what a run promises, what stands in plain numbers.
use Rattle.std.proofs.Common.{Result}
use Prim.Native.Nat.{ℕ}
use Rattle.system.specs.declared.Refusal.{Refusal}
use Rattle.runs.specs.declared.Report.{Report}
use mathlib.Core.List.{List}
use mathlib.Core.Path.{◌≡◌, ap, ◌∙◌}
use Rattle.system.specs.declared.System.{System}
use Rattle.system.specs.Values.{blank}
use Rattle.system.specs.Layout.{Reading, opened, unread}
use Rattle.system.specs.Outcome.{Outcome, from_input, is_accepted}
use Rattle.partition.specs.Lent.{Lent}
use Rattle.board.specs.declared.Board.{Board}
use Rattle.board.specs.Boards.{opened_board}
use Rattle.board.specs.Calls.{Result as Gives}
use Rattle.board.specs.Meaning.{Demand1}
use Rattle.causes.specs.declared.Cause.{Cause}
use Rattle.causes.specs.declared.Cause.TheVariants.{Possible, NoEngine, OneTooLarge, TooMuchTime, TooMuchMemory, TooManyReplicas, NoArrangement}
use Rattle.causes.specs.Causes.{cause_number}
use Rattle.deadlines.specs.Outcome.{not_run, run_outcome_of}
use Rattle.deadlines.specs.Meaning.{NoPace, RunPromises}
use Rattle.clients.specs.Wide.{NumberedAsAsked, NothingRead, NothingOpened, BoardKept, RunsPlainly}

numbered-as : (c d : Cause) (n : ℕ) → n ≡ cause_number c → c ≡ d → n ≡ cause_number d
numbered-as c d n e is = e ∙ ap (λ (k : Cause). cause_number k) is

pub cause-numbered : (c : Cause) (n : ℕ) → n ≡ cause_number c → NumberedAsAsked c n
cause-numbered c n e = (
  numbered-as c Possible n e,
  numbered-as c NoEngine n e,
  (λ t. numbered-as c (OneTooLarge t) n e),
  numbered-as c TooMuchTime n e,
  numbered-as c TooMuchMemory n e,
  numbered-as c TooManyReplicas n e,
  numbered-as c NoArrangement n e,
)

pub nothing_read : (y : System) → y ≡ blank → NothingRead y
nothing_read y e = (
  ap (λ (z : System). z.engines) e,
  ap (λ (z : System). z.rule) e,
  ap (λ (z : System). z.timecap) e,
  ap (λ (z : System). z.memorycap) e,
  ap (λ (z : System). z.typecount) e,
  ap (λ (z : System). z.types) e,
  ap (λ (z : System). z.second) e,
)

pub nothing-opened : (x : Reading) (b : Board) → b ≡ opened_board x → (n : ℕ) → x ≡ unread n → NothingOpened b
nothing-opened x b is n none =
    let e : b ≡ opened_board (unread n) = is ∙ ap opened_board none in
    (nothing_read b.system (ap (λ (a : Board). a.system) e), ap (λ (a : Board). a.loads) e, ap (λ (a : Board). a.marks) e)

pub board-kept : (b : Board) (table left : Lent) (r : Gives) → Demand1 b table left r → BoardKept b r.outcome r.board
board-kept b table left r d s n is = d.board (ap (λ (o : Outcome). is_accepted o) is)

pub runs-plainly : (x : Reading) (counts : List ℕ) (ticks : ℕ) (r : Result Report Refusal) → RunPromises x counts ticks r → RunsPlainly x counts ticks (run_outcome_of r)
runs-plainly x counts ticks r p = record {
  does_not_read = p.file_first;
  says44 = λ y e. (
    (λ o. let n = (p.then44 y e).0 o in (n.kind, n.is_type.0, n.is_type.1, n.some, n.without)),
    (λ (t, low, high, some, without). (p.then44 y e).1 (record { kind = t; is_type = (low, high); some = some; without = without })),
  );
  says45 = λ y e other. p.then45 y e (all-paced y e other);
  reports = λ y e other also.
      let paced = all-paced y e other in
      let (idle, miss, is) = p.else y e paced (λ over. also ((p.then45 y e paced).1 over)) in
      (idle, miss, is, p.means y idle miss e is);
}
  where
    all-paced : (y : System) → x ≡ opened y → (run_outcome_of r ≡ not_run from_input 44 → ⊥) → NoPace y counts → ⊥
    all-paced y e other n = other ((p.then44 y e).1 n)

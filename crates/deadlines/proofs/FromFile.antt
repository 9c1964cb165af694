-- The call: what it promises at each way in which it ends.
use Rattle.std.proofs.Common.{Result, Err}
use Rattle.runs.specs.declared.Report.{Report}
use Prim.Native.Nat.{ℕ}
use mathlib.Core.Path.{◌≡◌, ap}
use mathlib.Core.List.{List}
use lib.ListN.{length}
use Rattle.system.specs.declared.System.{System}
use Rattle.system.specs.declared.Opened.{Opened}
use Rattle.system.specs.declared.Refusal.{Refusal}
use Rattle.system.specs.declared.Refusal.TheVariants.{Input, State}
use Rattle.system.specs.Layout.{read_file, opened, Reads}
use Rattle.system.specs.Outcome.{from_input, refused, refusal_of}
use Rattle.system.proofs.Laws.{read-keeps-limits, unread-with}
use Rattle.partition.specs.Plain.{LimitsOut}
use Rattle.partition.proofs.Plain.{limits-out}
use native.Mathlib.Omega.{arith}
use Rattle.deadlines.specs.Outcome.{not_run, not_run_for, run_outcome_of}
use Rattle.deadlines.specs.Engine.{run_over, run_engine}
use Rattle.deadlines.specs.Meaning.{RunPromises}
use Rattle.deadlines.proofs.Promises.{promises-of}

-- a file that reads keeps the limits
pub limits-read : (file : List ℕ) (y : System) → read_file file ≡ opened y → LimitsOut y
limits-read file y is = (limits-out y).0 (read-keeps-limits file y is)

refused-input : (why : Refusal) (n : ℕ) → refusal_of why ≡ refused from_input n → not_run_for why ≡ not_run from_input n
refused-input (Input m) n e = let same : m ≡ n = cc in ap (not_run from_input) same
refused-input (State m) n e = let z : ◌≡◌ {A = ℕ} 0 1 = cc in absurd (omega arith)

module _ (file counts : List ℕ) (ticks : ℕ) (six : length counts ≡ 6) where
  -- the file is refused
  pub unread-promises : (r : Opened) → Reads (read_file file) r → (why : Refusal) → r.answer ≡ Err why → RunPromises (read_file file) counts ticks (Err why)
  unfolding run_engine
  unread-promises r reads why is =
      let (n, same, says) = unread-with (read_file file) r reads why is in
      promises-of (read_file file) counts ticks (limits-read file) six (Err why) (rw same (refused-input why n says))

  -- it reads as a system
  pub opened-promises : (y : System) → read_file file ≡ opened y → (r : Result Report Refusal) → run_outcome_of r ≡ run_over y counts ticks → RunPromises (read_file file) counts ticks r
  unfolding run_engine
  opened-promises y is r e = promises-of (read_file file) counts ticks (limits-read file) six r (rw is e)

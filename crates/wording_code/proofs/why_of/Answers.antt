-- `why_of`: both parts of its own table are long enough for every system, so the answer over them is that of the file (`why-promised`).
use Prim.Native.Nat.{ℕ}
use native.Mathlib.Omega.{arith}
use lib.ListN.{length-replicate}
use Rattle.wording.proofs.Told.{why-promised}
use Rattle.wording_code.proofs.why_of.Goals as goal

pub returns : goal.returns
returns c =
    let whole = length-replicate {A = ℕ} 4096 0 in
    why-promised (omega (arith, whole), omega (arith, whole)) c.why_no_plan.ensures c.write_answer.ensures

-- `tight_of`: its own part is long enough for every system, so the answer over it is that of the file (`tight-promised`).
use Prim.Native.Nat.{ℕ}
use native.Mathlib.Omega.{arith}
use lib.ListN.{length-replicate}
use Rattle.tightness.proofs.Told.{tight-promised}
use Rattle.tightness_code.proofs.tight_of.Goals as goal

pub returns : goal.returns
returns c =
    let whole = length-replicate {A = ℕ} 8192 0 in
    tight-promised (omega (arith, whole)) c.count_assignments.ensures c.write_answer.ensures

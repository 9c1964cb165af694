-- `limits::paces_fault` meets its contract. The loop's invariant: the types that are left decide.
use mathlib.Core.Path.{◌≡◌}
use lib.ListN.{drop}
use Rattle.system.proofs.Within.{first_fault}
use Rattle.system_code.proofs.Steps.{paced}
use Rattle.system_code.proofs.limits.paces_fault.Given as goal

abbrev pub invariant-loop-t : goal.invariant-loop-t
invariant-loop-t l = first_fault (paced l.timecap) (drop l.t-index l.t-items) ≡ first_fault (paced l.timecap) l.t-items

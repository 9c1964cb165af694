-- `mosts_fault`. The loop's invariant: the types that are left decide.
use mathlib.Core.Path.{◌≡◌}
use lib.ListN.{drop}
use Rattle.system.proofs.Within.{first_fault}
use Rattle.writer_code.proofs.Steps.{most_said}
use Rattle.writer_code.proofs.mosts_fault.Given as goal

abbrev pub invariant-loop-t : goal.invariant-loop-t
invariant-loop-t l = first_fault most_said (drop l.t-index l.t-items) ≡ first_fault most_said l.t-items

-- `types_fault`. The loop's invariant: the types that are left decide.
use mathlib.Core.Path.{◌≡◌}
use lib.ListN.{drop}
use Rattle.system.proofs.Within.{first_fault}
use Rattle.writer.specs.Writing.{task_fault}
use Rattle.writer_code.proofs.types_fault.Given as goal

abbrev pub invariant-loop-t : goal.invariant-loop-t
invariant-loop-t l = first_fault task_fault (drop l.t-index l.t-items) ≡ first_fault task_fault l.t-items

-- `put_types`. The loop's invariant: the fields of the types that are behind stand at `at`.
use mathlib.Core.Path.{◌≡◌}
use lib.ListN.{length, take}
use Rattle.buffer.specs.Written.{Puts}
use Rattle.writer.specs.File.{types_bytes}
use Rattle.writer_code.proofs.put_types.Given as goal

abbrev pub invariant-loop-t : goal.invariant-loop-t
invariant-loop-t l = (length l.out ≡ length l.initial.out) × Puts (types_bytes (take l.t-index l.t-items)) l.at l.initial.out l.out l.next

-- `types_size`. The loop's invariant: the bytes of the types that are behind.
use mathlib.Core.Path.{◌≡◌}
use lib.ListN.{length, take}
use Rattle.writer.specs.File.{types_bytes}
use Rattle.writer_code.proofs.types_size.Given as goal

abbrev pub invariant-loop-t : goal.invariant-loop-t
invariant-loop-t l = l.size ≡ length (types_bytes (take l.t-index l.t-items))

-- `put_counts`. The loop's invariant: the first t counts stand at `at`.
use mathlib.Core.Path.{◌≡◌}
use lib.ListN.{length, take}
use Rattle.buffer.specs.Written.{Puts}
use Rattle.sheets.specs.Sheet.{counts_bytes}
use Rattle.sheets_code.proofs.writing.put_counts.Given as goal

abbrev pub invariant-loop-count : goal.invariant-loop-count
invariant-loop-count l = (length l.out ≡ length l.initial.out) × Puts (counts_bytes (take l.count-index l.count-items)) l.at l.initial.out l.out l.next

-- `put_records`. The loop's invariant: the records of the first i engines stand at `at`, and there is room for those of the others.
use Prim.Native.Nat.{◌+◌, ◌-◌, ◌*◌, ◌≤◌}
use mathlib.Core.Path.{◌≡◌}
use lib.ListN.{length, take, drop}
use Rattle.system.specs.Limits.{engine_limit}
use Rattle.buffer.specs.Written.{Puts}
use Rattle.sheets.specs.Sheet.{record_rule, field_size, records_bytes, used_in}
use Rattle.sheets_code.proofs.writing.put_records.Given as goal

abbrev pub invariant-loop-i : goal.invariant-loop-i
invariant-loop-i l =
    (l.i ≤ engine_limit)
    × (length l.out ≡ length l.initial.out)
    × Puts (records_bytes l.k 1 (take l.i l.fn.loads)) l.at l.initial.out l.out l.next
    × (l.next + used_in (drop l.i l.fn.loads) * field_size record_rule l.k ≤ length l.initial.out)

abbrev pub decreases-loop-i : goal.decreases-loop-i
decreases-loop-i l = engine_limit - l.i

-- The records that a plan used, as its answer counts them.
use Rattle.std.specs.Prelude.{ℕ, Option, Some, None, Result, Ok, Err, replicate}
use Rattle.system.specs.declared.Refusal.{Refusal}
use Rattle.planner.specs.declared.EngineRecord.{EngineRecord}

-- the engines that a plan uses, 0 where it is refused or has no number
abbrev pub used_of : Result (Option ℕ) Refusal → ℕ
used_of (Ok (Some n)) = n
used_of (Ok None) = 0
used_of (Err e) = 0

-- every record of a list before a plan
abbrev pub old_record : EngineRecord
old_record = record { number = 77; load = record { time = 7; memory = 7; counts = replicate 6 7 } }

-- When a system is written, and what the lent buffer then holds: request 2026-01, with 31 of request 2026-04, 41 of 2026-13 and 43 of 2026-14. A test gives
-- the number of the refusal that it calls for, 0 for none.
use Rattle.std.specs.Prelude.{ℕ, List, [], ◌∷◌, ◌++◌, cond, length, drop, ltb, eqb}
use Rattle.system.specs.declared.TaskType.{TaskType}
use Rattle.system.specs.declared.System.{System}
use Rattle.system.specs.Values.{cleared}
pub use Rattle.system.specs.Limits.{or_else}
use Rattle.system.specs.Limits.{type_limit, platform_fault, second_fault, type_fault, most_fault, paces_fault, costs_fault, kinds_fault, columns_fault}
use Rattle.system.specs.Outcome.{Outcome, accepted, refused, from_input}
use Rattle.writer.specs.File.{file_of}

-- k: 7, 9
abbrev pub count_fault : ℕ → ℕ
count_fault k = cond (ltb type_limit k) 7 (cond (eqb k 0) 9 0)

-- u, s and d of a type, and its u and s on the second kind: 8
abbrev pub task_fault : TaskType → ℕ
task_fault t = or_else (type_fault t) (costs_fault t.there)

-- of some types
unfoldable pub types_fault : List TaskType → ℕ
types_fault [] = 0
types_fault (t ∷ ts) = or_else (task_fault t) (types_fault ts)

-- q of some types: 31
unfoldable pub mosts_fault : List TaskType → ℕ
mosts_fault [] = 0
mosts_fault (t ∷ ts) = or_else (most_fault t.most) (mosts_fault ts)

-- the types' limits, on engines with this U: 8, then 31, then 43, then 10. What stands past k has no C and T where it is judged
abbrev pub types_limits : ℕ → List TaskType → ℕ
types_limits whole ts = or_else (types_fault ts) (or_else (mosts_fault ts) (or_else (paces_fault whole type_limit ts) (columns_fault ts)))

-- the buffer's length: 30
abbrev pub room_fault : ℕ → ℕ → ℕ
room_fault size room = cond (ltb room size) 30 0

-- the numbers of engines of both kinds, the rule, and U and S of both: 5, 6, 8. The platform's fault comes first, but that a 5 of the second kind comes
-- before its 6 and its 8
abbrev pub engines_fault : ℕ → ℕ → ℕ
engines_fault platform second = cond (eqb second 5) second (or_else platform second)

-- "in the order 7, 9, 5, 6, 8, 10", 31 after every 8 (request 2026-04), 43 after every 31 (2026-14), and 41 "after 9" (2026-13): "types past k .. are not
-- judged", so the system is judged as it is with 0 there
unfoldable pub system_fault : System → ℕ
system_fault y =
    or_else (count_fault y.typecount)
    (or_else (kinds_fault y)
    (or_else (engines_fault (platform_fault y.engines y.rule y.timecap y.memorycap) (second_fault y.engines y.second))
    (types_limits y.timecap (cleared y).types)))

-- "30, when the buffer is shorter than the file, after 10"
unfoldable pub write_fault : System → ℕ → ℕ
write_fault y room = or_else (system_fault y) (room_fault (length (file_of y)) room)

-- "The answer is the number of bytes written"
unfoldable pub write_outcome : System → ℕ → Outcome
write_outcome y room = cond (eqb (write_fault y room) 0) (accepted (length (file_of y) ∷ [])) (refused from_input (write_fault y room))

-- "bytes past them are unchanged"; "Every refusal leaves the buffer unchanged"
unfoldable pub written_to : System → List ℕ → List ℕ
written_to y old = cond (eqb (write_fault y (length old)) 0) (file_of y ++ drop (length (file_of y)) old) old

-- The system that a recipe makes, when it is written, and what the lent buffer then holds: request 2026-12. A test gives the number of the refusal that it
-- calls for, 0 for none.
use Rattle.std.specs.Prelude.{ℕ, zero, suc, ◌+◌, ◌*◌, ◌%◌, ◌^◌, List, Bool, not, cond, ◌&&◌, leb, eqb}
use Rattle.system.specs.declared.TaskType.{TaskType}
use Rattle.system.specs.declared.System.{System}
use Rattle.system.specs.Values.{task_of, blank, with_platform, with_type}
use Rattle.system.specs.Limits.{type_limit, column_limit, platform_fault}
use Rattle.system.specs.Outcome.{Outcome, refused, from_input}
use Rattle.writer.specs.Writing.{or_else, write_outcome, written_to}
use Rattle.making.specs.declared.Recipe.{Recipe}
use Rattle.making.specs.Generator.{step, value_after}

-- "each type draws u = 1 + x mod U, s = 1 + x mod S, n = x mod (g+1), stepping before each draw": the type that is drawn where the generator stands at x
abbrev pub drawn_from : Recipe → ℕ → TaskType
drawn_from w x = task_of (1 + step x % w.timecap) (1 + step (step x) % w.memorycap) (step (step (step x)) % (w.top + 1))

-- the system with its first types: three values are gone for each of them
unfoldable pub drawn_to : Recipe → ℕ → System
drawn_to w zero = with_platform w.engines w.rule w.timecap w.memorycap blank
drawn_to w (suc t) = with_type (drawn_from w (value_after w.seed (3 * t))) (drawn_to w t)

abbrev pub drawn_system : Recipe → System
drawn_system w = drawn_to w w.typecount

-- "39, when the seed, U or S is 0 or any parameter but g breaks a limit"
abbrev pub numbers_keep : Recipe → Bool
numbers_keep w =
    leb 1 w.seed && leb 1 w.timecap && leb 1 w.memorycap
    && eqb (platform_fault w.engines w.rule w.timecap w.memorycap) 0
    && (leb 1 w.typecount && leb w.typecount type_limit)

unfoldable pub numbers_fault : Recipe → ℕ
numbers_fault w = cond (not (numbers_keep w)) 39 0

-- "40, when (g+1) to the power k exceeds 4,096"
abbrev pub power_fault : Recipe → ℕ
power_fault w = cond (not (leb ((w.top + 1) ^ w.typecount) column_limit)) 40 0

-- "in this order, before 30"
unfoldable pub recipe_fault : Recipe → ℕ
recipe_fault w = or_else (numbers_fault w) (power_fault w)

-- then 30, and the number of bytes written, as the writer answers
unfoldable pub make_outcome : Recipe → ℕ → Outcome
make_outcome w room = cond (eqb (recipe_fault w) 0) (write_outcome (drawn_system w) room) (refused from_input (recipe_fault w))

-- and the buffer as the writer leaves it; as it was where the recipe is refused
unfoldable pub made_in : Recipe → List ℕ → List ℕ
made_in w old = cond (eqb (recipe_fault w) 0) (written_to (drawn_system w) old) old

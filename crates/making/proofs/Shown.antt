-- The worked cases of request 2026-12 hold of the definitions: by computation.
use mathlib.Core.Path.{◌≡◌, refl}
use mathlib.Core.List.{[], ◌∷◌, ◌++◌}
use lib.ListN.{replicate}
use Rattle.system.specs.Limits.{paces_fault, kinds_agree, columns_of}
use Rattle.system.specs.Rules.{rule_of}
use Rattle.system.specs.Outcome.{accepted, refused, from_input}
use Rattle.writer.specs.File.{field_bytes, types_bytes, file_of}
use Rattle.writer.specs.Writing.{types_fault, mosts_fault, system_fault, write_fault, write_outcome, written_to}
use Rattle.making.specs.Generator.{step_one, step_two, step_three, step, value_after}
use Rattle.making.specs.Making.{drawn_to, numbers_fault, recipe_fault, make_outcome, made_in}
use Rattle.making.specs.Cases.{recipe, two_types, two_types_file, largest}

-- the file at the start of the buffer, and what was there after it
pub file-shown : (make_outcome two_types 39 ≡ accepted (39 ∷ [])) × (made_in two_types (replicate 41 7) ≡ two_types_file ++ (7 ∷ 7 ∷ []))
unfolding make_outcome made_in recipe_fault numbers_fault drawn_to value_after step step_one step_two step_three write_outcome written_to write_fault system_fault kinds_agree types_fault mosts_fault paces_fault columns_of file_of types_bytes field_bytes rule_of
file-shown = (refl, refl)

-- 30 a byte short; 40 past 4,096, whatever the buffer; and the largest g of each k
pub ends-shown : (make_outcome two_types 38 ≡ refused from_input 30) × (make_outcome largest 91 ≡ accepted (91 ∷ [])) × (make_outcome largest 90 ≡ refused from_input 30)
    × (make_outcome (recipe 1 1 0 1 1 6 4) 0 ≡ refused from_input 40) × (make_outcome (recipe 1 1 0 1 1 1 4096) 0 ≡ refused from_input 40)
    × (make_outcome (recipe 1 1 0 1 1 1 18446744073709551615) 0 ≡ refused from_input 40) × (make_outcome (recipe 1 1 0 1 1 1 4095) 26 ≡ accepted (26 ∷ []))
    × (make_outcome (recipe 1 1 0 1 1 2 63) 39 ≡ accepted (39 ∷ [])) × (make_outcome (recipe 1 1 0 1 1 2 64) 39 ≡ refused from_input 40)
unfolding make_outcome made_in recipe_fault numbers_fault drawn_to value_after step step_one step_two step_three write_outcome written_to write_fault system_fault kinds_agree types_fault mosts_fault paces_fault columns_of file_of types_bytes field_bytes rule_of
ends-shown = (refl, refl, refl, refl, refl, refl, refl, refl, refl)

-- 39 for each number, with a g and a buffer that would be refused 40 and 30
pub first-shown : (make_outcome (recipe 0 1 0 1 1 1 4096) 0 ≡ refused from_input 39)
    × (make_outcome (recipe 1 0 0 1 1 1 4096) 0 ≡ refused from_input 39) × (make_outcome (recipe 1 17 0 1 1 1 4096) 0 ≡ refused from_input 39)
    × (make_outcome (recipe 1 1 2 1 1 1 4096) 0 ≡ refused from_input 39)
    × (make_outcome (recipe 1 1 0 0 1 1 4096) 0 ≡ refused from_input 39) × (make_outcome (recipe 1 1 0 1000001 1 1 4096) 0 ≡ refused from_input 39)
    × (make_outcome (recipe 1 1 0 1 0 1 4096) 0 ≡ refused from_input 39) × (make_outcome (recipe 1 1 0 1 1000001 1 4096) 0 ≡ refused from_input 39)
    × (make_outcome (recipe 1 1 0 1 1 0 4096) 0 ≡ refused from_input 39) × (make_outcome (recipe 1 1 0 1 1 7 4096) 0 ≡ refused from_input 39)
unfolding make_outcome recipe_fault numbers_fault
first-shown = (refl, refl, refl, refl, refl, refl, refl, refl, refl, refl)

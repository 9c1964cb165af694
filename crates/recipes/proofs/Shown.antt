-- Worked texts hold of the definitions: by computation.
use mathlib.Core.Path.{◌≡◌, refl}
use Rattle.system.specs.Limits.{columns_of}
use Rattle.system.specs.Rules.{rule_of}
use Rattle.writer.specs.File.{field_bytes, types_bytes, file_of}
use Rattle.making.specs.Generator.{step_one, step_two, step_three, step as step_value, value_after}
use Rattle.making.specs.Making.{drawn_to, numbers_fault, recipe_fault}
use Rattle.making.specs.Cases.{two_types_file}
use Rattle.listing.specs.Listing.{refusal_line}
use Rattle.recipes.specs.Digits.{with_digit, stored, takes_digit, ends_number, step, read_from}
use Rattle.recipes.specs.Cases.{two_types_text, past_text, six_text}
use Rattle.recipes.specs.Output.{not_seven_line, recipe_text, progress_text, make_text}

pub file-shown : make_text two_types_text ≡ two_types_file
unfolding progress_text recipe_text recipe_fault numbers_fault read_from step takes_digit ends_number with_digit stored drawn_to value_after step_value step_one step_two step_three columns_of file_of types_bytes field_bytes rule_of
file-shown = refl

pub past-shown : make_text past_text ≡ refusal_line 39
unfolding progress_text recipe_text recipe_fault numbers_fault read_from step takes_digit ends_number with_digit stored
past-shown = refl

pub six-shown : make_text six_text ≡ not_seven_line
unfolding progress_text read_from step takes_digit ends_number with_digit stored
six-shown = refl

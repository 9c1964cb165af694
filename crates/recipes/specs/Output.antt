-- What program `make` writes for a text, as the code writes it: the file of the system that its seven numbers make, a refusal, or that it is not seven numbers.
use Rattle.std.specs.Prelude.{ℕ, min, List, [], ◌∷◌, cond, eqb, get_or}
use Rattle.writer.specs.File.{file_of}
use Rattle.making.specs.declared.Recipe.{Recipe}
use Rattle.making.specs.Making.{drawn_system, recipe_fault}
use Rattle.listing.specs.Listing.{refusal_line}
use Rattle.recipes.specs.declared.Progress.{Progress}
use Rattle.recipes.specs.Digits.{begun, read_from}

-- `not seven numbers` and 0A
abbrev pub not_seven_line : List ℕ
not_seven_line = 110 ∷ 111 ∷ 116 ∷ 32 ∷ 115 ∷ 101 ∷ 118 ∷ 101 ∷ 110 ∷ 32 ∷ 110 ∷ 117 ∷ 109 ∷ 98 ∷ 101 ∷ 114 ∷ 115 ∷ 10 ∷ []

-- the numbers in the forms of a recipe: the rule has 8 bits there, U and S have 32
abbrev pub recipe_of : List ℕ → Recipe
recipe_of ns = record {
  seed = get_or ns 0 0;
  engines = get_or ns 1 0;
  rule = min (get_or ns 2 0) 255;
  timecap = min (get_or ns 3 0) 4294967295;
  memorycap = min (get_or ns 4 0) 4294967295;
  typecount = get_or ns 5 0;
  top = get_or ns 6 0;
}

-- the buffer is long enough, so 30 does not arise: 39, 40, or the file
unfoldable pub recipe_text : Recipe → List ℕ
recipe_text w = cond (eqb (recipe_fault w) 0) (file_of (drawn_system w)) (refusal_line (recipe_fault w))

-- by what all bytes of a text come to
unfoldable pub progress_text : Progress → List ℕ
progress_text p = cond (eqb p.at 7) (recipe_text (recipe_of p.numbers)) not_seven_line

abbrev pub make_text : List ℕ → List ℕ
make_text text = progress_text (read_from begun text)

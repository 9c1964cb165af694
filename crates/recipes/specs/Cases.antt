-- Worked texts: one with its file, a seed past 64 bits, and six numbers.
use Rattle.std.specs.Prelude.{ℕ, List, [], ◌∷◌}

-- `1 3 0 100 200 2 3` and 0A: the file of the request's worked case
abbrev pub two_types_text : List ℕ
two_types_text = 49 ∷ 32 ∷ 51 ∷ 32 ∷ 48 ∷ 32 ∷ 49 ∷ 48 ∷ 48 ∷ 32 ∷ 50 ∷ 48 ∷ 48 ∷ 32 ∷ 50 ∷ 32 ∷ 51 ∷ 10 ∷ []

-- `18446744073709551616 1 0 1 1 1 0`: a seed of 2^64
abbrev pub past_text : List ℕ
past_text =
    49 ∷ 56 ∷ 52 ∷ 52 ∷ 54 ∷ 55 ∷ 52 ∷ 52 ∷ 48 ∷ 55 ∷ 51 ∷ 55 ∷ 48 ∷ 57 ∷ 53 ∷ 53 ∷ 49 ∷ 54 ∷ 49 ∷ 54
    ∷ 32 ∷ 49 ∷ 32 ∷ 48 ∷ 32 ∷ 49 ∷ 32 ∷ 49 ∷ 32 ∷ 49 ∷ 32 ∷ 48 ∷ 10 ∷ []

-- `1 3 0 100 200 2` and 0A: six
abbrev pub six_text : List ℕ
six_text = 49 ∷ 32 ∷ 51 ∷ 32 ∷ 48 ∷ 32 ∷ 49 ∷ 48 ∷ 48 ∷ 32 ∷ 50 ∷ 48 ∷ 48 ∷ 32 ∷ 50 ∷ 10 ∷ []

-- Worked cases of request 2026-12: a recipe with its file, and recipes at the ends of the limits.
use Rattle.std.specs.Prelude.{ℕ, List, [], ◌∷◌}
use Rattle.making.specs.declared.Recipe.{Recipe}

-- a recipe of seed, m, rule, U, S, k and g
abbrev pub recipe : ℕ → ℕ → ℕ → ℕ → ℕ → ℕ → ℕ → Recipe
recipe seed m rule u s k g = record { seed = seed; engines = m; rule = rule; timecap = u; memorycap = s; typecount = k; top = g }

-- Two types from seed 1. The values after it are 1,082,269,761; 1,152,992,998,833,853,505; 11,177,516,664,432,764,457: u is 1 + 61, s 1 + 105, n 1.
-- Then 17,678,023,832,001,937,445; 9,659,130,143,999,365,733; 17,775,799,001,133,815,809: u is 1 + 45, s 1 + 133, n 1
abbrev pub two_types : Recipe
two_types = recipe 1 3 0 100 200 2 3

abbrev pub two_types_file : List ℕ
two_types_file =
    1 ∷ 0 ∷ 10 ∷ 3 ∷ 0 ∷ 0 ∷ 0 ∷ 0 ∷ 100 ∷ 0 ∷ 0 ∷ 0 ∷ 200
    ∷ 2 ∷ 0 ∷ 10 ∷ 0 ∷ 0 ∷ 0 ∷ 62 ∷ 0 ∷ 0 ∷ 0 ∷ 106 ∷ 0 ∷ 1
    ∷ 2 ∷ 0 ∷ 10 ∷ 0 ∷ 0 ∷ 0 ∷ 46 ∷ 0 ∷ 0 ∷ 0 ∷ 134 ∷ 0 ∷ 1
    ∷ []

-- every number at its largest: the seed and U, S, m, rule and k, with the g that these leave
abbrev pub largest : Recipe
largest = recipe 18446744073709551615 16 1 1000000 1000000 6 3

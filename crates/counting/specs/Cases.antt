-- Worked examples of request 2026-11, from the bytes of a file: small systems whose assignments are listed.
use Rattle.std.specs.Prelude.{ℕ, List, [], ◌∷◌, ◌++◌}
use Rattle.system.specs.Layout.{read_file}
use Rattle.system.specs.Outcome.{Outcome}
use Rattle.counting.specs.Counts.{count_outcome}

-- the bytes of a platform of m, rule, U and S, of a type's u, s and n, of its d, and of its q, all below 256
abbrev pub platform : ℕ → ℕ → ℕ → ℕ → List ℕ
platform m rule u s = 1 ∷ 0 ∷ 10 ∷ m ∷ rule ∷ 0 ∷ 0 ∷ 0 ∷ u ∷ 0 ∷ 0 ∷ 0 ∷ s ∷ []

abbrev pub task_type : ℕ → ℕ → ℕ → List ℕ
task_type u s n = 2 ∷ 0 ∷ 10 ∷ 0 ∷ 0 ∷ 0 ∷ u ∷ 0 ∷ 0 ∷ 0 ∷ s ∷ 0 ∷ n ∷ []

abbrev pub data_field : ℕ → List ℕ
data_field d = 3 ∷ 0 ∷ 4 ∷ 0 ∷ 0 ∷ 0 ∷ d ∷ []

abbrev pub most_field : ℕ → List ℕ
most_field q = 4 ∷ 0 ∷ 2 ∷ 0 ∷ q ∷ []

-- what a count of a file answers, with so many entries lent
abbrev pub counted_as : List ℕ → ℕ → Outcome
counted_as file entries = count_outcome (read_file file) entries

-- document 01's system A: m 3, rule 0, U 10, S 8; u 4, s 3, n 3; u 3, s 2, n 2
abbrev pub file_a : List ℕ
file_a = platform 3 0 10 8 ++ task_type 4 3 3 ++ task_type 3 2 2

-- two engines, U 4: two instances of u 1 and one of u 3. The large one is on either engine, and beside it one of the two small ones, or none: 6 of 8 are good.
-- Were the instances of a type equal, it would be 4, were the engines equal, 3; and with the fit tested for the rest alone, 7
abbrev pub two_and_one : List ℕ
two_and_one = platform 2 0 4 9 ++ task_type 1 1 2 ++ task_type 3 1 1

-- two engines under a rule, with S: two instances of s 2 and d 1, and one of s 1
abbrev pub with_copies : ℕ → ℕ → List ℕ
with_copies rule s = platform 2 rule 9 s ++ task_type 1 2 2 ++ data_field 1 ++ task_type 1 1 1

-- m engines with room for all, and two instances of which no engine holds more than q, with one more
abbrev pub apart_by : ℕ → ℕ → List ℕ
apart_by m q = platform m 0 9 9 ++ task_type 1 1 2 ++ most_field q ++ task_type 1 1 1

-- n instances that cost nothing, on m engines
abbrev pub costless : ℕ → ℕ → List ℕ
costless m n = platform m 0 0 0 ++ task_type 0 0 n

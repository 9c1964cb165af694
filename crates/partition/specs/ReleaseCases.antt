-- Worked examples of request 2026-09, computed from the bytes of a file: both bounds of two releases are met, and what each rule needs.
use Rattle.std.specs.Prelude.{ℕ, List, [], ◌∷◌}
use Rattle.system.specs.declared.System.{System}
use Rattle.system.specs.Layout.{read_file, read_system}
use Rattle.partition.specs.ForSystem.{row_for}

-- document 01's system A: m 3, rule 0, U 10, S 8; u 4, s 3, n 3; u 3, s 2, n 2
abbrev pub file_a : List ℕ
file_a =
    1 ∷ 0 ∷ 10 ∷ 3 ∷ 0 ∷ 0 ∷ 0 ∷ 0 ∷ 10 ∷ 0 ∷ 0 ∷ 0 ∷ 8
    ∷ 2 ∷ 0 ∷ 10 ∷ 0 ∷ 0 ∷ 0 ∷ 4 ∷ 0 ∷ 0 ∷ 0 ∷ 3 ∷ 0 ∷ 3
    ∷ 2 ∷ 0 ∷ 10 ∷ 0 ∷ 0 ∷ 0 ∷ 3 ∷ 0 ∷ 0 ∷ 0 ∷ 2 ∷ 0 ∷ 2 ∷ []

abbrev pub system_a : System
system_a = read_system (read_file file_a)

-- its system B, m 4, with the rule and d: U 10, S 8; u 2, s 5, n 4
abbrev pub system_b : ℕ → ℕ → System
system_b rule d =
    read_system (read_file (
    1 ∷ 0 ∷ 10 ∷ 4 ∷ rule ∷ 0 ∷ 0 ∷ 0 ∷ 10 ∷ 0 ∷ 0 ∷ 0 ∷ 8
    ∷ 2 ∷ 0 ∷ 10 ∷ 0 ∷ 0 ∷ 0 ∷ 2 ∷ 0 ∷ 0 ∷ 0 ∷ 5 ∷ 0 ∷ 4
    ∷ 3 ∷ 0 ∷ 4 ∷ 0 ∷ 0 ∷ 0 ∷ d ∷ []
    ))

-- a load of x instances of type 1 and z of type 2
abbrev pub load_with : ℕ → ℕ → List ℕ
load_with x z = x ∷ z ∷ 0 ∷ 0 ∷ 0 ∷ 0 ∷ []

-- the fewest engines of such a load in system A on the engines es
abbrev pub row_a : List ℕ → ℕ → ℕ → ℕ
row_a es x z = row_for system_a es (load_with x z)

-- engine 2 is out of service; or none is
abbrev pub one_and_three : List ℕ
one_and_three = 1 ∷ 3 ∷ []

abbrev pub all_three : List ℕ
all_three = 1 ∷ 2 ∷ 3 ∷ []

-- the fewest engines of all four instances of system B
abbrev pub row_b : ℕ → ℕ → ℕ
row_b rule d = row_for (system_b rule d) (1 ∷ 2 ∷ 3 ∷ 4 ∷ []) (load_with 4 0)

-- a card of rule 1 with a type that has d and q: m 3, U 10, S 8; u 2, s 3, d 1, q 2, with n, which is 4
abbrev pub file_of_q : ℕ → List ℕ
file_of_q n =
    1 ∷ 0 ∷ 10 ∷ 3 ∷ 1 ∷ 0 ∷ 0 ∷ 0 ∷ 10 ∷ 0 ∷ 0 ∷ 0 ∷ 8
    ∷ 2 ∷ 0 ∷ 10 ∷ 0 ∷ 0 ∷ 0 ∷ 2 ∷ 0 ∷ 0 ∷ 0 ∷ 3 ∷ 0 ∷ n
    ∷ 3 ∷ 0 ∷ 4 ∷ 0 ∷ 0 ∷ 0 ∷ 1
    ∷ 4 ∷ 0 ∷ 2 ∷ 0 ∷ 2 ∷ []

abbrev pub file_q : List ℕ
file_q = file_of_q 4

abbrev pub system_q : System
system_q = read_system (read_file file_q)

-- one of two releases that are half of it each
abbrev pub half_q : System
half_q = read_system (read_file (file_of_q 2))

-- the fewest engines of x instances there, with engine 2 out of service
abbrev pub row_q : ℕ → ℕ
row_q x = row_for system_q one_and_three (load_with x 0)

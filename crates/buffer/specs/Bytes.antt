-- The bytes of an unsigned number, most significant byte first.
use Rattle.std.specs.Prelude.{ℕ, ◌/◌, ◌%◌, List, [], ◌∷◌, ◌++◌}

-- of a number below 65,536, two bytes
abbrev pub bytes2 : ℕ → List ℕ
bytes2 n = (n / 256) ∷ (n % 256) ∷ []

-- of a number below 4,294,967,296, four bytes: its upper half, then its lower half
abbrev pub bytes4 : ℕ → List ℕ
bytes4 n = bytes2 (n / 65536) ++ bytes2 (n % 65536)

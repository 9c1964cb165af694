-- Document 01's numbers; the code has the same constants.
use Rattle.std.specs.Prelude.{ℕ}

-- the largest number of engines, and of types
abbrev pub engine_limit : ℕ
engine_limit = 16

abbrev pub type_limit : ℕ
type_limit = 6

-- the largest U, S, u, s and d
abbrev pub size_limit : ℕ
size_limit = 1000000

-- the largest number of columns: 1,024 in document 01, 4,096 since request 2026-10
abbrev pub column_limit : ℕ
column_limit = 4096

-- the largest C and T (request 2026-14)
abbrev pub tick_limit : ℕ
tick_limit = 65535

-- the bytes that program `plan` reads: 256 since request 2026-03, 384 since 2026-14
abbrev pub file_bytes : ℕ
file_bytes = 384

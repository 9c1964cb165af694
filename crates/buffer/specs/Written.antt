-- What is said of bytes put into a lent buffer.
use Rattle.std.specs.Prelude.{ℕ, ◌+◌, ◌≤◌, List, ◌++◌, ◌≡◌, length, take, drop}

-- n counts bytes at the start of xs. The second part follows from the first; both are said so that a program's `&buf[..n]` is proved without more. It is what
-- `io` of the toolchain calls `IsPrefixLen`, and is said here again so that only crates that use that library name it.
abbrev pub Counts : ℕ → List ℕ → Type 0
Counts n xs = (n ≤ length xs) × (n ≡ length (take n xs))

-- the buffer with `bytes` from place `at` on; what stood before and past them is as it was
abbrev pub put : List ℕ → ℕ → List ℕ → List ℕ
put bytes at old = take at old ++ (bytes ++ drop (at + length bytes) old)

-- what a function promises that puts `bytes` at `at` and answers the place after them
pub record Puts (bytes : List ℕ) (at : ℕ) (old new : List ℕ) (r : ℕ) : Type 0 where
  pub left : new ≡ put bytes at old
  pub next : r ≡ at + length bytes

-- what a function promises that writes `bytes` at the start of the buffer, all of them within it, and answers how many there are
pub record Written (bytes old new : List ℕ) (r : ℕ) : Type 0 where
  pub left : new ≡ bytes ++ drop (length bytes) old
  pub count : r ≡ length bytes
  pub within : Counts r new

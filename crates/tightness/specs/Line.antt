-- The line that program `tight` writes, as the code writes it: the number of good assignments and the total of all, or a refusal.
use Rattle.std.specs.Prelude.{ℕ, List, [], ◌∷◌, ◌++◌, cond, leb, Result, Ok, Err}
use Rattle.system.specs.declared.Refusal.{Refusal}
use Rattle.counting.specs.declared.Counts.{Counts}
use Rattle.system.specs.Layout.{Reading, read_file, opened, unread}
use Rattle.listing.specs.Listing.{decimal, refusal_line}
use Rattle.listing.specs.Demands.{number_of}
use Rattle.counting.specs.Counts.{good_count, total_count, greatest}

-- what stands before the first number, `good `, and before the second, ` of `
abbrev pub good_front : List ℕ
good_front = 103 ∷ 111 ∷ 111 ∷ 100 ∷ 32 ∷ []

abbrev pub of_front : List ℕ
of_front = 32 ∷ 111 ∷ 102 ∷ 32 ∷ []

-- `good 1050 of 2187` and 0A
abbrev pub count_line : ℕ → ℕ → List ℕ
count_line good total = (((good_front ++ decimal good) ++ of_front) ++ decimal total) ++ (10 ∷ [])

-- the line of what `count_assignments` answers
abbrev pub answer_line : Result Counts Refusal → List ℕ
answer_line (Ok c) = count_line c.good c.total
answer_line (Err why) = refusal_line (number_of why)

-- the part of 64-bit numbers is the function's own and long enough, so 38 does not arise: 1 to 10, 31 and 41 to 43, then 37, or both numbers
unfoldable pub reading_line : Reading → List ℕ
reading_line (unread n) = refusal_line n
reading_line (opened y) = cond (leb (total_count y) greatest) (count_line (good_count y) (total_count y)) (refusal_line 37)

-- the line of a file
abbrev pub tight_text : List ℕ → List ℕ
tight_text file = reading_line (read_file file)

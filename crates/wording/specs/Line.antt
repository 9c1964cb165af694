-- The line that program `why` writes, as the code writes it: `placed`, a cause in words with its number, or a refusal.
use Rattle.std.specs.Prelude.{ℕ, List, [], ◌∷◌, ◌++◌, Result, Ok, Err}
use Rattle.system.specs.declared.Refusal.{Refusal}
use Rattle.system.specs.Values.{ceilings_of}
use Rattle.system.specs.Layout.{Reading, read_file, opened, unread}
use Rattle.partition.specs.Assignment.{engines_to}
use Rattle.listing.specs.Listing.{decimal, refusal_line}
use Rattle.listing.specs.Demands.{number_of}
use Rattle.causes.specs.declared.Cause.{Cause}
use Rattle.causes.specs.declared.Cause.TheVariants.{Possible, NoEngine, OneTooLarge, TooMuchTime, TooMuchMemory, TooManyReplicas, NoArrangement}
use Rattle.causes.specs.Causes.{cause_on}

-- the parts of the line of cause 2: `cause 2: type ` before the type's number, ` fits nowhere` and 0A after it
abbrev pub type_front : List ℕ
type_front = 99 ∷ 97 ∷ 117 ∷ 115 ∷ 101 ∷ 32 ∷ 50 ∷ 58 ∷ 32 ∷ 116 ∷ 121 ∷ 112 ∷ 101 ∷ 32 ∷ []

abbrev pub type_end : List ℕ
type_end = 32 ∷ 102 ∷ 105 ∷ 116 ∷ 115 ∷ 32 ∷ 110 ∷ 111 ∷ 119 ∷ 104 ∷ 101 ∷ 114 ∷ 101 ∷ 10 ∷ []

abbrev pub type_line : ℕ → List ℕ
type_line t = (type_front ++ decimal t) ++ type_end

-- the line of each cause: `placed`, `cause 1: nothing is in service`, that of cause 2, `cause 3: too much time in all`, `cause 4: too much storage in all`,
-- `cause 5: too many of one type for its q`, `cause 6: enough in all, but no arrangement fits`
unfoldable pub cause_line : Cause → List ℕ
cause_line Possible = 112 ∷ 108 ∷ 97 ∷ 99 ∷ 101 ∷ 100 ∷ 10 ∷ []
cause_line NoEngine = 99 ∷ 97 ∷ 117 ∷ 115 ∷ 101 ∷ 32 ∷ 49 ∷ 58 ∷ 32 ∷ 110 ∷ 111 ∷ 116 ∷ 104 ∷ 105 ∷ 110 ∷ 103 ∷ 32 ∷ 105 ∷ 115 ∷ 32 ∷ 105 ∷ 110 ∷ 32 ∷ 115 ∷ 101 ∷ 114 ∷ 118 ∷ 105 ∷ 99 ∷ 101 ∷ 10 ∷ []
cause_line (OneTooLarge t) = type_line t
cause_line TooMuchTime = 99 ∷ 97 ∷ 117 ∷ 115 ∷ 101 ∷ 32 ∷ 51 ∷ 58 ∷ 32 ∷ 116 ∷ 111 ∷ 111 ∷ 32 ∷ 109 ∷ 117 ∷ 99 ∷ 104 ∷ 32 ∷ 116 ∷ 105 ∷ 109 ∷ 101 ∷ 32 ∷ 105 ∷ 110 ∷ 32 ∷ 97 ∷ 108 ∷ 108 ∷ 10 ∷ []
cause_line TooMuchMemory = 99 ∷ 97 ∷ 117 ∷ 115 ∷ 101 ∷ 32 ∷ 52 ∷ 58 ∷ 32 ∷ 116 ∷ 111 ∷ 111 ∷ 32 ∷ 109 ∷ 117 ∷ 99 ∷ 104 ∷ 32 ∷ 115 ∷ 116 ∷ 111 ∷ 114 ∷ 97 ∷ 103 ∷ 101 ∷ 32 ∷ 105 ∷ 110 ∷ 32 ∷ 97 ∷ 108 ∷ 108 ∷ 10 ∷ []
cause_line TooManyReplicas = 99 ∷ 97 ∷ 117 ∷ 115 ∷ 101 ∷ 32 ∷ 53 ∷ 58 ∷ 32 ∷ 116 ∷ 111 ∷ 111 ∷ 32 ∷ 109 ∷ 97 ∷ 110 ∷ 121 ∷ 32 ∷ 111 ∷ 102 ∷ 32 ∷ 111 ∷ 110 ∷ 101 ∷ 32 ∷ 116 ∷ 121 ∷ 112 ∷ 101 ∷ 32 ∷ 102 ∷ 111 ∷ 114 ∷ 32 ∷ 105 ∷ 116 ∷ 115 ∷ 32 ∷ 113 ∷ 10 ∷ []
cause_line NoArrangement = 99 ∷ 97 ∷ 117 ∷ 115 ∷ 101 ∷ 32 ∷ 54 ∷ 58 ∷ 32 ∷ 101 ∷ 110 ∷ 111 ∷ 117 ∷ 103 ∷ 104 ∷ 32 ∷ 105 ∷ 110 ∷ 32 ∷ 97 ∷ 108 ∷ 108 ∷ 44 ∷ 32 ∷ 98 ∷ 117 ∷ 116 ∷ 32 ∷ 110 ∷ 111 ∷ 32 ∷ 97 ∷ 114 ∷ 114 ∷ 97 ∷ 110 ∷ 103 ∷ 101 ∷ 109 ∷ 101 ∷ 110 ∷ 116 ∷ 32 ∷ 102 ∷ 105 ∷ 116 ∷ 115 ∷ 10 ∷ []

-- the line of what `why_no_plan` answers
abbrev pub answer_line : Result Cause Refusal → List ℕ
answer_line (Ok c) = cause_line c
answer_line (Err why) = refusal_line (number_of why)

-- both parts of the table are the function's own and long enough, so 11 does not arise: 1 to 10, 31 and 41 to 43, or the cause
unfoldable pub reading_line : Reading → List ℕ
reading_line (unread n) = refusal_line n
reading_line (opened y) = cause_line (cause_on y (engines_to y.engines) (ceilings_of y))

-- the line of a file
abbrev pub why_text : List ℕ → List ℕ
why_text file = reading_line (read_file file)

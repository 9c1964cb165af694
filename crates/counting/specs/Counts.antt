-- Request 2026-11, "How tight is a system": "the number of good assignments and the total of all, engines and instances being distinct".
use Rattle.std.specs.Prelude.{ℕ, suc, ◌*◌, ◌^◌, List, [], ◌∷◌, Bool, cond, leb}
use Rattle.system.specs.declared.System.{System}
use Rattle.system.specs.Values.{ceilings_of}
use Rattle.system.specs.Limits.{columns}
use Rattle.system.specs.Layout.{Reading, opened, unread}
use Rattle.system.specs.Outcome.{Outcome, accepted, refused, from_input, Checked, check, and_then, unless_fails}
use Rattle.partition.specs.Assignment.{Assignment, engines_to, assignments_of}
use Rattle.partition.specs.Listing.{instances}
use Rattle.partition.specs.ForSystem.{good_on}

-- how many of a list pass the test
unfoldable pub count_of : {A : Type 0} → (A → Bool) → List A → ℕ
count_of p [] = 0
count_of p (x ∷ xs) = cond (p x) (suc (count_of p xs)) (count_of p xs)

-- "The count is of assignments": those of the listing of all assignments of n(1), .., n(k) to the engines 1 to m that are good
abbrev pub good_count : System → ℕ
good_count y = count_of (good_on y (engines_to y.engines)) (assignments_of (engines_to y.engines) (ceilings_of y))

-- "With N instances on m engines the total is m to the power N"
abbrev pub total_count : System → ℕ
total_count y = y.engines ^ instances (ceilings_of y)

-- the greatest number of 64 bits, "2^64 - 1"
abbrev pub greatest : ℕ
greatest = 18446744073709551615

-- "37, when the total passes 2^64 - 1"
abbrev pub total_check : System → Checked
total_check y = check (leb (total_count y) greatest) from_input 37

-- "38, when the lent part of 64-bit numbers has fewer than 2 × columns entries"
abbrev pub part_check : System → ℕ → Checked
part_check y entries = check (leb (2 * columns y) entries) from_input 38

-- "in this order", after 1 to 10, 31 and 41 to 43 as the file is read; accepted with both numbers
abbrev pub count_outcome : Reading → ℕ → Outcome
count_outcome (unread n) entries = refused from_input n
count_outcome (opened y) entries = unless_fails (and_then (total_check y) (part_check y entries)) (accepted (good_count y ∷ total_count y ∷ []))

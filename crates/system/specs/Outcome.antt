-- What an answer says in document 01's words: accepted, with the numbers that it carries, or refused, with the list that the refusal is from and its number
-- there.
use Rattle.std.specs.Prelude.{ℕ, List, [], ◌∷◌, Bool, true, false, cond, eqb, Result, ⊤, Ok, Err, Option, Some, None}
use Rattle.system.specs.declared.Refusal.{Refusal}
use Rattle.system.specs.declared.Refusal.TheVariants.{Input, State}

-- document 01's two lists of refusals: "From the input" and "From the state"
pub data Source : Type 0 where
  from_input : Source
  from_state : Source

pub data Outcome : Type 0 where
  accepted : List ℕ → Outcome
  refused : Source → ℕ → Outcome

abbrev pub refusal_of : Refusal → Outcome
refusal_of (Input n) = refused from_input n
refusal_of (State n) = refused from_state n

-- what a call answers in the code: accepted, with a number where it has one to say, or refused
abbrev pub Answer : Type 0
Answer = Result (Option ℕ) Refusal

-- every case of every answer
abbrev pub outcome_of : Answer → Outcome
outcome_of (Ok None) = accepted []
outcome_of (Ok (Some n)) = accepted (n ∷ [])
outcome_of (Err r) = refusal_of r

-- the call was accepted, whatever numbers its answer carries
abbrev pub is_accepted : Outcome → Bool
is_accepted (accepted ns) = true
is_accepted (refused s n) = false

-- what a call is refused with before any work, or nothing
pub data Checked : Type 0 where
  passes : Checked
  fails : Source → ℕ → Checked

-- one check: refused with this number where the test is not met
abbrev pub check : Bool → Source → ℕ → Checked
check met s n = cond met passes (fails s n)

-- two checks, one after the other: the first that fails refuses
abbrev pub and_then : Checked → Checked → Checked
and_then (fails s n) later = fails s n
and_then passes later = later

-- the answer of a call that goes on only where its checks pass
abbrev pub unless_fails : Checked → Outcome → Outcome
unless_fails (fails s n) o = refused s n
unless_fails passes o = o

-- the code's check as the definition's
abbrev pub fails_with : Refusal → Checked
fails_with (Input n) = fails from_input n
fails_with (State n) = fails from_state n

abbrev pub checked_of : Result ⊤ Refusal → Checked
checked_of (Ok tt) = passes
checked_of (Err r) = fails_with r

-- a test as the code answers it, where its definition gives the number of the refusal that it calls for: nothing for 0, else that refusal from the input
abbrev pub within : ℕ → Result ⊤ Refusal
within n = cond (eqb n 0) (Ok tt) (Err (Input n))

-- and a value as the code answers it, where its definition gives it or the number of a refusal from the input
abbrev pub or_input : {A : Type 0} → Result A ℕ → Result A Refusal
or_input (Ok a) = Ok a
or_input (Err n) = Err (Input n)

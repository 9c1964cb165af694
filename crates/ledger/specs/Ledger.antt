-- Document 01's "Ledger" with the marks of request 2026-07: kept from the calls alone. It knows systems, loads, assignments and cells, and nothing of the
-- board or the table.
use Rattle.std.specs.Prelude.{ℕ, ◌-◌, List, [], ◌∷◌, Bool, true, false, cond, not, ◌&&◌, ◌≡◌, get_or, set, replicate, leb, eqb}
use Rattle.system.specs.declared.System.{System}
use Rattle.system.specs.Limits.{type_limit}
use Rattle.system.specs.Outcome.{Outcome, accepted, refused, from_input, from_state, is_accepted}
use Rattle.loads.specs.Load.{fits_engine, holds_none, one_more, one_less, empty_load}
use Rattle.partition.specs.Assignment.{passing, engines_to, some_good}
use Rattle.partition.specs.Shares.{sum_of}
use Rattle.partition.specs.ForSystem.{recovered_for}
use Rattle.partition.specs.Plain.{ceiling_no}

-- a call, as the ledger hears of it: its kind, with its type number and engine number where it has them
pub data Call : Type 0 where
  admit : ℕ → Call
  seat : ℕ → Call
  retire : ℕ → ℕ → Call
  repack : Call
  withdraw : ℕ → Call
  restore : ℕ → Call

-- the file's system, and for each of the engines 1 to m a mark and a count for each type
pub record Ledger : Type 0 where
  pub system : System
  pub marks : List Bool
  pub counts : List (List ℕ)

abbrev pub ledger_with : System → List Bool → List (List ℕ) → Ledger
ledger_with y marks counts = record { system = y; marks = marks; counts = counts }

-- "all 0 at first", and no mark "set when fresh"
abbrev pub fresh_ledger : System → Ledger
fresh_ledger y = ledger_with y (replicate y.engines false) (replicate y.engines empty_load)

-- "What stands is the sum over its engines"
abbrev pub stands : Ledger → List ℕ
stands l = sum_of type_limit l.counts

-- the count of engine e
abbrev pub counts_at : Ledger → ℕ → List ℕ
counts_at l e = get_or l.counts (e - 1) empty_load

abbrev pub with_counts : Ledger → ℕ → List ℕ → Ledger
with_counts l e x = ledger_with l.system l.marks (set l.counts (e - 1) x)

-- engine e is marked; the ledger with that mark set, or taken away
abbrev pub is_marked : Ledger → ℕ → Bool
is_marked l e = get_or l.marks (e - 1) false

abbrev pub marked_as : Ledger → ℕ → Bool → Ledger
marked_as l e mark = ledger_with l.system (set l.marks (e - 1) mark) l.counts

-- the engines that its instances may be on: those in service. "Its admit and its recovery pass over marked engines, and its assignments, for 23 too, are to
-- the engines in service"
abbrev pub engines : Ledger → List ℕ
engines l = passing (λ (e : ℕ). not (is_marked l e)) (engines_to l.system.engines)

-- a good assignment of x exists, by trying all assignments
abbrev pub exists : Ledger → List ℕ → Bool
exists l x = some_good (λ (e : ℕ). fits_engine l.system) (engines l) x

-- the recovery of x by the cells
abbrev pub recovered : Ledger → List ℕ → Ledger
recovered l x = ledger_with l.system l.marks (recovered_for l.system.engines l.system (engines l) x)

-- what the ledger answers to a call, and the ledger after it
pub record Entry : Type 0 where
  pub answer : Outcome
  pub ledger : Ledger

abbrev pub entry : Outcome → Ledger → Entry
entry o l = record { answer = o; ledger = l }

abbrev pub is_type : Ledger → ℕ → Bool
is_type l t = leb 1 t && leb t l.system.typecount

abbrev pub is_engine : Ledger → ℕ → Bool
is_engine l e = leb 1 e && leb e l.system.engines

-- n(t) of t stand
abbrev pub is_full : Ledger → ℕ → Bool
is_full l t = leb (ceiling_no l.system t) (get_or (stands l) (t - 1) 0)

-- the engines in service whose load with one more t fits, the lowest-numbered first
abbrev pub takers : Ledger → ℕ → List ℕ
takers l t = passing (λ (e : ℕ). fits_engine l.system (one_more (t - 1) (counts_at l e))) (engines l)

-- the newcomer is counted on the first of these; where there is none, 23 or 24
unfoldable pub counted_on : Ledger → ℕ → List ℕ → Entry
counted_on l t (e ∷ later) = entry (accepted (e ∷ [])) (with_counts l e (one_more (t - 1) (counts_at l e)))
counted_on l t [] = cond (exists l (one_more (t - 1) (stands l))) (entry (refused from_state 23) l) (entry (refused from_state 24) l)

unfoldable pub admit_entry : Ledger → ℕ → Entry
admit_entry l t =
    cond (not (is_type l t)) (entry (refused from_input 13) l)
    (cond (is_full l t) (entry (refused from_state 21) l)
    (counted_on l t (takers l t)))

unfoldable pub seat_entry : Ledger → ℕ → Entry
seat_entry l t =
    cond (not (is_type l t)) (entry (refused from_input 13) l)
    (cond (is_full l t) (entry (refused from_state 21) l)
    (cond (exists l (one_more (t - 1) (stands l)))
    (entry (accepted []) (recovered l (one_more (t - 1) (stands l))))
    (entry (refused from_state 24) l)))

unfoldable pub retire_entry : Ledger → ℕ → ℕ → Entry
retire_entry l t e =
    cond (not (is_type l t)) (entry (refused from_input 13) l)
    (cond (not (is_engine l e)) (entry (refused from_input 14) l)
    (cond (eqb (get_or (counts_at l e) (t - 1) 0) 0) (entry (refused from_state 22) l)
    (entry (accepted []) (with_counts l e (one_less (t - 1) (counts_at l e))))))

unfoldable pub repack_entry : Ledger → Entry
repack_entry l = entry (accepted []) (recovered l (stands l))

-- "Checks: 35, when the engine to withdraw still holds an instance; 36, when it is already in the state wanted; .. after 14, in the order 36, 35"
unfoldable pub withdraw_entry : Ledger → ℕ → Entry
withdraw_entry l e =
    cond (not (is_engine l e)) (entry (refused from_input 14) l)
    (cond (is_marked l e) (entry (refused from_state 36) l)
    (cond (not (holds_none (counts_at l e))) (entry (refused from_state 35) l)
    (entry (accepted []) (marked_as l e true))))

unfoldable pub restore_entry : Ledger → ℕ → Entry
restore_entry l e =
    cond (not (is_engine l e)) (entry (refused from_input 14) l)
    (cond (not (is_marked l e)) (entry (refused from_state 36) l)
    (entry (accepted []) (marked_as l e false)))

unfoldable pub step : Ledger → Call → Entry
step l (admit t) = admit_entry l t
step l (seat t) = seat_entry l t
step l (retire t e) = retire_entry l t e
step l repack = repack_entry l
step l (withdraw e) = withdraw_entry l e
step l (restore e) = restore_entry l e

-- the ledger after a list of calls, and its answers in order
unfoldable pub ledger_after : Ledger → List Call → Ledger
ledger_after l [] = l
ledger_after l (c ∷ cs) = ledger_after (step l c).ledger cs

unfoldable pub ledger_answers : Ledger → List Call → List Outcome
ledger_answers l [] = []
ledger_answers l (c ∷ cs) = (step l c).answer ∷ ledger_answers (step l c).ledger cs

-- "A refused call leaves the ledger as it was"
abbrev pub RefusedKeeps : Type 0
RefusedKeeps = (l : Ledger) (c : Call) → is_accepted (step l c).answer ≡ false → (step l c).ledger ≡ l

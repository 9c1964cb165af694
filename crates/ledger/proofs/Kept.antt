-- A refused call leaves the ledger as it was: by the cases of each call.
use Prim.Native.Nat.{ℕ, ◌-◌}
use mathlib.Core.Path.{◌≡◌, refl}
use mathlib.Core.List.{List, [], ◌∷◌}
use mathlib.Core.Bool.{Bool, true, false, cond, not, true≢false}
use lib.ListN.{get_or}
use lib.Dec.{eqb}
use Rattle.system.specs.Outcome.{accepted, refused, from_input, from_state, Source, is_accepted}
use Rattle.loads.specs.Load.{holds_none, one_more}
use Rattle.ledger.specs.Ledger.{admit, seat, retire, repack, withdraw, restore, Ledger, stands, counts_at, is_marked, exists, Entry, entry, is_type, is_engine, is_full, takers, counted_on, admit_entry, seat_entry, retire_entry, repack_entry, withdraw_entry, restore_entry, step, RefusedKeeps}

-- an entry of the ledger l that changes it only where it is accepted
abbrev Keeps : Ledger → Entry → Type 0
Keeps l x = is_accepted x.answer ≡ false → x.ledger ≡ l

refuses : (l : Ledger) (s : Source) (n : ℕ) → Keeps l (entry (refused s n) l)
refuses l s n h = refl

accepts : (l after : Ledger) (ns : List ℕ) → Keeps l (entry (accepted ns) after)
accepts l after ns h = absurd (true≢false h)

-- one of two entries
either : (l : Ledger) (p : Bool) (x z : Entry) → Keeps l x → Keeps l z → Keeps l (cond p x z)
either l true x z h k = h
either l false x z h k = k

counted-keeps : (l : Ledger) (t : ℕ) (es : List ℕ) → Keeps l (counted_on l t es)
unfolding counted_on
counted-keeps l t [] = either l (exists l (one_more (t - 1) (stands l))) _ _ (refuses l from_state 23) (refuses l from_state 24)
counted-keeps l t (e ∷ es) = accepts l _ (e ∷ [])

pub refused-keeps : RefusedKeeps
unfolding step admit_entry seat_entry retire_entry repack_entry withdraw_entry restore_entry
refused-keeps l (admit t) =
    either l (not (is_type l t)) _ _ (refuses l from_input 13) (either l (is_full l t) _ _ (refuses l from_state 21) (counted-keeps l t (takers l t)))
refused-keeps l (seat t) =
    either l (not (is_type l t)) _ _ (refuses l from_input 13)
    (either l (is_full l t) _ _ (refuses l from_state 21) (either l (exists l (one_more (t - 1) (stands l))) _ _ (accepts l _ []) (refuses l from_state 24)))
refused-keeps l (retire t e) =
    either l (not (is_type l t)) _ _ (refuses l from_input 13)
    (either l (not (is_engine l e)) _ _ (refuses l from_input 14) (either l (eqb (get_or (counts_at l e) (t - 1) 0) 0) _ _ (refuses l from_state 22) (accepts l _ [])))
refused-keeps l repack = accepts l _ []
refused-keeps l (withdraw e) =
    either l (not (is_engine l e)) _ _ (refuses l from_input 14)
    (either l (is_marked l e) _ _ (refuses l from_state 36) (either l (not (holds_none (counts_at l e))) _ _ (refuses l from_state 35) (accepts l _ [])))
refused-keeps l (restore e) =
    either l (not (is_engine l e)) _ _ (refuses l from_input 14) (either l (not (is_marked l e)) _ _ (refuses l from_state 36) (accepts l _ []))

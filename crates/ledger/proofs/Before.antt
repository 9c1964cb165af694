-- A list of the four calls of document 01 sets no mark, on the board and in the ledger, so that everything is as it was before request 2026-07.
use Prim.Native.Nat.{ℕ, ◌-◌}
use mathlib.Core.Path.{◌≡◌, refl, sym, ap, subst, ◌∙◌}
use mathlib.Core.List.{List, [], ◌∷◌, ◌++◌, head-eq_of_cons-eq, tail-eq_of_cons-eq, nil≢cons}
use mathlib.Core.Bool.{Bool, true, false, cond, not, false≢true}
use lib.ListN.{length, get_or, replicate}
use lib.Dec.{eqb}
use Rattle.system.specs.declared.System.{System}
use Rattle.system.specs.Limits.{engine_limit}
use Rattle.system.specs.Layout.{read_file, opened}
use Rattle.loads.specs.Load.{one_more}
use Rattle.partition.specs.Assignment.{passing, engines_to}
use Rattle.partition.specs.Lent.{Lent, lent}
use Rattle.partition.proofs.Lists.{every-parts, every-always, passing-all, get_or-padded}
use Rattle.board.specs.declared.Board.{Board}
use Rattle.board.specs.Boards.{opened_board}
use Rattle.board.specs.Before.{Unmarked}
use Rattle.board.proofs.Before.{as_before, admit-marks, seat-marks, retire-marks, repack-marks}
use Rattle.ledger.specs.Ledger.{Call, admit, seat, retire, repack, withdraw, restore, Ledger, stands, counts_at, engines, exists, Entry, is_type, is_engine, is_full, takers, counted_on, admit_entry, seat_entry, retire_entry, repack_entry, step, fresh_ledger, ledger_after}
use Rattle.ledger.specs.Demand3.{Request, Made, board_after, calls_of, call_on, answer_on, played}
use Rattle.ledger.specs.Before.{is_old, OldList, OldKept, OfOldLists}
use Rattle.ledger.proofs.Demand3.{asked-played}

-- intermediate: on the board

old-marks : (b : Board) (c : Call) (table : Lent) → is_old c ≡ true → (call_on b c table).board.marks ≡ b.marks
old-marks b (admit t) table h = admit-marks b t table
old-marks b (seat t) table h = seat-marks b t table
old-marks b (retire t e) table h = retire-marks b t e (lent [] [])
old-marks b repack table h = repack-marks b table
old-marks b (withdraw e) table h = absurd (false≢true h)
old-marks b (restore e) table h = absurd (false≢true h)

first-old : (r : Request) (rs : List Request) → OldList (r ∷ rs) → (is_old r.call ≡ true) × OldList rs
first-old r rs h = every-parts (λ (q : Request). is_old q.call) r rs h

old-boards : (rs : List Request) (b : Board) → OldList rs → (before after : List Made) → played b rs ≡ before ++ after → (board_after b before).marks ≡ b.marks
unfolding played board_after
old-boards rs b old [] after e = refl
old-boards [] b old (p ∷ before) after e = absurd (nil≢cons e)
old-boards (r ∷ rs) b old (p ∷ before) after e =
    let parts = first-old r rs old in
    subst (λ (a : Board). (board_after a before).marks ≡ b.marks) (ap (λ (m : Made). m.gives.board) (head-eq_of_cons-eq e))
    (old-boards rs (answer_on b r).board parts.1 before after (tail-eq_of_cons-eq e) ∙ old-marks b r.call r.table parts.0)

-- intermediate: in the ledger

record Same (l after : Ledger) : Type 0 where
  system : after.system ≡ l.system
  marks : after.marks ≡ l.marks

same_of : (l : Ledger) → Same l l
same_of l = record { system = refl; marks = refl }

either : (l : Ledger) (q : Bool) (x z : Entry) → Same l x.ledger → Same l z.ledger → Same l (cond q x z).ledger
either l true x z h k = h
either l false x z h k = k

counted_same : (l : Ledger) (t : ℕ) (es : List ℕ) → Same l (counted_on l t es).ledger
unfolding counted_on
counted_same l t (e ∷ es) = record { system = refl; marks = refl }
counted_same l t [] = either l (exists l (one_more (t - 1) (stands l))) _ _ (same_of l) (same_of l)

step_same : (l : Ledger) (c : Call) → is_old c ≡ true → Same l (step l c).ledger
unfolding step admit_entry seat_entry retire_entry repack_entry
step_same l (admit t) h = either l (not (is_type l t)) _ _ (same_of l) (either l (is_full l t) _ _ (same_of l) (counted_same l t (takers l t)))
step_same l (seat t) h =
    either l (not (is_type l t)) _ _ (same_of l)
    (either l (is_full l t) _ _ (same_of l) (either l (exists l (one_more (t - 1) (stands l))) _ _ (record { system = refl; marks = refl }) (same_of l)))
step_same l (retire t e) h =
    either l (not (is_type l t)) _ _ (same_of l)
    (either l (not (is_engine l e)) _ _ (same_of l) (either l (eqb (get_or (counts_at l e) (t - 1) 0) 0) _ _ (same_of l) (record { system = refl; marks = refl })))
step_same l repack h = record { system = refl; marks = refl }
step_same l (withdraw e) h = absurd (false≢true h)
step_same l (restore e) h = absurd (false≢true h)

old-ledgers : (rs : List Request) (l : Ledger) → OldList rs → (before after : List Call) → calls_of rs ≡ before ++ after → Same l (ledger_after l before)
unfolding ledger_after
old-ledgers rs l old [] after e = same_of l
old-ledgers [] l old (p ∷ before) after e = absurd (nil≢cons e)
old-ledgers (r ∷ rs) l old (p ∷ before) after e =
    let parts = first-old r rs old in
    let here = step_same l r.call parts.0 in
    let rest = old-ledgers rs (step l r.call).ledger parts.1 before after (tail-eq_of_cons-eq e) in
    subst (λ (c : Call). Same l (ledger_after (step l c).ledger before)) (head-eq_of_cons-eq e) (record { system = rest.system ∙ here.system; marks = rest.marks ∙ here.marks })

-- main

unmarked-of : (b : Board) → b.marks ≡ replicate engine_limit false → Unmarked b
unmarked-of b h = record { sixteen = ap length h; none = λ e. ap (λ (l : List Bool). get_or l (e - 1) false) h ∙ get_or-padded [] engine_limit (e - 1) false }

fresh-engines : (y : System) (l : Ledger) → Same (fresh_ledger y) l → engines l ≡ engines_to y.engines
fresh-engines y l s =
    ap (λ (m : ℕ). passing (λ (e : ℕ). not (get_or l.marks (e - 1) false)) (engines_to m)) (ap (λ (z : System). z.engines) s.system)
    ∙ passing-all (λ (e : ℕ). not (get_or l.marks (e - 1) false)) (engines_to y.engines)
    (every-always (λ (e : ℕ). not (get_or l.marks (e - 1) false)) (λ e. ap not (ap (λ (ms : List Bool). get_or ms (e - 1) false) s.marks ∙ get_or-padded [] y.engines (e - 1) false)) (engines_to y.engines))

pub old-kept : OfOldLists
old-kept file y rs opens old = record {
  calls = λ before after e. as_before _ (unmarked-of _ (old-boards rs start old before after e ∙ clear));
  ledger = λ before after e. fresh-engines y _ (old-ledgers rs (fresh_ledger y) old before after (ap calls_of (sym (asked-played start rs)) ∙ e));
}
  where
    start : Board
    start = opened_board (read_file file)

    clear : start.marks ≡ replicate engine_limit false
    clear = ap (λ x. (opened_board x).marks) opens

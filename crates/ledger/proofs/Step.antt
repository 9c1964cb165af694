-- One call on the board and in the ledger of the same valid loads and marks: the same answer, and again the same valid loads and marks.
use Prim.Native.Nat.{ℕ, ◌+◌, ◌-◌, ◌≤◌, ◌<◌}
use mathlib.Core.Path.{◌≡◌, refl, sym, ap, subst, fun_ext, ◌∙◌}
use mathlib.Core.List.{List, [], ◌∷◌}
use mathlib.Core.Bool.{Bool, true, false, cond, not, ◌&&◌, and-false, and-true, false≢true}
use mathlib.Core.Logic.{⊎_elim}
use native.Mathlib.Nat.{add-zero}
use native.Mathlib.Omega.{arith}
use borrow.Author.Tests.{leb-true, leb-false, le-leb, lt-leb, ltb-true, ltb-false, eqb-true, eqb-false, eq-eqb, ne_eqb}
use lib.ListN.{get_or, set}
use lib.Dec.{ltb, eqb}
use Rattle.system.specs.declared.System.{System}
use Rattle.system.specs.Values.{ceilings_of}
use Rattle.system.specs.Limits.{keeps_limits, type_limit}
use Rattle.system.specs.Outcome.{Source, accepted, refused, from_input, from_state, is_accepted}
use Rattle.system.proofs.Laws.{Limits, limits_of}
use Rattle.loads.specs.Load.{fits_engine, one_less}
use Rattle.loads.proofs.Order.{and_parts}
use Rattle.loads.proofs.Change.{get_or-one_more, get_or-one_less}
use Rattle.partition.specs.Assignment.{among, every, passing, engines_to, some_good}
use Rattle.partition.specs.ForSystem.{placeable, recovered_for}
use Rattle.partition.specs.Lent.{Lent, lent}
use Rattle.partition.specs.Plain.{ceiling_no, LongEnough}
use Rattle.partition.proofs.Lists.{not-both, or_cases, among-here, among-more, among-tested}
use Rattle.partition.proofs.ForSystem.{some_good-placeable}
use Rattle.partition.proofs.Plain.{ceiling-out}
use Rattle.partition.proofs.Standing.{Valid, total, length-total, count-le-sum, total-joined, valid-joined, total_left, valid-left, total-recovered, valid-recovered}
use Rattle.table.specs.Table.{long_enough, filled}
use Rattle.table.proofs.Room.{long-enough-out}
use Rattle.board.specs.declared.Board.{Board}
use Rattle.board.specs.Calls.{Result, result, known_type}
use Rattle.board.proofs.Plain.{same_number}
use Rattle.board.proofs.Truth.{board_on, Served, marked-on}
use Rattle.board.proofs.Served.{held-unmarked, served-set, served-marked, served-cleared, served-recovered}
use Rattle.board.proofs.TrueMeans.{true-on}
use Rattle.board.proofs.Places.{rising, engines-distinct, engines-known, engines-rising, engines-in}
use Rattle.board.proofs.Views.{
  under_in,
  joined_at,
  takes_in,
  with_one,
  count_in,
  left_at,
  engines_in,
  Newcomer,
  AdmitView,
  SeatView,
  RetireView,
  WithdrawView,
  RestoreView,
  known-type,
  known-engine,
  first-index,
  length-with_one,
  with_one-within,
  admit-view,
  seat-view,
  retire-view,
  total-placeable,
  repack-view,
  withdraw-view,
  restore-view,
}
use Rattle.board.proofs.Means.{empty-row}
use Rattle.board.proofs.MeansTrue.{admit-means, seat-means, retire-means, repack-means, withdraw-means, restore-means}
use Rattle.ledger.specs.Ledger.{Call, admit, seat, retire, repack, withdraw, restore, Ledger, ledger_with, engines, is_full, Entry, entry, counted_on, admit_entry, seat_entry, retire_entry, repack_entry, withdraw_entry, restore_entry, step}
use Rattle.ledger.specs.Demand3.{call_on, lends_table, adds_type, retires_type, CallKept}

-- what one call does to the board and the ledger of the marks ms and the loads xs
pub record Step (y : System) (ms : List Bool) (xs : List (List ℕ)) (c : Call) (table : Lent) : Type 0 where
  pub rows : List (List ℕ)
  pub marks : List Bool
  pub valid : Valid y rows
  pub served : Served y marks rows
  pub board : (call_on (board_on y ms xs) c table).board ≡ board_on y marks rows
  pub ledger : (step (ledger_with y ms xs) c).ledger ≡ ledger_with y marks rows
  pub answer : (call_on (board_on y ms xs) c table).outcome ≡ (step (ledger_with y ms xs) c).answer
  pub stand : (t : ℕ) → 1 ≤ t
      → get_or (total rows) (t - 1) 0 + cond (retires_type t c && is_accepted (call_on (board_on y ms xs) c table).outcome) 1 0
      ≡ get_or (total xs) (t - 1) 0 + cond (adds_type t c && is_accepted (call_on (board_on y ms xs) c table).outcome) 1 0

eqb-sym : (a b : ℕ) → eqb a b ≡ eqb b a
eqb-sym a b = go (eqb b a) refl
  where
    go : (p : Bool) → eqb b a ≡ p → eqb a b ≡ p
    go true e = eq-eqb a b (sym (eqb-true b a e))
    go false e = ne_eqb a b (λ q. eqb-false b a e (sym q))

-- the lowest of some rising numbers that passes is the first of those that pass
first-passing : (p : ℕ → Bool) (es : List ℕ) (e : ℕ) → rising es ≡ true → among es e ≡ true → p e ≡ true → ((d : ℕ) → among es d ≡ true → p d ≡ true → e ≤ d)
    → (later : List ℕ) × (passing p es ≡ e ∷ later)
unfolding rising among passing
first-passing p [] e r h k low = absurd (false≢true h)
first-passing p (c ∷ es) e r h k low = go (p c) refl (first-passing p es e above.1)
  where
    above : (every (ltb c) es ≡ true) × (rising es ≡ true)
    above = and_parts (every (ltb c) es) (rising es) r

    most : among es e ≡ true → c ≤ e
    most q = let l = ltb-true c e (among-tested (ltb c) es e above.0 q) in omega arith

    go : (q : Bool) → p c ≡ q → (among es e ≡ true → p e ≡ true → ((d : ℕ) → among es d ≡ true → p d ≡ true → e ≤ d) → (later : List ℕ) × (passing p es ≡ e ∷ later))
        → (later : List ℕ) × (cond q (c ∷ passing p es) (passing p es) ≡ e ∷ later)
    go true q rest =
        let same : c ≡ e = ⊎_elim (λ s. eqb-true c e s) (λ s. omega (arith, most s, low c (among-here c es) q)) (or_cases (eqb c e) (among es e) h) in
        (passing p es, ap (λ (z : ℕ). z ∷ passing p es) same)
    go false q rest =
        rest (⊎_elim (λ s. absurd (not-both k (subst (λ (z : ℕ). p z ≡ false) (eqb-true c e s) q))) (λ s. s) (or_cases (eqb c e) (among es e) h)) k
        (λ d m. low d (among-more c d es m))

none-passing : (p : ℕ → Bool) (es : List ℕ) → ((d : ℕ) → among es d ≡ true → p d ≡ true → ⊥) → passing p es ≡ []
unfolding passing
none-passing p [] h = refl
none-passing p (c ∷ es) h = go (p c) refl (none-passing p es (λ d m. h d (among-more c d es m)))
  where
    go : (q : Bool) → p c ≡ q → passing p es ≡ [] → cond q (c ∷ passing p es) (passing p es) ≡ []
    go true q rest = absurd (h c (among-here c es) q)
    go false q rest = rest

module _ (y : System) (ms : List Bool) (xs : List (List ℕ)) (keeps : keeps_limits y ≡ true) (v : Valid y xs) (served : Served y ms xs) where
  abbrev b : Board
  b = board_on y ms xs

  abbrev l : Ledger
  l = ledger_with y ms xs

  limits : Limits y
  limits = limits_of y keeps

  -- intermediate: the two ways that a call ends

  refused-step : (c : Call) (table : Lent) (s : Source) (n : ℕ) (after : Lent) → call_on b c table ≡ result (refused s n) b after → step l c ≡ entry (refused s n) l → Step y ms xs c table
  refused-step c table s n after p q = record {
    rows = xs;
    marks = ms;
    valid = v;
    served = served;
    board = ap (λ (r : Result). r.board) p;
    ledger = ap (λ (e : Entry). e.ledger) q;
    answer = ap (λ (r : Result). r.outcome) p ∙ sym (ap (λ (e : Entry). e.answer) q);
    stand = λ t h. rw (p, and-false (retires_type t c), and-false (adds_type t c));
  }

  accepted-step : (c : Call) (table : Lent) (ns : List ℕ) (marks : List Bool) (rows : List (List ℕ)) (after : Lent) → Valid y rows → Served y marks rows
      → call_on b c table ≡ result (accepted ns) (board_on y marks rows) after → step l c ≡ entry (accepted ns) (ledger_with y marks rows)
      → ((t : ℕ) → 1 ≤ t → get_or (total rows) (t - 1) 0 + cond (retires_type t c) 1 0 ≡ get_or (total xs) (t - 1) 0 + cond (adds_type t c) 1 0)
      → Step y ms xs c table
  accepted-step c table ns marks rows after w k p q count = record {
    rows = rows;
    marks = marks;
    valid = w;
    served = k;
    board = ap (λ (r : Result). r.board) p;
    ledger = ap (λ (e : Entry). e.ledger) q;
    answer = ap (λ (r : Result). r.outcome) p ∙ sym (ap (λ (e : Entry). e.answer) q);
    stand = λ t h. rw (p, and-true (retires_type t c), and-true (adds_type t c)) (count t h);
  }

  -- intermediate: the engines in service, by the ledger's marks and by the board's

  abbrev es : List ℕ
  es = engines_in y ms xs

  same-engines : engines l ≡ es
  same-engines = ap (λ (p : ℕ → Bool). passing p (engines_to y.engines)) (fun_ext (λ e. ap not (sym (marked-on y ms xs e))))

  -- intermediate: the numbers of a newcomer

  one_more : (t : ℕ) (rows : List (List ℕ)) → known_type y t ≡ true → total rows ≡ with_one xs t
      → (u : ℕ) → 1 ≤ u → get_or (total rows) (u - 1) 0 + 0 ≡ get_or (total xs) (u - 1) 0 + cond (eqb t u) 1 0
  one_more t rows k e u h =
      let p = known-type y ms xs keeps v served t k in
      add-zero (get_or (total rows) (u - 1) 0)
      ∙ ap (λ (x : List ℕ). get_or x (u - 1) 0) e
      ∙ get_or-one_more (t - 1) (u - 1) (total xs) (omega (arith, p.0, p.1, limits.typecount, length-total v))
      ∙ ap (λ (q : Bool). get_or (total xs) (u - 1) 0 + cond q 1 0) (same_number t u p.0 h ∙ eqb-sym u t)

  -- 21 is said where not fewer than n(t) stand
  not_full : (t : ℕ) → Newcomer y xs t → is_full l t ≡ false
  not_full t n =
      lt-leb (ceiling_no y t) (get_or (total xs) (t - 1) 0) (omega (arith, ltb-true (get_or (total xs) (t - 1) 0) (get_or (ceilings_of y) (t - 1) 0) n.below, ceiling-out y t))

  is-full : (t : ℕ) → under_in y xs t ≡ false → is_full l t ≡ true
  is-full t h =
      le-leb (ceiling_no y t) (get_or (total xs) (t - 1) 0) (omega (arith, ltb-false (get_or (total xs) (t - 1) 0) (get_or (ceilings_of y) (t - 1) 0) h, ceiling-out y t))

  exists-one : (t : ℕ) → Newcomer y xs t → some_good (λ (e : ℕ). fits_engine y) es (with_one xs t) ≡ placeable y es (with_one xs t)
  exists-one t n = some_good-placeable y limits es (engines-distinct b) (with_one xs t) (length-with_one y ms xs keeps v served t) (with_one-within y ms xs keeps v served t n)

  -- main: admit

  admit-step : (t : ℕ) (table : Lent) → long_enough y table ≡ true → Step y ms xs (admit t) table
  unfolding step admit_entry counted_on
  admit-step t table long = by-view (admit-view y ms xs keeps v served t table long)
    where
      by-view : AdmitView y ms xs t table (call_on b (admit t) table) → Step y ms xs (admit t) table
      by-view (AdmitView.unknown k s) = refused-step (admit t) table from_input 13 table s (rw k)
      by-view (AdmitView.full k f s) = refused-step (admit t) table from_state 21 table s (rw (k, is-full t f))
      by-view (AdmitView.joins e n f s) =
          accepted-step (admit t) table (e ∷ []) ms (set xs (e - 1) (joined_at xs t e)) table
          (valid-joined y xs v (e - 1) (t - 1) (first-index y ms xs keeps v served t e f) (ltb-true (get_or (total xs) (t - 1) 0) (get_or (ceilings_of y) (t - 1) 0) n.below) f.passes)
          (served-set y ms xs served (e - 1) (joined_at xs t e) (sym (marked-on y ms xs e) ∙ ((engines-in b e).0 f.engine).in_service))
          s
          (rw (n.known, not_full t n, same-engines, (first-passing (takes_in y xs t) es e (engines-rising b) f.engine f.passes f.lowest).1))
          (one_more t (set xs (e - 1) (joined_at xs t e)) n.known (total-joined y xs v (e - 1) (t - 1) (first-index y ms xs keeps v served t e f)))
      by-view (AdmitView.tight n f can s) =
          refused-step (admit t) table from_state 23 (filled y es table) s
          (rw (n.known, not_full t n, same-engines, none-passing (takes_in y xs t) es f.nowhere, same-engines, exists-one t n, can))
      by-view (AdmitView.no_room n f cannot s) =
          refused-step (admit t) table from_state 24 (filled y es table) s
          (rw (n.known, not_full t n, same-engines, none-passing (takes_in y xs t) es f.nowhere, same-engines, exists-one t n, cannot))

  -- main: seat

  seat-step : (t : ℕ) (table : Lent) → long_enough y table ≡ true → Step y ms xs (seat t) table
  unfolding step seat_entry
  seat-step t table long = by-view (seat-view y ms xs keeps v served t table long)
    where
      by-view : SeatView y ms xs t table (call_on b (seat t) table) → Step y ms xs (seat t) table
      by-view (SeatView.unknown k s) = refused-step (seat t) table from_input 13 table s (rw k)
      by-view (SeatView.full k f s) = refused-step (seat t) table from_state 21 table s (rw (k, is-full t f))
      by-view (SeatView.seats n can s) =
          let six = length-with_one y ms xs keeps v served t in
          let below = with_one-within y ms xs keeps v served t n in
          accepted-step (seat t) table [] ms (recovered_for y.engines y es (with_one xs t)) (filled y es table)
          (valid-recovered y limits es (engines-distinct b) (engines-known b) (with_one xs t) six below can)
          (served-recovered y ms xs served (with_one xs t))
          s
          (rw (n.known, not_full t n, same-engines, exists-one t n, can))
          (one_more t (recovered_for y.engines y es (with_one xs t)) n.known (total-recovered y limits es (engines-distinct b) (engines-known b) (with_one xs t) six below can))
      by-view (SeatView.no_room n cannot s) =
          refused-step (seat t) table from_state 24 (filled y es table) s (rw (n.known, not_full t n, same-engines, exists-one t n, cannot))

  -- main: retire

  retire-step : (t e : ℕ) (table : Lent) → Step y ms xs (retire t e) table
  unfolding step retire_entry
  retire-step t e table = by-view (retire-view y ms xs keeps v served t e (lent [] []))
    where
      by-view : RetireView y ms xs t (lent [] []) (call_on b (retire t e) table) e → Step y ms xs (retire t e) table
      by-view (RetireView.unknown k s) = refused-step (retire t e) table from_input 13 (lent [] []) s (rw k)
      by-view (RetireView.no_engine k d s) = refused-step (retire t e) table from_input 14 (lent [] []) s (rw (k, d))
      by-view (RetireView.none_there k d none s) =
          refused-step (retire t e) table from_state 22 (lent [] []) s (rw (k, d, eq-eqb (count_in xs t e) 0 (let z = leb-false 1 (count_in xs t e) none in omega arith)))
      by-view (RetireView.leaves k d some s) =
          accepted-step (retire t e) table [] ms (set xs (e - 1) (left_at xs t e)) (lent [] [])
          (valid-left y xs v (e - 1) (t - 1) index held)
          (served-set y ms xs served (e - 1) (left_at xs t e) (held-unmarked y ms xs served (e - 1) (t - 1) held))
          s
          (rw (k, d, ne_eqb (count_in xs t e) 0 (λ z. omega (arith, held))))
          (λ u h.
          ap (λ (x : List ℕ). get_or x (u - 1) 0 + cond (eqb t u) 1 0) (total_left y xs v (e - 1) (t - 1) index held)
          ∙ ap (λ (q : Bool). get_or (one_less (t - 1) (total xs)) (u - 1) 0 + cond q 1 0) (sym (same_number t u (known-type y ms xs keeps v served t k).0 h ∙ eqb-sym u t))
          ∙ get_or-one_less (t - 1) (u - 1) (total xs) (omega (arith, held, count-le-sum type_limit xs (e - 1) (t - 1) v.sized (omega (arith, index, v.rows))))
          ∙ sym (add-zero (get_or (total xs) (u - 1) 0)))
        where
          held : 1 ≤ count_in xs t e
          held = leb-true 1 (count_in xs t e) some

          index : e - 1 < y.engines
          index = let at = known-engine y ms xs keeps v served e d in omega (arith, at.0, at.1)

  -- main: repack

  repack-step : (table : Lent) → long_enough y table ≡ true → Step y ms xs repack table
  unfolding step repack_entry
  repack-step table long =
      let can = total-placeable y ms xs keeps v served in
      accepted-step repack table [] ms (recovered_for y.engines y es (total xs)) (filled y es table)
      (valid-recovered y limits es (engines-distinct b) (engines-known b) (total xs) (length-total v) v.ceiling can)
      (served-recovered y ms xs served (total xs))
      (repack-view y ms xs keeps v served table long)
      (rw same-engines)
      (λ u h. ap (λ (x : List ℕ). get_or x (u - 1) 0 + 0) (total-recovered y limits es (engines-distinct b) (engines-known b) (total xs) (length-total v) v.ceiling can))

  -- main: withdraw and restore

  withdraw-step : (e : ℕ) (table : Lent) → Step y ms xs (withdraw e) table
  unfolding step withdraw_entry
  withdraw-step e table = by-view (withdraw-view y ms xs keeps v served e (lent [] []))
    where
      by-view : WithdrawView y ms xs e (lent [] []) (call_on b (withdraw e) table) → Step y ms xs (withdraw e) table
      by-view (WithdrawView.no_engine d s) = refused-step (withdraw e) table from_input 14 (lent [] []) s (rw d)
      by-view (WithdrawView.already d m s) = refused-step (withdraw e) table from_state 36 (lent [] []) s (rw (d, m))
      by-view (WithdrawView.holds d m some s) = refused-step (withdraw e) table from_state 35 (lent [] []) s (rw (d, m, some))
      by-view (WithdrawView.goes d m none s) =
          accepted-step (withdraw e) table [] (set ms (e - 1) true) xs (lent [] []) v
          (served-marked y ms xs served (e - 1) (empty-row y ms xs keeps v served e (known-engine y ms xs keeps v served e d) none))
          s
          (rw (d, m, none))
          (λ u h. refl)

  restore-step : (e : ℕ) (table : Lent) → Step y ms xs (restore e) table
  unfolding step restore_entry
  restore-step e table = by-view (restore-view y ms xs keeps v served e (lent [] []))
    where
      by-view : RestoreView y ms xs e (lent [] []) (call_on b (restore e) table) → Step y ms xs (restore e) table
      by-view (RestoreView.no_engine d s) = refused-step (restore e) table from_input 14 (lent [] []) s (rw d)
      by-view (RestoreView.already d m s) = refused-step (restore e) table from_state 36 (lent [] []) s (rw (d, m))
      by-view (RestoreView.comes d m s) =
          accepted-step (restore e) table [] (set ms (e - 1) false) xs (lent [] []) v (served-cleared y ms xs served (e - 1)) s (rw (d, m)) (λ u h. refl)

  -- main: every call

  pub step_of : (c : Call) (table : Lent) → (lends_table c ≡ true → LongEnough y table) → Step y ms xs c table
  step_of (admit t) table long = admit-step t table ((long-enough-out y table keeps).1 (long refl))
  step_of (seat t) table long = seat-step t table ((long-enough-out y table keeps).1 (long refl))
  step_of (retire t e) table long = retire-step t e table
  step_of repack table long = repack-step table ((long-enough-out y table keeps).1 (long refl))
  step_of (withdraw e) table long = withdraw-step e table
  step_of (restore e) table long = restore-step e table

  -- what the call means, on the board that it is given
  pub kept_of : (c : Call) (table : Lent) → (lends_table c ≡ true → LongEnough y table) → CallKept b c table (call_on b c table)
  kept_of (admit t) table long = admit-means b (true-on y ms xs keeps v served) t table (long refl)
  kept_of (seat t) table long = seat-means b (true-on y ms xs keeps v served) t table (long refl)
  kept_of (retire t e) table long = retire-means b (true-on y ms xs keeps v served) t e (lent [] [])
  kept_of repack table long = repack-means b (true-on y ms xs keeps v served) table (long refl)
  kept_of (withdraw e) table long = withdraw-means b (true-on y ms xs keeps v served) e (lent [] [])
  kept_of (restore e) table long = restore-means b (true-on y ms xs keeps v served) e (lent [] [])

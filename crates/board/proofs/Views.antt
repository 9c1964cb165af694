-- Each call on the board of valid loads, by its outcome: what was found out, and the result. The meaning of the calls and the ledger's steps go by these cases.
use Rattle.std.proofs.Common.{Option}
use Prim.Native.Nat.{ℕ, ◌+◌, ◌-◌, ◌≤◌, ◌<◌}
use mathlib.Core.Path.{◌≡◌, refl, ap, fun_ext, ◌∙◌}
use mathlib.Core.List.{List, [], ◌∷◌}
use mathlib.Core.Bool.{Bool, true, false, cond, not}
use native.Mathlib.Omega.{arith}
use borrow.Author.Tests.{leb-true, ltb-true}
use lib.ListN.{length, get_or, set}
use lib.Dec.{leb, ltb}
use Rattle.system.specs.declared.System.{System}
use Rattle.system.specs.Values.{ceilings_of}
use Rattle.system.specs.Limits.{keeps_limits, engine_limit, type_limit}
use Rattle.system.specs.Outcome.{accepted, refused, from_input, from_state, Checked, passes, check, and_then}
use Rattle.system.proofs.Laws.{Limits, limits_of}
use Rattle.loads.specs.Load.{fits_engine, holds_none, within, one_more, one_less}
use Rattle.loads.proofs.Order.{and_parts}
use Rattle.loads.proofs.Change.{length-one_more, one_more-within}
use Rattle.partition.specs.ForSystem.{placeable, recovered_for}
use Rattle.partition.specs.Lent.{Lent}
use Rattle.partition.proofs.ForSystem.{feasible-iff-placeable, recovered_for-more}
use Rattle.partition.proofs.Standing.{Valid, total, load_in, length-total, served-feasible}
use Rattle.table.specs.Table.{long_enough, filled}
use Rattle.board.specs.declared.Board.{Board}
use Rattle.board.specs.Boards.{board_of, with_load, with_mark, marked, engines_of, load_at, standing}
use Rattle.board.specs.Truth.{true_board}
use Rattle.board.specs.Calls.{Result, result, checked, known_type, known_engine, under_ceiling, check_newcomer, check_retire, check_repack, check_restore, check_withdraw, with_newcomer, takes, first_of, first_engine, admitted, admit_of, reseated, seat_of, retire_of, repack_of, withdraw_of, restore_of}
use Rattle.board.proofs.Truth.{padded_marks, board_on, Served, standing_on, load_at-on, marked-on, with_load-on, with_mark-on, board-true}
use Rattle.board.proofs.TrueMeans.{idle-outside}
use Rattle.board.proofs.Places.{engines-distinct, engines-known, engines-rising, engine-of, First, NoneOf, FirstView, somewhere, nowhere, first-view}

-- the words of the calls over the loads alone

-- fewer than n(t) of type t stand
abbrev pub under_in : System → List (List ℕ) → ℕ → Bool
under_in y xs t = ltb (get_or (total xs) (t - 1) 0) (get_or (ceilings_of y) (t - 1) 0)

-- engine e's load with one more of type t, and whether it fits
abbrev pub joined_at : List (List ℕ) → ℕ → ℕ → List ℕ
joined_at xs t e = one_more (t - 1) (load_in xs (e - 1))

abbrev pub takes_in : System → List (List ℕ) → ℕ → ℕ → Bool
takes_in y xs t e = fits_engine y (joined_at xs t e)

-- what stands with the newcomer
abbrev pub with_one : List (List ℕ) → ℕ → List ℕ
with_one xs t = one_more (t - 1) (total xs)

-- the number of instances of type t on engine e
abbrev pub count_in : List (List ℕ) → ℕ → ℕ → ℕ
count_in xs t e = get_or (load_in xs (e - 1)) (t - 1) 0

abbrev pub left_at : List (List ℕ) → ℕ → ℕ → List ℕ
left_at xs t e = one_less (t - 1) (load_in xs (e - 1))

-- engine e is marked
abbrev pub mark_in : List Bool → ℕ → Bool
mark_in ms e = get_or ms (e - 1) false

-- the engines that the loads may be on
abbrev pub engines_in : System → List Bool → List (List ℕ) → List ℕ
engines_in y ms xs = engines_of (board_on y ms xs)

-- a newcomer of a type below its ceiling
pub record Newcomer (y : System) (xs : List (List ℕ)) (t : ℕ) : Type 0 where
  pub known : known_type y t ≡ true
  pub below : under_in y xs t ≡ true

-- engine e is the lowest that takes it; no engine does
abbrev pub TakesFirst : System → List Bool → List (List ℕ) → ℕ → ℕ → Type 0
TakesFirst y ms xs t e = First (takes_in y xs t) (engines_in y ms xs) e

abbrev pub TakesNone : System → List Bool → List (List ℕ) → ℕ → Type 0
TakesNone y ms xs t = NoneOf (takes_in y xs t) (engines_in y ms xs)

-- The outcomes of each call, r its result: 20 and 11 do not arise

module _ (y : System) (ms : List Bool) (xs : List (List ℕ)) (t : ℕ) (table : Lent) (r : Result) where
  pub data AdmitView : Type 0 where
    unknown : known_type y t ≡ false → r ≡ result (refused from_input 13) (board_on y ms xs) table → AdmitView
    full : known_type y t ≡ true → under_in y xs t ≡ false → r ≡ result (refused from_state 21) (board_on y ms xs) table → AdmitView
    joins : (e : ℕ) → Newcomer y xs t → TakesFirst y ms xs t e → r ≡ result (accepted (e ∷ [])) (board_on y ms (set xs (e - 1) (joined_at xs t e))) table → AdmitView
    tight : Newcomer y xs t → TakesNone y ms xs t → placeable y (engines_in y ms xs) (with_one xs t) ≡ true → r ≡ result (refused from_state 23) (board_on y ms xs) (filled y (engines_in y ms xs) table) → AdmitView
    no_room : Newcomer y xs t → TakesNone y ms xs t → placeable y (engines_in y ms xs) (with_one xs t) ≡ false → r ≡ result (refused from_state 24) (board_on y ms xs) (filled y (engines_in y ms xs) table) → AdmitView

  pub data SeatView : Type 0 where
    unknown : known_type y t ≡ false → r ≡ result (refused from_input 13) (board_on y ms xs) table → SeatView
    full : known_type y t ≡ true → under_in y xs t ≡ false → r ≡ result (refused from_state 21) (board_on y ms xs) table → SeatView
    seats : Newcomer y xs t → placeable y (engines_in y ms xs) (with_one xs t) ≡ true
        → r ≡ result (accepted []) (board_on y ms (recovered_for y.engines y (engines_in y ms xs) (with_one xs t))) (filled y (engines_in y ms xs) table)
        → SeatView
    no_room : Newcomer y xs t → placeable y (engines_in y ms xs) (with_one xs t) ≡ false → r ≡ result (refused from_state 24) (board_on y ms xs) (filled y (engines_in y ms xs) table) → SeatView

  pub data RetireView (e : ℕ) : Type 0 where
    unknown : known_type y t ≡ false → r ≡ result (refused from_input 13) (board_on y ms xs) table → RetireView e
    no_engine : known_type y t ≡ true → known_engine y e ≡ false → r ≡ result (refused from_input 14) (board_on y ms xs) table → RetireView e
    none_there : known_type y t ≡ true → known_engine y e ≡ true → leb 1 (count_in xs t e) ≡ false → r ≡ result (refused from_state 22) (board_on y ms xs) table → RetireView e
    leaves : known_type y t ≡ true → known_engine y e ≡ true → leb 1 (count_in xs t e) ≡ true → r ≡ result (accepted []) (board_on y ms (set xs (e - 1) (left_at xs t e))) table → RetireView e

-- no table is lent to these
module _ (y : System) (ms : List Bool) (xs : List (List ℕ)) (e : ℕ) (table : Lent) (r : Result) where
  pub data WithdrawView : Type 0 where
    no_engine : known_engine y e ≡ false → r ≡ result (refused from_input 14) (board_on y ms xs) table → WithdrawView
    already : known_engine y e ≡ true → mark_in ms e ≡ true → r ≡ result (refused from_state 36) (board_on y ms xs) table → WithdrawView
    holds : known_engine y e ≡ true → mark_in ms e ≡ false → holds_none (load_in xs (e - 1)) ≡ false → r ≡ result (refused from_state 35) (board_on y ms xs) table → WithdrawView
    goes : known_engine y e ≡ true → mark_in ms e ≡ false → holds_none (load_in xs (e - 1)) ≡ true → r ≡ result (accepted []) (board_on y (set ms (e - 1) true) xs) table → WithdrawView

  pub data RestoreView : Type 0 where
    no_engine : known_engine y e ≡ false → r ≡ result (refused from_input 14) (board_on y ms xs) table → RestoreView
    already : known_engine y e ≡ true → mark_in ms e ≡ false → r ≡ result (refused from_state 36) (board_on y ms xs) table → RestoreView
    comes : known_engine y e ≡ true → mark_in ms e ≡ true → r ≡ result (accepted []) (board_on y (set ms (e - 1) false) xs) table → RestoreView

module _ (y : System) (ms : List Bool) (xs : List (List ℕ)) (keeps : keeps_limits y ≡ true) (v : Valid y xs) (served : Served y ms xs) where
  abbrev b : Board
  b = board_on y ms xs

  abbrev es : List ℕ
  es = engines_in y ms xs

  limits : Limits y
  limits = limits_of y keeps

  true-here : true_board b ≡ true
  true-here = board-true y ms xs keeps v served

  -- the board's words are those of its loads

  pub under-on : (t : ℕ) → under_ceiling b t ≡ under_in y xs t
  under-on t = ap (λ (x : List ℕ). ltb (get_or x (t - 1) 0) (get_or (ceilings_of y) (t - 1) 0)) (standing_on y ms xs)

  pub newcomer-on : (t : ℕ) → with_newcomer b t ≡ with_one xs t
  newcomer-on t = ap (one_more (t - 1)) (standing_on y ms xs)

  pub joined-on : (t e : ℕ) → one_more (t - 1) (load_at b e) ≡ joined_at xs t e
  joined-on t e = ap (one_more (t - 1)) (load_at-on y ms xs e)

  pub takes-on : (t e : ℕ) → takes b t e ≡ takes_in y xs t e
  takes-on t e = ap (fits_engine y) (joined-on t e)

  first_on : (t : ℕ) → first_engine b t ≡ first_of (takes_in y xs t) es
  first_on t = ap (λ (p : ℕ → Bool). first_of p es) (fun_ext (takes-on t))

  pub count-on : (t e : ℕ) → get_or (load_at b e) (t - 1) 0 ≡ count_in xs t e
  count-on t e = ap (λ (x : List ℕ). get_or x (t - 1) 0) (load_at-on y ms xs e)

  pub left-on : (t e : ℕ) → one_less (t - 1) (load_at b e) ≡ left_at xs t e
  left-on t e = ap (one_less (t - 1)) (load_at-on y ms xs e)

  -- the numbers of a type and of an engine

  pub known-type : (t : ℕ) → known_type y t ≡ true → (1 ≤ t) × (t ≤ y.typecount)
  known-type t h =
      let p = and_parts (leb 1 t) (leb t y.typecount) h in
      (leb-true 1 t p.0, leb-true t y.typecount p.1)

  pub known-engine : (e : ℕ) → known_engine y e ≡ true → (1 ≤ e) × (e ≤ y.engines)
  known-engine e h =
      let p = and_parts (leb 1 e) (leb e y.engines) h in
      (leb-true 1 e p.0, leb-true e y.engines p.1)

  inside : (e : ℕ) → (1 ≤ e) × (e ≤ y.engines) → e - 1 < length xs
  inside e h = omega (arith, v.rows, h.0, h.1)

  -- the index of an engine that takes a newcomer
  pub first-index : (t e : ℕ) → TakesFirst y ms xs t e → e - 1 < y.engines
  first-index t e f = let h = engine-of b e f.engine in omega (arith, h.0, h.1)

  -- main: admit

  -- on a true board with a long table the checks come down to 13 and 21
  abbrev newcomer_checks : Bool → Bool → Checked
  newcomer_checks known under = and_then (check known from_input 13) (check under from_state 21)

  checks-on : (t : ℕ) (table : Lent) → long_enough y table ≡ true → check_newcomer b t (length table.rows) (length table.predecessors) ≡ newcomer_checks (known_type y t) (under_in y xs t)
  unfolding check_newcomer
  checks-on t table long = rw (true-here, long, under-on t)

  admitted-first : (t e : ℕ) (table : Lent) → TakesFirst y ms xs t e
      → admitted b t table (first_of (takes_in y xs t) es) ≡ result (accepted (e ∷ [])) (board_on y ms (set xs (e - 1) (joined_at xs t e))) table
  unfolding admitted
  admitted-first t e table f =
      rw f.found
      (ap (λ (after : Board). result (accepted (e ∷ [])) after table)
      (ap (with_load b e) (joined-on t e) ∙ with_load-on y ms xs e (joined_at xs t e) (inside e (engine-of b e f.engine))))

  admitted-none : (t : ℕ) (table : Lent) (p : Bool) → TakesNone y ms xs t → placeable y es (with_one xs t) ≡ p
      → admitted b t table (first_of (takes_in y xs t) es) ≡ result (refused from_state (cond p 23 24)) b (filled y es table)
  unfolding admitted
  admitted-none t table p f e =
      rw f.found (ap (λ (q : Bool). result (refused from_state (cond q 23 24)) b (filled y es table)) (ap (placeable y es) (newcomer-on t) ∙ e))

  pub admit-view : (t : ℕ) (table : Lent) → long_enough y table ≡ true → AdmitView y ms xs t table (admit_of b t table)
  unfolding admit_of
  admit-view t table long = by-checks (known_type y t) refl (under_in y xs t) refl form
    where
      r : Result
      r = admit_of b t table

      work : Result
      work = admitted b t table (first_of (takes_in y xs t) es)

      form : r ≡ checked (newcomer_checks (known_type y t) (under_in y xs t)) b table work
      form =
          ap (λ (c : Checked). checked c b table (admitted b t table (first_engine b t))) (checks-on t table long)
          ∙ ap (λ (e : Option ℕ). checked (newcomer_checks (known_type y t) (under_in y xs t)) b table (admitted b t table e)) (first_on t)

      by-room : (p : Bool) → placeable y es (with_one xs t) ≡ p → Newcomer y xs t → TakesNone y ms xs t → r ≡ work → AdmitView y ms xs t table r
      by-room true e n f s = tight n f e (s ∙ admitted-none t table true f e)
      by-room false e n f s = no_room n f e (s ∙ admitted-none t table false f e)

      by-engine : FirstView (takes_in y xs t) es → Newcomer y xs t → r ≡ work → AdmitView y ms xs t table r
      by-engine (somewhere e f) n s = joins e n f (s ∙ admitted-first t e table f)
      by-engine (nowhere f) n s = by-room (placeable y es (with_one xs t)) refl n f s

      by-checks : (q : Bool) → known_type y t ≡ q → (u : Bool) → under_in y xs t ≡ u → r ≡ checked (newcomer_checks q u) b table work → AdmitView y ms xs t table r
      by-checks false k u f s = unknown k s
      by-checks true k false f s = full k f s
      by-checks true k true f s = by-engine (first-view (takes_in y xs t) es (engines-rising b)) (record { known = k; below = f }) s

  -- main: seat

  -- a load with a newcomer is within the ceilings
  pub length-with_one : (t : ℕ) → length (with_one xs t) ≡ type_limit
  length-with_one t = length-one_more (t - 1) (total xs) ∙ length-total v

  pub with_one-within : (t : ℕ) → Newcomer y xs t → within (with_one xs t) (ceilings_of y) ≡ true
  with_one-within t n =
      one_more-within (t - 1) (total xs) (ceilings_of y) v.ceiling (ltb-true (get_or (total xs) (t - 1) 0) (get_or (ceilings_of y) (t - 1) 0) n.below)

  -- the recovery onto the engines of the code's array is that onto the engines 1 to m, with empty ones past them
  pub recovered-padded : (x : List ℕ) → length x ≡ type_limit → within x (ceilings_of y) ≡ true → placeable y es x ≡ true
      → board_of y (padded_marks y ms) (recovered_for engine_limit y es x) ≡ board_on y ms (recovered_for y.engines y es x)
  recovered-padded x l w can =
      let all : engine_limit ≡ y.engines + (engine_limit - y.engines) = omega (arith, limits.engines) in
      ap (board_of y (padded_marks y ms)) (ap (λ (n : ℕ). recovered_for n y es x) all ∙ recovered_for-more y limits es (engines-distinct b) x l w can y.engines (engines-known b) (engine_limit - y.engines))

  reseated-yes : (x : List ℕ) (table : Lent) → length x ≡ type_limit → within x (ceilings_of y) ≡ true → placeable y es x ≡ true
      → reseated b x table ≡ result (accepted []) (board_on y ms (recovered_for y.engines y es x)) (filled y es table)
  unfolding reseated
  reseated-yes x table l w can = rw can (ap (λ (after : Board). result (accepted []) after (filled y es table)) (recovered-padded x l w can))

  reseated-no : (x : List ℕ) (table : Lent) → placeable y es x ≡ false → reseated b x table ≡ result (refused from_state 24) b (filled y es table)
  unfolding reseated
  reseated-no x table cannot = rw cannot

  pub seat-view : (t : ℕ) (table : Lent) → long_enough y table ≡ true → SeatView y ms xs t table (seat_of b t table)
  unfolding seat_of
  seat-view t table long = by-checks (known_type y t) refl (under_in y xs t) refl form
    where
      r : Result
      r = seat_of b t table

      work : Result
      work = reseated b (with_one xs t) table

      form : r ≡ checked (newcomer_checks (known_type y t) (under_in y xs t)) b table work
      form =
          ap (λ (c : Checked). checked c b table (reseated b (with_newcomer b t) table)) (checks-on t table long)
          ∙ ap (λ (x : List ℕ). checked (newcomer_checks (known_type y t) (under_in y xs t)) b table (reseated b x table)) (newcomer-on t)

      by-room : (p : Bool) → placeable y es (with_one xs t) ≡ p → Newcomer y xs t → r ≡ work → SeatView y ms xs t table r
      by-room true e n s = seats n e (s ∙ reseated-yes (with_one xs t) table (length-with_one t) (with_one-within t n) e)
      by-room false e n s = no_room n e (s ∙ reseated-no (with_one xs t) table e)

      by-checks : (q : Bool) → known_type y t ≡ q → (u : Bool) → under_in y xs t ≡ u → r ≡ checked (newcomer_checks q u) b table work → SeatView y ms xs t table r
      by-checks false k u f s = unknown k s
      by-checks true k false f s = full k f s
      by-checks true k true f s = by-room (placeable y es (with_one xs t)) refl (record { known = k; below = f }) s

  -- main: retire

  abbrev retire_checks : Bool → Bool → Bool → Checked
  retire_checks known engine held = and_then (check known from_input 13) (and_then (check engine from_input 14) (check held from_state 22))

  retire-checks-on : (t e : ℕ) → check_retire b t e ≡ retire_checks (known_type y t) (known_engine y e) (leb 1 (count_in xs t e))
  unfolding check_retire
  retire-checks-on t e = rw (true-here, count-on t e)

  pub retire-view : (t e : ℕ) (table : Lent) → RetireView y ms xs t table (retire_of b t e table) e
  unfolding retire_of
  retire-view t e table = by-checks (known_type y t) refl (known_engine y e) refl (leb 1 (count_in xs t e)) refl form
    where
      r : Result
      r = retire_of b t e table

      work : Result
      work = result (accepted []) (with_load b e (one_less (t - 1) (load_at b e))) table

      form : r ≡ checked (retire_checks (known_type y t) (known_engine y e) (leb 1 (count_in xs t e))) b table work
      form = ap (λ (c : Checked). checked c b table work) (retire-checks-on t e)

      by-checks : (q : Bool) → known_type y t ≡ q → (k : Bool) → known_engine y e ≡ k → (u : Bool) → leb 1 (count_in xs t e) ≡ u → r ≡ checked (retire_checks q k u) b table work → RetireView y ms xs t table r e
      by-checks false a k d u f s = unknown a s
      by-checks true a false d u f s = no_engine a d s
      by-checks true a true d false f s = none_there a d f s
      by-checks true a true d true f s =
          leaves a d f
          (s ∙ ap (λ (after : Board). result (accepted []) after table) (ap (with_load b e) (left-on t e) ∙ with_load-on y ms xs e (left_at xs t e) (inside e (known-engine e d))))

  -- main: repack

  -- what stands is a good assignment, so it can be placed
  pub total-placeable : placeable y es (total xs) ≡ true
  total-placeable = (feasible-iff-placeable y limits es (engines-distinct b) (total xs) (length-total v) v.ceiling).0 (served-feasible v es (engines-known b) (idle-outside y ms xs keeps v served))

  repack-checks-on : (table : Lent) → long_enough y table ≡ true → check_repack b (length table.rows) (length table.predecessors) ≡ passes
  unfolding check_repack
  repack-checks-on table long = rw (true-here, long)

  pub repack-view : (table : Lent) → long_enough y table ≡ true → repack_of b table ≡ result (accepted []) (board_on y ms (recovered_for y.engines y es (total xs))) (filled y es table)
  unfolding repack_of
  repack-view table long =
      ap (λ (c : Checked). checked c b table (reseated b (standing b) table)) (repack-checks-on table long)
      ∙ ap (λ (x : List ℕ). reseated b x table) (standing_on y ms xs)
      ∙ reseated-yes (total xs) table (length-total v) v.ceiling total-placeable

  -- main: withdraw and restore

  has-mark : (e : ℕ) → known_engine y e ≡ true → e - 1 < length ms
  has-mark e d = let r = known-engine e d in omega (arith, served.count, r.0, r.1)

  abbrev withdraw_checks : Bool → Bool → Bool → Checked
  withdraw_checks engine mark empty = and_then (check engine from_input 14) (and_then (check (not mark) from_state 36) (check empty from_state 35))

  withdraw-checks-on : (e : ℕ) → check_withdraw b e ≡ withdraw_checks (known_engine y e) (mark_in ms e) (holds_none (load_in xs (e - 1)))
  unfolding check_withdraw
  withdraw-checks-on e = rw (true-here, marked-on y ms xs e, load_at-on y ms xs e)

  pub withdraw-view : (e : ℕ) (table : Lent) → WithdrawView y ms xs e table (withdraw_of b e table)
  unfolding withdraw_of
  withdraw-view e table = by-checks (known_engine y e) refl (mark_in ms e) refl (holds_none (load_in xs (e - 1))) refl form
    where
      r : Result
      r = withdraw_of b e table

      work : Result
      work = result (accepted []) (with_mark b e true) table

      form : r ≡ checked (withdraw_checks (known_engine y e) (mark_in ms e) (holds_none (load_in xs (e - 1)))) b table work
      form = ap (λ (c : Checked). checked c b table work) (withdraw-checks-on e)

      by-checks : (q : Bool) → known_engine y e ≡ q → (k : Bool) → mark_in ms e ≡ k → (u : Bool) → holds_none (load_in xs (e - 1)) ≡ u → r ≡ checked (withdraw_checks q k u) b table work
          → WithdrawView y ms xs e table r
      by-checks false d k m u f p = no_engine d p
      by-checks true d true m u f p = already d m p
      by-checks true d false m false f p = holds d m f p
      by-checks true d false m true f p = goes d m f (p ∙ ap (λ (after : Board). result (accepted []) after table) (with_mark-on y ms xs e true (has-mark e d)))

  abbrev restore_checks : Bool → Bool → Checked
  restore_checks engine mark = and_then (check engine from_input 14) (check mark from_state 36)

  restore-checks-on : (e : ℕ) → check_restore b e ≡ restore_checks (known_engine y e) (mark_in ms e)
  unfolding check_restore
  restore-checks-on e = rw (true-here, marked-on y ms xs e)

  pub restore-view : (e : ℕ) (table : Lent) → RestoreView y ms xs e table (restore_of b e table)
  unfolding restore_of
  restore-view e table = by-checks (known_engine y e) refl (mark_in ms e) refl form
    where
      r : Result
      r = restore_of b e table

      work : Result
      work = result (accepted []) (with_mark b e false) table

      form : r ≡ checked (restore_checks (known_engine y e) (mark_in ms e)) b table work
      form = ap (λ (c : Checked). checked c b table work) (restore-checks-on e)

      by-checks : (q : Bool) → known_engine y e ≡ q → (k : Bool) → mark_in ms e ≡ k → r ≡ checked (restore_checks q k) b table work → RestoreView y ms xs e table r
      by-checks false d k m p = no_engine d p
      by-checks true d false m p = already d m p
      by-checks true d true m p = comes d m (p ∙ ap (λ (after : Board). result (accepted []) after table) (with_mark-on y ms xs e false (has-mark e d)))

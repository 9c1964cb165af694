-- On a board without marks every call is what it was before request 2026-07: the engines in service are 1 to m, and the test of refusal 20 is the old one. None of the four
-- calls sets a mark.
use Rattle.std.proofs.Common.{Option, Some, None}
use Prim.Native.Nat.{ℕ, zero, suc, ◌-◌}
use mathlib.Core.Path.{◌≡◌, refl, sym, ap, ◌∙◌}
use mathlib.Core.List.{List, []}
use mathlib.Core.Bool.{Bool, true, false, cond, not, ◌&&◌, and-true}
use native.Mathlib.Omega.{arith}
use borrow.Author.Tests.{eq-eqb}
use lib.ListN.{length}
use lib.Dec.{eqb}
use Rattle.system.specs.Limits.{engine_limit}
use Rattle.system.specs.Outcome.{accepted, refused, from_state, Checked, passes, fails, check, and_then}
use Rattle.loads.specs.Load.{one_less}
use Rattle.loads.proofs.Order.{and_both}
use Rattle.partition.specs.Assignment.{every, engines_to}
use Rattle.partition.specs.ForSystem.{placeable}
use Rattle.partition.specs.Lent.{Lent}
use Rattle.partition.proofs.Lists.{every-always, passing-all}
use Rattle.table.specs.Table.{room_check}
use Rattle.board.specs.declared.Board.{Board}
use Rattle.board.specs.Boards.{with_load, marked, engines_of, load_at, standing}
use Rattle.board.specs.Truth.{mark_true, true_marks, true_board}
use Rattle.board.specs.Calls.{Result, result, checked, check_newcomer, check_retire, check_repack, with_newcomer, takes, first_of, first_engine, admitted, admit_of, reseated, seat_of, retire_of, repack_of}
use Rattle.board.specs.Words.{serving_to}
use Rattle.board.specs.Before.{true_before, board_check_before, engines_before, check_newcomer_before, admitted_before, admit_before, reseated_before, seat_before, retire_before, repack_before, Unmarked, AsBefore}

module _ (b : Board) (u : Unmarked b) where
  same-engines : engines_of b ≡ engines_before b
  same-engines = passing-all (λ (e : ℕ). not (marked b e)) (engines_to b.system.engines) (every-always (λ (e : ℕ). not (marked b e)) (λ e. ap not (u.none e)) (engines_to b.system.engines))

  pub no-marks : true_marks b ≡ true
  unfolding true_marks
  no-marks =
      and_both (eqb (length b.marks) engine_limit) (every (mark_true b) (engines_to engine_limit)) (eq-eqb (length b.marks) engine_limit u.sixteen)
      (every-always (mark_true b) (λ e. rw (u.none e)) (engines_to engine_limit))

  same_truth : true_board b ≡ true_before b
  unfolding true_board
  same_truth = ap (λ (q : Bool). true_before b && q) no-marks ∙ and-true (true_before b)

  same_place : (t : ℕ) (table : Lent) (p : Option ℕ) → admitted b t table p ≡ admitted_before b t table p
  unfolding admitted admitted_before
  same_place t table (Some e) = refl
  same_place t table None = rw same-engines

  same-seats : (x : List ℕ) (table : Lent) → reseated b x table ≡ reseated_before b x table
  unfolding reseated
  same-seats x table = rw same-engines

  serving-same : (e : ℕ) → serving_to b e ≡ e
  unfolding serving_to
  serving-same zero = refl
  serving-same (suc e) = rw (u.none (suc e), serving-same e) (omega arith)

  same-checks : (t rows predecessors : ℕ) → check_newcomer b t rows predecessors ≡ check_newcomer_before b t rows predecessors
  unfolding check_newcomer
  same-checks t rows predecessors = rw same_truth

  same-admit : (t : ℕ) (table : Lent) → admit_of b t table ≡ admit_before b t table
  unfolding admit_of
  same-admit t table =
      ap (λ (c : Checked). checked c b table (admitted b t table (first_engine b t))) (same-checks t (length table.rows) (length table.predecessors))
      ∙ ap (λ (es : List ℕ). checked (check_newcomer_before b t (length table.rows) (length table.predecessors)) b table (admitted b t table (first_of (takes b t) es))) same-engines
      ∙ ap (λ (r : Result). checked (check_newcomer_before b t (length table.rows) (length table.predecessors)) b table r) (same_place t table (first_of (takes b t) (engines_before b)))

  same-seat : (t : ℕ) (table : Lent) → seat_of b t table ≡ seat_before b t table
  unfolding seat_of
  same-seat t table =
      ap (λ (c : Checked). checked c b table (reseated b (with_newcomer b t) table)) (same-checks t (length table.rows) (length table.predecessors))
      ∙ ap (λ (r : Result). checked (check_newcomer_before b t (length table.rows) (length table.predecessors)) b table r) (same-seats (with_newcomer b t) table)

  same-retire : (t e : ℕ) (table : Lent) → retire_of b t e table ≡ retire_before b t e table
  unfolding retire_of check_retire
  same-retire t e table = rw same_truth

  same-repack : (table : Lent) → repack_of b table ≡ repack_before b table
  unfolding repack_of check_repack
  same-repack table =
      ap (λ (q : Bool). checked (and_then (check q from_state 20) (room_check b.system (length table.rows) (length table.predecessors))) b table (reseated b (standing b) table)) same_truth
      ∙ ap (λ (r : Result). checked (and_then (board_check_before b) (room_check b.system (length table.rows) (length table.predecessors))) b table r) (same-seats (standing b) table)

  pub as_before : AsBefore b
  as_before = record {
    admits = same-admit;
    seats = same-seat;
    retires = same-retire;
    repacks = same-repack;
    engines = λ e. ((λ h. h.is_engine), (λ h. record { is_engine = h; in_service = u.none e }));
    rows = serving-same;
  }

-- main: none of the four calls sets a mark

checked-marks : (c : Checked) (b : Board) (table : Lent) (work : Result) → work.board.marks ≡ b.marks → (checked c b table work).board.marks ≡ b.marks
checked-marks passes b table work h = h
checked-marks (fails s n) b table work h = refl

admitted-marks : (b : Board) (t : ℕ) (table : Lent) (p : Option ℕ) → (admitted b t table p).board.marks ≡ b.marks
unfolding admitted
admitted-marks b t table (Some e) = refl
admitted-marks b t table None = refl

reseated-marks : (b : Board) (x : List ℕ) (table : Lent) → (reseated b x table).board.marks ≡ b.marks
unfolding reseated
reseated-marks b x table = go (placeable b.system (engines_of b) x) _ _ refl
  where
    go : (q : Bool) (after : Board) (left : Lent) → after.marks ≡ b.marks → (cond q (result (accepted []) after left) (result (refused from_state 24) b left)).board.marks ≡ b.marks
    go true after left h = h
    go false after left h = refl

pub admit-marks : (b : Board) (t : ℕ) (table : Lent) → (admit_of b t table).board.marks ≡ b.marks
unfolding admit_of
admit-marks b t table = checked-marks (check_newcomer b t (length table.rows) (length table.predecessors)) b table (admitted b t table (first_engine b t)) (admitted-marks b t table (first_engine b t))

pub seat-marks : (b : Board) (t : ℕ) (table : Lent) → (seat_of b t table).board.marks ≡ b.marks
unfolding seat_of
seat-marks b t table = checked-marks (check_newcomer b t (length table.rows) (length table.predecessors)) b table (reseated b (with_newcomer b t) table) (reseated-marks b (with_newcomer b t) table)

pub retire-marks : (b : Board) (t e : ℕ) (table : Lent) → (retire_of b t e table).board.marks ≡ b.marks
unfolding retire_of
retire-marks b t e table = checked-marks (check_retire b t e) b table (result (accepted []) (with_load b e (one_less (t - 1) (load_at b e))) table) refl

pub repack-marks : (b : Board) (table : Lent) → (repack_of b table).board.marks ≡ b.marks
unfolding repack_of
repack-marks b table = checked-marks (check_repack b (length table.rows) (length table.predecessors)) b table (reseated b (standing b) table) (reseated-marks b (standing b) table)

-- The call from a board: what it promises, from what it answers and leaves by definition, and one law for each way in which it ends.
-- Its checks are a seat's, so that the order of its refusals is that of a seat.
use Rattle.std.proofs.Common.{Option, Ok, Err}
use Rattle.std.specs.Option.{is_some}
use Prim.Native.Nat.{ℕ, ◌+◌, ◌-◌, ◌≤◌}
use mathlib.Core.Path.{◌≡◌, refl, sym, ap, subst, ◌∙◌}
use mathlib.Core.List.{List, [], ◌∷◌}
use mathlib.Core.Bool.{Bool, true, false, cond}
use mathlib.Core.Logic.{◌↔◌}
use native.Mathlib.Omega.{arith}
use borrow.Author.Tests.{le-leb, lt-ltb}
use lib.ListN.{length, get_or}
use lib.Dec.{leb, eqb}
use Rattle.system.specs.declared.System.{System}
use Rattle.system.specs.declared.Refusal.{Refusal}
use Rattle.system.specs.declared.Refusal.TheVariants.{Input, State}
use Rattle.system.specs.Values.{ceilings_of}
use Rattle.system.specs.Limits.{type_limit}
use Rattle.system.specs.Outcome.{Source, accepted, refused, from_input, from_state, Checked, passes, fails, unless_fails, fails_with}
use Rattle.system.proofs.Laws.{Limits, limits_of}
use Rattle.loads.proofs.Order.{and_both}
use Rattle.loads.proofs.Change.{length-one_more}
use Rattle.partition.specs.ForSystem.{placeable}
use Rattle.partition.specs.Lent.{Lent}
use Rattle.partition.specs.Plain.{LongEnough}
use Rattle.partition.proofs.Standing.{length-total}
use Rattle.partition.proofs.Plain.{ceiling-out}
use Rattle.table.specs.declared.Placement.{Placement}
use Rattle.table.specs.Table.{filled, placement}
use Rattle.table.specs.Meaning.{FilledMeans}
use Rattle.table.proofs.Room.{long-enough-out}
use Rattle.table.proofs.Meaning.{filled-means}
use Rattle.planner.specs.Plan.{table_left}
use Rattle.board.specs.declared.Board.{Board}
use Rattle.board.specs.Boards.{engines_of, standing}
use Rattle.board.specs.Truth.{true_board}
use Rattle.board.specs.Calls.{known_type, under_ceiling, check_newcomer, with_newcomer, Result, reseated, admit_of, seat_of}
use Rattle.board.specs.Inner.{CheckedNewcomer}
use Rattle.board.specs.Words.{stands_no, plus_one, EngineIn, serving_all, BelowCeiling, NoRoom, IsTrue}
use Rattle.board.specs.Meaning.{NewcomerInOrder, AdmitPromises, SeatPromises}
use Rattle.board.proofs.Places.{engines-distinct, engines-known, engines-count, engines-in, engines-number}
use Rattle.board.proofs.Plain.{more-out}
use Rattle.board.proofs.Truth.{truth-of}
use Rattle.board.proofs.TrueMeans.{stands-said, true-means}
use Rattle.board.proofs.MeansTrue.{admit-means, seat-means}
use Rattle.board.proofs.Order.{seat-in-order}
use Rattle.board.proofs.Ready.{true-keeps, newcomer-range, newcomer-within}
use Rattle.board.proofs.Promises.{only_one}
use Rattle.causes.specs.declared.Cause.{Cause}
use Rattle.causes.specs.Causes.{CauseAnswer, told, cause_outcome_of, cause_of, cause_on, room_cause, room_cause_table}
use Rattle.causes.specs.Meaning.{CauseMeans, RoomCausePromises}
use Rattle.causes.proofs.Means.{cause-means}
use Rattle.causes.proofs.FromFile.{not-refused, found-placed}

-- the answer and the table are those that are defined
pub record GivesRoom (b : Board) (t : ℕ) (table : Lent) (r : CauseAnswer) (after : Lent) : Type 0 where
  pub answer : cause_outcome_of r ≡ room_cause b t table
  pub left : after ≡ room_cause_table b t table

module _ (b : Board) (t : ℕ) (table : Lent) where
  abbrev y : System
  y = b.system

  abbrev checks : Checked
  checks = check_newcomer b t (length table.rows) (length table.predecessors)

  abbrev cause : Cause
  cause = cause_on y (engines_of b) (with_newcomer b t)

  -- intermediate: a seat that its checks let through is refused 24 or not at all

  seat-late : checks ≡ passes → (s : Source) (n : ℕ) → (seat_of b t table).outcome ≡ refused s n → n ≡ 24
  unfolding seat_of reseated
  seat-late q s n e = go (placeable y (engines_of b) (with_newcomer b t)) refl
    where
      go : (can : Bool) → placeable y (engines_of b) (with_newcomer b t) ≡ can → n ≡ 24
      go true can = let said : accepted [] ≡ refused s n = rw (q, can) at e in let z : ◌≡◌ {A = ℕ} 0 1 = cc in absurd (omega arith)
      go false can = let said : refused from_state 24 ≡ refused s n = rw (q, can) at e in cc

  -- and one that they do not is refused as they say
  seat-same : (s : Source) (n : ℕ) → checks ≡ fails s n → (seat_of b t table).outcome ≡ refused s n
  unfolding seat_of
  seat-same s n q = rw q

  -- a refusal that a seat says of its checks is not said where they pass
  not-said : checks ≡ passes → (P : Type 0) (s : Source) (n : ℕ) → (n ≡ 24 → ⊥) → ((seat_of b t table).outcome ≡ refused s n) ↔ P → (told cause ≡ refused s n) ↔ P
  not-said q P s n other said = ((λ e. not-refused cause s n e), (λ p. absurd (other (seat-late q s n (said.1 p)))))

  -- main: the order, and the table where the call is refused

  order-kept : NewcomerInOrder b t table (room_cause b t table)
  order-kept = go checks refl
    where
      seats : NewcomerInOrder b t table (seat_of b t table).outcome
      seats = seat-in-order b t table

      go : (c : Checked) → checks ≡ c → NewcomerInOrder b t table (unless_fails c (told cause))
      go (fails s n) q = subst (NewcomerInOrder b t table) (seat-same s n q) seats
      go passes q = record {
        board_first = not-said q _ from_state 20 (λ e. absurd (omega arith)) seats.board_first;
        then_type = λ w. not-said q _ from_input 13 (λ e. absurd (omega arith)) (seats.then_type w);
        then_table = λ w k. not-said q _ from_input 11 (λ e. absurd (omega arith)) (seats.then_table w k);
        then_ceiling = λ w k l. not-said q _ from_state 21 (λ e. absurd (omega arith)) (seats.then_ceiling w k l);
      }

  lent_back : (s : Source) (n : ℕ) → room_cause b t table ≡ refused s n → room_cause_table b t table ≡ table
  lent_back s n = go checks
    where
      go : (c : Checked) → unless_fails c (told cause) ≡ refused s n → table_left c table (filled y (engines_of b) table) ≡ table
      go (fails k m) e = refl
      go passes e = not-refused cause s n e

  -- main: a true board, a table long enough, and a type below its ceiling

  module _ (w : IsTrue b) (long : LongEnough b.system table) (below : BelowCeiling b t) where
    is_true_lem : true_board b ≡ true
    is_true_lem = (true-means b).tests.1 w

    limits : Limits y
    limits = limits_of y (true-keeps b is_true_lem)

    is_known : known_type y t ≡ true
    is_known = and_both (leb 1 t) (leb t y.typecount) (le-leb 1 t below.is_type.0) (le-leb t y.typecount below.is_type.1)

    is_below : under_ceiling b t ≡ true
    is_below = lt-ltb (get_or (standing b) (t - 1) 0) (get_or (ceilings_of y) (t - 1) 0) (omega (arith, below.fewer, stands-said b w t, ceiling-out y t))

    newcomer : CheckedNewcomer b t
    newcomer = record { is_true = is_true_lem; known = is_known; below = is_below }

    passed : checks ≡ passes
    unfolding check_newcomer
    passed = rw (is_true_lem, is_known, (long-enough-out y table (true-keeps b is_true_lem)).1 long, is_below)

    told_is : room_cause b t table ≡ told cause
    told_is = rw passed

    left_is : room_cause_table b t table ≡ filled y (engines_of b) table
    left_is = rw passed

    -- what stands with the newcomer, count by count
    six : length (standing b) ≡ type_limit
    six = let s = truth-of b is_true_lem in ap length s.stands ∙ length-total s.valid

    counts : (u : ℕ) → 1 ≤ u → get_or (with_newcomer b t) (u - 1) 0 ≡ plus_one t (stands_no b) u
    counts u k =
        let range = newcomer-range b t newcomer in
        more-out t range.0 (standing b) (omega (arith, six, range.1)) u k ∙ ap (λ (n : ℕ). n + cond (eqb u t) 1 0) (sym (stands-said b w u))

    means-so : CauseMeans b.system (EngineIn b) (serving_all b) (plus_one t (stands_no b)) (room_cause b t table)
    means-so =
        rw told_is
        (subst (λ (r : ℕ). CauseMeans y (EngineIn b) r (plus_one t (stands_no b)) (told cause)) (engines-number b)
        (cause-means y limits (engines_of b) (engines-distinct b) (engines-known b) (EngineIn b) (engines-in b) (with_newcomer b t) (length-one_more (t - 1) (standing b) ∙ six) (newcomer-within b t newcomer)
        (plus_one t (stands_no b)) counts))

    left-filled : FilledMeans b.system (serving_all b) table (room_cause_table b t table)
    left-filled =
        rw (left_is, engines-number b) (filled-means y limits (serving_all b) table (omega (arith, engines-number b, engines-count b)) long)

    -- no room is that the cause is not 0
    no_room_lem : NoRoom b t ↔ (room_cause b t table ≡ accepted (0 ∷ []) → ⊥)
    no_room_lem = ((λ none zero. let (χ, p) = means-so.zero.0 zero in none χ p), (λ h χ p. h (means-so.zero.1 (χ, p))))

    module _ (other : Lent) (room : LongEnough b.system other) where
      admit-refused : ((admit_of b t other).outcome ≡ refused from_state 24) ↔ (room_cause b t table ≡ accepted (0 ∷ []) → ⊥)
      admit-refused = let said = (admit-means b w t other room).no_room below in ((λ e. no_room_lem.0 (said.0 e)), (λ h. said.1 (no_room_lem.1 h)))

      seat-refused : ((seat_of b t other).outcome ≡ refused from_state 24) ↔ (room_cause b t table ≡ accepted (0 ∷ []) → ⊥)
      seat-refused = let said = (seat-means b w t other room).no_room below in ((λ e. no_room_lem.0 (said.0 e)), (λ h. said.1 (no_room_lem.1 h)))

    -- and whatever keeps what the call promises
    module _ (other : Lent) (room : LongEnough b.system other) (gives : Result) where
      any-admit-refused : AdmitPromises b t other gives → (gives.outcome ≡ refused from_state 24) ↔ (room_cause b t table ≡ accepted (0 ∷ []) → ⊥)
      any-admit-refused p = let said = (p.means w room).no_room below in ((λ e. no_room_lem.0 (said.0 e)), (λ h. said.1 (no_room_lem.1 h)))

      any-seat-refused : SeatPromises b t other gives → (gives.outcome ≡ refused from_state 24) ↔ (room_cause b t table ≡ accepted (0 ∷ []) → ⊥)
      any-seat-refused p = let said = (p.means w room).no_room below in ((λ e. no_room_lem.0 (said.0 e)), (λ h. said.1 (no_room_lem.1 h)))

  -- main: any board

  pub promises-of : (r : CauseAnswer) (after : Lent) → GivesRoom b t table r after → RoomCausePromises b t table r after
  promises-of r after g = record {
    answers = g.answer;
    leaves_table = g.left;
    order = rw g.answer order-kept;
    one_kind = rw g.answer (only_one b order-kept.board_first.1);
    as_lent = λ s n e. g.left ∙ lent_back s n (sym g.answer ∙ e);
    left_filled = λ w long below. rw g.left (left-filled w long below);
    means = λ w long below. rw g.answer (means-so w long below);
    admit24 = λ w long below. rw g.answer (admit-refused w long below);
    seat24 = λ w long below. rw g.answer (seat-refused w long below);
    admit24_any = λ w long below. rw g.answer (any-admit-refused w long below);
    seat24_any = λ w long below. rw g.answer (any-seat-refused w long below);
  }

  -- main: the ways in which the call ends

  pub checks-give : (why : Refusal) → fails_with why ≡ check_newcomer b t (length table.rows) (length table.predecessors) → GivesRoom b t table (Err why) table
  checks-give (Input n) failed = record { answer = rw (← failed); left = rw (← failed) }
  checks-give (State n) failed = record { answer = rw (← failed); left = rw (← failed) }

  pub cause-gives : passes ≡ check_newcomer b t (length table.rows) (length table.predecessors) → (c : Cause) → c ≡ cause_on b.system (engines_of b) (with_newcomer b t) → (after : Lent) → after ≡ filled b.system (engines_of b) table
      → GivesRoom b t table (Ok c) after
  cause-gives ok c same after full = record { answer = rw (← ok, same); left = rw (← ok) full }

-- what the code hands out as the cause
pub cause-found : (b : Board) (t engines : ℕ) (counts : List ℕ) {c : Cause} (found : Option Placement) → c ≡ cause_of b.system engines counts (is_some found) → engines ≡ length (engines_of b) → counts ≡ with_newcomer b t
    → found ≡ placement b.system (engines_of b) (with_newcomer b t) → c ≡ cause_on b.system (engines_of b) (with_newcomer b t)
cause-found b t engines counts found is count same placed =
    is ∙ rw (count, same, found-placed b.system (engines_of b) (with_newcomer b t) found placed)

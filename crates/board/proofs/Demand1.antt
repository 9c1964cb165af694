-- Demand 1 of the six calls, for every board: by the cases of each call's checks and of its work.
use Rattle.std.proofs.Common.{Option, Some, None}
use Prim.Native.Nat.{ℕ, ◌-◌}
use mathlib.Core.Path.{◌≡◌, refl, sym, ap, ◌∙◌}
use mathlib.Core.List.{List, [], ◌∷◌}
use mathlib.Core.Bool.{Bool, true, false, cond, not, ◌&&◌, true≢false, false≢true}
use native.Mathlib.Omega.{arith}
use borrow.Author.Tests.{eqb-false, not-true}
use lib.ListN.{length}
use lib.Dec.{eqb}
use Rattle.system.specs.Limits.{engine_limit}
use Rattle.system.specs.Outcome.{Source, accepted, refused, from_input, from_state, Checked, passes, fails, check, and_then}
use Rattle.loads.specs.Load.{holds_none, one_less}
use Rattle.loads.proofs.Order.{and_parts}
use Rattle.partition.specs.Assignment.{engines_to}
use Rattle.partition.specs.ForSystem.{placeable, recovered_for}
use Rattle.partition.specs.Lent.{Lent}
use Rattle.partition.proofs.Lists.{length-engines_to}
use Rattle.table.specs.Table.{long_enough, filled_to, filled}
use Rattle.board.specs.declared.Board.{Board}
use Rattle.board.specs.Boards.{board_of, with_load, with_mark, engines_of, load_at, standing}
use Rattle.board.specs.Truth.{true_board}
use Rattle.board.specs.Calls.{Result, result, checked, known_type, known_engine, under_ceiling, held_at, movable, check_newcomer, check_retire, check_repack, check_restore, check_withdraw, with_newcomer, first_engine, admitted, admit_of, reseated, seat_of, retire_of, repack_of, withdraw_of, restore_of}
use Rattle.board.specs.Words.{serving_all}
use Rattle.board.specs.Meaning.{Demand1}
use Rattle.board.proofs.Places.{engines-number}

-- intermediate: the checks refuse with other numbers than 23 and 24, which are said after a search of the table

abbrev pub unsearched : ℕ → Bool
unsearched n = not (eqb n 23) && not (eqb n 24)

early : Checked → Bool
early passes = true
early (fails s n) = unsearched n

early-check : (met : Bool) (s : Source) (n : ℕ) → unsearched n ≡ true → early (check met s n) ≡ true
unfolding early
early-check true s n h = refl
early-check false s n h = h

early-then : (x later : Checked) → early x ≡ true → early later ≡ true → early (and_then x later) ≡ true
unfolding early
early-then passes later h k = k
early-then (fails s n) later h k = h

module _ (b : Board) (table : Lent) where
  -- what a fill leaves, by the code's engines and in plain words
  abbrev full : Lent
  full = filled b.system (engines_of b) table

  abbrev told : Lent
  told = filled b.system (engines_to (serving_all b)) table

  full-told : full ≡ told
  full-told = ap (λ (n : ℕ). filled_to b.system n table) (engines-number b ∙ sym (length-engines_to (serving_all b)))

  -- intermediate: the three ways that a call can end

  accepts : (ns : List ℕ) (after : Board) (given left : Lent) → given ≡ left → Demand1 b table left (result (accepted ns) after given)
  accepts ns after given left same = record {
    board = λ e. absurd (true≢false e);
    as_lent = λ s n e p q. let z : ◌≡◌ {A = ℕ} 0 1 = cc in absurd (omega arith);
    filled_on23 = λ s e. let z : ◌≡◌ {A = ℕ} 0 1 = cc in absurd (omega arith);
    filled_on24 = λ s e. let z : ◌≡◌ {A = ℕ} 0 1 = cc in absurd (omega arith);
    on_accept = λ e. same;
  }

  -- refused before any work
  refuses : (left : Lent) (s : Source) (n : ℕ) → unsearched n ≡ true → Demand1 b table left (result (refused s n) b table)
  refuses left s n h = record {
    board = λ e. refl;
    as_lent = λ _ _ _ _ _. refl;
    filled_on23 = λ r e. let same : n ≡ 23 = cc in absurd (eqb-false n 23 (not-true (eqb n 23) (and_parts (not (eqb n 23)) (not (eqb n 24)) h).0) same);
    filled_on24 = λ r e. let same : n ≡ 24 = cc in absurd (eqb-false n 24 (not-true (eqb n 24) (and_parts (not (eqb n 23)) (not (eqb n 24)) h).1) same);
    on_accept = λ e. absurd (false≢true e);
  }

  -- refused 23 or 24 after the table was filled
  leaves : (left : Lent) (p : Bool) → Demand1 b table left (result (refused from_state (cond p 23 24)) b full)
  leaves left true = record {
    board = λ e. refl;
    as_lent = λ s n e p q. let same : 23 ≡ n = cc in absurd (omega arith);
    filled_on23 = λ s e. full-told;
    filled_on24 = λ s e. full-told;
    on_accept = λ e. absurd (false≢true e);
  }
  leaves left false = record {
    board = λ e. refl;
    as_lent = λ s n e p q. let same : 24 ≡ n = cc in absurd (omega arith);
    filled_on23 = λ s e. full-told;
    filled_on24 = λ s e. full-told;
    on_accept = λ e. absurd (false≢true e);
  }

  checks : (left : Lent) (c : Checked) (work : Result) → early c ≡ true → Demand1 b table left work → Demand1 b table left (checked c b table work)
  unfolding early
  checks left passes work h d = d
  checks left (fails s n) work h d = refuses left s n h

  early-newcomer : (t : ℕ) → early (check_newcomer b t (length table.rows) (length table.predecessors)) ≡ true
  unfolding check_newcomer
  early-newcomer t =
      early-then _ _ (early-check (true_board b) from_state 20 refl)
      (early-then _ _ (early-check (known_type b.system t) from_input 13 refl)
      (early-then _ _ (early-check (long_enough b.system table) from_input 11 refl) (early-check (under_ceiling b t) from_state 21 refl)))

  -- main: the work of each call

  reseats : (x : List ℕ) → Demand1 b table told (reseated b x table)
  unfolding reseated
  reseats x = go (placeable b.system (engines_of b) x) (board_of b.system b.marks (recovered_for engine_limit b.system (engines_of b) x))
    where
      go : (p : Bool) (after : Board) → Demand1 b table told (cond p (result (accepted []) after full) (result (refused from_state 24) b full))
      go true after = accepts [] after full told full-told
      go false after = leaves told false

  admits : (t : ℕ) (e : Option ℕ) → Demand1 b table table (admitted b t table e)
  unfolding admitted
  admits t (Some e) = accepts (e ∷ []) _ table table refl
  admits t None = leaves table (placeable b.system (engines_of b) (with_newcomer b t))

-- main: demand 1

pub admit-demand1 : (b : Board) (t : ℕ) (table : Lent) → Demand1 b table table (admit_of b t table)
unfolding admit_of
admit-demand1 b t table = checks b table table (check_newcomer b t (length table.rows) (length table.predecessors)) (admitted b t table (first_engine b t)) (early-newcomer b table t) (admits b table t (first_engine b t))

pub seat-demand1 : (b : Board) (t : ℕ) (table : Lent) → Demand1 b table (told b table) (seat_of b t table)
unfolding seat_of
seat-demand1 b t table =
    checks b table (told b table) (check_newcomer b t (length table.rows) (length table.predecessors)) (reseated b (with_newcomer b t) table) (early-newcomer b table t) (reseats b table (with_newcomer b t))

pub retire-demand1 : (b : Board) (t e : ℕ) (table : Lent) → Demand1 b table table (retire_of b t e table)
unfolding retire_of check_retire
retire-demand1 b t e table =
    checks b table table (check_retire b t e) (result (accepted []) (with_load b e (one_less (t - 1) (load_at b e))) table)
    (early-then _ _ (early-check (true_board b) from_state 20 refl)
    (early-then _ _ (early-check (known_type b.system t) from_input 13 refl)
    (early-then _ _ (early-check (known_engine b.system e) from_input 14 refl) (early-check (held_at b t e) from_state 22 refl))))
    (accepts b table [] (with_load b e (one_less (t - 1) (load_at b e))) table table refl)

pub repack-demand1 : (b : Board) (table : Lent) → Demand1 b table (told b table) (repack_of b table)
unfolding repack_of check_repack
repack-demand1 b table =
    checks b table (told b table) (check_repack b (length table.rows) (length table.predecessors)) (reseated b (standing b) table)
    (early-then _ _ (early-check (true_board b) from_state 20 refl) (early-check (long_enough b.system table) from_input 11 refl))
    (reseats b table (standing b))

pub withdraw-demand1 : (b : Board) (e : ℕ) (table : Lent) → Demand1 b table table (withdraw_of b e table)
unfolding withdraw_of check_withdraw
withdraw-demand1 b e table =
    checks b table table (check_withdraw b e) (result (accepted []) (with_mark b e true) table)
    (early-then _ _ (early-check (true_board b) from_state 20 refl)
    (early-then _ _ (early-check (known_engine b.system e) from_input 14 refl)
    (early-then _ _ (early-check (movable b e true) from_state 36 refl) (early-check (holds_none (load_at b e)) from_state 35 refl))))
    (accepts b table [] (with_mark b e true) table table refl)

pub restore-demand1 : (b : Board) (e : ℕ) (table : Lent) → Demand1 b table table (restore_of b e table)
unfolding restore_of check_restore
restore-demand1 b e table =
    checks b table table (check_restore b e) (result (accepted []) (with_mark b e false) table)
    (early-then _ _ (early-check (true_board b) from_state 20 refl)
    (early-then _ _ (early-check (known_engine b.system e) from_input 14 refl) (early-check (movable b e false) from_state 36 refl)))
    (accepts b table [] (with_mark b e false) table table refl)

-- The calls refuse in the order of document 01 and of request 2026-07: a check's number is said exactly where its row says so, since no later check and no work says it.
use Rattle.std.proofs.Common.{Option, Some, None}
use Prim.Native.Nat.{ℕ, zero, suc, ◌-◌, ◌≤◌}
use mathlib.Core.Path.{◌≡◌, refl, sym, ap, subst, ◌∙◌}
use mathlib.Core.List.{List, []}
use mathlib.Core.Bool.{Bool, true, false, not, cond, true≢false, false≢true}
use mathlib.Core.Logic.{◌↔◌}
use native.Mathlib.Omega.{arith}
use borrow.Author.Tests.{leb-true, le-leb, ltb-true, lt-ltb, eqb-true, eqb-false, eq-eqb, not-true}
use lib.ListN.{length, get_or}
use lib.Dec.{leb, eqb}
use Rattle.system.specs.declared.System.{System}
use Rattle.system.specs.Values.{ceilings_of}
use Rattle.system.specs.Limits.{keeps_limits}
use Rattle.system.specs.Outcome.{Outcome, Source, accepted, refused, from_input, from_state, Checked, passes, fails, check, and_then}
use Rattle.loads.specs.Load.{holds_none, one_less}
use Rattle.loads.proofs.Order.{and_parts, and_both}
use Rattle.partition.specs.ForSystem.{placeable}
use Rattle.partition.specs.Lent.{Lent}
use Rattle.partition.specs.Plain.{LongEnough, TooShort}
use Rattle.partition.proofs.Lists.{not-both}
use Rattle.partition.proofs.Plain.{ceiling-out}
use Rattle.table.specs.Table.{long_enough}
use Rattle.table.proofs.Room.{long-enough-out, too-short-out}
use Rattle.board.specs.declared.Board.{Board}
use Rattle.board.specs.Boards.{engines_of, with_load, with_mark, marked, load_at, standing}
use Rattle.board.specs.Truth.{true_board}
use Rattle.board.specs.Calls.{Result, result, checked, known_type, known_engine, under_ceiling, held_at, movable, with_newcomer, first_engine, check_newcomer, check_retire, check_repack, check_restore, check_withdraw, admitted, admit_of, reseated, seat_of, retire_of, repack_of, withdraw_of, restore_of}
use Rattle.board.specs.Words.{count_at, sum_six, IsType, IsEngine, mark_no, HoldsType, BelowCeiling, IsTrue}
use Rattle.board.specs.Meaning.{NewcomerInOrder, RetireInOrder, RepackInOrder, WithdrawInOrder, RestoreInOrder}
use Rattle.board.proofs.Plain.{record_same, sum_six-same, none-six}
use Rattle.board.proofs.Ready.{true-keeps}
use Rattle.board.proofs.TrueMeans.{stands-said, six-load, true-means}
use Rattle.board.proofs.Demand1.{unsearched}

-- intermediate: numbers that are not said

-- the number of a refusal, 0 where the call was accepted
number : Outcome → ℕ
number (accepted ns) = 0
number (refused s n) = n

-- no check refuses with the number n
avoids : ℕ → Checked → Bool
avoids n passes = true
avoids n (fails s k) = not (eqb k n)

avoids-check : (n : ℕ) (met : Bool) (s : Source) (k : ℕ) → not (eqb k n) ≡ true → avoids n (check met s k) ≡ true
unfolding avoids
avoids-check n true s k h = refl
avoids-check n false s k h = h

avoids-then : (n : ℕ) (x later : Checked) → avoids n x ≡ true → avoids n later ≡ true → avoids n (and_then x later) ≡ true
unfolding avoids
avoids-then n passes later h k = k
avoids-then n (fails s m) later h k = h

-- the work of a call says 23 or 24, if any number
abbrev Late : Result → Type 0
Late work = (n : ℕ) → 1 ≤ n → unsearched n ≡ true → number work.outcome ≡ n → ⊥

unsaid : (n : ℕ) (c : Checked) (b : Board) (table : Lent) (work : Result) → avoids n c ≡ true → (number work.outcome ≡ n → ⊥) → number (checked c b table work).outcome ≡ n → ⊥
unfolding avoids number
unsaid n passes b table work h k = k
unsaid n (fails s m) b table work h k = eqb-false m n (not-true (eqb m n) h)

-- main: a check's number is said exactly where what it tests does not hold

module _ (s : Source) (n : ℕ) (low : 1 ≤ n) (high : unsearched n ≡ true) (b : Board) (table : Lent) (work : Result) (late : Late work) {P : Type 0} where
  said-exactly : (met : Bool) (later : Checked) → (met ≡ true → P) → (P → met ≡ true) → avoids n later ≡ true
      → ((checked (and_then (check met s n) later) b table work).outcome ≡ refused s n) ↔ (P → ⊥)
  unfolding number
  said-exactly true later f g a = (λ e. absurd (unsaid n later b table work a (late n low high) (ap number e)), λ np. absurd (np (f refl)))
  said-exactly false later f g a = (λ e p. false≢true (g p), λ np. refl)

  said-last : (met : Bool) → (met ≡ true → P) → (P → met ≡ true) → ((checked (check met s n) b table work).outcome ≡ refused s n) ↔ (P → ⊥)
  unfolding number
  said-last true f g = (λ e. absurd (late n low high (ap number e)), λ np. absurd (np (f refl)))
  said-last false f g = (λ e p. false≢true (g p), λ np. refl)

-- a table is not long enough where one part of it is too short
one-short : {A : Type 0} (y : System) (table : Lent) → keeps_limits y ≡ true → A ↔ (LongEnough y table → ⊥) → A ↔ TooShort y table
one-short y table keeps e = (λ a. go (long_enough y table) refl (e.0 a), λ h. e.1 (λ k. not-both ((long-enough-out y table keeps).1 k) ((too-short-out y table keeps).1 h)))
  where
    go : (p : Bool) → long_enough y table ≡ p → (LongEnough y table → ⊥) → TooShort y table
    go true q no' = absurd (no' ((long-enough-out y table keeps).0 q))
    go false q no' = (too-short-out y table keeps).0 q

-- intermediate: the tests of the checks say what the plain words say

module _ (b : Board) where
  is-type : (t : ℕ) → known_type b.system t ≡ true → IsType b t
  is-type t h = let p = and_parts (leb 1 t) (leb t b.system.typecount) h in (leb-true 1 t p.0, leb-true t b.system.typecount p.1)

  type-met : (t : ℕ) → IsType b t → known_type b.system t ≡ true
  type-met t h = and_both (leb 1 t) (leb t b.system.typecount) (le-leb 1 t h.0) (le-leb t b.system.typecount h.1)

  is-engine : (e : ℕ) → known_engine b.system e ≡ true → IsEngine b e
  is-engine e h = let p = and_parts (leb 1 e) (leb e b.system.engines) h in (leb-true 1 e p.0, leb-true e b.system.engines p.1)

  engine-met : (e : ℕ) → IsEngine b e → known_engine b.system e ≡ true
  engine-met e h = and_both (leb 1 e) (leb e b.system.engines) (le-leb 1 e h.0) (le-leb e b.system.engines h.1)

  is_held : (t e : ℕ) → IsType b t → IsEngine b e → held_at b t e ≡ true → HoldsType b t e
  is_held t e k d h = record { is_type = k; is_engine = d; some = omega (arith, leb-true 1 (get_or (load_at b e) (t - 1) 0) h, (record_same b.loads (e - 1)).counts t) }

  held-met : (t e : ℕ) → HoldsType b t e → held_at b t e ≡ true
  held-met t e h = le-leb 1 (get_or (load_at b e) (t - 1) 0) (omega (arith, h.some, (record_same b.loads (e - 1)).counts t))

  -- the mark of an engine
  in-service : (e : ℕ) → movable b e true ≡ true → mark_no b e ≡ false
  in-service e h = not-true (marked b e) h

  service-met : (e : ℕ) → mark_no b e ≡ false → movable b e true ≡ true
  service-met e h = rw h

  -- an engine without an instance
  module _ (w : IsTrue b) (e : ℕ) where
    same-counts : eqb (sum_six (count_at b e)) 0 ≡ holds_none (load_at b e)
    same-counts =
        ap (λ (n : ℕ). eqb n 0) (sum_six-same (count_at b e) (λ (t : ℕ). get_or (load_at b e) (t - 1) 0) (λ t low. (record_same b.loads (e - 1)).counts t))
        ∙ none-six (load_at b e) (six-load b w e)

    is-empty : holds_none (load_at b e) ≡ true → sum_six (count_at b e) ≡ 0
    is-empty h = eqb-true (sum_six (count_at b e)) 0 (same-counts ∙ h)

    empty-met : sum_six (count_at b e) ≡ 0 → holds_none (load_at b e) ≡ true
    empty-met h = sym same-counts ∙ eq-eqb (sum_six (count_at b e)) 0 h

  module _ (w : IsTrue b) where
    true-met : true_board b ≡ true
    true-met = (true-means b).tests.1 w

    keeps : keeps_limits b.system ≡ true
    keeps = true-keeps b true-met

    is-long : (table : Lent) → long_enough b.system table ≡ true → LongEnough b.system table
    is-long table h = (long-enough-out b.system table keeps).0 h

    long-met : (table : Lent) → LongEnough b.system table → long_enough b.system table ≡ true
    long-met table h = (long-enough-out b.system table keeps).1 h

    is_below : (t : ℕ) → IsType b t → under_ceiling b t ≡ true → BelowCeiling b t
    is_below t k h = record { is_type = k; fewer = omega (arith, ltb-true (get_or (standing b) (t - 1) 0) (get_or (ceilings_of b.system) (t - 1) 0) h, stands-said b w t, ceiling-out b.system t) }

    below-met : (t : ℕ) → BelowCeiling b t → under_ceiling b t ≡ true
    below-met t h = lt-ltb (get_or (standing b) (t - 1) 0) (get_or (ceilings_of b.system) (t - 1) 0) (omega (arith, h.fewer, stands-said b w t, ceiling-out b.system t))

-- main: admit and seat

module _ (b : Board) (t : ℕ) (table : Lent) (work : Result) (late : Late work) where
  newcomer-in-order : NewcomerInOrder b t table (checked (check_newcomer b t (length table.rows) (length table.predecessors)) b table work).outcome
  unfolding check_newcomer
  newcomer-in-order = record {
    board_first = said-exactly from_state 20 (omega arith) refl b table work late (true_board b) _ (true-means b).tests.0 (true-means b).tests.1
        (avoids-then 20 _ _ (avoids-check 20 (known_type b.system t) from_input 13 refl) (avoids-then 20 _ _ (avoids-check 20 (long_enough b.system table) from_input 11 refl) (avoids-check 20 (under_ceiling b t) from_state 21 refl)));
    then_type = λ w. rw (true-met b w) (said-exactly from_input 13 (omega arith) refl b table work late (known_type b.system t) _ (is-type b t) (type-met b t)
        (avoids-then 13 _ _ (avoids-check 13 (long_enough b.system table) from_input 11 refl) (avoids-check 13 (under_ceiling b t) from_state 21 refl)));
    then_table = λ w k. one-short b.system table (keeps b w) (rw (true-met b w, type-met b t k) (said-exactly from_input 11 (omega arith) refl b table work late (long_enough b.system table) _ (is-long b w table) (long-met b w table)
        (avoids-check 11 (under_ceiling b t) from_state 21 refl)));
    then_ceiling = λ w k long. rw (true-met b w, type-met b t k, long-met b w table long) (said-last from_state 21 (omega arith) refl b table work late (under_ceiling b t) (is_below b w t k) (below-met b w t));
  }

-- what the work says is accepted, 23 or 24

admitted-late : (b : Board) (t : ℕ) (table : Lent) (p : Option ℕ) → Late (admitted b t table p)
unfolding admitted number
admitted-late b t table (Some e) n low high h = omega arith
admitted-late b t table None n low high h = by-case (placeable b.system (engines_of b) (with_newcomer b t)) h
  where
    by-case : (q : Bool) → cond q 23 24 ≡ n → ⊥
    by-case true s = false≢true (subst (λ (k : ℕ). unsearched k ≡ true) (sym s) high)
    by-case false s = false≢true (subst (λ (k : ℕ). unsearched k ≡ true) (sym s) high)

reseated-late : (b : Board) (x : List ℕ) (table : Lent) → Late (reseated b x table)
unfolding reseated number
reseated-late b x table n low high h = by-case (placeable b.system (engines_of b) x) _ _ _ _ h
  where
    by-case : (q : Bool) (after : Board) (left : Lent) (kept : Board) (full : Lent) → number (cond q (result (accepted []) after left) (result (refused from_state 24) kept full)).outcome ≡ n → ⊥
    by-case true after left kept full s = omega arith
    by-case false after left kept full s = false≢true (subst (λ (k : ℕ). unsearched k ≡ true) (sym s) high)

pub admit-in-order : (b : Board) (t : ℕ) (table : Lent) → NewcomerInOrder b t table (admit_of b t table).outcome
unfolding admit_of
admit-in-order b t table = newcomer-in-order b t table (admitted b t table (first_engine b t)) (admitted-late b t table (first_engine b t))

pub seat-in-order : (b : Board) (t : ℕ) (table : Lent) → NewcomerInOrder b t table (seat_of b t table).outcome
unfolding seat_of
seat-in-order b t table = newcomer-in-order b t table (reseated b (with_newcomer b t) table) (reseated-late b (with_newcomer b t) table)

-- main: retire

module _ (b : Board) (t e : ℕ) (table : Lent) (work : Result) (late : Late work) where
  leaver-in-order : RetireInOrder b t e (checked (check_retire b t e) b table work).outcome
  unfolding check_retire
  leaver-in-order = record {
    board_first = said-exactly from_state 20 (omega arith) refl b table work late (true_board b) _ (true-means b).tests.0 (true-means b).tests.1
        (avoids-then 20 _ _ (avoids-check 20 (known_type b.system t) from_input 13 refl) (avoids-then 20 _ _ (avoids-check 20 (known_engine b.system e) from_input 14 refl) (avoids-check 20 (held_at b t e) from_state 22 refl)));
    then_type = λ w. rw (true-met b w) (said-exactly from_input 13 (omega arith) refl b table work late (known_type b.system t) _ (is-type b t) (type-met b t)
        (avoids-then 13 _ _ (avoids-check 13 (known_engine b.system e) from_input 14 refl) (avoids-check 13 (held_at b t e) from_state 22 refl)));
    then_engine = λ w k. rw (true-met b w, type-met b t k) (said-exactly from_input 14 (omega arith) refl b table work late (known_engine b.system e) _ (is-engine b e) (engine-met b e)
        (avoids-check 14 (held_at b t e) from_state 22 refl));
    then_held = λ w k d. rw (true-met b w, type-met b t k, engine-met b e d) (said-last from_state 22 (omega arith) refl b table work late (held_at b t e) (is_held b t e k d) (held-met b t e));
  }

pub retire-in-order : (b : Board) (t e : ℕ) (table : Lent) → RetireInOrder b t e (retire_of b t e table).outcome
unfolding retire_of number
retire-in-order b t e table = leaver-in-order b t e table (result (accepted []) (with_load b e (one_less (t - 1) (load_at b e))) table) (λ n low high h. omega arith)

-- main: repack

pub repack-in-order : (b : Board) (table : Lent) → RepackInOrder b table (repack_of b table).outcome
unfolding repack_of check_repack
repack-in-order b table = record {
  board_first = said-exactly from_state 20 (omega arith) refl b table _ (reseated-late b (standing b) table) (true_board b) _ (true-means b).tests.0 (true-means b).tests.1
      (avoids-check 20 (long_enough b.system table) from_input 11 refl);
  then_table = λ w. one-short b.system table (keeps b w) (rw (true-met b w) (said-last from_input 11 (omega arith) refl b table _ (reseated-late b (standing b) table) (long_enough b.system table) (is-long b w table) (long-met b w table)));
}

-- main: withdraw and restore

-- what is not so, said the other way
is_set : {A : Type 0} (q : Bool) → A ↔ (q ≡ false → ⊥) → A ↔ (q ≡ true)
is_set true e = ((λ a. refl), (λ h. e.1 true≢false))
is_set false e = ((λ a. absurd (e.0 a refl)), (λ h. absurd (false≢true h)))

is-clear : {A : Type 0} (q : Bool) → A ↔ (q ≡ true → ⊥) → A ↔ (q ≡ false)
is-clear true e = ((λ a. absurd (e.0 a refl)), (λ h. absurd (true≢false h)))
is-clear false e = ((λ a. refl), (λ h. e.1 false≢true))

is_some : {A : Type 0} (n : ℕ) → A ↔ (n ≡ 0 → ⊥) → A ↔ (1 ≤ n)
is_some zero e = ((λ a. absurd (e.0 a refl)), (λ h. absurd (omega arith)))
is_some (suc n) e = ((λ a. omega arith), (λ h. e.1 (λ z. omega arith)))

pub withdraw-in-order : (b : Board) (e : ℕ) (table : Lent) → WithdrawInOrder b e (withdraw_of b e table).outcome
unfolding withdraw_of check_withdraw number
withdraw-in-order b e table = record {
  board_first = said-exactly from_state 20 (omega arith) refl b table work late (true_board b) _ (true-means b).tests.0 (true-means b).tests.1
      (avoids-then 20 _ _ (avoids-check 20 (known_engine b.system e) from_input 14 refl) (avoids-then 20 _ _ (avoids-check 20 (movable b e true) from_state 36 refl) (avoids-check 20 (holds_none (load_at b e)) from_state 35 refl)));
  then_engine = λ w. rw (true-met b w) (said-exactly from_input 14 (omega arith) refl b table work late (known_engine b.system e) _ (is-engine b e) (engine-met b e)
      (avoids-then 14 _ _ (avoids-check 14 (movable b e true) from_state 36 refl) (avoids-check 14 (holds_none (load_at b e)) from_state 35 refl)));
  then_state = λ w d. is_set (mark_no b e) (rw (true-met b w, engine-met b e d) (said-exactly from_state 36 (omega arith) refl b table work late (movable b e true) _ (in-service b e) (service-met b e)
      (avoids-check 36 (holds_none (load_at b e)) from_state 35 refl)));
  then_empty = λ w d m. is_some (sum_six (count_at b e)) (rw (true-met b w, engine-met b e d, service-met b e m) (said-last from_state 35 (omega arith) refl b table work late (holds_none (load_at b e)) (is-empty b w e) (empty-met b w e)));
}
  where
    work : Result
    work = result (accepted []) (with_mark b e true) table

    late : Late work
    late n low high h = omega arith

pub restore-in-order : (b : Board) (e : ℕ) (table : Lent) → RestoreInOrder b e (restore_of b e table).outcome
unfolding restore_of check_restore number
restore-in-order b e table = record {
  board_first = said-exactly from_state 20 (omega arith) refl b table work late (true_board b) _ (true-means b).tests.0 (true-means b).tests.1
      (avoids-then 20 _ _ (avoids-check 20 (known_engine b.system e) from_input 14 refl) (avoids-check 20 (movable b e false) from_state 36 refl));
  then_engine = λ w. rw (true-met b w) (said-exactly from_input 14 (omega arith) refl b table work late (known_engine b.system e) _ (is-engine b e) (engine-met b e)
      (avoids-check 14 (movable b e false) from_state 36 refl));
  then_state = λ w d. is-clear (mark_no b e) (rw (true-met b w, engine-met b e d) (said-last from_state 36 (omega arith) refl b table work late (movable b e false) (λ h. h) (λ h. h)));
}
  where
    work : Result
    work = result (accepted []) (with_mark b e false) table

    late : Late work
    late n low high h = omega arith

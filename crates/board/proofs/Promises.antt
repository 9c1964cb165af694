-- What each call promises besides the equation with its definition: demand 1, the order of the refusals, that it takes a board of one kind of engine only, and its meaning for a true board.
-- All hold of the definition, so of what the call gave.
use Rattle.std.proofs.Common.{None, Some}
use Prim.Native.Nat.{ℕ, ◌≤◌}
use mathlib.Core.Path.{◌≡◌, refl, sym, ap, subst, ◌∙◌}
use mathlib.Core.List.{List, []}
use native.Mathlib.Omega.{arith}
use Rattle.system.specs.declared.Costs.{Costs}
use Rattle.system.specs.declared.Kind.{Kind}
use Rattle.system.specs.declared.System.{System}
use Rattle.system.specs.Values.{blank}
use Rattle.system.specs.Layout.{read_file, read_outcome, opened}
use Rattle.system.specs.Outcome.{Outcome, refused, from_state, outcome_of}
use Rattle.system.proofs.Laws.{read-keeps-limits}
use Rattle.partition.specs.Lent.{Lent, lent}
use Rattle.partition.specs.Plain.{type_no}
use Rattle.board.specs.declared.Board.{Board}
use Rattle.board.specs.declared.Turn.{Turn}
use Rattle.board.specs.Boards.{empty_board, opened_board}
use Rattle.board.specs.Words.{IsTrue, IsFresh}
use Rattle.board.specs.Calls.{admit_of, seat_of, retire_of, repack_of, withdraw_of, restore_of, gave, Does}
use Rattle.board.specs.Meaning.{OpenMeans, OneKindOnly, AdmitPromises, SeatPromises, RetirePromises, RepackPromises, WithdrawPromises, RestorePromises}
use Rattle.board.proofs.Demand1.{admit-demand1, seat-demand1, retire-demand1, repack-demand1, withdraw-demand1, restore-demand1}
use Rattle.board.proofs.TrueMeans.{fresh-is, fresh-true}
use Rattle.board.proofs.MeansTrue.{admit-means, seat-means, retire-means, repack-means, withdraw-means, restore-means}
use Rattle.board.proofs.Order.{admit-in-order, seat-in-order, retire-in-order, repack-in-order, withdraw-in-order, restore-in-order}
use Rattle.board.proofs.Exits.{of-given}

-- what a call gave is its answer, its board and the table after it, and nothing else: the promises of all six calls are read through this
pub gave-is : (r : Turn) (after : Lent) → ((gave r after).outcome ≡ outcome_of r.answer) × ((gave r after).board ≡ r.board) × ((gave r after).table ≡ after)
gave-is r after = (refl, refl, refl)

-- opening

-- the blank board has no engine, and no true board is so
blank-untrue : IsTrue (empty_board blank) → ⊥
blank-untrue w = let some : 1 ≤ 0 = w.limits.engines.0 in omega (arith, some)

pub open-means : (file : List ℕ) (o : Outcome) (b : Board) → o ≡ read_outcome (read_file file) → b ≡ opened_board (read_file file) → OpenMeans (read_file file) o b
open-means file o b a s = record {
  opens = λ y e. a ∙ ap read_outcome e;
  fresh = λ y e. subst (IsFresh y) (sym (is y e)) (fresh-is y);
  is_true = λ y e. subst IsTrue (sym (is y e)) (fresh-true y (read-keeps-limits file y e));
  refuses = λ n e. a ∙ ap read_outcome e;
  untrue = λ n e w. blank-untrue (subst IsTrue (s ∙ ap opened_board e) w);
}
  where
    is : (y : System) → read_file file ≡ opened y → b ≡ empty_board y
    is y e = s ∙ ap opened_board e

-- one kind of engine: a true board has no second kind, and no type of it has u and s on one

two-untrue : (b : Board) (k : Kind) → b.system.second ≡ Some k → IsTrue b → ⊥
two-untrue b k e w = let one : b.system.second ≡ None = w.limits.one_kind in let z : ◌≡◌ {A = ℕ} 0 1 = cc in omega arith

there-untrue : (b : Board) (t : ℕ) (c : Costs) → (type_no b.system t).there ≡ Some c → IsTrue b → ⊥
there-untrue b t c e w = let none : (type_no b.system t).there ≡ None = w.limits.absent t in let z : ◌≡◌ {A = ℕ} 0 1 = cc in omega arith

pub only_one : (b : Board) {o : Outcome} → ((IsTrue b → ⊥) → o ≡ refused from_state 20) → OneKindOnly b o
only_one b refuses = record { second = λ k e. refuses (two-untrue b k e); there = λ t c e. refuses (there-untrue b t c e) }

-- the calls: of their definitions

admit-holds : (b : Board) (t : ℕ) (table : Lent) → AdmitPromises b t table (admit_of b t table)
admit-holds b t table = record { demand1 = admit-demand1 b t table; order = admit-in-order b t table; one_kind = only_one b (admit-in-order b t table).board_first.1; means = λ w long. admit-means b w t table long }

seat-holds : (b : Board) (t : ℕ) (table : Lent) → SeatPromises b t table (seat_of b t table)
seat-holds b t table = record { demand1 = seat-demand1 b t table; order = seat-in-order b t table; one_kind = only_one b (seat-in-order b t table).board_first.1; means = λ w long. seat-means b w t table long }

retire-holds : (b : Board) (t e : ℕ) → RetirePromises b t e (retire_of b t e (lent [] []))
retire-holds b t e = record { demand1 = retire-demand1 b t e (lent [] []); order = retire-in-order b t e (lent [] []); one_kind = only_one b (retire-in-order b t e (lent [] [])).board_first.1; means = λ w. retire-means b w t e (lent [] []) }

repack-holds : (b : Board) (table : Lent) → RepackPromises b table (repack_of b table)
repack-holds b table = record { demand1 = repack-demand1 b table; order = repack-in-order b table; one_kind = only_one b (repack-in-order b table).board_first.1; means = λ w long. repack-means b w table long }

withdraw-holds : (b : Board) (e : ℕ) → WithdrawPromises b e (withdraw_of b e (lent [] []))
withdraw-holds b e = record { demand1 = withdraw-demand1 b e (lent [] []); order = withdraw-in-order b e (lent [] []); one_kind = only_one b (withdraw-in-order b e (lent [] [])).board_first.1; means = λ w. withdraw-means b w e (lent [] []) }

restore-holds : (b : Board) (e : ℕ) → RestorePromises b e (restore_of b e (lent [] []))
restore-holds b e = record { demand1 = restore-demand1 b e (lent [] []); order = restore-in-order b e (lent [] []); one_kind = only_one b (restore-in-order b e (lent [] [])).board_first.1; means = λ w. restore-means b w e (lent [] []) }

-- main: of what they gave

module _ (b : Board) (t : ℕ) (table : Lent) (r : Turn) (after : Lent) where
  pub admit-promises : Does (admit_of b t table) r after → Does (admit_of b t table) r after × AdmitPromises b t table (gave r after)
  admit-promises d = (d, of-given (AdmitPromises b t table) (admit_of b t table) r after d (admit-holds b t table))

  pub seat-promises : Does (seat_of b t table) r after → Does (seat_of b t table) r after × SeatPromises b t table (gave r after)
  seat-promises d = (d, of-given (SeatPromises b t table) (seat_of b t table) r after d (seat-holds b t table))

pub retire-promises : (b : Board) (t e : ℕ) (r : Turn) → Does (retire_of b t e (lent [] [])) r (lent [] []) → Does (retire_of b t e (lent [] [])) r (lent [] []) × RetirePromises b t e (gave r (lent [] []))
retire-promises b t e r d = (d, of-given (RetirePromises b t e) (retire_of b t e (lent [] [])) r (lent [] []) d (retire-holds b t e))

pub repack-promises : (b : Board) (table : Lent) (r : Turn) (after : Lent) → Does (repack_of b table) r after → Does (repack_of b table) r after × RepackPromises b table (gave r after)
repack-promises b table r after d = (d, of-given (RepackPromises b table) (repack_of b table) r after d (repack-holds b table))

pub withdraw-promises : (b : Board) (e : ℕ) (r : Turn) → Does (withdraw_of b e (lent [] [])) r (lent [] []) → Does (withdraw_of b e (lent [] [])) r (lent [] []) × WithdrawPromises b e (gave r (lent [] []))
withdraw-promises b e r d = (d, of-given (WithdrawPromises b e) (withdraw_of b e (lent [] [])) r (lent [] []) d (withdraw-holds b e))

pub restore-promises : (b : Board) (e : ℕ) (r : Turn) → Does (restore_of b e (lent [] [])) r (lent [] []) → Does (restore_of b e (lent [] [])) r (lent [] []) × RestorePromises b e (gave r (lent [] []))
restore-promises b e r d = (d, of-given (RestorePromises b e) (restore_of b e (lent [] [])) r (lent [] []) d (restore-holds b e))

-- What the calls mean on every true board, from what they mean on a board of these marks and loads (Means).
use Prim.Native.Nat.{ℕ, ◌-◌}
use mathlib.Core.Path.{◌≡◌, sym, subst}
use mathlib.Core.Bool.{true}
use Rattle.partition.specs.Assignment.{every}
use Rattle.partition.specs.Lent.{Lent}
use Rattle.partition.specs.Plain.{LongEnough}
use Rattle.table.specs.Table.{long_enough}
use Rattle.table.proofs.Room.{long-enough-out}
use Rattle.board.specs.declared.Board.{Board}
use Rattle.board.specs.Truth.{true_board}
use Rattle.board.specs.Calls.{admit_of, seat_of, retire_of, repack_of, withdraw_of, restore_of}
use Rattle.board.specs.Words.{IsTrue}
use Rattle.board.specs.Meaning.{AdmitMeans, SeatMeans, RetireMeans, RepackMeans, WithdrawMeans, RestoreMeans}
use Rattle.board.proofs.Truth.{truth-of}
use Rattle.board.proofs.TrueMeans.{true-means}
use Rattle.board.proofs.Views.{admit-view, seat-view, retire-view, withdraw-view, restore-view}
use Rattle.board.proofs.Means.{admit-by, seat-by, retire-by, repack-by, withdraw-by, restore-by}

-- main: every true board

module _ (b : Board) (w : IsTrue b) where
  is_true_lem : true_board b ≡ true
  is_true_lem = (true-means b).tests.1 w

  is-long : (table : Lent) → LongEnough b.system table → long_enough b.system table ≡ true
  is-long table long = (long-enough-out b.system table (truth-of b is_true_lem).keeps).1 long

  pub admit-means : (t : ℕ) (table : Lent) → LongEnough b.system table → AdmitMeans b t table (admit_of b t table)
  admit-means t table long =
      let f = truth-of b is_true_lem in
      subst (λ (a : Board). AdmitMeans a t table (admit_of a t table)) (sym f.same)
      (admit-by b.system f.marks f.rows f.keeps f.valid f.served t table _ long (admit-view b.system f.marks f.rows f.keeps f.valid f.served t table (is-long table long)))

  pub seat-means : (t : ℕ) (table : Lent) → LongEnough b.system table → SeatMeans b t table (seat_of b t table)
  seat-means t table long =
      let f = truth-of b is_true_lem in
      subst (λ (a : Board). SeatMeans a t table (seat_of a t table)) (sym f.same)
      (seat-by b.system f.marks f.rows f.keeps f.valid f.served t table _ long (seat-view b.system f.marks f.rows f.keeps f.valid f.served t table (is-long table long)))

  pub retire-means : (t e : ℕ) (table : Lent) → RetireMeans b t e (retire_of b t e table)
  retire-means t e table =
      let f = truth-of b is_true_lem in
      subst (λ (a : Board). RetireMeans a t e (retire_of a t e table)) (sym f.same)
      (retire-by b.system f.marks f.rows f.keeps f.valid f.served t e table _ (retire-view b.system f.marks f.rows f.keeps f.valid f.served t e table))

  pub repack-means : (table : Lent) → LongEnough b.system table → RepackMeans b table (repack_of b table)
  repack-means table long =
      let f = truth-of b is_true_lem in
      subst (λ (a : Board). RepackMeans a table (repack_of a table)) (sym f.same)
      (repack-by b.system f.marks f.rows f.keeps f.valid f.served table long)

  pub withdraw-means : (e : ℕ) (table : Lent) → WithdrawMeans b e (withdraw_of b e table)
  withdraw-means e table =
      let f = truth-of b is_true_lem in
      subst (λ (a : Board). WithdrawMeans a e (withdraw_of a e table)) (sym f.same)
      (withdraw-by b.system f.marks f.rows f.keeps f.valid f.served e table _ (withdraw-view b.system f.marks f.rows f.keeps f.valid f.served e table))

  pub restore-means : (e : ℕ) (table : Lent) → RestoreMeans b e (restore_of b e table)
  restore-means e table =
      let f = truth-of b is_true_lem in
      subst (λ (a : Board). RestoreMeans a e (restore_of a e table)) (sym f.same)
      (restore-by b.system f.marks f.rows f.keeps f.valid f.served e table _ (restore-view b.system f.marks f.rows f.keeps f.valid f.served e table))

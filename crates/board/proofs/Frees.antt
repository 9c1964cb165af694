-- What an instance that leaves gives back of its engine's memory: the laws of one instance less, on the board of valid loads.
use Prim.Native.Nat.{ℕ, ◌-◌, ◌≤◌, ◌<◌}
use mathlib.Core.Path.{◌≡◌, ap, ◌∙◌}
use mathlib.Core.List.{List}
use mathlib.Core.Bool.{Bool, true}
use native.Mathlib.Omega.{arith}
use lib.ListN.{get_or, set}
use lib.Seq.{get_or-set_same}
use Rattle.system.specs.declared.System.{System}
use Rattle.system.specs.Limits.{keeps_limits}
use Rattle.loads.specs.Load.{memory_of, empty_load}
use Rattle.loads.proofs.Laws.{held_in, memory-one-less-own, memory-one-less-shared-kept, memory-one-less-shared-freed}
use Rattle.partition.proofs.Standing.{Valid, load_in}
use Rattle.board.specs.Words.{count_at, memory_no, Frees}
use Rattle.board.proofs.Truth.{board_on, Served}
use Rattle.board.proofs.TrueMeans.{count-out, memory-on}
use Rattle.board.proofs.Views.{count_in, left_at}

module _ (y : System) (ms : List Bool) (xs : List (List ℕ)) (keeps : keeps_limits y ≡ true) (v : Valid y xs) (served : Served y ms xs) (t e : ℕ) (index : e - 1 < y.engines) (some : 1 ≤ count_in xs t e) where
  abbrev x : List ℕ
  x = load_in xs (e - 1)

  abbrev after : List (List ℕ)
  after = set xs (e - 1) (left_at xs t e)

  load-left : load_in after (e - 1) ≡ left_at xs t e
  load-left = get_or-set_same xs (e - 1) (left_at xs t e) empty_load (omega (arith, v.rows))

  module _ (w : Valid y after) (k : Served y ms after) where
    memory-left : memory_no (board_on y ms after) e ≡ memory_of y.rule y.types (left_at xs t e)
    memory-left = memory-on y ms after keeps w k e ∙ ap (memory_of y.rule y.types) load-left

    count_left : count_at (board_on y ms after) e t ≡ count_in xs t e - 1
    count_left = count-out y ms after keeps w k e t ∙ ap (λ (z : List ℕ). get_or z (t - 1) 0) load-left ∙ get_or-set_same x (t - 1) (count_in xs t e - 1) 0 (held_in x (t - 1) some)

    pub frees-on : Frees (board_on y ms xs) t e (board_on y ms after)
    frees-on = record {
      own_copies = λ r. rw (memory-left, memory-on y ms xs keeps v served e, r) (memory-one-less-own y.types x (t - 1) some);
      shared_code = λ r more. rw (memory-left, memory-on y ms xs keeps v served e, r) (memory-one-less-shared-kept y.types x (t - 1) (omega (arith, count_left)));
      last_shared = λ r none. rw (memory-left, memory-on y ms xs keeps v served e, r) (memory-one-less-shared-freed y.types x (t - 1) (omega (arith, count_left)));
    }

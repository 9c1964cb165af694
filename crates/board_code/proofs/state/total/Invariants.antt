-- The loop's invariant: the sum so far is what stands on the engines passed, at most a largest count for each.
use Prim.Native.Nat.{ℕ, ◌*◌, ◌≤◌}
use mathlib.Core.Path.{◌≡◌}
use lib.ListN.{get_or, take}
use Rattle.board.specs.Boards.{standing_of}
use Rattle.board_code.proofs.state.total.Given as goal

abbrev pub invariant-loop-l : goal.invariant-loop-l
invariant-loop-l l = (l.l-index ≤ 16) × (l.sum ≡ standing_of (take l.l-index l.l-items)) × ((t : ℕ) → get_or l.sum t 0 ≤ l.l-index * 65535)

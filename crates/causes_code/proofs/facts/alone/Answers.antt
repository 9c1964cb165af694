-- The load of nothing has room for one more of each of the six types.
use Prim.Native.Nat.{ℕ, ◌-◌}
use mathlib.Core.List.{[]}
use native.Mathlib.Omega.{arith}
use Rattle.partition.proofs.Lists.{get_or-padded}
use Rattle.causes_code.proofs.facts.alone.Goals as goal

pub one_more-requires : goal.one_more-requires
one_more-requires c = (omega arith, omega (arith, get_or-padded {A = ℕ} [] 6 (c.args.t - 1) 0))

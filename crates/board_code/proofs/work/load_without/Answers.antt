-- The leaver's type is one of six.
use Prim.Native.Nat.{◌-◌}
use mathlib.Core.Path.{ap, ◌∙◌}
use native.Mathlib.Omega.{arith}
use Rattle.loads.specs.Load.{one_less}
use Rattle.board.proofs.Ready.{engine-in, type-range}
use Rattle.board_code.proofs.work.load_without.Goals as goal

pub load_at-counts-requires : goal.load_at-counts-requires
load_at-counts-requires c = let on = c.requires.0 in engine-in c.args.b on.is_true c.args.e on.known

pub overflow_sub-t : goal.overflow_sub-t
overflow_sub-t c = let s = c in (type-range s.args.b s.requires.0.is_true s.args.t s.requires.1).0

pub one_less-requires : goal.one_less-requires
one_less-requires c = let s = c in let r = type-range s.args.b s.requires.0.is_true s.args.t s.requires.1 in omega arith

pub returns : goal.returns
returns c = c.one_less.ensures ∙ ap (one_less (c.args.t - 1)) c.load_at-counts.ensures

-- The element at e - 1; inside the array it does not matter what would stand past its end.
use Prim.Native.Nat.{◌-◌}
use mathlib.Core.Path.{◌≡◌, ap}
use lib.ListN.{length}
use native.Mathlib.Omega.{arith}
use borrow.Author.Rules.{rules}
use Rattle.loads.specs.declared.EngineLoad.{EngineLoad}
use Rattle.loads.proofs.Steps.{length-mapped}
use Rattle.loads.specs.Load.{idle_engine}
use Rattle.partition.proofs.Lists.{get_or-inside}
use Rattle.board_code.proofs.state.load_at.Goals as goal

pub returns : goal.returns
returns c =
    let start = c in
    let l : length start.args.b.now.loads ≡ 16 = search (rules, length-mapped) in
    ap (λ (x : EngineLoad). x.counts) (get_or-inside start.args.b.now.loads (start.args.e - 1) _ idle_engine (omega arith))

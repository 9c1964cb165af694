-- `put_records`: the answers.
use Prim.Native.Nat.{◌+◌, ◌≤◌, ◌<◌}
use mathlib.Core.Path.{◌≡◌, refl, ◌∙◌}
use mathlib.Core.List.{[]}
use native.Mathlib.Omega.{arith}
use lib.ListN.{length, get_or}
use lib.Seq.{take_all}
use borrow.Author.Rules.{rules}
use Rattle.system.specs.Limits.{engine_limit}
use Rattle.loads.specs.declared.EngineLoad.{EngineLoad}
use Rattle.buffer.proofs.Laws.{puts_then, puts_none}
use Rattle.sheets.specs.Sheet.{records_bytes}
use Rattle.sheets.proofs.Putting.{records-suc, engine-room, engine-inside}
use Rattle.sheets_code.proofs.writing.put_records.Goals as goal

-- what an array's element past its end is taken to be
abbrev none : EngineLoad
none = record { time = 0; memory = 0; counts = [] }

pub loop-i-init : goal.loop-i-init
unfolding records_bytes
loop-i-init c = (search rules, refl, puts_none c.args.at c.args.out.now, c.requires.1)

pub put_engine-next-requires : goal.put_engine-next-requires
put_engine-next-requires c =
    let turn = c in
    let start = turn in
    let l : length start.args.loads ≡ engine_limit = search rules in
    (start.requires.0, omega arith, omega (arith, turn.loop-i.invariant.1, turn.loop-i.invariant.3, engine-room start.args.k start.args.loads turn.loop-i.i none (omega arith)))

pub loop-i-preserved : goal.loop-i-preserved
loop-i-preserved c =
    let put = c in
    let turn = put in
    let start = turn in
    let l : length start.args.loads ≡ engine_limit = search rules in
    let more : turn.loop-i.i < length start.args.loads = omega arith in
    let room : start.args.at ≤ length start.args.out.now = omega (arith, start.requires.1) in (
      omega arith,
      put.put_engine-next.auto.out ∙ turn.loop-i.invariant.1,
      rw (records-suc start.args.k start.args.loads turn.loop-i.i none more) (puts_then room turn.loop-i.invariant.2 put.put_engine-next.ensures),
      omega (
        arith,
        turn.loop-i.invariant.3,
        put.put_engine-next.ensures.next,
        engine-room start.args.k start.args.loads turn.loop-i.i none more,
        engine-inside start.args.k (turn.loop-i.i + 1) (get_or start.args.loads turn.loop-i.i none),
      ),
    )

pub returns : goal.returns
returns c =
    let start = c in
    let l : length start.args.loads ≡ engine_limit = search rules in
    rw (take_all c.loop-i.i start.args.loads (omega arith)) at c.loop-i.invariant.2

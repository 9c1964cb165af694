-- `put_engines`: the answers.
use borrow.Author.Rules.{rules}
use Prim.Native.Nat.{ℕ, ◌<◌, min}
use mathlib.Core.Path.{◌≡◌, refl, sym, ap, ◌∙◌}
use mathlib.Core.List.{[]}
use native.Mathlib.Nat.{min-le_right}
use native.Mathlib.Omega.{arith}
use lib.ListN.{length, take}
use Rattle.planner.specs.Plan.{records_with}
use Rattle.loads.specs.declared.EngineLoad.{EngineLoad}
use Rattle.planner.proofs.Records.{length-records_with}
use Rattle.system.specs.Limits.{engine_limit}
use Rattle.listing.specs.Listing.{record_lines}
use Rattle.buffer.proofs.Laws.{puts_then, puts_none}
use Rattle.listing.proofs.Laws.{lines-suc, take_min}
use Rattle.listing_code.proofs.put_engines.Goals as goal

-- what the code would read past the end of the loads
abbrev past : EngineLoad
past = record { time = 0; memory = 0; counts = [] }

pub loop-i-init : goal.loop-i-init
unfolding record_lines
loop-i-init c = (search rules, refl, search rules, puts_none c.args.at c.args.out.now)

pub loop-i-preserved : goal.loop-i-preserved
loop-i-preserved c =
    let numbers = c.args.p.numbers in
    let loads = c.args.p.loads in
    let named : length numbers ≡ engine_limit = search rules in
    let l : length loads ≡ engine_limit = search rules in
    let more : c.loop-i.i < engine_limit = omega (arith, min-le_right c.args.p.used engine_limit) in (
      omega arith,
      c.put_engine-next.auto.out ∙ c.loop-i.invariant.1,
      omega arith,
      rw (lines-suc c.args.p.typecount numbers loads c.loop-i.i past (omega arith) (omega arith)) (puts_then (omega arith) c.loop-i.invariant.3 c.put_engine-next.ensures.0),
    )

pub returns : goal.returns
returns c =
    let numbers = c.args.p.numbers in
    let loads = c.args.p.loads in
    let turns : c.loop-i.i ≡ min c.args.p.used engine_limit = omega arith in
    let named : length numbers ≡ engine_limit = search rules in
    let l : length loads ≡ engine_limit = search rules in
    let records : length (records_with numbers loads) ≡ engine_limit = length-records_with numbers loads (named ∙ sym l) ∙ l in
    let whole : take c.loop-i.i (records_with numbers loads) ≡ take c.args.p.used (records_with numbers loads) =
    ap (λ (n : ℕ). take n (records_with numbers loads)) (turns ∙ ap (min c.args.p.used) (sym records)) ∙ take_min c.args.p.used (records_with numbers loads) in
    (rw whole at c.loop-i.invariant.3, omega (arith, min-le_right c.args.p.used engine_limit))

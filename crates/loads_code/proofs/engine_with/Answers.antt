-- The sums are those that the load has, and they fit 32 bits since the capacities do.
use mir.Syntax.{w32}
use mir.Val.{Fits}
use native.Mathlib.Omega.{arith}
use borrow.Author.Rules.{rules}
use Rattle.loads.proofs.Laws.{fits-time, fits-memory}
use Rattle.loads_code.proofs.engine_with.Goals as goal

pub overflow_cast-result : goal.overflow_cast-result
overflow_cast-result c =
    let start = c in
    let f : Fits w32 start.args.y.timecap = search rules in
    rw c.sums_of-sums.ensures (record { fits = omega (arith, fits-time start.args.y start.args.counts start.requires) })

pub overflow_cast-result-2 : goal.overflow_cast-result-2
overflow_cast-result-2 c =
    let start = c in
    let f : Fits w32 start.args.y.memorycap = search rules in
    rw c.sums_of-sums.ensures (record { fits = omega (arith, fits-memory start.args.y start.args.counts start.requires) })

pub returns : goal.returns
returns c =
    let e = c.sums_of-sums.ensures in
    λ i. record { time = (e i).time; memory = (e i).memory; counts = c.args.counts }

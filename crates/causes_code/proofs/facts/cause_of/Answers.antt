-- Each way out is the definition's: the tests before it have failed, and its own holds.
use mathlib.Core.Path.{sym, ◌∙◌}
use Rattle.causes_code.proofs.Steps.{out-0, out-1, out-2, out-3, out-4, out-5, out-6}
use Rattle.causes_code.proofs.facts.cause_of.Goals as goal

pub returns-then-engines-holds_none : goal.returns-then-engines-holds_none
returns-then-engines-holds_none c = out-1 c.args.y c.args.engines c.args.counts c.args.placed (rw c.holds_none.ensures at c.if-engines-holds_none.true)

pub returns-in-Some : goal.returns-in-Some
returns-in-Some c =
    let found = rw c.in-Some.is at c.lowest_unfit.ensures in
    out-2 c.args.y c.args.engines c.args.counts c.args.placed (rw c.holds_none.ensures at c.if-engines-holds_none.false) c.in-Some.t found.0 found.1

pub returns-then-time : goal.returns-then-time
returns-then-time c =
    out-3 c.args.y c.args.engines c.args.counts c.args.placed (rw c.holds_none.ensures at c.if-engines-holds_none.false) (rw c.in_default.is at c.lowest_unfit.ensures)
    (rw c.sums_of-sums.ensures at (sym c.short-time.ensures) ∙ c.if-time.true)

pub returns-then-memory : goal.returns-then-memory
returns-then-memory c =
    out-4 c.args.y c.args.engines c.args.counts c.args.placed (rw c.holds_none.ensures at c.if-engines-holds_none.false) (rw c.in_default.is at c.lowest_unfit.ensures)
    (rw c.sums_of-sums.ensures at (sym c.short-time.ensures) ∙ c.if-time.false) (rw c.sums_of-sums.ensures at (sym c.short-memory.ensures) ∙ c.if-memory.true)

pub returns-then-replicas_short : goal.returns-then-replicas_short
returns-then-replicas_short c =
    out-5 c.args.y c.args.engines c.args.counts c.args.placed (rw c.holds_none.ensures at c.if-engines-holds_none.false) (rw c.in_default.is at c.lowest_unfit.ensures)
    (rw c.sums_of-sums.ensures at (sym c.short-time.ensures) ∙ c.if-time.false) (rw c.sums_of-sums.ensures at (sym c.short-memory.ensures) ∙ c.if-memory.false) (sym c.replicas_short.ensures ∙ c.if-replicas_short.true)

pub returns-then-placed : goal.returns-then-placed
returns-then-placed c =
    out-0 c.args.y c.args.engines c.args.counts c.args.placed (rw c.holds_none.ensures at c.if-engines-holds_none.false) (rw c.in_default.is at c.lowest_unfit.ensures)
    (rw c.sums_of-sums.ensures at (sym c.short-time.ensures) ∙ c.if-time.false) (rw c.sums_of-sums.ensures at (sym c.short-memory.ensures) ∙ c.if-memory.false) (sym c.replicas_short.ensures ∙ c.if-replicas_short.false)
    c.if-placed.true

pub returns : goal.returns
returns c =
    out-6 c.args.y c.args.engines c.args.counts c.args.placed (rw c.holds_none.ensures at c.if-engines-holds_none.false) (rw c.in_default.is at c.lowest_unfit.ensures)
    (rw c.sums_of-sums.ensures at (sym c.short-time.ensures) ∙ c.if-time.false) (rw c.sums_of-sums.ensures at (sym c.short-memory.ensures) ∙ c.if-memory.false) (sym c.replicas_short.ensures ∙ c.if-replicas_short.false)
    c.if-placed.false

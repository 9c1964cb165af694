-- `over_second`: the answers.
use Prim.Native.Nat.{◌+◌, ◌*◌, ◌≤◌, ◌<◌}
use mathlib.Core.Path.{refl, ◌∙◌}
use native.Mathlib.Omega.{arith}
use Rattle.counting.specs.Walk.{over_two, SumIn}
use Rattle.counting.proofs.Sums.{first_terms}
use Rattle.counting.proofs.Walked.{ways_of, first_at, Term, term-at, terms-all, more-at, sum_first}
use Rattle.counting_code.proofs.passes.over_second.Goals.{In-loop-j}
use Rattle.counting_code.proofs.passes.over_second.Goals as goal

-- the term that is added
term : (c : In-loop-j) →
    let here = c.loop-j in
    let a = c.args in
    Term a.ways.now a.second here.j here.sum (first_at a.part.now a.columns a.column a.first a.stride a.from here.j)
unfolding over_two
term c =
    let here = c.loop-j in
    let a = c.args in
    let p = c.requires in
    term-at a.ways.now a.second here.j here.sum (first_at a.part.now a.columns a.column a.first a.stride a.from) p.0.chosen p.2 (omega arith) here.invariant.1 p.0.small

-- what the sum over type 1 asks
inner-in : (c : In-loop-j) →
    let j = c.loop-j.j in
    let a = c.args in
    SumIn a.part.now a.ways.now a.columns a.column (a.from + j * a.stride + a.first) (first_at a.part.now a.columns a.column a.first a.stride a.from j)
inner-in c =
    let a = c.args in
    sum_first a.part.now a.ways.now a.columns a.column a.first a.second a.stride a.from c.loop-j.j (omega arith) c.requires.0

-- the count is one that the table of ways has
few : (c : In-loop-j) → (c.args.second < 64) × (c.loop-j.j ≤ c.args.second)
few c = (c.requires.2, omega arith)

pub loop-j-init : goal.loop-j-init
unfolding first_terms
loop-j-init c = (omega arith, refl)

pub overflow_mul-j : goal.overflow_mul-j
overflow_mul-j c = record { fits = omega (arith, (inner-in c).reach, (inner-in c).inside) }

pub overflow_add-from : goal.overflow_add-from
overflow_add-from c = record { fits = omega (arith, (inner-in c).reach, (inner-in c).inside) }

pub over_first-inner-requires : goal.over_first-inner-requires
over_first-inner-requires c = (inner-in c, c.requires.1)

pub overflow_mul-sum : goal.overflow_mul-sum
overflow_mul-sum c = omega (arith, few (goal.at.overflow_mul-sum c).In-loop-j)

pub overflow_add-sum : goal.overflow_add-sum
overflow_add-sum c = omega (arith, few (goal.at.overflow_add-sum c).In-loop-j)

pub offset_bounds-ways-second : goal.offset_bounds-ways-second
offset_bounds-ways-second c = omega (arith, few (goal.at.offset_bounds-ways-second c).In-loop-j)

pub bounds-ways-second : goal.bounds-ways-second
bounds-ways-second c = (term (goal.at.bounds-ways-second c).In-loop-j).listed

pub overflow_mul-sum-in-loop-j : goal.overflow_mul-sum-in-loop-j
overflow_mul-sum-in-loop-j c =
    let g = term (goal.at.overflow_mul-sum-in-loop-j c).In-loop-j in
    rw (g.entry, c.over_first-inner.ensures) (record { fits = omega (arith, g.times) })

pub overflow_add-sum-in-loop-j : goal.overflow_add-sum-in-loop-j
overflow_add-sum-in-loop-j c =
    let g = term (goal.at.overflow_add-sum-in-loop-j c).In-loop-j in
    rw (g.entry, c.over_first-inner.ensures) (record { fits = omega (arith, g.next) })

pub overflow_step-j : goal.overflow_step-j
overflow_step-j c = omega (arith, few (goal.at.overflow_step-j c).In-loop-j)

pub loop-j-preserved : goal.loop-j-preserved
loop-j-preserved c =
    let at = c in
    let here = at.loop-j in
    let a = at.args in
    let found = c.over_first-inner in (
      omega (arith, few (goal.at.loop-j-preserved c).In-loop-j),
      more-at a.ways.now a.second here.j here.sum a.second found.result (first_at a.part.now a.columns a.column a.first a.stride a.from) (term (goal.at.loop-j-preserved c).In-loop-j).entry here.invariant.1 refl found.ensures,
    )

pub returns : goal.returns
unfolding over_two
returns c =
    let here = c.loop-j in
    let a = c.args in
    here.invariant.1 ∙ terms-all a.second here.j (ways_of a.second (first_at a.part.now a.columns a.column a.first a.stride a.from)) (omega arith)

-- `over_first`: the answers.
use Prim.Native.Nat.{ℕ, ◌+◌, ◌≤◌, ◌<◌}
use mathlib.Core.Path.{refl, sym, ◌∙◌}
use native.Mathlib.Omega.{arith}
use lib.ListN.{length}
use Rattle.counting.specs.Walk.{held_ways, over_one}
use Rattle.counting.proofs.Sums.{first_terms}
use Rattle.counting.proofs.Walked.{ways_of, Term, term-at, terms-more, terms-all}
use Rattle.counting_code.proofs.passes.over_first.Goals.{In-loop-j}
use Rattle.counting_code.proofs.passes.over_first.Goals as goal

-- the term that is added
term : (c : In-loop-j) →
    let here = c.loop-j in
    let a = c.args in
    Term a.ways.now a.count here.j here.sum (held_ways a.part.now a.columns a.column (a.from + here.j))
unfolding over_one
term c =
    let here = c.loop-j in
    let a = c.args in
    let p = c.requires in
    term-at a.ways.now a.count here.j here.sum (λ (k : ℕ). held_ways a.part.now a.columns a.column (a.from + k))
    p.0.chosen p.1 (omega arith) here.invariant.1 p.0.small

-- the columns that are read
reads : (c : In-loop-j) →
    let a = c.args in
    (a.from + c.loop-j.j ≤ a.column) × (a.column < a.columns) × (a.columns + a.columns ≤ length a.part.now)
reads c =
    let p = c.requires in
    (omega (arith, p.0.reach), p.0.inside, p.0.halves)

pub loop-j-init : goal.loop-j-init
unfolding first_terms
loop-j-init c = (omega arith, refl)

pub overflow_add-held : goal.overflow_add-held
overflow_add-held c = omega (arith, reads (goal.at.overflow_add-held c).In-loop-j)

pub bounds-ways-count : goal.bounds-ways-count
bounds-ways-count c = (term (goal.at.bounds-ways-count c).In-loop-j).listed

pub overflow_add-sum-in-loop-j : goal.overflow_add-sum-in-loop-j
overflow_add-sum-in-loop-j c = omega (arith, reads (goal.at.overflow_add-sum-in-loop-j c).In-loop-j)

pub offset_bounds-part-columns : goal.offset_bounds-part-columns
offset_bounds-part-columns c = omega (arith, reads (goal.at.offset_bounds-part-columns c).In-loop-j)

pub bounds-part-columns : goal.bounds-part-columns
bounds-part-columns c = omega (arith, reads (goal.at.bounds-part-columns c).In-loop-j)

pub overflow_sub-sum : goal.overflow_sub-sum
overflow_sub-sum c = omega (arith, reads (goal.at.overflow_sub-sum c).In-loop-j)

pub offset_bounds-part-column : goal.offset_bounds-part-column
offset_bounds-part-column c = omega (arith, reads (goal.at.offset_bounds-part-column c).In-loop-j)

pub bounds-part-column : goal.bounds-part-column
bounds-part-column c = omega (arith, reads (goal.at.bounds-part-column c).In-loop-j)

pub overflow_mul-sum-in-loop-j : goal.overflow_mul-sum-in-loop-j
overflow_mul-sum-in-loop-j c = record { fits = omega (arith, (term (goal.at.overflow_mul-sum-in-loop-j c).In-loop-j).held) }

pub overflow_mul-sum-in-loop-j-2 : goal.overflow_mul-sum-in-loop-j-2
overflow_mul-sum-in-loop-j-2 c = let g = term (goal.at.overflow_mul-sum-in-loop-j-2 c).In-loop-j in rw g.entry (record { fits = omega (arith, g.times) })

pub overflow_add-sum-in-loop-j-2 : goal.overflow_add-sum-in-loop-j-2
overflow_add-sum-in-loop-j-2 c = let g = term (goal.at.overflow_add-sum-in-loop-j-2 c).In-loop-j in rw g.entry (record { fits = omega (arith, g.next) })

pub loop-j-preserved : goal.loop-j-preserved
loop-j-preserved c =
    let at = c in
    let here = at.loop-j in
    let a = at.args in
    (omega arith, rw ((term (goal.at.loop-j-preserved c).In-loop-j).entry, here.invariant.1) (sym (terms-more here.j (ways_of a.count (λ (k : ℕ). held_ways a.part.now a.columns a.column (a.from + k))))))

pub returns : goal.returns
unfolding over_one
returns c =
    let here = c.loop-j in
    let a = c.args in
    here.invariant.1 ∙ terms-all a.count here.j (ways_of a.count (λ (k : ℕ). held_ways a.part.now a.columns a.column (a.from + k))) (omega arith)

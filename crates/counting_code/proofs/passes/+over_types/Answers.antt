-- Each term and each partial sum is at most the whole, which is a number of 64 bits, and so is each inner sum.
use Prim.Native.Nat.{ℕ, ◌+◌, ◌-◌, ◌*◌, ◌≤◌}
use mathlib.Core.Path.{◌≡◌, refl, ◌∙◌}
use native.Mathlib.Omega.{arith}
use lib.ListN.{get_or}
use Rattle.counting.specs.Walk.{held_ways, over_by, reach_by, SumIn}
use Rattle.counting.proofs.Sums.{first_terms}
use Rattle.counting.proofs.Walked.{ways_of, inner_at, Term, term-at, terms-all, more-at, over_by_lem, sum-inner, second-inner, types-inner, second-found, types-found}
use Rattle.counting_code.proofs.passes.+over_types.Goals.{In-loop-j, Joined-t-eq2, then-t-eq2, else-t-eq2}
use Rattle.counting_code.proofs.passes.+over_types.Goals as goal

-- the count of the type
count-is : (t : ℕ) (c : In-loop-j t) → (c.wide-count.result ≡ get_or c.args.walk.counts c.args.t 0) × (c.loop-j.j ≤ get_or c.args.walk.counts c.args.t 0)
count-is t c = let e = c.wide-count.ensures.0 in (e, omega (arith, e, c.loop-j-test.true))

-- what the inner sum asks
inner-in : (t : ℕ) (c : In-loop-j t) →
    let a = c.args in
    let w = a.walk in
    let held = a.from + c.loop-j.j * get_or w.strides a.t 0 in
    SumIn a.part.now a.ways.now w.columns w.column (held + reach_by w.strides w.counts a.t) (over_by w.strides w.counts a.t held (held_ways a.part.now w.columns w.column))
inner-in t c =
    let a = c.args in
    let w = a.walk in
    sum-inner a.part.now w.strides w.counts w.columns w.column a.t a.from a.ways.now c.loop-j.j (count-is t c).1 c.requires.0

-- the term that is added
term : (t : ℕ) (c : In-loop-j t) →
    let here = c.loop-j in
    let a = c.args in
    let w = a.walk in
    Term a.ways.now (get_or w.counts a.t 0) here.j here.sum (inner_at a.part.now w.strides w.counts w.columns w.column a.t a.from here.j)
term t c =
    let here = c.loop-j in
    let a = c.args in
    let w = a.walk in
    let g = c.requires.0 in
    term-at a.ways.now (get_or w.counts a.t 0) here.j here.sum (inner_at a.part.now w.strides w.counts w.columns w.column a.t a.from) g.chosen (c.requires.1.few a.t (omega arith)) (count-is t c).1 here.invariant.1
    (rw (over_by_lem a.part.now w.strides w.counts w.columns w.column a.t a.from) at g.small)

pub loop-j-init : goal.loop-j-init
unfolding first_terms
loop-j-init t c = (omega arith, refl)

pub overflow_mul-held : goal.overflow_mul-held
overflow_mul-held t c = record { fits = omega (arith, (inner-in t c).reach, (inner-in t c).inside) }

pub overflow_add-held : goal.overflow_add-held
overflow_add-held t c = record { fits = omega (arith, (inner-in t c).reach, (inner-in t c).inside) }

pub over_second-inner-requires : goal.over_second-inner-requires
over_second-inner-requires t c =
    let a = c.args in
    let w = a.walk in
    let q = c.requires.1 in
    let g = second-inner a.part.now a.ways.now w.strides w.counts w.columns w.column a.t (a.from + c.loop-j.j * get_or w.strides a.t 0) (inner-in t (goal.at.over_second-inner-requires t c).In-loop-j) c.if-t-eq2.true q.first in
    rw (c.wide.ensures.0, c.wide-then-t-eq2.ensures.0) (g, q.few 0 (omega arith), q.few 1 (omega (arith, q.some)))

pub over_types-inner-requires : goal.over_types-inner-requires
over_types-inner-requires t c =
    let a = c.args in
    let w = a.walk in
    let q = c.requires.1 in
    let three : 3 ≤ a.t = omega (arith, q.some, c.if-t-eq2.false) in (
      omega arith,
      (
        types-inner a.part.now a.ways.now w.strides w.counts w.columns w.column a.t (a.from + c.loop-j.j * get_or w.strides a.t 0) (inner-in t (goal.at.over_types-inner-requires t c).In-loop-j) (a.t - 1) (omega arith),
        record { some = omega arith; counted = omega (arith, q.counted); strided = omega (arith, q.strided); few = λ i h. q.few i (omega arith); first = q.first },
      ),
    )

-- the inner sum that was found
inner-is : (t : ℕ) (c : Joined-t-eq2 t) →
    let a = c.args in
    c.if-t-eq2.inner ≡ inner_at a.part.now a.walk.strides a.walk.counts a.walk.columns a.walk.column a.t a.from c.loop-j.j
inner-is t c =
    let a = c.args in
    let w = a.walk in
    let q = c.requires.1 in
    let held = a.from + c.loop-j.j * get_or w.strides a.t 0 in
    elim c.if-t-eq2.branch [
      | then-t-eq2 v ↦ v.inner-is ∙ v.over_second-inner.ensures ∙ second-found a.part.now w.strides w.counts w.columns w.column a.t held v.wide.result v.wide-then-t-eq2.result v.if-t-eq2.true q.first v.wide.ensures.0 v.wide-then-t-eq2.ensures.0
      | else-t-eq2 v ↦ v.inner-is ∙ v.over_types-inner.ensures ∙ types-found a.part.now w.strides w.counts w.columns w.column a.t held (a.t - 1) (omega (arith, q.some))
    ]

pub overflow_mul-sum-in-loop-j : goal.overflow_mul-sum-in-loop-j
overflow_mul-sum-in-loop-j t c =
    let at = (goal.at.overflow_mul-sum-in-loop-j t c).In-loop-j in
    let g = term t at in
    rw ((count-is t at).0, g.entry, inner-is t (goal.at.overflow_mul-sum-in-loop-j t c).Joined-t-eq2) (record { fits = omega (arith, g.times) })

pub overflow_add-sum-in-loop-j : goal.overflow_add-sum-in-loop-j
overflow_add-sum-in-loop-j t c =
    let at = (goal.at.overflow_add-sum-in-loop-j t c).In-loop-j in
    let g = term t at in
    rw ((count-is t at).0, g.entry, inner-is t (goal.at.overflow_add-sum-in-loop-j t c).Joined-t-eq2) (record { fits = omega (arith, g.next) })

pub loop-j-preserved : goal.loop-j-preserved
loop-j-preserved t c =
    let at = (goal.at.loop-j-preserved t c).In-loop-j in
    let here = c.loop-j in
    let a = c.args in
    let w = a.walk in (
      omega (arith, (count-is t at).1),
      more-at a.ways.now (get_or w.counts a.t 0) here.j here.sum c.wide-count.result c.if-t-eq2.inner (inner_at a.part.now w.strides w.counts w.columns w.column a.t a.from) (term t at).entry here.invariant.1 (count-is t at).0 (inner-is t (goal.at.loop-j-preserved t c).Joined-t-eq2),
    )

pub returns : goal.returns
unfolding over_by
returns t c =
    let here = c.loop-j in
    let a = c.args in
    let w = a.walk in
    let n = get_or w.counts a.t 0 in
    here.invariant.1 ∙ terms-all n here.j (ways_of n (inner_at a.part.now w.strides w.counts w.columns w.column a.t a.from)) (omega (arith, c.wide-count.ensures.0))

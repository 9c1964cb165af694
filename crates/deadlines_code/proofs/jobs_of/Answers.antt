-- `jobs_of`: the answers.
use Prim.Native.Nat.{◌+◌, ◌≤◌}
use mathlib.Core.Path.{◌≡◌, refl, ap, ap₂, ◌∙◌}
use lib.ListN.{length}
use native.Mathlib.Omega.{arith}
use borrow.Author.Rules.{rules}
use Rattle.std.specs.Iterator.Adapters.{zip_first, zip_second}
use Rattle.std.specs.Slice.Iter.{iter_rest}
use Rattle.std.proofs.lemmas.Iterator.{empty_from_Zip}
use Rattle.deadlines.specs.Engine.{instances, jobs_of}
use Rattle.deadlines_code.proofs.Steps.{instances-next, jobs-more, instances-none, jobs-done, length-wrote}
use Rattle.deadlines_code.proofs.jobs_of.Goals as goal

pub loop-t-init : goal.loop-t-init
loop-t-init c =
    let lt : length c.args.types ≡ 6 = search rules in
    let ln : length c.args.counts ≡ 6 = search rules in
    let ts : iter_rest (zip_first c.into_iter-t-iterator.result) ≡ c.args.types = cc in
    let ns : iter_rest (zip_second c.into_iter-t-iterator.result) ≡ c.args.counts = cc in
    (refl, omega (arith, ap length ts, ap length ns), omega (arith, ap instances ns), ap₂ jobs_of ts ns)

pub with_jobs-next-requires : goal.with_jobs-next-requires
with_jobs-next-requires c =
    let s = c.in-Some.ensures.steps in
    omega (arith, instances-next _ _ _ _ _ _ s.0 s.1, c.loop-t.invariant.2, c.requires)

pub overflow_add-at : goal.overflow_add-at
overflow_add-at c =
    let s = c.in-Some.ensures.steps in
    record { fits = omega (arith, instances-next _ _ _ _ _ _ s.0 s.1, c.loop-t.invariant.2, c.requires) }

pub loop-t-preserved : goal.loop-t-preserved
loop-t-preserved c =
    let l = c.loop-t in
    let s = c.in-Some.ensures.steps in
    let n = c.in-Some.count.now in
    let turn = instances-next _ _ _ _ _ _ s.0 s.1 in
    let fits : l.at + n ≤ length l.jobs = omega (arith, turn, l.invariant.0, l.invariant.2, c.requires) in
    let job = c.job_of_type in
    let next = c.with_jobs-next in (
      length-wrote l.jobs next.result l.at n job.result next.ensures fits ∙ l.invariant.0,
      omega (arith, ap length s.0, ap length s.1, l.invariant.1),
      omega (arith, turn, l.invariant.2),
      jobs-more _ _ _ _ _ n s.0 s.1 l.at l.jobs (jobs_of c.args.types c.args.counts) l.invariant.3 next.result job.result job.ensures next.ensures fits,
    )

pub returns : goal.returns
returns c =
    let l = c.loop-t in
    let none = empty_from_Zip l.t-iterator c.next.new.self c.next.result c.in-None.is c.next.ensures.steps l.invariant.1 in
    jobs-done (iter_rest (zip_first l.t-iterator)) (iter_rest (zip_second l.t-iterator)) c.args.counts l.at l.jobs (jobs_of c.args.types c.args.counts) none.0 l.invariant.3
    (omega (arith, l.invariant.2, instances-none (iter_rest (zip_second l.t-iterator)) none.1))

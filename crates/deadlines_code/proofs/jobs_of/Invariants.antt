-- The loop's invariant: the jobs written so far and those of the types that are left make all, and so do their numbers.
use Prim.Native.Nat.{◌+◌}
use mathlib.Core.Path.{◌≡◌}
use mathlib.Core.List.{◌++◌}
use lib.ListN.{length, take}
use Rattle.std.specs.Iterator.Adapters.{zip_first, zip_second}
use Rattle.std.specs.Slice.Iter.{iter_rest}
use Rattle.runs.specs.Run.{job_limit}
use Rattle.deadlines.specs.Engine.{instances, jobs_of}
use Rattle.deadlines_code.proofs.jobs_of.Given as goal

abbrev pub invariant-loop-t : goal.invariant-loop-t
invariant-loop-t l =
    let ts = iter_rest (zip_first l.t-iterator) in
    let ns = iter_rest (zip_second l.t-iterator) in
    (length l.jobs ≡ job_limit)
    × (length ts ≡ length ns)
    × (l.at + instances ns ≡ instances l.fn.counts)
    × (take l.at l.jobs ++ jobs_of ts ns ≡ jobs_of l.fn.types l.fn.counts)
